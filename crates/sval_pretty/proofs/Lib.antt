pub mod Laying
pub mod Bodies
pub mod LaidJson
pub mod Unspacing
pub mod LaidUtf8
pub mod LaidGrammar
pub mod Writing
