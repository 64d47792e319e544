-- Values computed by the definitions.
mod Spelled
mod WrittenTrees
mod WrittenNumbers
mod WrittenBeside
mod GrammarNumbers
mod DenotedTexts
mod FailingTexts
