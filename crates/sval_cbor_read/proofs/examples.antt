-- What the definitions come to, and used by no program.
mod Bytes
mod WellFormed
