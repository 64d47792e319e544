-- Values that are computed here, and not by any program.
mod CapturedCalls
mod WorkedCollects
mod WorkedErrors
