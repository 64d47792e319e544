mod MadeRecords
mod ManyValues
mod WorkedScripts
