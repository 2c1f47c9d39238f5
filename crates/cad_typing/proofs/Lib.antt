pub mod SampleParts
mod SampleProgram
mod SamplesBodies
mod SamplesCalls
mod SamplesConditions
mod SamplesFunctions
mod SamplesLiterals
mod SamplesMembers
mod SamplesMoves
mod SamplesNames
mod SamplesOperators
mod SamplesPrograms
mod SamplesReferences
mod SamplesStatements
mod SamplesTrees
