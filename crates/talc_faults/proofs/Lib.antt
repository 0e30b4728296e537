mod HintRows
mod WalkLemmas
mod ValueLemmas
mod BelowLemmas
mod PathLemmas
mod Room
mod Rows
