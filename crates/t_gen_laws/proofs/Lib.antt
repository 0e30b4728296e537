mod Accepted
mod ByRules
mod Correct
pub mod Covers
mod Decls
mod Flats
pub mod Free
mod Laying
mod Leads
mod Lift
mod Loads
mod Moves
pub mod Own
mod OneMore
mod Parts
mod Places
mod Rows
mod RulesRows
mod Runs
mod TypeLaws
mod Typed
mod TypedEach
mod Values
mod Wholes
mod Words
