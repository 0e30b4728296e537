pub mod Steps
mod Walks
mod SourceFields
mod SourceWalks
mod AssemblyFields
mod AssemblySteps
mod AssemblyWalks
mod Rows
