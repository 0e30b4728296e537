mod AssemblyLemmas
mod BindingLemmas
mod BothWays
mod CompileLemmas
mod CostLemmas
mod CostSums
mod CostTimed
pub mod CompositionLemmas
mod Decided
mod DoesLemmas
pub mod ExactLemmas
mod ExplainLemmas
mod FaultLemmas
mod ExplainRows
mod FileLemmas
mod FormLemmas
mod ListedLemmas
mod ListingLemmas
mod NativeLemmas
mod NativeListingLemmas
mod Rows
mod RunLemmas
mod SeedLemmas
mod ShownLemmas
mod SizeLemmas
mod SourceLemmas
mod WholeTexts
mod WrittenLemmas
pub mod TraceLemmas
pub mod LineLemmas
pub mod TraceLawLemmas
