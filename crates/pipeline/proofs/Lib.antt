pub mod Blocks
pub mod Bounded
pub mod Chain
pub mod Compiled
mod Deciding
pub mod Framed
mod OneClosing
mod OneTranslation
pub mod Shallow
mod Weighing
mod WeightsAllocated
mod WeightsClosed
mod WeightsConverted
mod WeightsGenerated
mod WeightsHoisted
mod WeightsSpilled
mod RulesAlone
mod Translations
