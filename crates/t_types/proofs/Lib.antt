pub mod Equal
pub mod Files
pub mod FitPlaces
pub mod FitsLaws
pub mod Pairs
pub mod PutLaws
pub mod Scope
pub mod Trees
