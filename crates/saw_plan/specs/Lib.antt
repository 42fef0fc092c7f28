pub mod BatchShapes
pub mod Precedence
pub mod StaticRules
pub mod Sorting
pub mod SortingSteps
pub mod Laws
