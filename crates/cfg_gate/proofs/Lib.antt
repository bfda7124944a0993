pub mod TurnSteps
pub mod Callers
pub mod FoundSections
