pub mod Turns
pub mod GatedSections
pub mod GateFaults
pub mod GateErrors
pub mod Worlds
