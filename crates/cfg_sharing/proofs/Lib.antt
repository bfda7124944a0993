pub mod Handed
pub mod OneOrder
pub mod Straying
pub mod Recording
pub mod Verdicts
pub mod Crossing
