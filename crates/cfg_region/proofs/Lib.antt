pub mod ProfileRegions
pub mod Chains
pub mod BegunChains
pub mod RegionSteps
pub mod Loads
pub mod OneSource
pub mod GivenRegions
