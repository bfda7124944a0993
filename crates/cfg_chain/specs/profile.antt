pub mod Plans
pub mod Bases
pub mod Profiles
pub mod Causes
pub mod Provides
pub mod Setups
