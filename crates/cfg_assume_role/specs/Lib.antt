pub mod Roles
pub mod Bases
pub mod Causes
pub mod Provides
pub mod Setups
pub mod SignOns
pub mod Sessions
pub mod SafeCalls
