pub mod Settings
pub mod Metadata
pub mod Causes
pub mod PassedOver
pub mod Valid
pub mod Provides
pub mod Setups
