pub mod Keeping
pub mod Fixed
