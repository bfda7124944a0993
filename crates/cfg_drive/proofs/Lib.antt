pub mod Endings
pub mod Exchanging
pub mod Telling
pub mod Shallow
pub mod Replaying
