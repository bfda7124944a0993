pub mod Lines
pub mod Words
pub mod Addresses
pub mod Parts
pub mod CredentialsCauses
pub mod TokenCauses
pub mod Blanks
