pub mod ChainFolds
pub mod ShownNames
pub mod Schemes
pub mod BlankCauses
pub mod Told
