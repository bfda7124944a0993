mod Commands
mod Escapes
pub mod ChainLines
pub mod ChainFolds
pub mod TokenChainFolds
mod Cuts
