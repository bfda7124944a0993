pub mod ShownTokens
pub mod Paths
pub mod DpopKeys
pub mod Access
pub mod LoginFile
pub mod LoginText
pub mod LoginTokens
pub mod LoginTells
