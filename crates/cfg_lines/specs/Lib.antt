pub mod Members
pub mod Questions
pub mod Items
pub mod Lines
pub mod Reasons
pub mod Alone
