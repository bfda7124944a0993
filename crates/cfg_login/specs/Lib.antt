pub mod SignIns
pub mod SignInCauses
pub mod Endings
pub mod InNoWay
pub mod Provides
pub mod SignInSetups
pub mod SessionKeys
pub mod FoundSessions
