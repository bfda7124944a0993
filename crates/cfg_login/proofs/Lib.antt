pub mod SignInSteps
pub mod SignInCauses
pub mod LastReadings
pub mod InTime
pub mod SessionKeys
pub mod OtherSpots
