pub mod Endpoints
pub mod Made
pub mod Serves
pub mod Devices
pub mod FaultTexts
pub mod Calls
pub mod Lending
