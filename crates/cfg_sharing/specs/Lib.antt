pub mod Readings
pub mod Receipts
pub mod Strays
pub mod Histories
pub mod Calls
pub mod Agreement
