pub mod Counting
pub mod Configuring
pub mod Reporting
pub mod Polling
pub mod Holding
