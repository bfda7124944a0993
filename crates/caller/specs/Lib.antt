pub mod Counting
pub mod Configured
pub mod Lines
pub mod Reports
pub mod FileAnswers
pub mod HeldCalls
pub mod Sources
pub mod Regions
