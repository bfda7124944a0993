pub mod NameSteps
pub mod EntrySteps
pub mod CallSteps
pub mod CallLists
pub mod SharedSteps
pub mod OneCall
