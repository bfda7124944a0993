pub mod RoleSteps
pub mod RoleCauses
pub mod Calls
pub mod Builds
pub mod SignOns
pub mod Sessions
pub mod SafeCalls
