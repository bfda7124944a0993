pub mod MemberCauses
pub mod MemberFollows
pub mod MemberLists
pub mod Building
pub mod SafeCalls
pub mod SignOns
pub mod Sessions
pub mod BegunMembers
