pub mod PassedMembers
pub mod MemberSteps
pub mod FirstAnswers
pub mod OneCall
pub mod NextQuestions
pub mod FallbackSteps
pub mod Mapped
