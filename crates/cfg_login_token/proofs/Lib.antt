pub mod LoginTexts
pub mod Files
pub mod Inner
pub mod Documents
pub mod TextFields
pub mod FirstObject
pub mod ReadBack
