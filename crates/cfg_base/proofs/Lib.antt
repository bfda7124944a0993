pub mod TextLemmas
pub mod AddressLaws
pub mod MapLookups
pub mod InstantOrder
pub mod Trimming
pub mod MapCopies
pub mod StyledWrites
pub mod LastNames
