pub mod Naming
pub mod Listed
pub mod Ascii
pub mod NumbersInRange
pub mod Counts
pub mod Parting
pub mod OneMeaning
