pub mod Order
pub mod Members
pub mod Least
pub mod Roots
pub mod Chains
