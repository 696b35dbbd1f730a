pub mod Members
pub mod Plans
pub mod Forming
