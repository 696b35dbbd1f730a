pub mod Computes
pub mod Computed
pub mod Starts
pub mod Leaks
pub mod Ladders
pub mod Lively
