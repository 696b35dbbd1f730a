pub mod Reversed
pub mod Running
pub mod Written
