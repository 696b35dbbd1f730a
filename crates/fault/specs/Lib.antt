pub mod Number
pub mod Argument
