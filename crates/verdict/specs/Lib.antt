pub mod Puts
pub mod Parts
pub mod Rows
pub mod Verdicts
pub mod Kinds
