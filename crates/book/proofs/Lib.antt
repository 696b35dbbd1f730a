pub mod Printed
pub mod Walk
pub mod Filled
pub mod Outcome
pub mod Smallness
pub mod Rightness
pub mod Numbering
pub mod Parts
