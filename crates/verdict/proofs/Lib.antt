pub mod Blocks
pub mod Buffers
pub mod Folds
pub mod Forbidding
pub mod Judged
pub mod Putting
