pub mod Books
pub mod Examples
pub mod Leaks
pub mod Lively
