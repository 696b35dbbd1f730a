pub mod Stretches
pub mod Accepting
pub mod Views
