pub mod Posted
pub mod Shown
