pub mod Walks
pub mod Sameness
pub mod Meets
pub mod Filling
pub mod Formed
pub mod Settling
pub mod Values
pub mod Firsts
