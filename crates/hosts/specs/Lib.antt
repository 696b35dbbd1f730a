pub mod Words
pub mod Tables
pub mod Frames
pub mod Lending
