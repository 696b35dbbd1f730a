pub mod Orders
pub mod Tables
pub mod Scales
pub mod Inclusion
