pub mod Members
pub mod Numbering
pub mod Setting
pub mod Within
pub mod Placing
pub mod Lent
