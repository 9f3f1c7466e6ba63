pub mod Additions
pub mod Becomes
pub mod Place
