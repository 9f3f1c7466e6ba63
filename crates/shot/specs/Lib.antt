pub mod Names
pub mod Pictures
pub mod Play
pub mod Shots
pub mod Sinks
pub mod Words
pub mod Writing
