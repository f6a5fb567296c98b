pub mod Names
pub mod Parts
pub mod Calls
pub mod Faults
pub mod surface
pub mod laws
pub mod inner
