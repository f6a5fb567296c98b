-- Definitions that public calls cite and the headline does not.
pub mod Printed
pub mod Outputs
pub mod FrameStacks
