pub mod State
pub mod Effects
pub mod Lexemes
pub mod surface
pub mod laws
pub mod inner
