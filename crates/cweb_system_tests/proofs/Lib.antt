pub mod Keys
pub mod Changes
pub mod Scans
pub mod Layouts
