pub mod Hello
pub mod OneBin
