pub mod SetMembership
pub mod Views
pub mod Files
pub mod Keys
pub mod Models
pub mod Steps
