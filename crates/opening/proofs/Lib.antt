pub mod Shaping
pub mod Settling
pub mod Services
