pub mod Cpuid
pub mod Map
pub mod Reach
pub mod Records
