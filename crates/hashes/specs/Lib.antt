pub mod Code
pub mod Compression
pub mod Digests
pub mod Padding
pub mod Progress
pub mod Tables
pub mod Widths
pub mod Words
