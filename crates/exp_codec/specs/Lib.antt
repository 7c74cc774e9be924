-- read these first: what a file reads as, and what a design is written as
pub mod Units
pub mod Reading
pub mod Writing
pub mod Format
