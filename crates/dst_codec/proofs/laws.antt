pub mod Taken
pub mod Again
pub mod Label
pub mod Reach
