-- Read Moves first: shifts, turns and mirrorings.
pub mod Moves
pub mod Shifts
pub mod Motions
pub mod Inverses
pub mod Colours
