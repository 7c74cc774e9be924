pub mod Faults
pub mod MoveHops
pub mod Rooms
pub mod Refusals
pub mod ActWriting
pub mod Accepted
pub mod PlainDesigns
pub mod LabelFields
pub mod DecoderStates
-- read this one first: what a format means
pub mod Meanings
pub mod Laws
pub mod Feeding
pub mod FeedStates
pub mod Endings
