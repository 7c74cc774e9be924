pub mod Names
pub mod SampleFacts
pub mod DrawLemmas
pub mod RowLemmas
pub mod ShortLines
pub mod SampleRoomLemmas
mod GridFacts
