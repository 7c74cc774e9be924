mod ArcLemmas
mod PassLemmas
pub mod Names
mod StrokeLemmas
mod ShownLemmas
mod PictureFacts
mod DisplayFacts
mod WholePictureFacts
mod ShownFacts
