mod FormatLemmas
mod ParsedLemmas
mod PictureLemmas
mod WordFacts
mod PictureFacts
mod RequestFacts
