pub mod Names
mod PartLemmas
mod WordsLemmas
mod ReadingLemmas
mod CertificateFacts
mod NumberWords
mod ItemWords
mod LineTexts
mod UniqueTexts
mod ReadTexts
mod ItemPuts
mod TextLengths
mod FirstBadLines
mod FirstBadLineFacts
