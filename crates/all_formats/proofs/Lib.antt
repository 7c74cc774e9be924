pub mod CallerLemmas
mod StitchFormatFacts
