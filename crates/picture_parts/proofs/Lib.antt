mod TemplateLemmas
mod PartFacts
mod ColourFacts
mod AgainFacts
mod ThreadNameFacts
mod MarkFacts
mod SizeFacts
