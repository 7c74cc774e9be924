pub mod StitchFormats
