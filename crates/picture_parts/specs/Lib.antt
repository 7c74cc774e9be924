-- read this one first: texts in parts
pub mod Parts
pub mod Paths
pub mod Marks
pub mod Colours
pub mod AgainColours
pub mod ThreadNames
pub mod Sizes
pub mod Sheets
pub mod PlainSheets
