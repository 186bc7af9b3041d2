mod Places
mod Inserted
mod Counted
mod PlacedCodes
mod CodeLengths
pub mod SpelledConstants
pub mod SpelledAttributes
pub mod SpelledFields
pub mod SpelledBytes
pub mod SpelledLines
pub mod SpelledInstructions
pub mod SpelledFrames
pub mod SpelledCode
pub mod SpelledMethods
pub mod SpelledFile
pub mod SpellingLaw
pub mod SpelledExample
mod Fitting
mod Dues
mod FileTexts
mod FewFrames
