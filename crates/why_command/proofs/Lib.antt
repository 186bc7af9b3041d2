pub mod AllTexts
pub mod Required
pub mod LongTexts
pub mod NoCalls
pub mod OneReasons
pub mod OneDue
pub mod Answered
