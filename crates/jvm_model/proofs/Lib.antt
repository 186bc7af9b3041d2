pub mod Compose
pub mod Codes
pub mod Keys
pub mod Asking
pub mod Answering
pub mod Side
