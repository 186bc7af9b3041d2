pub mod FilesLeft
pub mod Laws
