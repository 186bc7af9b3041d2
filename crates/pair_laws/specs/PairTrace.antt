pub mod FrameLines
pub mod Laws
