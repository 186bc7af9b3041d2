pub mod Before
pub mod Table
pub mod ReadBack
pub mod WritableFrames
pub mod bodies
