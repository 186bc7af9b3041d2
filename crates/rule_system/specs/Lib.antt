pub mod Required
