pub mod Known
pub mod References
pub mod Cut
