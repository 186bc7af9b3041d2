pub mod LastGoes
