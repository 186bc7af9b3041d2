pub mod ClassNames
