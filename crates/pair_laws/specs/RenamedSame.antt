pub mod NewCodes
pub mod NewKeys
pub mod Laws
