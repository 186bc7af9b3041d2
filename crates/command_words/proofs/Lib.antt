pub mod ClapLaws
pub mod LastCut
