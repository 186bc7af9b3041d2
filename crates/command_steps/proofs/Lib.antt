pub mod OneConfig
pub mod OneStep
pub mod Systems
pub mod Earlier
