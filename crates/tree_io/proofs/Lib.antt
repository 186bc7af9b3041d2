pub mod Below
pub mod Known
pub mod MemoryRuns
pub mod Runs
pub mod Told
pub mod Walks
