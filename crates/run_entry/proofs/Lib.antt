mod Backs
mod Ran
