mod AllNames
mod Constants
mod Numbered
mod Searching
