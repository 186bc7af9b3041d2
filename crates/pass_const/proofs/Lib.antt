mod Stepping
mod Marking
mod Knowing
mod Listing
