mod Applying
mod Living
mod OnePass
mod Stepping
mod Targets
