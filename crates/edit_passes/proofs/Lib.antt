mod Aiming
mod Reaching
mod Unloading
mod Walking
