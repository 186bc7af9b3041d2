mod Answer
mod Told
