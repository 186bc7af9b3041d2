mod Empty
mod Sound
