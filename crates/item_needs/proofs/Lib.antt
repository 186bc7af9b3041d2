mod SharedFrames
mod CountedLists
mod Remembering
mod Stamping
mod Referring
mod CalledMethods
