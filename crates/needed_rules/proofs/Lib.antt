mod Refused
mod Wrong
