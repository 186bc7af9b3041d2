mod Fronts
mod Same
mod Telling
mod Rows
