mod FirstGiven
mod Longs
mod OneDue
mod Strings
mod Taking
mod Units
