mod Items
mod NoCalls
mod OneDue
mod Saying
