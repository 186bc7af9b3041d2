pub mod FilteredMembers
