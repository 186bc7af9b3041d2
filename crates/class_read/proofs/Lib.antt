mod Slots
mod Judging
mod Newest
mod SignatureKeys
mod AttributeLoop
mod Known
mod FieldLoop
mod KnownMethods
mod MethodInfo
mod MethodLoop
mod KnownClass
pub mod LineTable
mod CodeEnd
mod KnownCode
mod CodeParts
mod ShiftedReaders
mod ShiftedInstructions
mod ShiftedCode
mod InstructionFaults
mod TargetFaults
mod PartOfCode
mod PassedLoop
pub mod BehindCode
mod CodeSteps
mod Unfolding
