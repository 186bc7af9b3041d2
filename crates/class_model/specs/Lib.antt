-- The class file (JVMS 4). docs/CLASS-FILES.md tells where each rule stands.
--
pub mod Between
pub mod OpcodeNames
pub mod Pool
pub mod Structure
-- Which bytes spell a class: each structure as it is written, and what it stands for
pub mod ConstantPool
pub mod Flags
pub mod Opcodes
pub mod InstructionStructure
pub mod Instructions
pub mod Attributes
pub mod LineNumbers
pub mod Frames
pub mod CodeAttribute
pub mod Members
pub mod ClassFile
-- Which classes are well formed
pub mod WellFormed
pub mod OpValues
-- What is read from left to right, and the first fault
pub mod Lookups
pub mod ReadingPool
pub mod InstructionMeaning
pub mod ReadingCode
pub mod ReadingFrames
pub mod ReadingAttributes
pub mod ReadingCodeAttribute
pub mod MemberTypes
pub mod ReadingMembers
pub mod ReadingClass
-- The one canonical spelling, and the limits that it has
pub mod CanonicalPool
pub mod CanonicalCode
pub mod Says
pub mod CanonicalFrames
pub mod CanonicalClass
pub mod WriteLimits
pub mod WritableCode
-- The frames of a code by their numbers, and as they are built
pub mod FrameLists
-- What only the proofs of bodies need
pub mod bodies
-- A few class files
pub mod rows
