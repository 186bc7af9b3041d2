-- The reading of class files and their grammar go together (JVMS 4.1; that they do is the project's own law).
use Rattle.std.specs.Prelude.{◌≡◌, ℕ, ◌<◌, List, slice_index, Ok}
use Rattle.class_model.specs.declared.class.Class.{Class}
use Rattle.class_model.specs.ClassFile.{File}
use Rattle.class_model.specs.ReadingClass.{class_read}

-- each number is one of a byte
abbrev pub AreBytes : List ℕ → Type 0
AreBytes bytes = (i : ℕ) → slice_index bytes i < 256

-- a class that is read from bytes is spelled by them
abbrev pub ReadIsSpelled : Type 0
ReadIsSpelled = (bytes : List ℕ) (class : Class) → AreBytes bytes → class_read bytes ≡ Ok class → File bytes class

-- a class that bytes spell is read from them
abbrev pub SpelledIsRead : Type 0
SpelledIsRead = (bytes : List ℕ) (class : Class) → File bytes class → class_read bytes ≡ Ok class

-- bytes spell one class at most
abbrev pub SpellsOne : Type 0
SpellsOne = (bytes : List ℕ) (one other : Class) → File bytes one → File bytes other → one ≡ other
