-- What a class is written as spells it, and is read as it (JVMS 4.1; that it does is the project's own law).
use Rattle.std.specs.Prelude.{◌≡◌, ℕ, List, None, Ok}
use Rattle.class_model.specs.declared.class.Class.{Class}
use Rattle.class_model.specs.ClassFile.{File}
use Rattle.class_model.specs.WellFormed.{IsWellFormed, CountsFit}
use Rattle.class_model.specs.ReadingClass.{class_read}
use Rattle.class_model.specs.CanonicalClass.{pool_of, layout}
use Rattle.class_model.specs.WriteLimits.{limits, class_written}
use Rattle.class_model.specs.rows.Rows.{class_t}
use Rattle.class_laws.specs.ReadingLaws.{AreBytes}
use Rattle.class_laws.specs.ClassValues.{IsClassValue}

-- a class that can be written: well formed, with counts that fit, its numbers and texts those that the code can hold
pub record IsWritable (c : Class) : Type 0 where
  pub well_formed : IsWellFormed c
  pub counts : CountsFit c
  pub value : IsClassValue c

-- the canonical layout of a class within the limits spells it
abbrev pub LayoutIsSpelling : Type 0
LayoutIsSpelling = (c : Class) → IsWritable c → limits (pool_of c) c ≡ Ok tt → File (layout c) c

-- what is written of a class spells it
abbrev pub WrittenIsSpelling : Type 0
WrittenIsSpelling = (c : Class) (bytes : List ℕ) → IsWritable c → class_written c ≡ Ok bytes → File bytes c

-- a class that is written is read back
abbrev pub WrittenIsRead : Type 0
WrittenIsRead = (c : Class) (bytes : List ℕ) → IsWritable c → class_written c ≡ Ok bytes → class_read bytes ≡ Ok c

-- what is read of a file that was written is written as that file again
abbrev pub ReadIsRewritten : Type 0
ReadIsRewritten = (c d : Class) (bytes : List ℕ) → IsWritable c → class_written c ≡ Ok bytes → class_read bytes ≡ Ok d
    → class_written d ≡ Ok bytes

-- a class that bytes spell, of which nothing is left out, can be written
abbrev pub SpelledIsWritable : Type 0
SpelledIsWritable = (bytes : List ℕ) (c : Class) → File bytes c → c.left_out ≡ None → IsWritable c

-- a class that is read, of which nothing is left out, is read again from what is written of it
abbrev pub ReadIsReadAgain : Type 0
ReadIsReadAgain = (bytes written : List ℕ) (c : Class) → AreBytes bytes → class_read bytes ≡ Ok c → c.left_out ≡ None
    → class_written c ≡ Ok written → class_read written ≡ Ok c

-- the class with a field, a method, a branch, a handler, lines and a frame is one that can be written, within the
-- limits
abbrev pub SomeIsWritable : Type 0
SomeIsWritable = IsWritable class_t × (limits (pool_of class_t) class_t ≡ Ok tt)
