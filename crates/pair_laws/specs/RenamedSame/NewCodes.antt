-- Codes under new names (JVMS 4.7.3, 4.7.12, 6.5).
use Rattle.std.specs.Prelude.{◌≡◌, ℕ, List, map, Some, slice_get}
use Rattle.std.specs.List.{AllZip}
use Rattle.class_model.specs.declared.class.Class.{Class}
use Rattle.class_model.specs.declared.class.Method.{Method}
use Rattle.class_model.specs.declared.code.Code.{Code}
use Rattle.class_model.specs.declared.code.Ins.{Ins}
use Rattle.class_rename.specs.Names.{Names}
use Rattle.class_rename.specs.Renamed.{renamed_handler, renamed_op}
use Rattle.jvm_model.specs.Mapped.{OptionCorr}
use Rattle.jvm_model.specs.Same.{LineCorr}

module _ (names : Names) where
  -- an instruction under new names, at its line or at none (JVMS 4.7.12)
  pub record IsNewIns (i j : Ins) : Type 0 where
    pub op : j.op ≡ renamed_op names i.op
    pub line : LineCorr i.line j.line

  -- a code under new names, in its instructions and its handlers (JVMS 4.7.3)
  pub record IsNewCode (a b : Code) : Type 0 where
    pub ins : AllZip IsNewIns a.ins b.ins
    pub handlers : b.handlers ≡ map (renamed_handler names) a.handlers

  -- the code of a method, where it has one, is the code under new names
  abbrev pub HasNewCode : Method → Method → Type 0
  HasNewCode m n = OptionCorr IsNewCode m.code n.code

  -- so it is of each method of each class at its place
  abbrev pub HasNewCodes : (ℕ → ℕ) → List Class → List Class → Type 0
  HasNewCodes place xs ys = (n : ℕ) (c d : Class) → slice_get xs n ≡ Some c → slice_get ys (place n) ≡ Some d
      → AllZip HasNewCode c.methods d.methods
