-- Sets of classes whose methods have other codes, which name nothing more (the project's own).
use Rattle.std.specs.Prelude.{◌≡◌, ℕ, List, Option, Some, None, IfSome, slice_get}
use Rattle.std.specs.List.{AllByRecursion, AllZip}
use Rattle.class_model.specs.WellFormed.{IsGoodCode}
use Rattle.class_model.specs.declared.class.Class.{Class}
use Rattle.class_model.specs.declared.class.Method.{Method}
use Rattle.class_model.specs.declared.code.Code.{Code}
use Rattle.class_model.specs.declared.frame.FrameAt.{FrameAt}
use Rattle.class_model.specs.declared.frame.VType.{VType}
use Rattle.class_model.specs.declared.frame.VType.TheVariants as vtype
use Rattle.edit_laws.specs.NamesNoMore.{NamesNoMore}
use Rattle.shape_laws.specs.Bare.{DifferInCodes}

-- a type in a frame stands in one of these frames, or is none of a class (JVMS 4.7.4)
pub data IsTypeOf (frames : List FrameAt) (ty : VType) : Type 0 where
  in_locals : (k j : ℕ) (f : FrameAt) → slice_get frames k ≡ Some f → slice_get f.frame.locals j ≡ Some ty
      → IsTypeOf frames ty
  in_stack : (k j : ℕ) (f : FrameAt) → slice_get frames k ≡ Some f → slice_get f.frame.stack j ≡ Some ty
      → IsTypeOf frames ty
  top : ty ≡ vtype.Top → IsTypeOf frames ty
  uninit : (k : ℕ) → ty ≡ vtype.Uninit k → IsTypeOf frames ty

-- so does each type of a frame
pub record IsFrameOf (frames : List FrameAt) (f : FrameAt) : Type 0 where
  pub locals : AllByRecursion (IsTypeOf frames) f.frame.locals
  pub stack : AllByRecursion (IsTypeOf frames) f.frame.stack

-- a code names nothing but what another one names, in instructions, handlers and frames
pub record NamesLess (old new : Code) : Type 0 where
  pub code : NamesNoMore old new
  pub frames : AllByRecursion (IsFrameOf old.frames) new.frames

-- so it is of the codes of a method, which has one where it had one
abbrev pub NamesLessThan : Option Code → Option Code → Type 0
NamesLessThan (Some old) (Some new) = NamesLess old new
NamesLessThan None None = Unit {0}
NamesLessThan _ _ = ⊥

-- a method has such a code, and it follows the format (JVMS 4.7.3, 4.9.1)
pub record CodeSwaps (m o : Method) : Type 0 where
  pub no_more : NamesLessThan m.code o.code
  pub good : IfSome o.code IsGoodCode

-- two sets differ in codes alone, and so it is of each method
pub record IsSwapped (a b : List Class) : Type 0 where
  pub alike : DifferInCodes a b
  pub codes : (n : ℕ) (c e : Class) → slice_get a n ≡ Some c → slice_get b n ≡ Some e
      → AllZip CodeSwaps c.methods e.methods
