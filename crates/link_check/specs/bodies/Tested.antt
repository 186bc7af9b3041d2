-- References that break no rule, as they are remembered (only the proof of check_links needs it).
use Rattle.std.specs.Prelude.{◌≡◌, IfSome, ℕ, true, false, List, [], ◌++◌, Option, None}
use Rattle.std.specs.List.{All}
use Rattle.class_model.specs.declared.class.Class.{Class}
use Rattle.class_model.specs.declared.op.MemberRef.{MemberRef}
use Rattle.link_check.specs.declared.fault.ProfileKind.{ProfileKind}
use Rattle.link_check.specs.declared.rules.tested.RefUse.{RefUse}
use Rattle.link_check.specs.declared.rules.tested.RefUse.TheVariants.{Call, CallSpecial, CallStatic, GetField, GetStatic}
use Rattle.link_check.specs.declared.rules.tested.TestedRef.{TestedRef}
use Rattle.link_check.specs.Profile.{call_kinds, field_kinds, least, no_init_kinds, special_kinds}

-- what is wrong with a reference of the class with a number that is used so, in a method of whatever name
abbrev pub use_kinds : List Class → ℕ → RefUse → MemberRef → List ProfileKind
use_kinds classes n GetStatic r = field_kinds classes n [] true false r
use_kinds classes n GetField r = field_kinds classes n [] false false r
use_kinds classes n Call r = call_kinds classes n false r ++ no_init_kinds r
use_kinds classes n CallStatic r = call_kinds classes n true r ++ no_init_kinds r
use_kinds classes n CallSpecial r = special_kinds classes n r

-- it is this reference that was tested
pub record IsFor (n : ℕ) (u : RefUse) (r : MemberRef) (one : TestedRef) : Type 0 where
  pub from : one.from ≡ n
  pub how : one.how ≡ u
  pub reference : one.reference ≡ r

-- a reference breaks no rule
abbrev pub IsTested : List Class → TestedRef → Type 0
IsTested classes one = least (use_kinds classes one.from one.how one.reference) ≡ None

-- what is remembered was tested in this set
pub record AreTested (classes : List Class) (tested : List (Option TestedRef)) : Type 0 where
  pub each : All (λ o. IfSome o (IsTested classes)) tested
