-- What the type checker says of those sets, and what their runs do (the project's own: definitions are tried on
-- programs).
use Rattle.std.specs.Prelude.{◌≡◌, ℕ, List, [], codes}
use Rattle.class_model.specs.declared.class.Class.{Class}
use Rattle.jvm_model.specs.State.{WentWrong, status}
use Rattle.link_check.specs.rows.ProfileRows.{no_result}
use Rattle.set_view.specs.Examples.{after}
use Rattle.type_verifier.specs.Verified.{IsMethodFault}
use Rattle.type_verifier.specs.declared.fault.TypeKind.{TypeKind}
use Rattle.type_verifier.specs.declared.fault.TypeKind.TheVariants.{Handler, Local, Mismatch, Operand}
use Rattle.type_verifier.specs.declared.fault.TypeKind.TheVariants.{Protected, Uninit}
use Rattle.needed_rules.specs.Codes.{caught_as_array, element_as_array, left_early, long_tested, new_string}
use Rattle.needed_rules.specs.Codes.{null_among_longs, other_result, otherwise, over_long, protected_field}
use Rattle.needed_rules.specs.Codes.{runnable_as_string, super_of_other}

-- the first fault of the method with this number, of the class with this number, is this one at this instruction
abbrev pub IsRefused : List Class → ℕ → ℕ → ℕ → TypeKind → Type 0
IsRefused classes own number index kind =
    IsMethodFault classes own number (record { class = own; method = number; index = index; kind = kind })

-- each breaks its rule
pub record AreRefused : Type 0 where
  pub store : IsRefused over_long 0 0 4 Local
  pub handler : IsRefused caught_as_array 0 0 2 Handler
  pub result : IsRefused other_result 0 1 2 Operand
  pub element : IsRefused element_as_array 0 0 10 Operand
  pub protected : IsRefused protected_field 1 0 3 Protected
  pub new : IsRefused new_string 0 0 1 Operand
  pub constructor : IsRefused left_early 0 1 0 Uninit
  pub interface : IsRefused runnable_as_string 0 1 1 Operand
  pub condition : IsRefused long_tested 0 0 1 Operand
  pub switch : IsRefused otherwise 0 0 1 Mismatch
  pub receiver : IsRefused super_of_other 2 0 3 Operand
  pub stored : IsRefused null_among_longs 0 0 4 Operand

-- w() meets an operand that is none of what its instruction takes
abbrev pub GoesWrong : List Class → Type 0
GoesWrong classes = status (after classes (codes "demo/W") (codes "w") no_result [] 40) ≡ WentWrong

-- So it is with these. The machine has a long in one local, knows no access, and doesn't know whether a constructor was
-- called; so of the other three it runs the codes.
pub record GoWrong : Type 0 where
  pub handler : GoesWrong caught_as_array
  pub result : GoesWrong other_result
  pub element : GoesWrong element_as_array
  pub new : GoesWrong new_string
  pub interface : GoesWrong runnable_as_string
  pub condition : GoesWrong long_tested
  pub switch : GoesWrong otherwise
  pub receiver : GoesWrong super_of_other
  pub stored : GoesWrong null_among_longs
