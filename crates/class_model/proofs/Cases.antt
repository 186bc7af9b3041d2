-- What a computed equality of the cases of a LookupSwitch says.
use Rattle.std.proofs.Common.{◌≡◌, ◌&&◌, List, Bool, ap, refl}
use Rattle.std.specs.Prelude.{◌==◌}
use Rattle.std.specs.Ordering.{int_eq}
use Rattle.std.specs.Bool.{Decides}
use Rattle.std.specs.Cmp.{unsigned_Decides, signed_Decides}
use Rattle.std.specs.Cmp.Lexicographic.{pointwise}
use Rattle.std.proofs.lemmas.Slice.Eq.{slice_eq-Decides}
use Rattle.jv_base.proofs.Equality.{and_Decides}
use Rattle.class_model.specs.declared.op.Case.{Case}

-- two cases have equal keys and targets
abbrev pub case_eq : Case → Case → Bool
case_eq a b = int_eq a.key b.key && (a.to == b.to)

-- then they are one
pub case_Decides : (a b : Case) → Decides (case_eq a b) (a ≡ b)
case_Decides a b = and_Decides _ _ (signed_Decides a.key b.key) (unsigned_Decides a.to b.to)
    (λ p q i. record { key = p i; to = q i }) (λ e. ap (λ (c : Case). c.key) e) (λ e. ap (λ (c : Case). c.to) e)

pub cases_Decides : (a b : List Case) → Decides (pointwise case_eq a b) (a ≡ b)
cases_Decides a b = slice_eq-Decides case_Decides a b _ refl
