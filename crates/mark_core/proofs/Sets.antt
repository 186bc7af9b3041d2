-- A set of marks after one more item is put into it, and what a read of a mark tells.
use Rattle.std.proofs.Common.{◌≡◌, ◌⊎◌, ℕ, ◌<◌, Bool, true, false, IsTrue, List, length, get_or, set, inl, inr, ⊎_elim}
use Rattle.std.proofs.Common.{subst, sym, ◌∙◌, get_or-set_same, get_or-set_other}
use Rattle.std.proofs.lemmas.List.{get_or_default}
use Rattle.std.proofs.lemmas.Bool.{cases_eq}
use Rattle.mark_core.specs.Marks.{set_of}

pub set_has : (marks : List Bool) (x : ℕ) → x < length marks → IsTrue (set_of (set marks x true) x)
set_has marks x lt = get_or-set_same marks x true false lt

pub set_keeps : (marks : List Bool) (x y : ℕ) → x < length marks → IsTrue (set_of marks y)
    → IsTrue (set_of (set marks x true) y)
set_keeps marks x y lt has =
    ⊎_elim
    (λ same. subst (λ k. IsTrue (set_of (set marks x true) k)) (sym same) (set_has marks x lt))
    (λ other. get_or-set_other marks x y true false other ∙ has)
    (cases_eq y x)

pub set_fresh : (marks : List Bool) (x y : ℕ) → IsTrue (set_of (set marks x true) y) → IsTrue (set_of marks y) ⊎ (x ≡ y)
set_fresh marks x y has =
    ⊎_elim (λ same. inr (sym same)) (λ other. inl (sym (get_or-set_other marks x y true false other) ∙ has))
    (cases_eq y x)

pub read_false : (marks : List Bool) (x : ℕ) (found : Bool) → x < length marks → found ≡ get_or marks x found
    → found ≡ false → set_of marks x ≡ false
read_false marks x found lt read is_false = get_or_default marks x false found lt ∙ (sym read ∙ is_false)

pub read_true : (marks : List Bool) (x : ℕ) (found : Bool) → x < length marks → found ≡ get_or marks x found
    → found ≡ true → IsTrue (set_of marks x)
read_true marks x found lt read is_true = get_or_default marks x false found lt ∙ (sym read ∙ is_true)
