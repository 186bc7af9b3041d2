-- One list tells the least closed set of a system.
use Rattle.std.proofs.Common.{◌≡◌, ℕ, Bool, true, false, IsTrue, List, refl, sym, ◌∙◌}
use Rattle.std.proofs.lemmas.List.{ext_get_or}
use Rattle.mark_core.specs.Marks.{Marks, set_of}
use Rattle.mark_core.specs.declared.system.System.{System}

same_truth : (one other : Bool) → (IsTrue one → IsTrue other) → (IsTrue other → IsTrue one) → one ≡ other
same_truth true other there back = sym (there refl)
same_truth false true there back = back refl
same_truth false false there back = refl

-- an item that one list marks is marked by the other, which tells a closed set
marked_in : (sys : System) (one other : List Bool) (x : ℕ) → Marks sys one → Marks sys other → IsTrue (set_of one x)
    → IsTrue (set_of other x)
marked_in sys one other x h k has = h.least x has (set_of other) k.closed

pub same_marks : (sys : System) (one other : List Bool) → Marks sys one → Marks sys other → one ≡ other
same_marks sys one other h k =
    ext_get_or false one other (h.count ∙ sym k.count)
    (λ x low. same_truth (set_of one x) (set_of other x) (marked_in sys one other x h k)
    (marked_in sys other one x k h))
