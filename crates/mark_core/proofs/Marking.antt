-- The worklist after one more item is marked and waits.
use Rattle.std.proofs.Common.{◌≡◌, ◌⊎◌, ℕ, ◌+◌, ◌<◌, Bool, true, false, cond, IsTrue, [], ◌∷◌, ◌++◌, length, get_or}
use Rattle.std.proofs.Common.{set, inl, inr, ⊎_elim, subst, sym, ◌∙◌, ap, arith, length-set}
use Rattle.std.proofs.lemmas.List.{length_push}
use Rattle.std.specs.List.{All, Contains, sum_by}
use Rattle.std.proofs.lemmas.List.Elements.{All-push, All-weaker, Contains-append_left, Contains-push}
use Rattle.std.proofs.lemmas.List.Sums.{sum_by-set}
use Rattle.mark_core.specs.declared.system.System.{System}
use Rattle.mark_core.specs.declared.plain.Worklist.{Worklist}
use Rattle.mark_core.specs.Marks.{IsMarked, set_of}
use Rattle.mark_core.specs.bodies.Worklist.{Has, Waits, IsSound, Grows}
use Rattle.mark_core.proofs.Sets.{set_has, set_keeps, set_fresh}

module _ (sys : System) (old new : Worklist) (x : ℕ) (sound : IsSound sys old) (lt : x < sys.n)
    (marks : new.marks.items ≡ set old.marks.items x true)
    (waiting : new.waiting.items ≡ old.waiting.items ++ x ∷ []) where
  inside : x < length old.marks.items
  inside = subst (λ k. x < k) (sym sound.count) lt

  keeps : (y : ℕ) → Has old y → Has new y
  keeps y has = subst (λ ms. IsTrue (set_of ms y)) (sym marks) (set_keeps old.marks.items x y inside has)

  itself : Has new x
  itself = subst (λ ms. IsTrue (set_of ms x)) (sym marks) (set_has old.marks.items x inside)

  fresh : (y : ℕ) → Has new y → Has old y ⊎ (x ≡ y)
  fresh y has = set_fresh old.marks.items x y (subst (λ ms. IsTrue (set_of ms y)) marks has)

  waits : (y : ℕ) → Waits old y → Waits new y
  waits y w = subst (λ l. Contains l y) (sym waiting) (Contains-append_left old.waiting.items (x ∷ []) y w)

  waits_itself : Waits new x
  waits_itself = subst (λ l. Contains l x) (sym waiting) (Contains-push old.waiting.items x)

  pub sound_after : IsMarked sys x → IsSound sys new
  sound_after due = record {
    count = ap length marks ∙ (length-set old.marks.items x true ∙ sound.count);
    below = subst (λ l. All (λ y. y < sys.n) l) (sym waiting)
        (All-push (λ y. y < sys.n) old.waiting.items x sound.below lt);
    marked = subst (λ l. All (Has new) l) (sym waiting)
        (All-push (Has new) old.waiting.items x
        (All-weaker (Has old) (Has new) keeps old.waiting.items sound.marked) itself);
    due = λ y has. ⊎_elim (sound.due y) (λ same. subst (IsMarked sys) same due) (fresh y has);
  }

  pub grows_after : set_of old.marks.items x ≡ false → Grows old new
  grows_after unset = record {
    keeps = keeps;
    waits = waits;
    fresh = λ y has. ⊎_elim inl (λ same. inr (subst (Waits new) same waits_itself)) (fresh y has);
    left =
        let f : Bool → ℕ = λ b. cond b 0 1 in
        let moved : sum_by f (set old.marks.items x true) + f (get_or old.marks.items x false)
        ≡ sum_by f old.marks.items + 0 = sum_by-set f old.marks.items x true false inside in
        let sums : sum_by f new.marks.items ≡ sum_by f (set old.marks.items x true) = ap (sum_by f) marks in
        let was : f (get_or old.marks.items x false) ≡ 1 = ap f unset in
        let longer : length new.waiting.items ≡ length old.waiting.items + 1 = ap length waiting
        ∙ length_push old.waiting.items x in
        omega (arith, moved, sums, was, longer);
  }
