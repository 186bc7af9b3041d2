-- A code that changes in one pass is rewritten and then compacted.
use Rattle.std.proofs.Common.{ℕ, zero, suc, ◌+◌, ◌<◌, ◌≤◌, List, [], ◌∷◌, Option, Some, Bool, true, false}
use Rattle.std.proofs.Common.{◌≡◌, refl, sym, ap}
use Rattle.std.proofs.Common.{◌∙◌, subst, arith}
use Rattle.std.specs.Prelude.{length, map, slice_get, slice_index_or, if◌then◌else◌}
use Rattle.std.specs.List.{AllByRecursion, filter}
use Rattle.class_model.specs.declared.code.Code.{Code}
use Rattle.class_model.specs.declared.code.Handler.{Handler}
use Rattle.class_model.specs.declared.code.Ins.{Ins}
use Rattle.class_model.specs.declared.op.Op.{Op}
use Rattle.code_edit.specs.Rewriting.{compacted, is_open, map_from, moved_handler, place}
use Rattle.code_edit.specs.Rewriting.{retargeted, rewritten, survivors, with_op}
use Rattle.code_edit.specs.SoundCode.{IsPlaced, IsSound}
use Rattle.edit_check.specs.Changed.{changed, left_ins, new_op}
use Rattle.edit_tables.specs.Places.{counts_from, lives_in, place_in}
use Rattle.edit_tables.proofs.Counting.{place_is}

-- ---- codes

module _ (lives pops skips : List Bool) (folds : List (Option ℕ)) (aimed : ℕ → ℕ → ℕ → ℕ)
    (f : ℕ → Op → Op) where
  abbrev to : ℕ → ℕ → ℕ
  to which t = place (lives_in lives) t

  abbrev before : Ins → ℕ → Ins
  before i at = with_op (f at) i

  module _ (places : List ℕ) where
    ins_are : (k : ℕ) (xs : List Ins)
        → ((j : ℕ) (i : Ins) → slice_get xs j ≡ Some i → lives_in lives (k + j) ≡ true
        → new_op lives pops skips folds aimed places (k + j) i.op ≡ retargeted to (f (k + j) i.op))
        → left_ins lives pops skips folds aimed places k xs
        ≡ map (with_op (retargeted to))
        (survivors (lives_in lives) k (map_from (λ at i. with_op (f at) i) k xs))
    ins_are k [] h = refl
    ins_are k (x ∷ xs) h = by (lives_in lives k) refl
        (ins_are (suc k) xs (λ j i e l. let n : k + suc j ≡ suc k + j = omega arith in
        subst (λ q. new_op lives pops skips folds aimed places q i.op ≡ retargeted to (f q i.op)) n
        (h (suc j) i e (subst (λ q. lives_in lives q ≡ true) (sym n) l))))
      where
        here : lives_in lives k ≡ true
            → new_op lives pops skips folds aimed places k x.op ≡ retargeted to (f k x.op)
        here l = let n : k + 0 ≡ k = omega arith in
            subst (λ q. new_op lives pops skips folds aimed places q x.op ≡ retargeted to (f q x.op)) n
            (h 0 x refl (subst (λ q. lives_in lives q ≡ true) (sym n) l))

        by : (b : Bool) → lives_in lives k ≡ b
            → left_ins lives pops skips folds aimed places (suc k) xs
            ≡ map (with_op (retargeted to))
            (survivors (lives_in lives) (suc k)
            (map_from (λ at i. with_op (f at) i) (suc k) xs))
            → (if b then with_op (new_op lives pops skips folds aimed places k) x
            ∷ left_ins lives pops skips folds aimed places (suc k) xs
            else left_ins lives pops skips folds aimed places (suc k) xs)
            ≡ map (with_op (retargeted to))
            (if b then with_op (f k) x
            ∷ survivors (lives_in lives) (suc k)
            (map_from (λ at i. with_op (f at) i) (suc k) xs)
            else survivors (lives_in lives) (suc k)
            (map_from (λ at i. with_op (f at) i) (suc k) xs))
        by true l rest = λ i. (record x { op = here l i }) ∷ rest i
        by false l rest = rest

  handlers_are : (hs : List Handler) → AllByRecursion (IsPlaced (length lives)) hs
      → map (moved_handler (place_in (counts_from 0 lives))) hs ≡ map
      (moved_handler (place (lives_in lives))) hs
  handlers_are [] h = refl
  handlers_are (x ∷ xs) h =
      let from = place_is lives x.from (omega (arith, h.0.0, h.0.1)) in
      let end = place_is lives x.to h.0.1 in
      let entry = place_is lives x.entry (omega (arith, h.0.2)) in
      let rest = handlers_are xs h.1 in
      λ i. (record x { from = from i; to = end i; entry = entry i }) ∷ rest i

  -- where each instruction that is left becomes what it is rewritten to, with its targets in place
  pub changed_is : (code : Code) → length lives ≡ length code.ins
      → AllByRecursion (IsPlaced (length code.ins)) code.handlers
      → ((at : ℕ) (i : Ins) → slice_get code.ins at ≡ Some i → lives_in lives at ≡ true
      → new_op lives pops skips folds aimed (counts_from 0 lives) at i.op ≡ retargeted to (f at i.op))
      → changed lives pops skips folds aimed code ≡ compacted (lives_in lives) (rewritten f code)
  changed_is code long placed each =
      let ins = ins_are (counts_from 0 lives) 0 code.ins
      (λ j i e l. let z : j ≡ 0 + j = omega arith in
      subst (λ q. new_op lives pops skips folds aimed (counts_from 0 lives) q i.op ≡ retargeted to
      (f q i.op)) z
      (each j i e (subst (λ q. lives_in lives q ≡ true) (sym z) l))) in
      let handlers = handlers_are code.handlers
      (subst (λ n. AllByRecursion (IsPlaced n) code.handlers) (sym long) placed) in
      λ i. record code { ins = ins i; handlers = filter is_open (handlers i); frames = [] }
