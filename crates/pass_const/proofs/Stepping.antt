-- Runs item by item.
use Rattle.std.proofs.Common.{◌≡◌, ℕ, ◌+◌, ℤ, Bool, true, false, List, [], ◌∷◌, ◌++◌, refl, sym, ap}
use Rattle.std.proofs.Common.{◌∙◌, append_assoc, arith, suc, Option, Some, None}
use Rattle.std.specs.List.{flat_map}
use Rattle.std.specs.Prelude.{if◌then◌else◌, ◌-◌}
use Rattle.std.specs.Ordering.{int_eq}
use Rattle.code_edit.specs.declared.act.Act.{Act}
use Rattle.code_edit.specs.declared.act.Act.TheVariants as act
use Rattle.code_edit.specs.ConstEdits.{Run, Shut, Open, runs}
use Rattle.pass_const.specs.Running.{closed, stepped}
use Rattle.pass_const.specs.Taking.{marked_from}

pub runs_step : (slot at : ℕ) (r : Run) (h : Option ℤ) (hs : List (Option ℤ))
    → runs slot at r (h ∷ hs) ≡ closed slot at r h ++ runs slot (at + 1) (stepped at r h) hs
runs_step slot at Shut None hs = refl
runs_step slot at Shut (Some w) hs = refl
runs_step slot at (Open from v) None hs = refl
runs_step slot at (Open from v) (Some w) hs = by (int_eq v w)
  where
    by : (b : Bool)
        → (if b then runs slot (at + 1) (Open from v) hs
        else act.Fact from (at - 1) slot v ∷ runs slot (at + 1) (Open at w) hs)
        ≡ (if b then [] else act.Fact from (at - 1) slot v ∷ [])
        ++ runs slot (at + 1) (if b then Open from v else Open at w) hs
    by true = refl
    by false = refl

-- an item more, told by what was pushed and what is still to come
pub one_more : (old new : List Act) (slot at : ℕ) (r s : Run) (h : Option ℤ)
    → (rest hs : List (Option ℤ)) (all : List Act) → rest ≡ h ∷ hs
    → new ≡ old ++ closed slot at r h → s ≡ stepped at r h → old ++ runs slot at r rest ≡ all
    → new ++ runs slot (at + 1) s hs ≡ all
one_more old new slot at r s h rest hs all front pushed next inv =
    ap (λ l. l ++ runs slot (at + 1) s hs) pushed
    ∙ (ap (λ q. (old ++ closed slot at r h) ++ runs slot (at + 1) q hs) next
    ∙ (append_assoc old (closed slot at r h) (runs slot (at + 1) (stepped at r h) hs)
    ∙ (ap (λ l. old ++ l) (sym (runs_step slot at r h hs) ∙ ap (runs slot at r) (sym front))
    ∙ inv)))

-- ---- marked local variables

marks_step : (f : ℕ → List Act) (i : ℕ) (mark : Bool) (ms : List Bool)
    → flat_map f (marked_from i (mark ∷ ms))
    ≡ (if mark then f i else []) ++ flat_map f (marked_from (i + 1) ms)
marks_step f i true ms =
    let e : suc i ≡ i + 1 = omega arith in
    ap (λ k. f i ++ flat_map f (marked_from k ms)) e
marks_step f i false ms =
    let e : suc i ≡ i + 1 = omega arith in ap (λ k. flat_map f (marked_from k ms)) e

-- a mark more, told by what was pushed and what is still to come
pub one_mark : (f : ℕ → List Act) (old new : List Act) (i : ℕ) (mark : Bool) (rest ms : List Bool)
    → (all : List Act) → rest ≡ mark ∷ ms → new ≡ old ++ (if mark then f i else [])
    → old ++ flat_map f (marked_from i rest) ≡ all
    → new ++ flat_map f (marked_from (i + 1) ms) ≡ all
one_mark f old new i mark rest ms all front pushed inv =
    ap (λ l. l ++ flat_map f (marked_from (i + 1) ms)) pushed
    ∙ (append_assoc old (if mark then f i else []) (flat_map f (marked_from (i + 1) ms))
    ∙ (ap (λ l. old ++ l)
    (sym (marks_step f i mark ms) ∙ ap (λ l. flat_map f (marked_from i l)) (sym front)) ∙ inv))
