-- Instructions that stay: how many, where they come to stand, and that a new stays one.
use Rattle.std.proofs.Common.{◌≡◌, ℕ, suc, ◌+◌, not, ◌||◌, Bool, true, false, cond, List, [], ◌∷◌, length, map}
use Rattle.std.proofs.Common.{refl, sym, ap, subst, ◌∙◌, arith, Some, None, slice_get}
use Rattle.std.specs.Option.{option_map}
use Rattle.class_model.specs.declared.code.Code.{Code}
use Rattle.class_model.specs.declared.code.Ins.{Ins}
use Rattle.class_model.specs.declared.op.Op.{Op}
use Rattle.class_model.specs.declared.op.Op.TheVariants as op
use Rattle.code_edit.specs.declared.act.Act.{Act}
use Rattle.code_edit.specs.declared.act.Pass.{Pass}
use Rattle.code_edit.specs.declared.act.Pass.TheVariants.{Reach, Const, Slots, Jumps}
use Rattle.code_edit.specs.Applied.{applied, lives_of}
use Rattle.code_edit.specs.Constants as constants
use Rattle.code_edit.specs.Constants.{AreLegalConst, fold_to, folded, is_operand, landed}
use Rattle.code_edit.specs.Deciding.{decided}
use Rattle.code_edit.specs.Jumps as jumps
use Rattle.code_edit.specs.Legal.{AreRightActs}
use Rattle.code_edit.specs.Reach as reach
use Rattle.code_edit.specs.Rewriting.{compacted, living, map_from, place, retargeted, rewritten, survivors, with_op}
use Rattle.code_edit.specs.Slots as slots
use Rattle.edit_premises.proofs.Folds.{Here, here, no_fold, one_here, two_here}
use Rattle.edit_premises.proofs.Places.{map_from_get, map_get, survivors_get}

-- ---- how many

survivors_long : {A : Type 0} (lives : ℕ → Bool) (i : ℕ) (xs : List A)
    → length (survivors lives i xs) ≡ living lives i (length xs)
survivors_long lives i [] = refl
survivors_long {A} lives i (x ∷ xs) =
    by (lives i) (survivors lives (suc i) xs) (survivors_long lives (suc i) xs)
  where
    by : (b : Bool) (ys : List A) → length ys ≡ living lives (suc i) (length xs)
        → length (cond b (x ∷ ys) ys)
        ≡ cond b (suc (living lives (suc i) (length xs))) (living lives (suc i) (length xs))
    by true ys e = ap suc e
    by false ys e = e

map_long : {A B : Type 0} (f : A → B) (xs : List A) → length (map f xs) ≡ length xs
map_long f [] = refl
map_long f (x ∷ xs) = ap suc (map_long f xs)

from_long : {A B : Type 0} (f : ℕ → A → B) (k : ℕ) (xs : List A) → length (map_from f k xs) ≡ length xs
from_long f k [] = refl
from_long f k (x ∷ xs) = ap suc (from_long f (suc k) xs)

compacted_long : (lives : ℕ → Bool) (code : Code)
    → length (compacted lives code).ins ≡ place lives (length code.ins)
compacted_long lives code =
    map_long (with_op (retargeted (λ which to. place lives to))) (survivors lives 0 code.ins)
    ∙ survivors_long lives 0 code.ins

both_long : (lives : ℕ → Bool) (f : ℕ → Op → Op) (code : Code)
    → length (compacted lives (rewritten f code)).ins ≡ place lives (length code.ins)
both_long lives f code =
    compacted_long lives (rewritten f code)
    ∙ ap (place lives) (from_long (λ at i. with_op (f at) i) 0 code.ins)

-- as many instructions as stay
pub applied_long : (p : Pass) (acts : List Act) (code : Code)
    → length (applied p acts code).ins ≡ place (lives_of p acts code) (length code.ins)
applied_long Reach acts code = compacted_long (reach.is_left acts) code
applied_long Slots acts code = both_long (λ at. not (slots.goes acts code at)) (slots.slotted acts code) code
applied_long Jumps acts code = both_long (jumps.stays acts code) (jumps.jumped acts) code
applied_long Const acts code = both_long (λ at. not (constants.goes acts code at)) (folded acts code) code

-- ---- which

left_at : (lives : ℕ → Bool) (code : Code) (k : ℕ) (i : Ins) → lives k ≡ true → slice_get code.ins k ≡ Some i
    → slice_get (compacted lives code).ins (place lives k)
    ≡ Some (with_op (retargeted (λ which to. place lives to)) i)
left_at lives code k i l at =
    let start : k ≡ 0 + k = omega arith in
    map_get (with_op (retargeted (λ which to. place lives to))) (survivors lives 0 code.ins) (place lives k)
    ∙ ap (option_map (with_op (retargeted (λ which to. place lives to))))
    (survivors_get lives code.ins 0 k (subst (λ (n : ℕ). lives n ≡ true) start l) ∙ at)

both_at : (lives : ℕ → Bool) (f : ℕ → Op → Op) (code : Code) (k : ℕ) (i : Ins) → lives k ≡ true
    → slice_get code.ins k ≡ Some i
    → slice_get (compacted lives (rewritten f code)).ins (place lives k)
    ≡ Some (with_op (retargeted (λ which to. place lives to)) (with_op (f k) i))
both_at lives f code k i l at =
    let start : 0 + k ≡ k = omega arith in
    left_at lives (rewritten f code) k (with_op (f k) i) l
    (map_from_get (λ n j. with_op (f n) j) 0 code.ins k
    ∙ ap (λ (n : ℕ). option_map (with_op (f n)) (slice_get code.ins k)) start
    ∙ ap (option_map (with_op (f k))) at)

same : {A : Type 0} (b : Bool) (x : A) → cond b x x ≡ x
same true x = refl
same false x = refl

-- an instruction stands there that is a new of this class
abbrev pub IsNewAt : List Ins → ℕ → List ℕ → Type 0
IsNewAt ins at name = (i : Ins) × (slice_get ins at ≡ Some i) × (i.op ≡ op.New name)

module _ (acts : List Act) (code : Code) (k : ℕ) (i : Ins) (name : List ℕ) (at : slice_get code.ins k ≡ Some i)
    (is : i.op ≡ op.New name) where
  by_op : (lives : ℕ → Bool) (f : ℕ → Op → Op) → lives k ≡ true → f k (op.New name) ≡ op.New name
      → IsNewAt (compacted lives (rewritten f code)).ins (place lives k) name
  by_op lives f l e = (
    with_op (retargeted (λ which to. place lives to)) (with_op (f k) i),
    both_at lives f code k i l at,
    ap (λ o. retargeted (λ which to. place lives to) (f k o)) is
        ∙ ap (retargeted (λ which to. place lives to)) e,
  )

  -- of what isn't branched on nothing is folded
  no_fold_here : AreLegalConst acts code → fold_to acts k ≡ None
  no_fold_here legal = by (here acts code legal k)
    where
      here_is : (j : Ins) → slice_get code.ins k ≡ Some j → j.op ≡ op.New name
      here_is j e = let q : Some i ≡ Some j = sym at ∙ e in
          let eq : i ≡ j = cc in ap (λ (x : Ins). x.op) (sym eq) ∙ is

      by : Here acts code legal k → fold_to acts k ≡ None
      by (no_fold g c) = g
      by (one_here t g h c) =
          absurd (let q : None ≡ Some h.point =
          sym (ap (λ o. decided o (h.value ∷ [])) (here_is h.ins h.here)) ∙ h.decides in cc)
      by (two_here t g h c) =
          absurd (let q : None ≡ Some h.point =
          sym (ap (λ o. decided o (h.second ∷ h.first ∷ [])) (here_is h.ins h.here)) ∙ h.decides in cc)

  un_not : (b : Bool) → not b ≡ true → b ≡ false
  un_not true q = absurd cc
  un_not false q = refl

  or_first : (a b : Bool) → (a || b) ≡ false → a ≡ false
  or_first true b q = absurd cc
  or_first false b q = refl

  -- a new that stays is one where it comes to stand
  pub new_stays : (p : Pass) → AreRightActs p acts code → lives_of p acts code k ≡ true
      → IsNewAt (applied p acts code).ins (place (lives_of p acts code) k) name
  new_stays Reach right l = (
    with_op (retargeted (λ which to. place (reach.is_left acts) to)) i,
    left_at (reach.is_left acts) code k i l at,
    ap (retargeted (λ which to. place (reach.is_left acts) to)) is,
  )
  new_stays Slots right l =
      by_op (λ n. not (slots.goes acts code n)) (slots.slotted acts code) l
      (ap (λ b. cond b op.Nop (cond (slots.is_cut acts k) (op.New name) (op.New name)))
      (un_not (slots.goes acts code k) l)
      ∙ same (slots.is_cut acts k) (op.New name))
  new_stays Jumps right l =
      by_op (jumps.stays acts code) (jumps.jumped acts) l (same (jumps.is_skipped acts k) (op.New name))
  new_stays Const right l =
      by_op (λ n. not (constants.goes acts code n)) (folded acts code) l
      (ap (λ b. constants.new_op b (fold_to acts k) k (op.New name))
      (or_first (is_operand acts code k) _ (un_not (constants.goes acts code k) l))
      ∙ ap (landed k (op.New name)) (no_fold_here right))
