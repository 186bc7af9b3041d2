-- How a frame's locals follow from those before, and the form that says it (JVMS 4.7.4).
use Rattle.std.proofs.Common.{◌≡◌, ℕ, ◌+◌, ◌-◌, ◌^◌, ◌≤◌, ◌<◌, Bool, true, false, ◌&&◌, cond, leb, List, [], ◌∷◌}
use Rattle.std.proofs.Common.{◌++◌, length, take, drop}
use Rattle.std.proofs.Common.{refl}
use Rattle.std.proofs.Common.{sym, ap, ◌∙◌, inl, inr, arith}
use Rattle.std.specs.Bool.{Decides}
use Rattle.std.proofs.lemmas.Bool.{cases_Bool, le-leb, leb-true}
use Rattle.std.proofs.lemmas.Bool.Decides.{Decides-and, Decides-like, same_from_decides}
use Rattle.std.proofs.lemmas.List.{length-drop, length-take, take_all, take-take, take-append-drop, drop-take}
use Rattle.std.proofs.lemmas.List.{append_cancel_left}
use Rattle.class_model.specs.declared.frame.VType.{VType}
use Rattle.class_model.specs.CanonicalFrames.{Form, same, same_with_item, chop, append, full, form_of, is_append}
use Rattle.class_model.specs.CanonicalFrames.{is_chop}
use Rattle.class_model.specs.CanonicalFrames.{same_types}
use Rattle.frame_write.specs.declared.form.Change.{Change}
use Rattle.frame_write.specs.declared.form.Change.TheVariants as change
use Rattle.frame_write.specs.bodies.Changes.{change_due}
use Rattle.frame_write.specs.Forms.{IsShortForm}
use Rattle.class_laws.proofs.Sameness.{same_types_Decides}

-- ---- what the tests decide

is_false : {P : Type 0} → (b : Bool) → Decides b P → (P → ⊥) → b ≡ false
is_false b d refused = elim (cases_Bool b) [
  | inl t ↦ absurd (refused (d.0 t))
  | inr f ↦ f
]

few_Decides : (n : ℕ) → Decides (leb 1 n && leb n 3) ((1 ≤ n) × (n ≤ 3))
few_Decides n = Decides-and (leb 1 n) (leb n 3) (leb-true 1 n, le-leb 1 n) (leb-true n 3, le-leb n 3)

chop_Decides : (before locals : List VType) → Decides (is_chop before locals)
    (((1 ≤ length before - length locals) × (length before - length locals ≤ 3)) × (locals ≡ take
    (length locals) before))
chop_Decides before locals =
    Decides-and _ _ (few_Decides (length before - length locals)) (same_types_Decides locals (take
    (length locals) before))

append_Decides : (before locals : List VType) → Decides (is_append before locals)
    (((1 ≤ length locals - length before) × (length locals - length before ≤ 3)) × (before ≡ take
    (length before) locals))
append_Decides before locals =
    Decides-and _ _ (few_Decides (length locals - length before)) (same_types_Decides before (take
    (length before) locals))

-- ---- the change

pub unchanged : (before locals : List VType) → before ≡ locals → change_due before locals ≡ change.Same
unchanged before locals h = rw ((same_types_Decides before locals).1 h) refl

pub fewer : (before locals : List VType) → 1 ≤ length before - length locals → length before - length locals ≤ 3
    → locals ≡ take (length locals) before
    → change_due before locals ≡ change.Fewer (length before - length locals)
fewer before locals some few h =
    let not_same : same_types before locals ≡ false = is_false (same_types before locals)
    (same_types_Decides before locals)
    (λ e. let n : length before ≡ length locals = ap length e in absurd (omega (arith, n, some))) in
    let chops : is_chop before locals ≡ true = (chop_Decides before locals).1 ((some, few), h) in
    rw (not_same, chops) refl

pub more : (before locals : List VType) → 1 ≤ length locals - length before → length locals - length before ≤ 3
    → before ≡ take (length before) locals
    → change_due before locals ≡ change.More (length locals - length before)
more before locals some few h =
    let not_same : same_types before locals ≡ false = is_false (same_types before locals)
    (same_types_Decides before locals)
    (λ e. let n : length before ≡ length locals = ap length e in absurd (omega (arith, n, some))) in
    let not_chop : is_chop before locals ≡ false = is_false (is_chop before locals) (chop_Decides before locals)
    (λ p. let n = p.0.0 in absurd (omega (arith, n, some))) in
    let appends : is_append before locals ≡ true = (append_Decides before locals).1 ((some, few), h) in
    rw (not_same, not_chop, appends) refl

-- none of the three
pub changed : (before locals : List VType) → (before ≡ locals → ⊥)
    → (length before - length locals ≤ 3 → locals ≡ take (length locals) before → ⊥)
    → (length locals - length before ≤ 3 → before ≡ take (length before) locals → ⊥)
    → change_due before locals ≡ change.Other
changed before locals s c a =
    let not_same : same_types before locals ≡ false =
    is_false (same_types before locals) (same_types_Decides before locals) s in
    let not_chop : is_chop before locals ≡ false =
    is_false (is_chop before locals) (chop_Decides before locals) (λ p. c p.0.1 p.1) in
    let not_append : is_append before locals ≡ false =
    is_false (is_append before locals) (append_Decides before locals) (λ p. a p.0.1 p.1) in
    rw (not_same, not_chop, not_append) refl

-- ---- as far as both go

-- some fewer, where the first ones agree
pub agree_fewer : (before locals : List VType) (m : ℕ) → length locals ≤ length before → m ≡ length locals
    → same_types (take m before) (take m locals) ≡ true → locals ≡ take (length locals) before
agree_fewer before locals m le is h =
    sym (take_all m locals (omega (arith, is))) ∙ sym ((same_types_Decides (take m before) (take m locals)).0 h)
    ∙ ap (λ (k : ℕ). take k before) is

pub agree_more : (before locals : List VType) (m : ℕ) → length before ≤ length locals → m ≡ length before
    → same_types (take m before) (take m locals) ≡ true → before ≡ take (length before) locals
agree_more before locals m le is h =
    sym (take_all m before (omega (arith, is))) ∙ (same_types_Decides (take m before) (take m locals)).0 h
    ∙ ap (λ (k : ℕ). take k locals) is

pub agree_all : (before locals : List VType) (m : ℕ) → m ≡ length before → m ≡ length locals
    → same_types (take m before) (take m locals) ≡ true → before ≡ locals
agree_all before locals m one other h =
    sym (take_all m before (omega (arith, one))) ∙ (same_types_Decides (take m before) (take m locals)).0 h
    ∙ take_all m locals (omega (arith, other))

-- none of the changes, where the first ones don't agree
pub disagree : (before locals : List VType) (m : ℕ) → m ≤ length before → m ≤ length locals
    → same_types (take m before) (take m locals) ≡ false → change_due before locals ≡ change.Other
disagree before locals m one other h =
    let refused : take m before ≡ take m locals → ⊥
    = λ e. let t = (same_types_Decides (take m before) (take m locals)).1 e in absurd cc in
    changed before locals (λ e. refused (ap (take m) e))
    (λ few e. refused (sym (take-take m (length locals) before other) ∙ sym (ap (take m) e)))
    (λ few e. refused (ap (take m) e ∙ take-take m (length before) locals one))

-- nor where there are many more or fewer
pub far : (before locals : List VType) → (length before - length locals ≤ 3 → length locals - length before ≤ 3 → ⊥)
    → change_due before locals ≡ change.Other
far before locals refused =
    changed before locals (λ e. let n : length before ≡ length locals = ap length e in refused (omega (arith, n))
    (omega (arith, n)))
    (λ few e. let n : length locals ≡ length (take (length locals) before) = ap length e in
    let short = length-take (length locals) before in refused few (omega (arith, n, short)))
    (λ few e. let n : length before ≡ length (take (length before) locals) = ap length e in
    let short = length-take (length before) locals in refused (omega (arith, n, short)) few)

-- ---- what is shared

-- lists that share their first types agree as far as they share them
pub agree_shared : (before locals : List VType) (len shared : ℕ) → len ≤ shared → take shared before
    ≡ take shared locals
    → true ≡ same_types (take len before) (take len locals)
agree_shared before locals len shared le h =
    sym ((same_types_Decides (take len before) (take len locals)).1
    (sym (take-take len shared before le) ∙ ap (take len) h ∙ take-take len shared locals le))

parted : (types : List VType) (len shared : ℕ) → shared ≤ len
    → take len types ≡ take shared types ++ take (len - shared) (drop shared types)
parted types len shared le =
    let n : shared + (len - shared) ≡ len = omega (arith, le) in
    sym (take-append-drop shared (take len types))
    ∙ ap (λ (front : List VType). front ++ drop shared (take len types)) (take-take shared len types le)
    ∙ ap (λ (k : ℕ). take shared types ++ drop shared (take k types)) (sym n)
    ∙ ap (λ (back : List VType). take shared types ++ back) (drop-take shared (len - shared) types)

-- further on what follows decides
pub agree_behind : (before locals : List VType) (len shared : ℕ) → shared ≤ len → take shared before
    ≡ take shared locals
    → same_types (take (len - shared) (drop shared before)) (take (len - shared) (drop shared locals))
    ≡ same_types (take len before) (take len locals)
agree_behind before locals len shared le h =
    let one = take (len - shared) (drop shared before) in
    let other = take (len - shared) (drop shared locals) in
    let all : take len before ≡ take shared before ++ one = parted before len shared le in
    let also : take len locals ≡ take shared before ++ other
    = parted locals len shared le ∙ ap (λ (front : List VType). front ++ other) (sym h) in
    same_from_decides (same_types one other) (same_types (take len before) (take len locals))
    (same_types_Decides one other)
    (Decides-like (same_types (take len before) (take len locals))
    (λ e. append_cancel_left (take shared before) one other (sym all ∙ e ∙ also))
    (λ e. all ∙ ap (λ (back : List VType). take shared before ++ back) e ∙ sym also)
    (same_types_Decides (take len before) (take len locals)))

-- ---- the form

-- the form of a change with an empty stack
abbrev pub form_for : List VType → List VType → Change → Form
form_for before locals change.Same = same
form_for before locals (change.Fewer gone) = chop gone
form_for before locals (change.More new) = append (drop (length before) locals)
form_for before locals change.Other = full locals []

form_by : (before locals : List VType) (s c a : Bool) (gone new : ℕ)
    → cond s same (cond c (chop gone) (cond a (append (drop (length before) locals)) (full locals [])))
    ≡ form_for before locals (cond s change.Same (cond c (change.Fewer gone) (cond a (change.More new) change.Other)))
form_by before locals true c a gone new = refl
form_by before locals false true a gone new = refl
form_by before locals false false true gone new = refl
form_by before locals false false false gone new = refl

pub form_without_items : (before locals : List VType)
    → form_of before locals [] ≡ form_for before locals (change_due before locals)
form_without_items before locals =
    form_by before locals (same_types before locals) (is_chop before locals) (is_append before locals)
    (length before - length locals) (length locals - length before)

-- ---- few

more_by : (s c a : Bool) (gone new n : ℕ)
    → cond s change.Same (cond c (change.Fewer gone) (cond a (change.More new) change.Other)) ≡ change.More n
    → (new ≡ n) × (a ≡ true)
more_by true c a gone new n h = absurd cc
more_by false true a gone new n h = absurd cc
more_by false false true gone new n h = (cc, refl)
more_by false false false gone new n h = absurd cc

-- as many are new
pub more_is : (before locals : List VType) (n : ℕ) → change_due before locals ≡ change.More n
    → length locals - n ≡ length before
more_is before locals n h =
    let by = more_by (same_types before locals) (is_chop before locals) (is_append before locals)
    (length before - length locals) (length locals - length before) n h in
    let some = ((append_Decides before locals).0 by.1).0.0 in
    omega (arith, by.0, some)

-- one item, where nothing changed
unchanged_by : (s c a : Bool) (gone new : ℕ)
    → cond s change.Same (cond c (change.Fewer gone) (cond a (change.More new) change.Other)) ≡ change.Same → s ≡ true
unchanged_by true c a gone new h = refl
unchanged_by false true a gone new h = absurd cc
unchanged_by false false true gone new h = absurd cc
unchanged_by false false false gone new h = absurd cc

pub form_with_item : (before locals : List VType) (item : VType) → change_due before locals ≡ change.Same
    → form_of before locals (item ∷ []) ≡ same_with_item item
form_with_item before locals item h =
    rw (unchanged_by (same_types before locals) (is_chop before locals) (is_append before locals)
    (length before - length locals) (length locals - length before) h) refl

changed_by : (s c a : Bool) (gone new : ℕ)
    → (cond s change.Same (cond c (change.Fewer gone) (cond a (change.More new) change.Other)) ≡ change.Same → ⊥)
    → s ≡ false
changed_by true c a gone new h = absurd (h refl)
changed_by false c a gone new h = refl

pub form_whole : (before locals : List VType) (item : VType) → (change_due before locals ≡ change.Same → ⊥)
    → form_of before locals (item ∷ []) ≡ full locals (item ∷ [])
form_whole before locals item h =
    rw (changed_by (same_types before locals) (is_chop before locals) (is_append before locals)
    (length before - length locals) (length locals - length before) h) refl

-- ---- forms are short

short_by : (before locals : List VType) (s c a : Bool) → is_chop before locals ≡ c → is_append before locals ≡ a
    → length locals < 2 ^ 16
    → IsShortForm (cond s same (cond c (chop (length before - length locals))
    (cond a (append (drop (length before) locals)) (full locals []))))
short_by before locals true c a hc ha lt = tt
short_by before locals false true a hc ha lt = ((chop_Decides before locals).0 hc).0.1
short_by before locals false false true hc ha lt =
    let n = length-drop (length before) locals in
    let few = ((append_Decides before locals).0 ha).0.1 in
    omega (arith, n, few)
short_by before locals false false false hc ha lt = (lt, omega arith)

short_item : (locals : List VType) (item : VType) (s : Bool) → length locals < 2 ^ 16
    → IsShortForm (cond s (same_with_item item) (full locals (item ∷ [])))
short_item locals item true lt = tt
short_item locals item false lt = (lt, omega arith)

pub forms_are_short : (before locals stack : List VType) → length locals < 2 ^ 16 → length stack < 2 ^ 16
    → IsShortForm (form_of before locals stack)
forms_are_short before locals [] lt few =
    short_by before locals (same_types before locals) (is_chop before locals) (is_append before locals) refl refl lt
forms_are_short before locals (item ∷ []) lt few = short_item locals item (same_types before locals) lt
forms_are_short before locals (item ∷ next ∷ stack) lt few = (lt, few)
