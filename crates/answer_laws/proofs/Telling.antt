-- What tells which act is legal is there for any acts: stretches of places, and targets that are moved.
use Rattle.std.proofs.Common.{◌≡◌, ◌≢◌, ◌⊎◌, inl, inr, ℕ, zero, suc, ◌+◌, ◌-◌, ◌≤◌, ◌<◌, ℤ, Bool, true, false, cond}
use Rattle.std.proofs.Common.{List, [], ◌∷◌, ◌++◌, length, Option, Some, None, refl, sym, ap, ◌∙◌, arith}
use Rattle.std.specs.Prelude.{◌&&◌, ◌||◌, ◌==◌, nat_le, nat_lt, slice_get, if◌then◌else◌}
use Rattle.std_collections.specs.Layout.BTreeMap.{btree_map}
use Rattle.std.specs.Cmp.{nat_cmp_is}
use Rattle.std.specs.Option.{option_or}
use Rattle.std.specs.Ordering.{is_eq, nat_cmp, ordering_then}
use Rattle.std.specs.declared.cmp.Ordering.{Ordering}
use Rattle.std.specs.declared.cmp.Ordering.TheVariants.{Less, Equal, Greater}
use Rattle.std.proofs.lemmas.Bool.Decides.{eqb_tells, leb_tells}
use Rattle.std.proofs.lemmas.Map.Lookups.{exact_unsigned}
use Rattle.std.proofs.lemmas.Option.{slice_get_within}
use Rattle.code_edit.specs.declared.act.Act.{Act}
use Rattle.code_edit.specs.declared.act.Act.TheVariants as act
use Rattle.const_tables.specs.declared.facts.Stretch.{Stretch}
use Rattle.const_tables.specs.FirstFacts.{AreFirst, first_from, names}
use Rattle.const_tables.specs.Stretches.{IsJoined, IsOrdered, first_in, is_up_to, next_of}
use Rattle.const_tables.proofs.Joining.{IsJoining, begins, ends, says, with_former, with_latter}
use Rattle.const_tables.proofs.Naming.{of_halves}
use Rattle.edit_tables.specs.declared.aims.Aims.{Aims}
use Rattle.edit_tables.specs.Aimed.{TellsAims, kept_aim, moved, target_order}

-- ---- two lists of stretches together

abbrev Joins : List Stretch → List Stretch → Type 0
Joins former latter = (all : List Stretch) × IsJoined former latter all

chosen : {X : Type 0} {u : X} (v : X) {b : Bool} → b ≡ true → (if b then u else v) ≡ u
chosen {u = u} v e = ap (λ b. if b then u else v) e

refused : {X : Type 0} (u : X) {v : X} {b : Bool} → b ≡ false → (if b then u else v) ≡ v
refused u {v} e = ap (λ b. if b then u else v) e

module _ (former latter : List Stretch) (of : IsOrdered former) (ol : IsOrdered latter) where
  -- what is left of both lists is no longer
  abbrev IsLeft : ℕ → ℕ → ℕ → Type 0
  IsLeft n one other = length former - one + (length latter - other) ≤ n

  abbrev More : ℕ → Type 0
  More n = (one other : ℕ) (first second : Option ℕ) (all : List Stretch)
      → IsJoining former latter one other first second all → IsLeft n one other → Joins former latter

  -- the lists are gone over within so many steps
  joins_within : (n one other : ℕ) (first second : Option ℕ) (all : List Stretch)
      → IsJoining former latter one other first second all → IsLeft n one other → Joins former latter
  joins_within zero one other first second all j few =
      by (slice_get former one) (slice_get latter other) refl refl
    where
      by : (a b : Option Stretch) → slice_get former one ≡ a → slice_get latter other ≡ b → Joins former latter
      by None None p q = (all, ends former latter one other first second all of ol j (λ i. next_of (p i) (q i)))
      by (Some x) b p q = absurd (let low = slice_get_within former one x p in omega (arith, low, few))
      by None (Some y) p q = absurd (let low = slice_get_within latter other y q in omega (arith, low, few))
  joins_within (suc n) one other first second all j few =
      by (joins_within n) (slice_get former one) (slice_get latter other) refl refl
    where
      by : More n → (a b : Option Stretch) → slice_get former one ≡ a → slice_get latter other ≡ b → Joins former latter
      by more None None p q = (all, ends former latter one other first second all of ol j (λ i. next_of (p i) (q i)))
      by more (Some x) None p q =
          let low = slice_get_within former one x p in
          more (one + 1) other x.first second (all ++ says x (option_or x.first second) ∷ [])
          (with_former former latter one other first second all of ol j x (λ i. next_of (p i) (q i)))
          (omega (arith, low, few))
      by more None (Some y) p q =
          let low = slice_get_within latter other y q in
          more one (other + 1) first y.first (all ++ says y (option_or first y.first) ∷ [])
          (with_latter former latter one other first second all of ol j y (λ i. next_of (p i) (q i)))
          (omega (arith, low, few))
      by more (Some x) (Some y) p q = either (is_up_to x y.slot y.at) refl
        where
          either : (c : Bool) → is_up_to x y.slot y.at ≡ c → Joins former latter
          either true e =
              let low = slice_get_within former one x p in
              more (one + 1) other x.first second (all ++ says x (option_or x.first second) ∷ [])
              (with_former former latter one other first second all of ol j x
              ((λ i. next_of (p i) (q i)) ∙ chosen _ e)) (omega (arith, low, few))
          either false e =
              let low = slice_get_within latter other y q in
              more one (other + 1) first y.first (all ++ says y (option_or first y.first) ∷ [])
              (with_latter former latter one other first second all of ol j y
              ((λ i. next_of (p i) (q i)) ∙ refused _ e)) (omega (arith, low, few))

  joined : Joins former latter
  joined = joins_within (length former - 0 + (length latter - 0)) 0 0 None None [] (begins former latter)
      (omega arith)

-- ---- the stretches of acts

abbrev pub HasFirst : ℕ → List Act → Type 0
HasFirst n acts = (stretches : List Stretch) × AreFirst n acts stretches

-- of an act that names no place
first_of_none : (n : ℕ) (a : Act) → ((slot at : ℕ) → names slot at a ≡ false) → HasFirst n (a ∷ [])
first_of_none n a none = (
  [],
  record {
    told = λ slot at. sym (ap (λ b. if b then Some n else None) (none slot at));
    ordered = tt;
  },
)

-- the tests on a place of a fact: above its slot, at it by either order, from its first index on, behind its last one,
-- and up to that one
module _ (n from to named : ℕ) (value : ℤ) where
  abbrev begin : Stretch
  begin = record { slot = named; at = from; first = Some n }

  abbrev end : Stretch
  end = record { slot = named; at = to + 1; first = None }

  abbrev fact : Act
  fact = act.Fact from to named value

  abbrev said : Bool → Bool → Bool → Bool → Option ℕ
  said more equal low behind =
      if more || (equal && low) then (if more || (equal && behind) then None else Some n) else None

  abbrev due : Bool → Bool → Bool → Option ℕ
  due equal low high = if equal && (low && high) then Some n else None

  abbrev Tells : ℕ → ℕ → Type 0
  Tells slot at = first_in None (begin ∷ end ∷ []) slot at ≡ first_from n (fact ∷ []) slot at

  tells_by : (slot at : ℕ) (more equal same low behind high : Bool) → nat_lt named slot ≡ more
      → (named == slot) ≡ equal → (slot == named) ≡ same → nat_le from at ≡ low → nat_le (to + 1) at ≡ behind
      → nat_le at to ≡ high → said more equal low behind ≡ due same low high → Tells slot at
  tells_by slot at more equal same low behind high m e s l b h agree =
      (λ i. said (m i) (e i) (l i) (b i)) ∙ agree ∙ sym (λ i. due (s i) (l i) (h i))

  in_slot : (slot at : ℕ) → nat_lt named slot ≡ false → (named == slot) ≡ true → (slot == named) ≡ true
      → ((nat_le from at ≡ true) × (from ≤ at)) ⊎ ((nat_le from at ≡ false) × (at < from))
      → ((nat_le (to + 1) at ≡ true) × (to + 1 ≤ at)) ⊎ ((nat_le (to + 1) at ≡ false) × (at < to + 1))
      → ((nat_le at to ≡ true) × (at ≤ to)) ⊎ ((nat_le at to ≡ false) × (to < at)) → Tells slot at
  in_slot slot at m e s (inr l) b h =
      tells_by slot at false true true false (nat_le (to + 1) at) (nat_le at to) m e s l.0 refl refl refl
  in_slot slot at m e s (inl l) (inl b) (inl h) = absurd (omega (arith, b.1, h.1))
  in_slot slot at m e s (inl l) (inl b) (inr h) =
      tells_by slot at false true true true true false m e s l.0 b.0 h.0 refl
  in_slot slot at m e s (inl l) (inr b) (inl h) =
      tells_by slot at false true true true false true m e s l.0 b.0 h.0 refl
  in_slot slot at m e s (inl l) (inr b) (inr h) = absurd (omega (arith, b.1, h.1))

  two_tell : (slot at : ℕ) → Tells slot at
  two_tell slot at = by (leb_tells (suc named) slot) (eqb_tells named slot) (eqb_tells slot named)
    where
      by : ((nat_le (suc named) slot ≡ true) × (suc named ≤ slot))
          ⊎ ((nat_le (suc named) slot ≡ false) × (slot < suc named))
          → (((named == slot) ≡ true) × (named ≡ slot)) ⊎ (((named == slot) ≡ false) × (named ≢ slot))
          → (((slot == named) ≡ true) × (slot ≡ named)) ⊎ (((slot == named) ≡ false) × (slot ≢ named)) → Tells slot at
      by (inl m) (inl e) s = absurd (omega (arith, m.1, e.1))
      by (inl m) (inr e) (inl s) = absurd (e.1 (sym s.1))
      by (inl m) (inr e) (inr s) = tells_by slot at true false false (nat_le from at) (nat_le (to + 1) at)
          (nat_le at to) m.0 e.0 s.0 refl refl refl refl
      by (inr m) (inl e) (inr s) = absurd (s.1 (sym e.1))
      by (inr m) (inl e) (inl s) = in_slot slot at m.0 e.0 s.0 (leb_tells from at) (leb_tells (to + 1) at)
          (leb_tells at to)
      by (inr m) (inr e) (inl s) = absurd (e.1 (sym s.1))
      by (inr m) (inr e) (inr s) = tells_by slot at false false false (nat_le from at) (nat_le (to + 1) at)
          (nat_le at to) m.0 e.0 s.0 refl refl refl refl

  ascends : from ≤ to → is_up_to begin named (to + 1) ≡ true
  ascends le = by (nat_lt named named) (eqb_tells named named) (leb_tells from (to + 1))
    where
      by : (b : Bool) → (((named == named) ≡ true) × (named ≡ named)) ⊎ (((named == named) ≡ false) × (named ≢ named))
          → ((nat_le from (to + 1) ≡ true) × (from ≤ to + 1)) ⊎ ((nat_le from (to + 1) ≡ false) × (to + 1 < from))
          → (b || (named == named && nat_le from (to + 1))) ≡ true
      by true e l = refl
      by false (inl e) (inl l) = λ i. e.0 i && l.0 i
      by false (inl e) (inr l) = absurd (omega (arith, l.1, le))
      by false (inr e) l = absurd (e.1 refl)

  never : to < from → (slot at : ℕ) → names slot at fact ≡ false
  never lt slot at = by (slot == named) (leb_tells from at) (leb_tells at to)
    where
      by : (b : Bool) → ((nat_le from at ≡ true) × (from ≤ at)) ⊎ ((nat_le from at ≡ false) × (at < from))
          → ((nat_le at to ≡ true) × (at ≤ to)) ⊎ ((nat_le at to ≡ false) × (to < at))
          → (b && (nat_le from at && nat_le at to)) ≡ false
      by false l h = refl
      by true (inr l) h = λ i. l.0 i && nat_le at to
      by true (inl l) (inr h) = λ i. l.0 i && h.0 i
      by true (inl l) (inl h) = absurd (omega (arith, lt, l.1, h.1))

  first_of_fact : HasFirst n (fact ∷ [])
  first_of_fact = by (leb_tells from to)
    where
      by : ((nat_le from to ≡ true) × (from ≤ to)) ⊎ ((nat_le from to ≡ false) × (to < from)) → HasFirst n (fact ∷ [])
      by (inl p) = (begin ∷ end ∷ [], record { told = two_tell; ordered = ((ascends p.1, tt), (tt, tt)) })
      by (inr p) = first_of_none n fact (never p.1)

first_of_one : (n : ℕ) (a : Act) → HasFirst n (a ∷ [])
first_of_one n (act.Fact from to named value) = first_of_fact n from to named value
first_of_one n (act.Drop from to) = first_of_none n (act.Drop from to) (λ slot at. refl)
first_of_one n (act.Fold at to) = first_of_none n (act.Fold at to) (λ slot place. refl)
first_of_one n (act.Cut at) = first_of_none n (act.Cut at) (λ slot place. refl)
first_of_one n (act.Aim at which to) = first_of_none n (act.Aim at which to) (λ slot place. refl)
first_of_one n (act.Skip at) = first_of_none n (act.Skip at) (λ slot place. refl)

pub first_of : (n : ℕ) (acts : List Act) → HasFirst n acts
first_of n [] = ([], record { told = λ slot at. refl; ordered = tt })
first_of n (a ∷ acts) =
    let former = first_of_one n a in
    let latter = first_of (n + 1) acts in
    let all = joined former.0 latter.0 former.1.ordered latter.1.ordered in
    (all.0, of_halves n 1 (a ∷ acts) (a ∷ []) acts former.0 latter.0 all.0 refl refl former.1 latter.1 all.1)

-- ---- targets that are moved

entries : List Act → List ((ℕ × ℕ) × ℕ)
entries [] = []
entries (act.Aim place number to ∷ acts) = ((place, number), to) ∷ entries acts
entries (a ∷ acts) = entries acts

pub aims_of : List Act → Aims
aims_of acts = record { table = btree_map (entries acts) (inl tt) }

equal : (a b : ℕ) → a ≡ b → nat_cmp a b ≡ Equal
equal a b e = sym (nat_cmp_is a b Equal e)

differ : (a b : ℕ) → a ≢ b → (o : Ordering) → nat_cmp a b ≡ o → is_eq o ≡ false
differ a b n Less e = refl
differ a b n Equal e = absurd (n (exact_unsigned a b e))
differ a b n Greater e = refl

apart : (a b : ℕ) (after : Ordering) → a ≢ b → (o : Ordering) → nat_cmp a b ≡ o
    → is_eq (ordering_then o after) ≡ false
apart a b after n Less e = refl
apart a b after n Equal e = absurd (n (exact_unsigned a b e))
apart a b after n Greater e = refl

-- two targets are one by their order just where their numbers are
same_target : (at which place number : ℕ)
    → is_eq (target_order (at, which) (place, number)) ≡ (at == place && which == number)
same_target at which place number = by (eqb_tells at place) (eqb_tells which number)
  where
    by : (((at == place) ≡ true) × (at ≡ place)) ⊎ (((at == place) ≡ false) × (at ≢ place))
        → (((which == number) ≡ true) × (which ≡ number)) ⊎ (((which == number) ≡ false) × (which ≢ number))
        → is_eq (target_order (at, which) (place, number)) ≡ (at == place && which == number)
    by (inl p) (inl q) =
        ap (λ o. is_eq (ordering_then o (nat_cmp which number))) (equal at place p.1)
        ∙ ap is_eq (equal which number q.1) ∙ sym (λ i. p.0 i && q.0 i)
    by (inl p) (inr q) =
        ap (λ o. is_eq (ordering_then o (nat_cmp which number))) (equal at place p.1)
        ∙ differ which number q.1 (nat_cmp which number) refl ∙ sym (λ i. p.0 i && q.0 i)
    by (inr p) q =
        apart at place (nat_cmp which number) p.1 (nat_cmp at place) refl
        ∙ sym (ap (λ b. b && which == number) p.0)

pub aims_told : (acts : List Act) → TellsAims (aims_of acts) acts
unfolding aims_of entries
aims_told [] at which = refl
aims_told (act.Aim place number to ∷ acts) at which =
    ap (λ b. cond b (Some to) (kept_aim (aims_of acts) at which)) (same_target at which place number)
    ∙ by (at == place && which == number) (aims_told acts at which)
  where
    by : (b : Bool) → kept_aim (aims_of acts) at which ≡ moved acts at which
        → cond b (Some to) (kept_aim (aims_of acts) at which)
        ≡ option_or (if b then Some to else None) (moved acts at which)
    by true rest = refl
    by false rest = rest
aims_told (act.Drop from to ∷ acts) at which = aims_told acts at which
aims_told (act.Fact from to slot value ∷ acts) at which = aims_told acts at which
aims_told (act.Fold place to ∷ acts) at which = aims_told acts at which
aims_told (act.Cut place ∷ acts) at which = aims_told acts at which
aims_told (act.Skip place ∷ acts) at which = aims_told acts at which
