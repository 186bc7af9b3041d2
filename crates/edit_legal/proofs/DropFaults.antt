-- Which act of reach is the first that isn't legal.
use Rattle.std.proofs.Common.{ℕ, zero, suc, ◌+◌, ◌-◌, ◌<◌, ◌≤◌, List, [], ◌∷◌, ◌++◌, Option}
use Rattle.std.proofs.Common.{Bool, true, false, ◌≡◌, ◌⊎◌, inl, inr, refl, sym, ap, ◌∙◌, subst}
use Rattle.std.proofs.Common.{arith}
use Rattle.std.specs.Prelude.{length, nat_eq, nat_le, nat_lt, not, ◌&&◌, ◌||◌}
use Rattle.std.specs.List.{AllByRecursion, list_any}
use Rattle.std.proofs.lemmas.Bool.Decides.{leb_tells}
use Rattle.jv_base.proofs.Lists.{any_at, any_where, got_right}
use Rattle.class_model.specs.declared.code.Code.{Code}
use Rattle.class_model.specs.declared.code.Ins.{Ins}
use Rattle.code_edit.specs.declared.act.Act.{Act}
use Rattle.code_edit.specs.declared.act.Act.TheVariants as act
use Rattle.code_edit.specs.declared.act.Pass.TheVariants as pass
use Rattle.code_edit.specs.Flow.{next_of, successors_of, targets}
use Rattle.code_edit.specs.Legal.{IsLegalAt, IsStillAimedAt, branch, entry}
use Rattle.code_edit.specs.Legal.{share_place}
use Rattle.code_edit.specs.Reach.{IsNeeded, drops, entered, first, is_left, led_to}
use Rattle.code_edit.specs.SoundCode.{IsPlaced, IsSound}
use Rattle.edit_premises.proofs.Places.{get_below}
use Rattle.edit_legal.specs.Dropped.{are_free, may_drop, needed, taking, with_drop, with_drops}
use Rattle.edit_legal.specs.Fault.{IsFault, fault_after}
use Rattle.edit_legal.proofs.Faults.{Prior, faults, shares_tells}
use Rattle.edit_tables.proofs.Naming.{IsLed, before, enters, led_long, led_tells, named}
use Rattle.edit_tables.proofs.Telling.{Tells, and_both, both, is_false, is_not, numbers_same}
use Rattle.edit_tables.proofs.Telling.{same_number, tells, told, un_not, untold}
use Rattle.edit_tables.specs.Marks.{has, none, put}
use Rattle.edit_tables.specs.Places.{lives_in}
use Rattle.edit_tables.specs.Swept.{swept_of}
use Rattle.edit_tables.proofs.Marking.{has_none, has_put, none_long, or_false, or_later, put_long}
use Rattle.edit_tables.proofs.Sweeping.{swept_is, swept_long}

-- ---- ranges

is_le : (a b : ℕ) → nat_le a b ≡ true → a ≤ b
is_le a b e = by (leb_tells a b)
  where
    by : ((nat_le a b ≡ true) × (a ≤ b)) ⊎ ((nat_le a b ≡ false) × (b < a)) → a ≤ b
    by (inl q) = q.1
    by (inr q) = absurd (let no : true ≡ false = sym e ∙ q.0 in cc)

le_is : (a b : ℕ) → a ≤ b → nat_le a b ≡ true
le_is a b le = by (leb_tells a b)
  where
    by : ((nat_le a b ≡ true) × (a ≤ b)) ⊎ ((nat_le a b ≡ false) × (b < a)) → nat_le a b ≡ true
    by (inl q) = q.0
    by (inr q) = absurd (omega (arith, le, q.1))

module _ (needed dropped : List Bool) where
  abbrev FreeAt : ℕ → Type 0
  FreeAt at = (has needed at ≡ false) × (has dropped at ≡ false)

  free_there : (n from : ℕ) → are_free needed dropped from n ≡ true → (at : ℕ) → from ≤ at
      → at < from + n → FreeAt at
  free_there zero from e at le lt = absurd (omega (arith, le, lt))
  free_there (suc n) from e at le lt =
      let x = both _ _ e in
      let y = both _ _ x.1 in
      by (leb_tells (suc from) at) (un_not _ x.0) (un_not _ y.0)
      (λ more. free_there n (suc from) y.1 at more (omega (arith, lt)))
    where
      by : ((nat_le (suc from) at ≡ true) × (suc from ≤ at))
          ⊎ ((nat_le (suc from) at ≡ false) × (at < suc from)) → has needed from ≡ false
          → has dropped from ≡ false → (suc from ≤ at → FreeAt at) → FreeAt at
      by (inl q) a b more = more q.1
      by (inr q) a b more =
          let same : from ≡ at = omega (arith, le, q.1) in
          (ap (has needed) (sym same) ∙ a, ap (has dropped) (sym same) ∙ b)

  there_free : (n from : ℕ) → ((at : ℕ) → from ≤ at → at < from + n → FreeAt at)
      → are_free needed dropped from n ≡ true
  there_free zero from each = refl
  there_free (suc n) from each =
      let here = each from (omega arith) (omega arith) in
      and_both _ _ (is_not _ here.0) (and_both _ _ (is_not _ here.1)
      (there_free n (suc from) (λ at le lt. each at (omega (arith, le)) (omega (arith, lt)))))

taking_long : (n from : ℕ) (ms : List Bool) → length (taking from n ms) ≡ length ms
taking_long zero from ms = refl
taking_long (suc n) from ms = taking_long n (suc from) (put from ms) ∙ put_long from ms

in_range : (n from at : ℕ)
    → (nat_eq at from || (nat_le (suc from) at && nat_lt at (suc from + n)))
    ≡ (nat_le from at && nat_lt at (from + suc n))
in_range n from at =
    let e : suc from + n ≡ from + suc n = omega arith in
    by (leb_tells (suc from) at) (leb_tells from at) (leb_tells (suc at) (from + suc n))
    ∙ ap (λ m. nat_le from at && nat_lt at m) refl
  where
    same : nat_lt at (suc from + n) ≡ nat_lt at (from + suc n)
    same = let e : suc from + n ≡ from + suc n = omega arith in ap (nat_lt at) e

    apart : (at ≡ from → ⊥) → nat_eq at from ≡ false
    apart n = is_false (nat_eq at from) (λ e. n (numbers_same at from e))

    by : ((nat_le (suc from) at ≡ true) × (suc from ≤ at))
        ⊎ ((nat_le (suc from) at ≡ false) × (at < suc from))
        → ((nat_le from at ≡ true) × (from ≤ at)) ⊎ ((nat_le from at ≡ false) × (at < from))
        → ((nat_lt at (from + suc n) ≡ true) × (suc at ≤ from + suc n))
        ⊎ ((nat_lt at (from + suc n) ≡ false) × (from + suc n < suc at))
        → (nat_eq at from || (nat_le (suc from) at && nat_lt at (suc from + n)))
        ≡ (nat_le from at && nat_lt at (from + suc n))
    by (inl p) (inl q) r =
        ap (λ b. b || (nat_le (suc from) at && nat_lt at (suc from + n)))
        (apart (λ e. omega (arith, e, p.1)))
        ∙ ap (λ b. b && nat_lt at (suc from + n)) p.0 ∙ same
        ∙ sym (ap (λ b. b && nat_lt at (from + suc n)) q.0)
    by (inl p) (inr q) r = absurd (omega (arith, p.1, q.1))
    by (inr p) (inl q) (inl r) =
        let e : at ≡ from = omega (arith, p.1, q.1) in
        ap (λ m. nat_eq m from || (nat_le (suc from) at && nat_lt at (suc from + n))) e
        ∙ ap (λ b. b || (nat_le (suc from) at && nat_lt at (suc from + n))) (same_number from)
        ∙ sym (and_both _ _ q.0 r.0)
    by (inr p) (inl q) (inr r) = absurd (omega (arith, p.1, q.1, r.1))
    by (inr p) (inr q) r =
        ap (λ b. b || (nat_le (suc from) at && nat_lt at (suc from + n)))
        (apart (λ e. omega (arith, e, q.1)))
        ∙ ap (λ b. b && nat_lt at (suc from + n)) p.0
        ∙ sym (ap (λ b. b && nat_lt at (from + suc n)) q.0)

none_in_range : (from at : ℕ) → (nat_le from at && nat_lt at (from + 0)) ≡ false
none_in_range from at = is_false _ (λ e.
    let x = both _ _ e in
    let a = is_le from at x.0 in
    let b = is_le (suc at) (from + 0) x.1 in omega (arith, a, b))

has_taking : (n from : ℕ) (ms : List Bool) (at : ℕ) → at < length ms
    → has (taking from n ms) at ≡ (has ms at || (nat_le from at && nat_lt at (from + n)))
has_taking zero from ms at lt =
    or_false (has ms at) ∙ ap (λ b. has ms at || b) (sym (none_in_range from at))
has_taking (suc n) from ms at lt =
    has_taking n (suc from) (put from ms) at (subst (λ m. at < m) (sym (put_long from ms)) lt)
    ∙ ap (λ b. b || (nat_le (suc from) at && nat_lt at (suc from + n))) (has_put from ms at lt)
    ∙ or_later (has ms at) (nat_eq at from) _
    ∙ ap (λ b. has ms at || b) (in_range n from at)

to_end : (from to at : ℕ)
    → (nat_le from at && nat_lt at (from + (to + 1 - from))) ≡ (nat_le from at && nat_le at to)
to_end from to at =
    by (leb_tells from at) (leb_tells (suc at) (from + (to + 1 - from))) (leb_tells at to)
  where
    by : ((nat_le from at ≡ true) × (from ≤ at)) ⊎ ((nat_le from at ≡ false) × (at < from))
        → ((nat_lt at (from + (to + 1 - from)) ≡ true) × (suc at ≤ from + (to + 1 - from)))
        ⊎ ((nat_lt at (from + (to + 1 - from)) ≡ false) × (from + (to + 1 - from) < suc at))
        → ((nat_le at to ≡ true) × (at ≤ to)) ⊎ ((nat_le at to ≡ false) × (to < at))
        → (nat_le from at && nat_lt at (from + (to + 1 - from)))
        ≡ (nat_le from at && nat_le at to)
    by p (inl q) (inl r) = ap (λ b. nat_le from at && b) (q.0 ∙ sym r.0)
    by p (inr q) (inr r) = ap (λ b. nat_le from at && b) (q.0 ∙ sym r.0)
    by (inl p) (inl q) (inr r) = absurd (omega (arith, p.1, q.1, r.1))
    by (inl p) (inr q) (inl r) = absurd (omega (arith, p.1, q.1, r.1))
    by (inr p) q r =
        ap (λ b. b && nat_lt at (from + (to + 1 - from))) p.0
        ∙ sym (ap (λ b. b && nat_le at to) p.0)

drop_long : (a : Act) (ms : List Bool) → length (with_drop a ms) ≡ length ms
drop_long (act.Drop from to) ms = taking_long (to + 1 - from) from ms
drop_long a ms = refl

has_drop : (a : Act) (ms : List Bool) (at : ℕ) → at < length ms
    → has (with_drop a ms) at ≡ (has ms at || drops at a)
has_drop (act.Drop from to) ms at lt =
    has_taking (to + 1 - from) from ms at lt ∙ ap (λ b. has ms at || b) (to_end from to at)
has_drop a ms at lt = or_false (has ms at)

has_drops : (acts : List Act) (ms : List Bool) (at : ℕ) → at < length ms
    → has (with_drops acts ms) at ≡ (has ms at || list_any (drops at) acts)
has_drops [] ms at lt = or_false (has ms at)
has_drops (a ∷ acts) ms at lt =
    has_drops acts (with_drop a ms) at (subst (λ n. at < n) (sym (drop_long a ms)) lt)
    ∙ ap (λ b. b || list_any (drops at) acts) (has_drop a ms at lt)
    ∙ or_later (has ms at) (drops at a) (list_any (drops at) acts)

drops_marked : (acts : List Act) (count at : ℕ) → at < count
    → has (with_drops acts (none count)) at ≡ list_any (drops at) acts
drops_marked acts count at lt =
    has_drops acts (none count) at (subst (λ n. at < n) (sym (none_long count)) lt)
    ∙ ap (λ b. b || list_any (drops at) acts) (has_none count at)

-- ---- what control needs

module _ (acts : List Act) (code : Code) (sound : IsSound code) where
  abbrev n : ℕ
  n = length code.ins

  abbrev left : List Bool
  left = swept_of acts n

  abbrev names : ℕ → Ins → List ℕ
  names at i = successors_of n at i.op

  abbrev first_mark : List Bool
  first_mark = put 0 (none n)

  mark_long : length first_mark ≡ n
  mark_long = put_long 0 (none n) ∙ none_long n

  first_is : (at : ℕ) → at < n → has first_mark at ≡ nat_eq at 0
  first_is at lt =
      has_put 0 (none n) at (subst (λ m. at < m) (sym (none_long n)) lt)
      ∙ ap (λ b. b || nat_eq at 0) (has_none n at)

  left_is : (at : ℕ) → at < n → lives_in left at ≡ is_left acts at
  left_is at lt = swept_is acts n at lt

  needs : (at : ℕ) → at < n → IsLed names left code (has first_mark at) at
      → IsNeeded acts code at
  needs at lt (before e) = first (numbers_same at 0 (sym (first_is at lt) ∙ e))
  needs at lt (named from k i e l s) =
      led_to from k i (sym (left_is from (get_below code.ins from i e)) ∙ l) e s
  needs at lt (enters k from h e f l c x) =
      let f' : from < n = subst (λ m. from < m) (swept_long acts n) f in
      entered k from h e f' (sym (left_is from f') ∙ l) c x

  leads : (at : ℕ) → at < n → IsNeeded acts code at
      → IsLed names left code (has first_mark at) at
  leads at lt (first e) =
      before (first_is at lt ∙ ap (λ m. nat_eq m 0) e ∙ same_number 0)
  leads at lt (led_to from k i l e s) =
      named from k i e (left_is from (get_below code.ins from i e) ∙ l) s
  leads at lt (entered k from h e f l c x) =
      enters k from h e (subst (λ m. from < m) (sym (swept_long acts n)) f)
      (left_is from f ∙ l) c x

  needed_tells : (at : ℕ) → at < n → Tells (has (needed acts code) at) (IsNeeded acts code at)
  needed_tells at lt =
      by (led_tells names left code
      (subst (λ m. AllByRecursion (IsPlaced m) code.handlers) (sym (swept_long acts n))
      sound.handlers)
      first_mark at (subst (λ m. at < m) (sym mark_long) lt))
    where
      by : Tells (has (needed acts code) at) (IsLed names left code (has first_mark at) at)
          → Tells (has (needed acts code) at) (IsNeeded acts code at)
      by (inl q) = inl (q.0, needs at lt q.1)
      by (inr q) = inr (q.0, λ x. q.1 (leads at lt x))

  -- what is still aimed at is needed
  aimed_needed : (at : ℕ) → IsStillAimedAt pass.Reach acts code at → IsNeeded acts code at
  aimed_needed at (branch from which i l e t) =
      let next = next_of n from i.op in
      led_to from (length next + which) i l e (got_right next (targets i.op) which ∙ t)
  aimed_needed at (entry k from h e lt l c x) = entered k from h e lt l c x

  list_long : length (needed acts code) ≡ n
  list_long =
      led_long names left code
      (subst (λ m. AllByRecursion (IsPlaced m) code.handlers) (sym (swept_long acts n))
      sound.handlers)
      first_mark 0 ∙ mark_long

  -- ---- one act

  -- a range that holds an index of another shares a place with it
  shared : (b : Act) (from to at : ℕ) → from ≤ at → at ≤ to → drops at b ≡ true
      → share_place b (act.Drop from to) ≡ true
  shared (act.Drop start end) from to at p q d =
      let x = both _ _ d in
      let a = is_le start at x.0 in
      let b = is_le at end x.1 in
      and_both (nat_le start to) (nat_le from end) (le_is start to (omega (arith, a, q)))
      (le_is from end (omega (arith, p, b)))
  shared b from to at p q d = absurd cc

  -- two ranges that share a place have an index in common, if each has one
  common : (j : ℕ) (b : Act) (from to : ℕ) → IsLegalAt pass.Reach acts code j b → from ≤ to
      → share_place b (act.Drop from to) ≡ true
      → (at : ℕ) × (from ≤ at) × (at ≤ to) × (drops at b ≡ true)
  common j (act.Drop start end) from to legal le s =
      let x = both _ _ s in
      let a = is_le start to x.0 in
      let b = is_le from end x.1 in
      by a b legal.0.0 (leb_tells start from)
    where
      by : start ≤ to → from ≤ end → start ≤ end
          → ((nat_le start from ≡ true) × (start ≤ from))
          ⊎ ((nat_le start from ≡ false) × (from < start))
          → (at : ℕ) × (from ≤ at) × (at ≤ to) × ((nat_le start at && nat_le at end) ≡ true)
      by a b c (inl q) = (
        from,
        omega arith,
        le,
        and_both _ _ q.0 (le_is from end b),
      )
      by a b c (inr q) = (
        start,
        omega (arith, q.1),
        a,
        and_both _ _ (le_is start start (omega arith)) (le_is start end c),
      )
  common j b from to legal le s = absurd legal.0

  abbrev may : List Act → Act → Bool
  may = may_drop (needed acts code)

  module _ (earlier rest : List Act) (from to : ℕ)
      (is : acts ≡ earlier ++ act.Drop from to ∷ rest) (prior : Prior pass.Reach acts code earlier)
    where
      abbrev a : Act
      a = act.Drop from to

      abbrev dropped : List Bool
      dropped = with_drops earlier (none (length (needed acts code)))

      abbrev count : ℕ
      count = to + 1 - from

      dropped_is : (at : ℕ) → at < n → has dropped at ≡ list_any (drops at) earlier
      dropped_is at lt =
          ap (λ m. has (with_drops earlier (none m)) at) list_long ∙ drops_marked earlier n at lt

      forth : may earlier a ≡ true → IsLegalAt pass.Reach acts code (length earlier) a
      forth e =
          let x = both _ _ e in
          let y = both _ _ x.0 in
          let le = is_le from to y.0 in
          let lt : to < n = subst (λ m. to < m) list_long (is_le (suc to) _ y.1) in
          let free : (at : ℕ) → from ≤ at → at ≤ to
          → (has (needed acts code) at ≡ false) × (has dropped at ≡ false) =
          λ at p q. free_there (needed acts code) dropped count from x.1 at p (omega (arith, p, q, le)) in
          let right : (from ≤ to) × (to < n)
          × ((at : ℕ) → from ≤ at → at ≤ to → IsNeeded acts code at → ⊥) =
          (le, lt, λ at p q need. untold _ _ (needed_tells at (omega (arith, q, lt))) (free at p q).0 need) in (
            right,
            told _ _ (shares_tells acts earlier rest a is) (is_not _ (is_false _ (λ s. alone le lt free s))),
            λ at d l aimed past.
                let z = both _ _ d in
                right.2 at (is_le from at z.0) (is_le at to z.1) (aimed_needed at aimed),
          )
        where
          alone : from ≤ to → to < n
              → ((at : ℕ) → from ≤ at → at ≤ to
              → (has (needed acts code) at ≡ false) × (has dropped at ≡ false))
              → list_any (λ (b : Act). share_place b a) earlier ≡ true → ⊥
          alone le lt free s =
              let x = any_where (λ (b : Act). share_place b a) earlier s in
              let c = common x.0 x.1 from to (prior x.0 x.1 x.2) le x.3 in
              let there : list_any (drops c.0) earlier ≡ true =
              any_at (drops c.0) earlier x.0 x.1 x.2 c.3 in
              let no : true ≡ false =
              sym there ∙ sym (dropped_is c.0 (omega (arith, c.2, lt))) ∙ (free c.0 c.1 c.2).1 in
              cc

      back : IsLegalAt pass.Reach acts code (length earlier) a → may earlier a ≡ true
      back legal =
          let le = legal.0.0 in
          let lt = legal.0.1 in
          and_both _ _
          (and_both _ _ (le_is from to le)
          (le_is (suc to) _ (subst (λ m. suc to ≤ m) (sym list_long) (omega (arith, lt)))))
          (there_free (needed acts code) dropped count from (λ at p q.
          let below : at ≤ to = omega (arith, p, q, le) in
          let inside : at < n = omega (arith, below, lt) in (
            is_false _ (λ e. legal.0.2 at p below (told _ _ (needed_tells at inside) e)),
            is_false _ (λ e.
                let x = any_where (drops at) earlier (sym (dropped_is at inside) ∙ e) in
                let s = shared x.1 from to at p below x.3 in
                let any = any_at (λ (b : Act). share_place b a) earlier x.0 x.1 x.2 s in
                untold _ _ (shares_tells acts earlier rest a is)
                (ap not any) legal.1),
          )))

  one_tells : (earlier rest : List Act) (a : Act) → acts ≡ earlier ++ a ∷ rest
      → Prior pass.Reach acts code earlier
      → Tells (may earlier a) (IsLegalAt pass.Reach acts code (length earlier) a)
  one_tells earlier rest (act.Drop from to) is prior =
      tells _ _ (forth earlier rest from to is prior) (back earlier rest from to is prior)
  one_tells earlier rest (act.Fact from to slot value) is prior = inr (refl, λ legal. absurd legal.0)
  one_tells earlier rest (act.Fold at to) is prior = inr (refl, λ legal. absurd legal.0)
  one_tells earlier rest (act.Cut at) is prior = inr (refl, λ legal. absurd legal.0)
  one_tells earlier rest (act.Aim at which to) is prior = inr (refl, λ legal. absurd legal.0)
  one_tells earlier rest (act.Skip at) is prior = inr (refl, λ legal. absurd legal.0)

pub drop_fault_is : (acts : List Act) (code : Code) (list : List Bool) (fault : Option ℕ)
    → IsSound code → list ≡ needed acts code → fault ≡ fault_after (may_drop list) 0 [] acts
    → IsFault pass.Reach acts code fault
drop_fault_is acts code list fault sound e f =
    subst (IsFault pass.Reach acts code)
    (sym (f ∙ ap (λ (xs : List Bool). fault_after (may_drop xs) 0 [] acts) e))
    (faults pass.Reach acts code (may_drop (needed acts code)) (one_tells acts code sound))
