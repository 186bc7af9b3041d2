-- The search once an item was taken, at the start of a round, and at the end.
use Rattle.std.proofs.Common.{◌≡◌, ◌⊎◌, ◌+◌, ◌*◌, ◌<◌, ◌≤◌, ℕ, List, [], ◌∷◌, ◌++◌, inl, inr, ⊎_elim, ◌∙◌, refl, sym, subst}
use Rattle.std.proofs.Common.{ap, arith, length, get_or, replicate}
use Rattle.std.specs.List.{All, Contains, sum_by}
use Rattle.std.proofs.lemmas.Bool.{cases_eq, cases_lt}
use Rattle.std.proofs.lemmas.List.Elements.{All-contains, All-weaker, Contains-append_cases, Contains-append_left}
use Rattle.std.proofs.lemmas.List.Elements.{All-nil, Contains-append_right, Contains-push_cases}
use Rattle.std.proofs.lemmas.List.Folds.{sum_by-replicate}
use Rattle.std.proofs.lemmas.List.{get_or-replicate, get_or_default, get_or_past, length-replicate}
use Rattle.mark_core.specs.Marks.{needs_of}
use Rattle.mark_core.specs.declared.system.Pair.{Pair}
use Rattle.mark_core.specs.declared.system.System.{System}
use Rattle.why_kept.specs.Derivations.{IsDerivedAt}
use Rattle.why_kept.specs.Levels.{IsCertified, level_of_pair}
use Rattle.why_kept.specs.declared.search.Search.{Search}
use Rattle.why_kept.specs.bodies.ByItem.{HasItem, IsByItem, pairs_at}
use Rattle.why_kept.specs.bodies.Searching.{AreNear, ArePairsNear, ArePresent, Grows, Has, IsDone, IsNearBy, IsNext, IsOpen}
use Rattle.why_kept.specs.bodies.Searching.{IsSound, left, level_in}
use Rattle.why_kept.proofs.Finding.{none_at, none_is}
use Rattle.why_kept.proofs.Growing.{near_grows}

-- ---- the pairs of an item

-- an item of each of them has the level before this one
pub next_of : (sys : System) (old new : Search) (level x : ℕ) (lists : List (List Pair)) → IsByItem sys lists
    → level_in sys old x + 1 ≡ level → level ≤ sys.n → Grows sys old new → All (IsNext sys new level) (pairs_at lists x)
next_of sys old new level x lists index before le grows =
    let has : Has sys old x = omega (arith, before, le) in
    let same = grows.keeps x has in
    let next : level_in sys new x + 1 ≡ level = omega (arith, same, before) in
    All-weaker (λ pair. Contains sys.pairs pair × HasItem x pair) (IsNext sys new level)
    (λ pair is. ⊎_elim (λ e. inl (subst (λ y. level_in sys new y + 1 ≡ level) (sym e) next))
    (λ e. inr (subst (λ y. level_in sys new y + 1 ≡ level) (sym e) next)) is.1)
    (pairs_at lists x) (index.listed x)

pub pairs_near : (sys : System) (new : Search) (level x : ℕ) (lists : List (List Pair)) → IsByItem sys lists
    → All (IsNearBy sys new level) (pairs_at lists x) → ArePairsNear sys new level x
pairs_near sys new level x lists index near k d lt of =
    let pair : Pair = get_or sys.pairs k d in
    ⊎_elim
    (λ e. All-contains (IsNearBy sys new level) (pairs_at lists x) pair near
    (subst (λ y. Contains (pairs_at lists y) pair) e (index.one k d lt)))
    (λ e. All-contains (IsNearBy sys new level) (pairs_at lists x) pair near
    (subst (λ y. Contains (pairs_at lists y) pair) e (index.two k d lt)))
    of

-- ---- an item was taken

-- x was the last of the present items, and what it makes due was found
module _ (sys : System) (old new : Search) (level x : ℕ) (present rest : List ℕ)
    (opened : IsOpen sys level (present ++ old.found.items) old) (popped : present ≡ rest ++ x ∷ [])
    (before : level_in sys old x + 1 ≡ level) (le : level ≤ sys.n) (sound : IsSound sys level new)
    (grows : Grows sys old new) (needs : AreNear sys new level (needs_of sys x))
    (pairs : ArePairsNear sys new level x) where
  abbrev waiting : List ℕ
  waiting = rest ++ new.found.items

  found_waits : (y : ℕ) → Contains new.found.items y → Contains waiting y
  found_waits y w = Contains-append_right rest new.found.items y w

  waits : (y : ℕ) → Contains (present ++ old.found.items) y → Contains waiting y ⊎ (x ≡ y)
  waits y w = ⊎_elim
      (λ here. ⊎_elim (λ stays. inl (Contains-append_left rest new.found.items y stays)) inr
      (Contains-push_cases rest x y (subst (λ l. Contains l y) popped here)))
      (λ there. inl (found_waits y (grows.waits y there)))
      (Contains-append_cases present old.found.items y w)

  was : (y : ℕ) → Has sys new y → Has sys old y ⊎ Contains waiting y
  was y has = ⊎_elim inl (λ w. inr (found_waits y w)) (grows.fresh y has)

  had_x : Has sys old x
  had_x = omega (arith, before, le)

  still : level_in sys new x + 1 ≡ level
  still = let same = grows.keeps x had_x in omega (arith, same, before)

  -- an item that doesn't wait has a level before this one
  waits_or_before : (y : ℕ) → Has sys new y → Contains waiting y ⊎ (level_in sys new y < level)
  waits_or_before y has =
      let most = sound.up_to y has in
      ⊎_elim (λ same. inl (found_waits y (sound.last y has same))) (λ other. inr (omega (arith, other, most)))
      (cases_eq (level_in sys new y) level)

  by_taken : (pair : Pair) → level_in sys new pair.one + 1 ≡ level ⊎ level_in sys new pair.two + 1 ≡ level
      → IsNearBy sys new level pair → IsDone sys new waiting pair
  by_taken pair next near one two =
      ⊎_elim inl
      (λ low_one. ⊎_elim (λ w. inr (inl w))
      (λ low_two.
      let derived : level_in sys new pair.derived ≤ level = near low_one low_two in
      inr (inr (⊎_elim (λ e. omega (arith, e, derived)) (λ e. omega (arith, e, derived)) next)))
      (waits_or_before pair.two two))
      (waits_or_before pair.one one)

  needs_after : (y : ℕ) → Has sys new y
      → Contains waiting y ⊎ AreNear sys new (level_in sys new y + 1) (needs_of sys y)
  needs_after y has = ⊎_elim
      (λ had. ⊎_elim
      (λ w. ⊎_elim inl
      (λ taken. inr (subst (λ z. AreNear sys new (level_in sys new z + 1) (needs_of sys z)) taken
      (subst (λ k. AreNear sys new k (needs_of sys x)) (sym still) needs)))
      (waits y w))
      (λ near. inr (subst (λ k. AreNear sys new (k + 1) (needs_of sys y)) (sym (grows.keeps y had))
      (near_grows sys old new (level_in sys old y + 1) (needs_of sys y) grows near)))
      (opened.needs y had))
      inl (was y has)

  pair_after : (pair : Pair) → IsDone sys old (present ++ old.found.items) pair
      → (HasItem x pair → IsNearBy sys new level pair) → IsDone sys new waiting pair
  pair_after pair done near one two =
      ⊎_elim
      (λ had_one. ⊎_elim
      (λ had_two. ⊎_elim
      (λ w. ⊎_elim inl (λ e. taken_one e) (waits pair.one w))
      (λ rest. ⊎_elim
      (λ w. ⊎_elim (λ v. inr (inl v)) (λ e. taken_two e) (waits pair.two w))
      (λ derived.
      let same_one = grows.keeps pair.one had_one in
      let same_two = grows.keeps pair.two had_two in
      let lower = grows.lower pair.derived in
      inr (inr (rw (same_one, same_two) (omega (arith, lower, derived)))))
      rest)
      (done had_one had_two))
      (λ w. inr (inl w)) (was pair.two two))
      inl (was pair.one one)
    where
      taken_one : x ≡ pair.one → Contains waiting pair.one
          ⊎ (Contains waiting pair.two ⊎ (level_in sys new pair.derived ≤ level_of_pair sys new.levels.items pair + 1))
      taken_one e = by_taken pair (inl (subst (λ z. level_in sys new z + 1 ≡ level) e still)) (near (inl (sym e))) one two

      taken_two : x ≡ pair.two → Contains waiting pair.one
          ⊎ (Contains waiting pair.two ⊎ (level_in sys new pair.derived ≤ level_of_pair sys new.levels.items pair + 1))
      taken_two e = by_taken pair (inr (subst (λ z. level_in sys new z + 1 ≡ level) e still)) (near (inr (sym e))) one two

  pub open_after : IsOpen sys level (rest ++ new.found.items) new
  open_after = record {
    sound = sound;
    seeds = All-weaker (λ y. level_in sys old y ≡ 0) (λ y. level_in sys new y ≡ 0)
        (λ y is. let lower = grows.lower y in omega (arith, lower, is)) sys.seeds opened.seeds;
    needs = needs_after;
    pairs = λ k d lt. pair_after (get_or sys.pairs k d) (opened.pairs k d lt) (pairs k d lt);
  }

no_items : (l : List ℕ) → length l ≡ 0 → l ≡ []
no_items [] e = refl
no_items (x ∷ xs) e = absurd (omega (arith, e))

pub none_left : (sys : System) (level : ℕ) (present : List ℕ) (search : Search)
    → IsOpen sys level (present ++ search.found.items) search → length present ≡ 0
    → IsOpen sys level search.found.items search
none_left sys level present search opened empty =
    subst (λ l. IsOpen sys level (l ++ search.found.items) search) (no_items present empty) opened

-- ---- a round begins

-- the items that were found last are present now, and none is found yet
module _ (sys : System) (old new : Search) (level : ℕ) (opened : IsOpen sys level old.found.items old)
    (levels : new.levels.items ≡ old.levels.items) (none : new.found.items ≡ []) where
  same : (y : ℕ) → level_in sys new y ≡ level_in sys old y
  same y = ap (λ l. get_or l y sys.n) levels

  had : (y : ℕ) → Has sys new y → Has sys old y
  had y has = subst (λ k. k < sys.n) (same y) has

  waits_still : (y : ℕ) → Contains old.found.items y → Contains (old.found.items ++ new.found.items) y
  waits_still y w = Contains-append_left old.found.items new.found.items y w

  sound_round : IsSound sys (level + 1) new
  sound_round = record {
    count = ap length levels ∙ opened.sound.count;
    most = λ y. subst (λ k. k ≤ sys.n) (sym (same y)) (opened.sound.most y);
    up_to = λ y has. let le = opened.sound.up_to y (had y has) in let e = same y in omega (arith, e, le);
    last = λ y has is. let le = opened.sound.up_to y (had y has) in let e = same y in absurd (omega (arith, e, le, is));
    found = subst (λ l. All (λ y. (y < sys.n) × (level_in sys new y ≡ level + 1)) l) (sym none)
        (All-nil (λ y. (y < sys.n) × (level_in sys new y ≡ level + 1)));
    derived = λ y has. subst (IsDerivedAt sys y) (sym (same y)) (opened.sound.derived y (had y has));
  }

  done_round : (pair : Pair) → IsDone sys old old.found.items pair
      → IsDone sys new (old.found.items ++ new.found.items) pair
  done_round pair done one two =
      let same_one = same pair.one in
      let same_two = same pair.two in
      let same_derived = same pair.derived in
      ⊎_elim (λ w. inl (waits_still pair.one w))
      (λ rest. ⊎_elim (λ w. inr (inl (waits_still pair.two w)))
      (λ derived. inr (inr (rw (same_one, same_two, same_derived) derived))) rest)
      (done (had pair.one one) (had pair.two two))

  pub open_round : IsOpen sys (level + 1) (old.found.items ++ new.found.items) new
  open_round = record {
    sound = sound_round;
    seeds = All-weaker (λ y. level_in sys old y ≡ 0) (λ y. level_in sys new y ≡ 0) (λ y is. same y ∙ is) sys.seeds
        opened.seeds;
    needs = λ y has. ⊎_elim (λ w. inl (waits_still y w))
        (λ near. inr (rw (same y) (All-weaker (λ z. level_in sys old z ≤ level_in sys old y + 1)
        (λ z. level_in sys new z ≤ level_in sys old y + 1) (λ z le. subst (λ k. k ≤ level_in sys old y + 1) (sym (same z)) le)
        (needs_of sys y) near)))
        (opened.needs y (had y has));
    pairs = λ k d lt. done_round (get_or sys.pairs k d) (opened.pairs k d lt);
  }

  pub present_round : ArePresent sys (level + 1) old.found.items new
  present_round = All-weaker (λ y. (y < sys.n) × (level_in sys old y ≡ level))
      (λ y. (y < sys.n) × (level_in sys new y + 1 ≡ level + 1))
      (λ y is. (is.0, ap (λ k. k + 1) (same y ∙ is.1))) old.found.items opened.sound.found

-- ---- the search begins

-- no item has a level yet
module _ (sys : System) (search : Search) (levels : search.levels.items ≡ replicate sys.n sys.n)
    (none : search.found.items ≡ []) where
  unset : (y : ℕ) → level_in sys search y ≡ sys.n
  unset y = ap (λ l. get_or l y sys.n) levels
      ∙ ⊎_elim (λ lt. get_or-replicate sys.n y sys.n sys.n lt)
      (λ le. get_or_past (replicate sys.n sys.n) y sys.n (subst (λ k. k ≤ y) (sym (length-replicate sys.n sys.n)) le))
      (cases_lt y sys.n)

  none_has : (y : ℕ) → Has sys search y → ⊥
  none_has y has = let e = unset y in omega (arith, e, has)

  pub sound_first : IsSound sys 0 search
  sound_first = record {
    count = ap length levels ∙ length-replicate sys.n sys.n;
    most = λ y. let e = unset y in omega (arith, e);
    up_to = λ y has. absurd (none_has y has);
    last = λ y has is. absurd (none_has y has);
    found = subst (λ l. All (λ y. (y < sys.n) × (level_in sys search y ≡ 0)) l) (sym none)
        (All-nil (λ y. (y < sys.n) × (level_in sys search y ≡ 0)));
    derived = λ y has. absurd (none_has y has);
  }

  pub left_first : left sys search ≡ sys.n
  left_first =
      let sums = ap (sum_by (none_at sys)) levels ∙ sum_by-replicate (none_at sys) sys.n sys.n in
      let one = none_is sys sys.n refl in
      let empty = ap length none in
      let times : sys.n * none_at sys sys.n ≡ sys.n = rw one (omega arith) in
      omega (arith, sums, empty, times)

  pub open_first : (new : Search) → IsSound sys 0 new → Grows sys search new → AreNear sys new 0 sys.seeds
      → IsOpen sys 0 new.found.items new
  open_first new sound grows seeds = record {
    sound = sound;
    seeds = All-weaker (λ y. level_in sys new y ≤ 0) (λ y. level_in sys new y ≡ 0) (λ y le. omega (arith, le)) sys.seeds
        seeds;
    needs = λ y has. ⊎_elim (λ had. absurd (none_has y had)) inl (grows.fresh y has);
    pairs = λ k d lt one two. ⊎_elim (λ had. absurd (none_has _ had)) inl (grows.fresh _ one);
  }

-- ---- the search ends

pub certified_at_end : (sys : System) (search : Search) (level : ℕ) → IsOpen sys level search.found.items search
    → length search.found.items ≡ 0 → IsCertified sys search.levels.items
certified_at_end sys search level opened empty =
    let idle : (x : ℕ) → Contains search.found.items x
    → ⊥ = λ x w. (let lt : w.0 < length search.found.items = w.1 in omega (arith, lt, empty)) in
    record {
      count = opened.sound.count;
      seeds = opened.seeds;
      needs = λ x lt has. ⊎_elim (λ w. absurd (idle x w)) (λ near. near) (opened.needs x has);
      pairs = λ k d lt one two. ⊎_elim (λ w. absurd (idle _ w))
          (λ rest. ⊎_elim (λ w. absurd (idle _ w)) (λ near. near) rest) (opened.pairs k d lt one two);
    }

pub most_all : (sys : System) (search : Search) (level : ℕ) → IsSound sys level search
    → All (λ l. l ≤ sys.n) search.levels.items
most_all sys search level sound k d lt =
    subst (λ l. l ≤ sys.n) (get_or_default search.levels.items k sys.n d lt) (sound.most k)
