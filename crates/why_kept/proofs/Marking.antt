-- An item is in the least closed set exactly where it has a derivation: where a set isn't closed, an item with a derivation
-- is missing, and is put into it.
use Rattle.std.proofs.Common.{◌≡◌, ◌⊎◌, ◌↔◌, inl, inr, ⊎_elim, ℕ, zero, suc, ◌+◌, ◌≤◌, ◌<◌, max, Bool, true, false, cond, IsTrue}
use Rattle.std.proofs.Common.{List, [], ◌∷◌, length, replicate, get_or, set, refl, sym, ap, subst, ◌∙◌, arith}
use Rattle.std.proofs.Common.{length-set}
use Rattle.std.specs.List.{All, Contains, sum_by}
use Rattle.std.proofs.lemmas.Bool.{cases_eq, cases_lt, both_ways}
use Rattle.std.proofs.lemmas.List.{get_or_past, get_or-replicate, length-replicate}
use Rattle.std.proofs.lemmas.List.Elements.{All-cons, All-contains, All-nil, Contains-get_or}
use Rattle.std.proofs.lemmas.List.Sums.{sum_by-set}
use Rattle.mark_core.specs.Marks.{Closed, IsMarked, needs_of, set_of}
use Rattle.mark_core.specs.Valid.{PairBelow, Valid}
use Rattle.mark_core.specs.declared.system.Pair.{Pair}
use Rattle.mark_core.specs.declared.system.System.{System}
use Rattle.mark_core.proofs.Sets.{set_fresh}
use Rattle.why_kept.specs.Derivations.{IsDerivation, IsDerivedAt, Tree, item_of, need, pair, pair_of, seed}
use Rattle.why_kept.specs.Laws.{AreMarkedByDerivations}
use Rattle.why_kept.specs.Levels.{AreLeast, HasLevel, level_of}
use Rattle.why_kept.proofs.Deriving.{need_derived, pair_derived, seed_derived}

-- ---- what a derivation derives is in each closed set

in_closed : (sys : System) (t : Tree) → IsDerivation sys t → IsMarked sys (item_of t)
in_closed sys (seed x) listed set closed = All-contains (λ y. IsTrue (set y)) sys.seeds x closed.seeds listed
in_closed sys (need x t) (listed, derives) set closed =
    All-contains (λ y. IsTrue (set y)) (needs_of sys (item_of t)) x
    (closed.needs (item_of t) (in_closed sys t derives set closed)) listed
in_closed sys (pair x t u) (listed, first, second) set closed =
    All-contains (λ (p : Pair). IsTrue (set p.one) → IsTrue (set p.two) → IsTrue (set p.derived)) sys.pairs
    (pair_of (item_of t) (item_of u) x) closed.pairs listed (in_closed sys t first set closed)
    (in_closed sys u second set closed)

-- the item has a derivation
abbrev pub IsDerived : System → ℕ → Type 0
IsDerived sys x = (depth : ℕ) × IsDerivedAt sys x depth

pub derived_marked : (sys : System) (x : ℕ) → IsDerived sys x → IsMarked sys x
derived_marked sys x (depth, by) = subst (IsMarked sys) by.item (in_closed sys by.tree by.derives)

seeds_due : (sys : System) → All (IsDerived sys) sys.seeds
seeds_due sys k d lt = (0, seed_derived sys (get_or sys.seeds k d) (Contains-get_or sys.seeds k d lt))

needs_due : (sys : System) (x : ℕ) → IsDerived sys x → All (IsDerived sys) (needs_of sys x)
needs_due sys x (depth, by) k d lt =
    (depth + 1, need_derived sys (get_or (needs_of sys x) k d) x depth by (Contains-get_or (needs_of sys x) k d lt))

derived_due : (sys : System) (p : Pair) → Contains sys.pairs p → IsDerived sys p.one → IsDerived sys p.two
    → IsDerived sys p.derived
derived_due sys p listed (d, one) (e, two) = (max d e + 1, pair_derived sys p d e one two listed)

-- ---- a test of each gives that it holds of all, or what the test gives where it doesn't

each_or : {X Q : Type 0} (Good P : X → Type 0) (xs : List X) → All Good xs → ((x : X) → Good x → P x ⊎ Q) → All P xs ⊎ Q
each_or Good P [] good test = inl (All-nil P)
each_or Good P (x ∷ xs) good test =
    ⊎_elim
    (λ first. ⊎_elim (λ rest. inl (All-cons P x xs first rest)) inr
    (each_or Good P xs (λ k d lt. good (suc k) d (omega (arith, lt))) test))
    inr
    (test x (good 0 x (omega arith)))

below_by : (P : ℕ → Type 0) (n : ℕ) → ((x : ℕ) → x < n → P x) → P n → (x : ℕ) → x < suc n → P x
below_by P n rest last x lt = ⊎_elim (λ same. subst P (sym same) last) (λ other. rest x (omega (arith, other, lt)))
    (cases_eq x n)

below_or : {Q : Type 0} (P : ℕ → Type 0) (n : ℕ) → ((x : ℕ) → x < n → P x ⊎ Q) → ((x : ℕ) → x < n → P x) ⊎ Q
below_or P zero test = inl (λ x lt. absurd (omega (arith, lt)))
below_or P (suc n) test =
    ⊎_elim
    (λ rest. ⊎_elim (λ last. inl (λ x lt. below_by P n rest last x lt)) inr (test n (omega arith)))
    inr
    (below_or P n (λ x lt. test x (omega (arith, lt))))

-- ---- what a set lacks

-- an item of those with derivations that isn't in this set
abbrev Lacks : System → List Bool → Type 0
Lacks sys marks = (x : ℕ) × (x < sys.n) × (set_of marks x ≡ false) × IsDerived sys x

has_by : (sys : System) (marks : List Bool) (x : ℕ) → x < sys.n → IsDerived sys x → (b : Bool) → set_of marks x ≡ b
    → IsTrue (set_of marks x) ⊎ Lacks sys marks
has_by sys marks x lt due true e = inl e
has_by sys marks x lt due false e = inr (x, lt, e, due)

module _ (sys : System) (valid : Valid sys) (marks : List Bool) (count : length marks ≡ sys.n)
    (due : (x : ℕ) → IsTrue (set_of marks x) → IsDerived sys x) where
  has : (x : ℕ) → x < sys.n → IsDerived sys x → IsTrue (set_of marks x) ⊎ Lacks sys marks
  has x lt is_due = has_by sys marks x lt is_due (set_of marks x) refl

  all_have : (xs : List ℕ) → All (λ x. x < sys.n) xs → All (IsDerived sys) xs
      → All (λ x. IsTrue (set_of marks x)) xs ⊎ Lacks sys marks
  all_have xs below are_due =
      each_or (λ x. (x < sys.n) × IsDerived sys x) (λ x. IsTrue (set_of marks x)) xs
      (λ k d lt. (below k d lt, are_due k d lt)) (λ x good. has x good.0 good.1)

  needs_by : (x : ℕ) → x < sys.n → (b : Bool) → set_of marks x ≡ b
      → (IsTrue (set_of marks x) → All (λ y. IsTrue (set_of marks y)) (needs_of sys x)) ⊎ Lacks sys marks
  needs_by x lt true e =
      ⊎_elim (λ all. inl (λ _. all)) inr
      (all_have (needs_of sys x) (valid.2 x [] (subst (λ k. x < k) (sym valid.0) lt)) (needs_due sys x (due x e)))
  needs_by x lt false e = inl (λ is. absurd (both_ways _ e is))

  needs_past : (x : ℕ) → sys.n ≤ x → IsTrue (set_of marks x) → ⊥
  needs_past x le is = both_ways _ (get_or_past marks x false (subst (λ k. k ≤ x) (sym count) le)) is

  needs_have : ((x : ℕ) → IsTrue (set_of marks x) → All (λ y. IsTrue (set_of marks y)) (needs_of sys x))
      ⊎ Lacks sys marks
  needs_have =
      ⊎_elim
      (λ below. inl (λ x is. ⊎_elim (λ lt. below x lt is) (λ le. absurd (needs_past x le is)) (cases_lt x sys.n)))
      inr
      (below_or (λ x. IsTrue (set_of marks x) → All (λ y. IsTrue (set_of marks y)) (needs_of sys x)) sys.n
      (λ x lt. needs_by x lt (set_of marks x) refl))

  pair_by : (p : Pair) → PairBelow sys.n p → Contains sys.pairs p → (b c : Bool) → set_of marks p.one ≡ b
      → set_of marks p.two ≡ c
      → (IsTrue (set_of marks p.one) → IsTrue (set_of marks p.two) → IsTrue (set_of marks p.derived))
      ⊎ Lacks sys marks
  pair_by p below listed true true e f =
      ⊎_elim (λ is. inl (λ _ _. is)) inr
      (has p.derived below.2 (derived_due sys p listed (due p.one e) (due p.two f)))
  pair_by p below listed false c e f = inl (λ one two. absurd (both_ways _ e one))
  pair_by p below listed true false e f = inl (λ one two. absurd (both_ways _ f two))

  pairs_have : All (λ p. IsTrue (set_of marks p.one) → IsTrue (set_of marks p.two)
      → IsTrue (set_of marks p.derived)) sys.pairs
      ⊎ Lacks sys marks
  pairs_have =
      each_or (λ p. PairBelow sys.n p × Contains sys.pairs p)
      (λ p. IsTrue (set_of marks p.one) → IsTrue (set_of marks p.two)
      → IsTrue (set_of marks p.derived)) sys.pairs
      (λ k d lt. (valid.3 k d lt, Contains-get_or sys.pairs k d lt))
      (λ p good. pair_by p good.0 good.1 (set_of marks p.one) (set_of marks p.two) refl refl)

  closed_or_lacks : Closed sys (set_of marks) ⊎ Lacks sys marks
  closed_or_lacks =
      ⊎_elim
      (λ seeds. ⊎_elim
      (λ needs. ⊎_elim (λ pairs. inl (record { seeds = seeds; needs = needs; pairs = pairs })) inr pairs_have)
      inr needs_have)
      inr
      (all_have sys.seeds valid.1 (seeds_due sys))

-- ---- the set that grows

abbrev left : List Bool → ℕ
left marks = sum_by (λ marked. cond marked 0 1) marks

fewer : (sys : System) (marks : List Bool) (lacks : Lacks sys marks) → length marks ≡ sys.n
    → left (set marks lacks.0 true) + 1 ≡ left marks
fewer sys marks lacks count =
    let f : Bool → ℕ = λ b. cond b 0 1 in
    let moved : left (set marks lacks.0 true) + f (get_or marks lacks.0 false) ≡ left marks + 0 =
    sum_by-set f marks lacks.0 true false (subst (λ k. lacks.0 < k) (sym count) lacks.1) in
    let was : f (get_or marks lacks.0 false) ≡ 1 = ap f lacks.2 in
    omega (arith, moved, was)

due_after : (sys : System) (marks : List Bool) (lacks : Lacks sys marks)
    → ((x : ℕ) → IsTrue (set_of marks x) → IsDerived sys x)
    → (x : ℕ) → IsTrue (set_of (set marks lacks.0 true) x) → IsDerived sys x
due_after sys marks lacks due x is =
    ⊎_elim (due x) (λ same. subst (IsDerived sys) same lacks.3) (set_fresh marks lacks.0 x is)

-- a closed set of items with derivations
record SomeClosed (sys : System) : Type 0 where
  marks : List Bool
  closed : Closed sys (set_of marks)
  derived : (x : ℕ) → IsTrue (set_of marks x) → IsDerived sys x

reach : (sys : System) → Valid sys → (fuel : ℕ) (marks : List Bool) → length marks ≡ sys.n
    → ((x : ℕ) → IsTrue (set_of marks x) → IsDerived sys x) → left marks ≤ fuel → SomeClosed sys
reach sys valid zero marks count due le =
    ⊎_elim
    (λ closed. record { marks = marks; closed = closed; derived = due })
    (λ lacks. let one = fewer sys marks lacks count in absurd (omega (arith, one, le)))
    (closed_or_lacks sys valid marks count due)
reach sys valid (suc fuel) marks count due le =
    ⊎_elim
    (λ closed. record { marks = marks; closed = closed; derived = due })
    (λ lacks. let one = fewer sys marks lacks count in
    reach sys valid fuel (set marks lacks.0 true) (length-set marks lacks.0 true ∙ count)
    (due_after sys marks lacks due) (omega (arith, one, le)))
    (closed_or_lacks sys valid marks count due)

none_marked : (n x : ℕ) → IsTrue (set_of (replicate n false) x) → ⊥
none_marked n x is =
    ⊎_elim
    (λ lt. both_ways _ (get_or-replicate n x false false lt) is)
    (λ le. both_ways _ (get_or_past (replicate n false) x false
    (subst (λ k. k ≤ x) (sym (length-replicate n false)) le)) is)
    (cases_lt x n)

some_closed : (sys : System) → Valid sys → SomeClosed sys
some_closed sys valid =
    reach sys valid (left (replicate sys.n false)) (replicate sys.n false) (length-replicate sys.n false)
    (λ x is. absurd (none_marked sys.n x is)) (omega arith)

pub marked_derived : (sys : System) (x : ℕ) → Valid sys → IsMarked sys x → IsDerived sys x
marked_derived sys x valid marked =
    let least = some_closed sys valid in least.derived x (marked (set_of least.marks) least.closed)

pub marked_by_derivations : AreMarkedByDerivations
marked_by_derivations sys x valid = (marked_derived sys x valid, derived_marked sys x)

-- an item has a least depth exactly where it is in the least closed set
pub levels_marked : (sys : System) (levels : List ℕ) (x : ℕ) → Valid sys → AreLeast sys levels
    → HasLevel sys levels x ↔ IsMarked sys x
levels_marked sys levels x valid least = (
  λ has. derived_marked sys x (level_of sys levels x, least.reached x has),
  λ marked.
      let by = (marked_derived sys x valid marked).1 in
      subst (HasLevel sys levels) by.item (least.bounds by.tree by.derives).0,
)
