-- Ranks of classes, from numbers of those in the set.
use Rattle.std.proofs.Common.{◌≡◌, ⊎_elim, ◌⊎◌, inl, inr, IsTrue, ℕ, zero, suc, ◌+◌, ◌<◌, ◌≤◌, Bool, true, false}
use Rattle.std.proofs.Common.{nat_lt, cond, List, [], ◌∷◌, length, get_or, Option, Some, None, refl, sym, ap, ◌∙◌}
use Rattle.std.proofs.Common.{subst, arith}
use Rattle.std.specs.List.{All, cons_option, filter_map, list_all}
use Rattle.std.specs.Option.{option_map}
use Rattle.std.proofs.lemmas.Bool.{cases_eq, cases_lt, lt-ltb, ltb-true, and_parts}
use Rattle.std.proofs.lemmas.List.Elements.{All-cons, All-nil}
use Rattle.std.proofs.lemmas.List.FromFn.{get_or-range_with_len, length-range_with_len}
use Rattle.class_model.specs.declared.class.Class.{Class}
use Rattle.lib_table.specs.Library.{library}
use Rattle.lib_table.specs.Lookups as table
use Rattle.lib_table.proofs.Classes.{holds_at}
use Rattle.class_pool.specs.declared.id.ClassId.{ClassId}
use Rattle.class_pool.specs.declared.id.ClassId.TheVariants.{Prog, Lib}
use Rattle.class_pool.specs.bodies.Cycles.{HasTest}
use Rattle.class_pool.specs.bodies.Graph.{above_library, library_ids}
use Rattle.class_pool.specs.Hierarchy.{IsClass}
use Rattle.class_pool.specs.Ranks.{HasRanks}
use Rattle.class_pool.specs.Supertypes.{IsProperSub, NoCycle, direct}
use Rattle.class_pool.proofs.Above.{lifted}
use Rattle.class_pool.proofs.EachOnce.{bool_cases}
use Rattle.class_pool.proofs.Directs.{direct_valid, proper_direct}

-- how many numbers below n pass a test
abbrev pub counted : (ℕ → Bool) → ℕ → ℕ
counted p zero = 0
counted p (suc n) = cond (p n) 1 0 + counted p n

one_most : (b : Bool) → cond b 1 0 ≤ 1
one_most true = omega arith
one_most false = omega arith

pub counted_most : (p : ℕ → Bool) (n : ℕ) → counted p n ≤ n
counted_most p zero = omega arith
counted_most p (suc n) = let one = one_most (p n) in let rest = counted_most p n in omega (arith, one, rest)

one_more : (a b : Bool) → (a ≡ true → b ≡ true) → cond a 1 0 ≤ cond b 1 0
one_more true true h = omega arith
one_more true false h = absurd (let e = h refl in cc)
one_more false true h = omega arith
one_more false false h = omega arith

one_less : (a b : Bool) → a ≡ false → b ≡ true → cond a 1 0 < cond b 1 0
one_less a b a-is b-is = rw (a-is, b-is) (omega arith)

counted_more : (p q : ℕ → Bool) (n : ℕ) → ((x : ℕ) → x < n → p x ≡ true → q x ≡ true) → counted p n ≤ counted q n
counted_more p q zero h = omega arith
counted_more p q (suc n) h =
    let here = one_more (p n) (q n) (h n (omega arith)) in
    let rest = counted_more p q n (λ x low is. h x (omega (arith, low)) is) in
    omega (arith, here, rest)

counted_less : (p q : ℕ → Bool) (n x : ℕ) → ((y : ℕ) → y < n → p y ≡ true → q y ≡ true) → x < n → p x ≡ false
    → q x ≡ true → counted p n < counted q n
counted_less p q zero x h low p-x q-x = absurd (omega (arith, low))
counted_less p q (suc n) x h low p-x q-x =
    let rest-h : (y : ℕ) → y < n → p y ≡ true → q y ≡ true = λ y y-low is. h y (omega (arith, y-low)) is in
    ⊎_elim
    (λ same.
    let here = one_less (p n) (q n) (ap p (sym same) ∙ p-x) (ap q (sym same) ∙ q-x) in
    let rest = counted_more p q n rest-h in
    omega (arith, here, rest))
    (λ other.
    let here = one_more (p n) (q n) (h n (omega arith)) in
    let rest = counted_less p q n x rest-h (omega (arith, low, other)) p-x q-x in
    omega (arith, here, rest))
    (cases_eq x n)

-- ---- ranks by numbers of the classes in the set

-- those of the library come first
abbrev pub rank_by : (ℕ → ℕ) → ClassId → ℕ
rank_by f (Lib id) = id
rank_by f (Prog n) = length library + f n

-- a class of the set has a lower number than this one; those of the library have lower ranks in any case
abbrev pub is_lower : (ℕ → ℕ) → ℕ → ClassId → Bool
is_lower f n b = lifted (λ m. nat_lt (f m) (f n)) b

lower_all : list_all (λ k. list_all (λ j. nat_lt j k) (above_library k)) library_ids ≡ true
unfolding library
lower_all = refl

lower_at : (id : ℕ) → id < length library → list_all (λ j. nat_lt j id) (above_library id) ≡ true
lower_at id within =
    let plain : 0 + id ≡ id = omega arith in
    let long = length-range_with_len 0 (length library) in
    subst (λ (k : ℕ). list_all (λ j. nat_lt j k) (above_library k) ≡ true)
    (get_or-range_with_len 0 (length library) id 0 within ∙ plain)
    (holds_at (λ k. list_all (λ j. nat_lt j k) (above_library k)) library_ids id 0 lower_all
    (omega (arith, within, long)))

lib_low : (f : ℕ → ℕ) (id : ℕ) (ns : List ℕ) → list_all (λ j. nat_lt j id) ns ≡ true
    → All (λ b. rank_by f b < id) (filter_map (λ i. Some (Lib i)) ns)
lib_low f id [] h = All-nil (λ b. rank_by f b < id)
lib_low f id (n ∷ ns) h =
    let parts = and_parts (nat_lt n id) (list_all (λ j. nat_lt j id) ns) h in
    All-cons (λ b. rank_by f b < id) (Lib n) (filter_map (λ i. Some (Lib i)) ns) (ltb-true n id parts.0)
    (lib_low f id ns parts.1)

super_low : (f : ℕ → ℕ) (id : ℕ) (o : Option ℕ) (ns : List ℕ)
    → list_all (λ j. nat_lt j id) (cons_option o ns) ≡ true
    → All (λ b. rank_by f b < id) (cons_option (option_map Lib o) (filter_map (λ i. Some (Lib i)) ns))
super_low f id None ns h = lib_low f id ns h
super_low f id (Some n) ns h =
    let parts = and_parts (nat_lt n id) (list_all (λ j. nat_lt j id) ns) h in
    All-cons (λ b. rank_by f b < id) (Lib n) (filter_map (λ i. Some (Lib i)) ns) (ltb-true n id parts.0)
    (lib_low f id ns parts.1)

lower_rank : (classes : List Class) (f : ℕ → ℕ) (n : ℕ) (b : ClassId) → IsClass classes b
    → IsTrue (is_lower f n b) → rank_by f b < rank_by f (Prog n)
lower_rank classes f n (Lib id) b-in h = omega (arith, b-in)
lower_rank classes f n (Prog m) b-in h = let less = ltb-true (f m) (f n) h in omega (arith, less)

pub has_ranks : (classes : List Class) (f : ℕ → ℕ) → ((n : ℕ) → n < length classes → f n ≤ length classes)
    → ((n : ℕ) → n < length classes → All (λ b. IsTrue (is_lower f n b)) (direct classes (Prog n)))
    → HasRanks classes
has_ranks classes f few low = record {
  rank = rank_by f;
  falls = falls;
  most = most;
}
  where
    falls : (a : ClassId) → IsClass classes a → All (λ b. rank_by f b < rank_by f a) (direct classes a)
    falls (Lib id) a-in = super_low f id (table.super_of id) (table.interfaces_of id) (lower_at id a-in)
    falls (Prog n) a-in =
        λ k d within.
        lower_rank classes f n (get_or (direct classes (Prog n)) k d) (direct_valid classes (Prog n) k d within)
        (low n a-in k d within)

    most : (a : ClassId) → IsClass classes a → rank_by f a ≤ length library + length classes
    most (Lib id) a-in = omega (arith, a-in)
    most (Prog n) a-in = let least = few n a-in in omega (arith, least)

-- ---- each class has more supertypes in the set than its supertypes have

pub proper_then : (classes : List Class) (a b c : ClassId) → IsProperSub classes a b → IsProperSub classes b c
    → IsProperSub classes a c
proper_then classes a b c first second set starts closed = second set (closed b (first set starts closed)) closed

module _ (classes : List Class) (tests : (n : ℕ) → n < length classes → HasTest classes n)
    (acyclic : NoCycle classes) where
  count_in : (n : ℕ) → (n < length classes) ⊎ (length classes ≤ n) → ℕ
  count_in n (inl within) = counted (tests n within).0 (length classes)
  count_in n (inr over) = 0

  count_most : (n : ℕ) (s : (n < length classes) ⊎ (length classes ≤ n)) → count_in n s ≤ length classes
  unfolding count_in
  count_most n (inl within) = counted_most (tests n within).0 (length classes)
  count_most n (inr over) = omega arith

  count_less : (n m : ℕ) (s : (n < length classes) ⊎ (length classes ≤ n))
      (t : (m < length classes) ⊎ (length classes ≤ m)) → n < length classes → m < length classes
      → IsProperSub classes (Prog n) (Prog m) → count_in m t < count_in n s
  unfolding count_in
  count_less n m (inl a) (inl b) n-in m-in proper =
      counted_less (tests m b).0 (tests n a).0 (length classes) m
      (λ y low is.
      ((tests n a).1 y low).1
      (proper_then classes (Prog n) (Prog m) (Prog y) proper (((tests m b).1 y low).0 is)))
      m-in
      (⊎_elim (λ is. absurd (acyclic m m-in (((tests m b).1 m m-in).0 is))) (λ is. is)
      (bool_cases ((tests m b).0 m)))
      (((tests n a).1 m m-in).1 proper)
  count_less n m (inr over) t n-in m-in proper = absurd (omega (arith, over, n-in))
  count_less n m (inl a) (inr over) n-in m-in proper = absurd (omega (arith, over, m-in))

  count_of : ℕ → ℕ
  count_of n = count_in n (cases_lt n (length classes))

  pub tests_rank : HasRanks classes
  unfolding count_of
  tests_rank = has_ranks classes count_of (λ n within. count_most n (cases_lt n (length classes))) low
    where
      lower : (n : ℕ) (b : ClassId) → n < length classes → IsClass classes b → IsProperSub classes (Prog n) b
          → IsTrue (is_lower count_of n b)
      lower n (Lib id) n-in b-in proper = refl
      lower n (Prog m) n-in b-in proper =
          lt-ltb (count_of m) (count_of n)
          (count_less n m (cases_lt n (length classes)) (cases_lt m (length classes)) n-in b-in proper)

      low : (n : ℕ) → n < length classes → All (λ b. IsTrue (is_lower count_of n b)) (direct classes (Prog n))
      low n n-in k d within =
          lower n (get_or (direct classes (Prog n)) k d) n-in (direct_valid classes (Prog n) k d within)
          (proper_direct classes (Prog n) k d within)
