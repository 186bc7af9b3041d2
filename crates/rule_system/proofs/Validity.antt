-- The system of a set is a valid one, and how many needs and pairs it may have at most.
use Rattle.std.proofs.Common.{◌≡◌, ℕ, zero, suc, ◌+◌, ◌*◌, ◌<◌, ◌≤◌, ◌==◌, ◌&&◌, not, Bool, true, false, cond, List}
use Rattle.std.proofs.Common.{[], ◌∷◌}
use Rattle.std.proofs.Common.{inl, inr, ◌⊎◌, nat_lt, All, length, map, slice_get, Option, Some, None, refl, ap}
use Rattle.std.proofs.Common.{subst, ◌∙◌, arith, length-append}
use Rattle.std.specs.Prelude.{IfSome}
use Rattle.std.specs.List.{AllByRecursion, cons_option, enumerate_from, filter, filter_map, flat_map, range_with_len}
use Rattle.std.specs.List.{sum_by}
use Rattle.std.specs.Option.{option_and_then, option_map_or}
use Rattle.std.proofs.lemmas.List.{length-map}
use Rattle.std.proofs.lemmas.List.FromFn.{length-enumerate_from}
use Rattle.std.proofs.lemmas.List.Elements.{All-from_recursion}
use Rattle.std.proofs.lemmas.List.Sums.{sum_by-cons}
use Rattle.std.proofs.lemmas.Option.{slice_get_within}
use Rattle.std.proofs.lemmas.Bool.{and_parts}
use Rattle.link_check.proofs.Methods.{rows_count}
use Rattle.jv_base.proofs.Lists.{all_append, found_at, length-filter_map, all_mapped}
use Rattle.mark_core.specs.Valid.{PairBelow, Valid}
use Rattle.mark_core.specs.declared.system.Pair.{Pair}
use Rattle.class_model.specs.Flags.{is_interface}
use Rattle.class_model.specs.declared.class.Class.{Class}
use Rattle.class_model.specs.declared.class.Field.{Field}
use Rattle.class_model.specs.declared.class.Method.{Method}
use Rattle.class_pool.specs.Count.{item_count, items_of}
use Rattle.class_pool.specs.Supers.{is_below}
use Rattle.class_pool.specs.Walk.{same_class}
use Rattle.class_pool.specs.Found.{MemberRow, is_instance_method, is_instance_row}
use Rattle.class_pool.specs.Found.{is_private_member, row_at, rows_in, same_member}
use Rattle.class_pool.specs.Items.{class_item, item_of}
use Rattle.class_pool.specs.Selection.{selected}
use Rattle.class_pool.specs.declared.id.ClassId.{ClassId}
use Rattle.class_pool.specs.declared.id.ClassId.TheVariants.{Prog, Lib}
use Rattle.class_pool.specs.declared.id.MemberAt.{MemberAt}
use Rattle.class_pool.proofs.Counting.{classes_counted, class_item-next, class_item-le}
use Rattle.require_sys.specs.Requires.{Item, OfClass, OfMember, ascending, class_needs, class_number, class_pairs}
use Rattle.require_sys.specs.Requires.{class_wants, field_wants, is_inheritable, members_of, method_wants}
use Rattle.require_sys.specs.Requires.{methods_above}
use Rattle.require_sys.specs.Requires.{needs_of, number_of, numbers, pair_from, pair_of, program_supers, put, requires}
use Rattle.item_needs.specs.bodies.Asked.{AreMembers}
use Rattle.require_sys.specs.declared.kept.KeptByRules.{KeptByRules}
use Rattle.item_numbers.proofs.Ascending.{Rising, rising_ascending}
use Rattle.require_sys.proofs.Numbering.{member_below, needs_long}
use Rattle.rule_system.proofs.There.{AreThere, IsThere, MemberThere, class_there, each_option}
use Rattle.rule_system.proofs.There.{field_there, method_wants_there, selected_there}

-- ---- numbers of items

class_below : (classes : List Class) (n : ℕ) → n < length classes → class_item classes n < item_count classes
class_below classes n lt =
    let there = found_at classes n lt in
    let next = class_item-next classes n there.0 there.1 in
    let most = class_item-le classes (n + 1) in
    omega (arith, next, most)

member_item_below : (classes : List Class) (m : MemberAt) → MemberThere classes m
    → IfSome (item_of classes m) (λ x. x < item_count classes)
member_item_below classes m there = by m.class there
  where
    by : (c : ClassId) → m.index < length (rows_in classes c)
        → IfSome (item_of classes (record { class = c; index = m.index })) (λ x. x < item_count classes)
    by (Prog n) h = member_below classes n m.index h
    by (Lib id) h = tt

number_below : (classes : List Class) (x : Item) → IsThere classes x
    → IfSome (number_of classes x) (λ k. k < item_count classes)
number_below classes (OfClass (Prog n)) h = class_below classes n h
number_below classes (OfClass (Lib id)) h = tt
number_below classes (OfMember m) h = member_item_below classes m h

module _ (classes : List Class) where
  abbrev Below : ℕ → Type 0
  Below x = x < item_count classes

  numbers_below : (items : List Item) → AreThere classes items → AllByRecursion Below (numbers classes items)
  numbers_below [] h = tt
  numbers_below (x ∷ items) h = by (number_of classes x) (number_below classes x h.0) (numbers_below items h.1)
    where
      by : (o : Option ℕ) → IfSome o Below → AllByRecursion Below (numbers classes items)
          → AllByRecursion Below (cons_option o (numbers classes items))
      by None k r = r
      by (Some y) k r = (k, r)

  below_put : (x : ℕ) (ys : List ℕ) → Below x → AllByRecursion Below ys → AllByRecursion Below (put x ys)
  below_put x [] h k = (h, tt)
  below_put x (y ∷ ys) h k = by (nat_lt x y) (x == y) (below_put x ys h k.1)
    where
      by : (less same : Bool) → AllByRecursion Below (put x ys)
          → AllByRecursion Below (cond less (x ∷ (y ∷ ys)) (cond same (y ∷ ys) (y ∷ put x ys)))
      by true same r = (h, k)
      by false true r = k
      by false false r = (k.0, r)

  below_ascending : (xs : List ℕ) → AllByRecursion Below xs → AllByRecursion Below (ascending xs)
  below_ascending [] h = tt
  below_ascending (x ∷ xs) h = below_put x (ascending xs) h.0 (below_ascending xs h.1)

  below_filter : (p : ℕ → Bool) (xs : List ℕ) → AllByRecursion Below xs → AllByRecursion Below (filter p xs)
  below_filter p [] h = tt
  below_filter p (x ∷ xs) h = by (p x) (below_filter p xs h.1)
    where
      by : (b : Bool) → AllByRecursion Below (filter p xs)
          → AllByRecursion Below (cond b (x ∷ filter p xs) (filter p xs))
      by true r = (h.0, r)
      by false r = r

  needs_below : (own : ℕ) (wants : List Item) → AreThere classes wants
      → AllByRecursion Below (needs_of classes own wants)
  needs_below own wants h =
      below_filter (λ x. not (x == own)) (ascending (numbers classes wants))
      (below_ascending (numbers classes wants) (numbers_below wants h))

  -- so none is longer than there are items
  rising_short : (k m : ℕ) (xs : List ℕ) → AllByRecursion (λ x. k ≤ x) xs → AllByRecursion (λ x. x < m) xs → Rising xs
      → k + length xs ≤ m ⊎ (xs ≡ [])
  rising_short k m [] low high r = inr refl
  rising_short k m (x ∷ []) low high r = inl (omega (arith, low.0, high.0))
  rising_short k m (x ∷ (y ∷ xs)) low high r =
      elim (rising_short (k + 1) m (y ∷ xs) (lows (y ∷ xs) r.0) high.1 r.1) [
        | inl e ↦ inl (omega (arith, e))
        | inr e ↦ absurd cc
      ]
    where
      lows : (ys : List ℕ) → AllByRecursion (λ z. x < z) ys → AllByRecursion (λ z. k + 1 ≤ z) ys
      lows [] h = tt
      lows (z ∷ zs) h = (omega (arith, h.0, low.0), lows zs h.1)

  any_low : (xs : List ℕ) → AllByRecursion (λ x. 0 ≤ x) xs
  any_low [] = tt
  any_low (x ∷ xs) = (omega arith, any_low xs)

  short : (xs : List ℕ) → AllByRecursion Below xs → Rising xs → length xs ≤ item_count classes
  short xs below rising = elim (rising_short 0 (item_count classes) xs (any_low xs) below rising) [
    | inl e ↦ omega (arith, e)
    | inr e ↦ let none = ap length e in omega (arith, none)
  ]

  filter_short : (p : ℕ → Bool) (xs : List ℕ) → length (filter p xs) ≤ length xs
  filter_short p [] = omega arith
  filter_short p (x ∷ xs) = by (p x) (filter_short p xs)
    where
      by : (b : Bool) → length (filter p xs) ≤ length xs
          → length (cond b (x ∷ filter p xs) (filter p xs)) ≤ length (x ∷ xs)
      by true h = omega (arith, h)
      by false h = omega (arith, h)

  needs_short : (own : ℕ) (wants : List Item) → AreThere classes wants
      → length (needs_of classes own wants) ≤ item_count classes
  needs_short own wants h =
      let one = filter_short (λ x. not (x == own)) (ascending (numbers classes wants)) in
      let two = short (ascending (numbers classes wants)) (below_ascending (numbers classes wants)
      (numbers_below wants h))
      (rising_ascending (numbers classes wants)) in
      omega (arith, one, two)

-- ---- needs

each_of : {X : Type 0} (P : X → Type 0) (xs : List X) → ((x : X) → P x) → AllByRecursion P xs
each_of P [] h = tt
each_of P (x ∷ xs) h = (h x, each_of P xs h)

abbrev IsFine : List Class → List ℕ → Type 0
IsFine classes xs = AllByRecursion (Below classes) xs × (length xs ≤ item_count classes)

module _ (classes : List Class) (kept : KeptByRules) (members : AreMembers classes kept.members) where
  fine : (own : ℕ) (wants : List Item) → AreThere classes wants → IsFine classes (needs_of classes own wants)
  fine own wants h = (needs_below classes own wants h, needs_short classes own wants h)

  class_fine : (n : ℕ) (c : Class) → n < length classes → AllByRecursion (IsFine classes) (class_needs classes kept
      (n, c))
  class_fine n c lt = (
    fine (class_item classes n) (class_wants classes kept n c) (class_there classes kept members n c),
    all_append (IsFine classes) fields methods
        (all_mapped (IsFine classes) of_field (enumerate_from 0 c.fields)
        (each_of (λ p. IsFine classes (of_field p)) (enumerate_from 0 c.fields)
        (λ p. fine (class_item classes n + 1 + p.0) (field_wants classes n p.1) (field_there classes n p.1 lt))))
        (all_mapped (IsFine classes) of_method (enumerate_from (length c.fields) c.methods)
        (each_of (λ p. IsFine classes (of_method p)) (enumerate_from (length c.fields) c.methods)
        (λ p. fine (class_item classes n + 1 + p.0) (method_wants classes n kept p.1)
        (method_wants_there classes n kept p.1 lt)))),
  )
    where
      of_field : ℕ × Field → List ℕ
      of_field = λ p. needs_of classes (class_item classes n + 1 + p.0) (field_wants classes n p.1)

      of_method : ℕ × Method → List ℕ
      of_method = λ p. needs_of classes (class_item classes n + 1 + p.0) (method_wants classes n kept p.1)

      fields : List (List ℕ)
      fields = map of_field (enumerate_from 0 c.fields)

      methods : List (List ℕ)
      methods = map of_method (enumerate_from (length c.fields) c.methods)

  all_fine : (k : ℕ) (cs : List Class) → k + length cs ≤ length classes
      → AllByRecursion (IsFine classes) (flat_map (class_needs classes kept) (enumerate_from k cs))
  all_fine k [] h = tt
  all_fine k (c ∷ cs) h =
      all_append (IsFine classes) (class_needs classes kept (k, c))
      (flat_map (class_needs classes kept) (enumerate_from (k + 1) cs))
      (class_fine k c (omega (arith, h))) (all_fine (k + 1) cs (omega (arith, h)))

pub flat_long : {X : Type 0} (f : ℕ × Class → List X) → ((n : ℕ) (c : Class) → length (f (n, c)) ≡ items_of c)
    → (k : ℕ) (cs : List Class) → length (flat_map f (enumerate_from k cs)) ≡ item_count cs
flat_long f each k [] = refl
flat_long f each k (c ∷ cs) =
    let both = length-append (f (k, c)) (flat_map f (enumerate_from (k + 1) cs)) in
    let rest = flat_long f each (k + 1) cs in
    let sum = sum_by-cons items_of c cs in
    omega (arith, both, each k c, rest, sum)

most_needs : (m : ℕ) (lists : List (List ℕ)) → m ≤ 1048576 → AllByRecursion (λ xs. length xs ≤ m) lists
    → sum_by length lists ≤ 1048576 * length lists
most_needs m [] low h = omega arith
most_needs m (xs ∷ lists) low h =
    let sum = sum_by-cons length xs lists in
    let rest = most_needs m lists low h.1 in
    omega (arith, sum, rest, h.0, low)

firsts : {X : Type 0} (P Q : X → Type 0) (xs : List X) → AllByRecursion (λ x. P x × Q x) xs → AllByRecursion P xs
firsts P Q [] h = tt
firsts P Q (x ∷ xs) h = (h.0.0, firsts P Q xs h.1)

seconds : {X : Type 0} (P Q : X → Type 0) (xs : List X) → AllByRecursion (λ x. P x × Q x) xs → AllByRecursion Q xs
seconds P Q [] h = tt
seconds P Q (x ∷ xs) h = (h.0.1, seconds P Q xs h.1)

-- the needs of all items can be counted
pub needs_counted : (classes : List Class) (kept : KeptByRules) → AreMembers classes kept.members
    → item_count classes ≤ 1048576 → sum_by length (requires classes kept).needs < 18446744073709551616
needs_counted classes kept members few =
    let lists = (requires classes kept).needs in
    let most = most_needs (item_count classes) lists few
    (seconds (λ xs. AllByRecursion (Below classes) xs) (λ xs. length xs ≤ item_count classes) lists
    (all_fine classes kept members 0 classes (omega arith))) in
    let long = flat_long (class_needs classes kept) (needs_long classes kept) 0 classes in
    omega (arith, most, long, few)

-- ---- pairs

passed_short : {X : Type 0} (p : X → Bool) (xs : List X) → length (filter p xs) ≤ length xs
passed_short p [] = omega arith
passed_short p (x ∷ xs) = by (p x) (passed_short p xs)
  where
    by : (b : Bool) → length (filter p xs) ≤ length xs → length (cond b (x ∷ filter p xs) (filter p xs)) ≤ length
        (x ∷ xs)
    by true h = omega (arith, h)
    by false h = omega (arith, h)

members_long : (classes : List Class) (x : ClassId) → length (members_of classes x) ≡ length (rows_in classes x)
members_long classes x =
    length-map (enumerate_from 0 (rows_in classes x)) (λ (p : ℕ × MemberRow). record { class = x; index = p.0 })
    ∙ length-enumerate_from 0 (rows_in classes x)

above_short : (classes : List Class) (t : ClassId → Bool) (s : ℕ) (cs : List Class)
    → ((k : ℕ) (c : Class) → slice_get cs k ≡ Some c → slice_get classes (s + k) ≡ Some c)
    → length (flat_map (members_of classes) (filter t (map (λ p. Prog p.0) (enumerate_from s cs)))) ≤ item_count cs
above_short classes t s [] at = omega arith
above_short classes t s (c ∷ cs) at = by (t (Prog s)) (above_short classes t (s + 1) cs next)
  where
    next : (k : ℕ) (d : Class) → slice_get cs k ≡ Some d → slice_get classes (s + 1 + k) ≡ Some d
    next k d is = let e : s + suc k ≡ s + 1 + k = omega arith in
        subst (λ (j : ℕ). slice_get classes j ≡ Some d) e (at (suc k) d is)

    rest : List ClassId
    rest = filter t (map (λ p. Prog p.0) (enumerate_from (s + 1) cs))

    by : (b : Bool) → length (flat_map (members_of classes) rest) ≤ item_count cs
        → length (flat_map (members_of classes) (cond b (Prog s ∷ rest) rest)) ≤ item_count (c ∷ cs)
    by true h =
        let zeroth : s + 0 ≡ s = omega arith in
        let own = members_long classes (Prog s) in
        let few = rows_count classes s c (subst (λ (j : ℕ). slice_get classes j ≡ Some c) zeroth (at 0 c refl)) in
        let both = length-append (members_of classes (Prog s)) (flat_map (members_of classes) rest) in
        let sum = sum_by-cons items_of c cs in
        omega (arith, h, own, few, both, sum)
    by false h = let sum = sum_by-cons items_of c cs in omega (arith, h, sum)

module _ (classes : List Class) where
  class_pairs_short : (n : ℕ) (c : Class) → length (class_pairs classes (n, c)) ≤ item_count classes
  class_pairs_short n c = by (is_interface c.flags.0)
    where
      with : MemberAt → Option Pair
      with = λ m. option_and_then (pair_of classes (Prog n) m) (selected classes (Prog n) m)

      by : (b : Bool) → length (cond b [] (filter_map with (methods_above classes (Prog n)))) ≤ item_count classes
      by true = omega arith
      by false =
          let one = length-filter_map with (methods_above classes (Prog n)) in
          let two = passed_short (is_inheritable classes) (flat_map (members_of classes) (program_supers classes
          (Prog n))) in
          let three = above_short classes (λ y. is_below classes (Prog n) y && not (same_class (Prog n) y)) 0 classes
          (λ k d is. let e : k ≡ 0 + k = omega arith in subst (λ (j : ℕ). slice_get classes j ≡ Some d) e is) in
          omega (arith, one, two, three)

  pairs_short : (k : ℕ) (cs : List Class) → item_count classes ≤ 1048576
      → length (flat_map (class_pairs classes) (enumerate_from k cs)) ≤ 1048576 * length cs
  pairs_short k [] few = omega arith
  pairs_short k (c ∷ cs) few =
      let both = length-append (class_pairs classes (k, c)) (flat_map (class_pairs classes) (enumerate_from
      (k + 1) cs)) in
      let one = class_pairs_short k c in
      let rest = pairs_short (k + 1) cs few in
      omega (arith, both, one, rest, few)

  -- the pairs of all classes can be counted
  pub pairs_counted : item_count classes ≤ 1048576
      → length (flat_map (class_pairs classes) (enumerate_from 0 classes)) < 18446744073709551616
  pairs_counted few =
      let most = pairs_short 0 classes few in
      let low = classes_counted classes in
      omega (arith, most, low, few)

  -- ---- a pair names items

  instance_there : (m : MemberAt) → is_instance_method classes m ≡ true → MemberThere classes m
  instance_there m h = by (row_at classes m) refl h
    where
      by : (o : Option MemberRow) → row_at classes m ≡ o → option_map_or is_instance_row o false ≡ true
          → MemberThere classes m
      by None e k = absurd cc
      by (Some row) e k = slice_get_within (rows_in classes m.class) m.index row e

  from_below : (n : ℕ) (two derived : Option ℕ) → n < item_count classes → IfSome two (Below classes)
      → IfSome derived (Below classes) → IfSome (pair_from classes (Some n) two derived) (PairBelow
      (item_count classes))
  from_below n (Some x) (Some y) h k l = (h, k, l)
  from_below n (Some x) None h k l = tt
  from_below n None (Some y) h k l = tt
  from_below n None None h k l = tt

  pair_below : (n : ℕ) (m : MemberAt) → n < length classes → is_inheritable classes m ≡ true
      → IfSome (option_and_then (pair_of classes (Prog n) m) (selected classes (Prog n) m)) (PairBelow
      (item_count classes))
  pair_below n m lt inherited = by (selected classes (Prog n) m) (selected_there classes (Prog n) m)
    where
      there : MemberThere classes m
      there = instance_there m
          (and_parts (is_instance_method classes m) (not (is_private_member classes m)) inherited).0

      other : (s : MemberAt) (b : Bool) → MemberThere classes s
          → IfSome (cond b None (pair_from classes (class_number classes (Prog n)) (item_of classes m)
          (item_of classes s)))
          (PairBelow (item_count classes))
      other s true h = tt
      other s false h =
          from_below (class_item classes n) (item_of classes m) (item_of classes s) (class_below classes n lt)
          (member_item_below classes m there) (member_item_below classes s h)

      by : (o : Option MemberAt) → IfSome o (MemberThere classes)
          → IfSome (option_and_then (pair_of classes (Prog n) m) o) (PairBelow (item_count classes))
      by None h = tt
      by (Some s) h = other s (same_member s m) h

  given_if : {X Y : Type 0} (P : Y → Type 0) (f : X → Option Y) (p : X → Bool) (xs : List X)
      → ((x : X) → p x ≡ true → IfSome (f x) P) → AllByRecursion P (filter_map f (filter p xs))
  given_if P f p [] h = tt
  given_if P f p (x ∷ xs) h = by (p x) refl (given_if P f p xs h)
    where
      by : (b : Bool) → p x ≡ b → AllByRecursion P (filter_map f (filter p xs))
          → AllByRecursion P (filter_map f (cond b (x ∷ filter p xs) (filter p xs)))
      by true e r = each_option P (f x) (filter_map f (filter p xs)) (h x e) r
      by false e r = r

  class_pairs_below : (n : ℕ) (c : Class) → n < length classes
      → AllByRecursion (PairBelow (item_count classes)) (class_pairs classes (n, c))
  class_pairs_below n c lt = by (is_interface c.flags.0)
    where
      with : MemberAt → Option Pair
      with = λ m. option_and_then (pair_of classes (Prog n) m) (selected classes (Prog n) m)

      by : (b : Bool) → AllByRecursion (PairBelow (item_count classes))
          (cond b [] (filter_map with (methods_above classes (Prog n))))
      by true = tt
      by false =
          given_if (PairBelow (item_count classes)) with (is_inheritable classes)
          (flat_map (members_of classes) (program_supers classes (Prog n))) (λ m h. pair_below n m lt h)

  pairs_below : (k : ℕ) (cs : List Class) → k + length cs ≤ length classes
      → AllByRecursion (PairBelow (item_count classes)) (flat_map (class_pairs classes) (enumerate_from k cs))
  pairs_below k [] h = tt
  pairs_below k (c ∷ cs) h =
      all_append (PairBelow (item_count classes)) (class_pairs classes (k, c))
      (flat_map (class_pairs classes) (enumerate_from (k + 1) cs))
      (class_pairs_below k c (omega (arith, h))) (pairs_below (k + 1) cs (omega (arith, h)))

-- ---- the system

range_below : (s n m : ℕ) → s + n ≤ m → AllByRecursion (λ x. x < m) (range_with_len s n)
range_below s zero m h = tt
range_below s (suc n) m h = (omega (arith, h), range_below (s + 1) n m (omega (arith, h)))

pub system_valid : (classes : List Class) (kept : KeptByRules) → AreMembers classes kept.members
    → All (λ x. x < item_count classes) kept.seeds → Valid (requires classes kept)
system_valid classes kept members seeds = (
  flat_long (class_needs classes kept) (needs_long classes kept) 0 classes,
  by kept.shrink,
  All-from_recursion (λ xs. All (λ x. x < item_count classes) xs) (requires classes kept).needs
      (turned (requires classes kept).needs
      (firsts (λ xs. AllByRecursion (Below classes) xs) (λ xs. length xs ≤ item_count classes)
      (requires classes kept).needs (all_fine classes kept members 0 classes (omega arith)))),
  All-from_recursion (PairBelow (item_count classes)) (requires classes kept).pairs
      (pairs_below classes 0 classes (omega arith)),
)
  where
    by : (b : Bool)
        → All (λ x. x < item_count classes) (cond b kept.seeds (range_with_len 0 (item_count classes)))
    by true = seeds
    by false =
        All-from_recursion (λ x. x < item_count classes) (range_with_len 0 (item_count classes))
        (range_below 0 (item_count classes) (item_count classes) (omega arith))

    turned : (lists : List (List ℕ)) → AllByRecursion (λ xs. AllByRecursion (Below classes) xs) lists
        → AllByRecursion (λ xs. All (λ x. x < item_count classes) xs) lists
    turned [] h = tt
    turned (xs ∷ lists) h = (All-from_recursion (λ x. x < item_count classes) xs h.0, turned lists h.1)
