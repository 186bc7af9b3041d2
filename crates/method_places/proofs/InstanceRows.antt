-- The rows of instance methods, by class and from a class upwards.
use Rattle.std.proofs.Common.{◌≡◌, ℕ, zero, suc, ◌+◌, ◌<◌, ◌≤◌, ◌==◌, not, ◌&&◌, ◌||◌, Bool, true, false, cond, List}
use Rattle.std.proofs.Common.{[], ◌∷◌, ◌++◌, length, map, get_or, slice_get, take, Option, Some, None, refl, sym, ap}
use Rattle.std.proofs.Common.{◌∙◌, arith, subst}
use Rattle.std.specs.List.{All, AllByRecursion, cons_option, enumerate_from, filter, filter_map, find}
use Rattle.std.specs.Option.{option_map, option_map_or, option_or}
use Rattle.std.proofs.lemmas.Bool.{eq-eqb, eqb-true}
use Rattle.std.proofs.lemmas.List.{map_push}
use Rattle.std.proofs.lemmas.List.Elements.{All-head, All-tail, filter-append, filter_map-append}
use Rattle.std.proofs.lemmas.List.Folds.{find-append}
use Rattle.std.proofs.lemmas.Option.{same_Some, slice_get_within}
use Rattle.mark_core.specs.declared.system.Pair.{Pair}
use Rattle.class_model.specs.declared.class.Class.{Class}
use Rattle.class_pool.specs.Found.{IsMember, MemberRow, NameAndType, declared_by, declared_in}
use Rattle.class_pool.specs.Found.{is_instance_method, same_member}
use Rattle.class_pool.specs.Found.{is_instance_row, is_private_member, is_protected_member, is_public_member, named_at}
use Rattle.class_pool.specs.Found.{rows_in}
use Rattle.class_pool.specs.Hierarchy.{IsClass}
use Rattle.class_pool.specs.Items.{class_item, item_of}
use Rattle.class_pool.specs.Members.{declared_at}
use Rattle.class_pool.specs.Resolution.{is_interface_in}
use Rattle.class_pool.specs.declared.id.ClassId.{ClassId}
use Rattle.class_pool.specs.declared.id.ClassId.TheVariants.{Prog, Lib}
use Rattle.class_pool.specs.declared.id.MemberAt.{MemberAt}
use Rattle.class_pool.proofs.Declaring.{declared_named}
use Rattle.link_check.proofs.Methods.{instance_is_method}
use Rattle.require_sys.specs.Requires.{class_number, is_inheritable, members_of, pair_from, pair_of}
use Rattle.method_places.specs.bodies.Alike.{AreAlike, AreNumbers, AreRows, HasItem, IsFirst, IsRow, Knows, class_rows}
use Rattle.method_places.specs.bodies.Alike.{group_number}
use Rattle.method_places.specs.bodies.Alike.{member_at, number_in, openness, place_of, row_in, row_of}
use Rattle.method_places.specs.bodies.Marks.{mark_of}
use Rattle.method_places.specs.bodies.Nearest.{IsListed, front_rows, is_hidden, row_with}
use Rattle.item_numbers.specs.bodies.Selecting.{pair_with, pairs_in}
use Rattle.method_places.specs.declared.alike.Group.{Group}
use Rattle.method_places.specs.declared.alike.Group.TheVariants.{Mixed, None as no_method, Of}
use Rattle.method_places.specs.declared.methods.InstanceMethod.{InstanceMethod}
use Rattle.method_places.specs.declared.methods.Openness.{Openness}
use Rattle.method_places.specs.declared.methods.Openness.TheVariants.{Abstract, Open, Package, Private}
use Rattle.require_sys.proofs.Running.{member_among, program_there}
use Rattle.item_numbers.proofs.Membering.{passed_one}
use Rattle.require_sys.proofs.Steps.{more_of}
use Rattle.jv_base.proofs.Lists.{all_append}

-- ---- instance methods

-- the class of an instance method is there
pub instance_class : (classes : List Class) (n k : ℕ)
    → is_instance_method classes (record { class = Prog n; index = k }) ≡ true → n < length classes
instance_class classes n k i =
    let there = program_there classes n k i in slice_get_within classes n there.0 there.1

-- it is there
pub instance_there : (classes : List Class) (n k : ℕ)
    → is_instance_method classes (record { class = Prog n; index = k }) ≡ true
    → IsMember classes (record { class = Prog n; index = k })
instance_there classes n k i =
    (instance_class classes n k i, by (slice_get (rows_in classes (Prog n)) k) refl i)
  where
    by : (o : Option MemberRow) → slice_get (rows_in classes (Prog n)) k ≡ o
        → option_map_or is_instance_row o false ≡ true → k < length (rows_in classes (Prog n))
    by None e h = absurd cc
    by (Some row) e h = slice_get_within (rows_in classes (Prog n)) k row e

-- ---- of one class

module _ (classes : List Class) (number : NameAndType → ℕ) (n : ℕ) where
  abbrev member : ℕ × MemberRow → MemberAt
  member p = record { class = Prog n; index = p.0 }

  abbrev rows_over : List (ℕ × MemberRow) → List InstanceMethod
  rows_over ps = filter_map (row_of classes number) (filter (is_instance_method classes) (map member ps))

  made : (ps : List (ℕ × MemberRow)) → AllByRecursion (IsRow classes number n) (rows_over ps)
  made [] = tt
  made (p ∷ ps) = by (is_instance_method classes (member p)) refl (made ps)
    where
      by : (b : Bool) → is_instance_method classes (member p) ≡ b
          → AllByRecursion (IsRow classes number n) (rows_over ps)
          → AllByRecursion (IsRow classes number n) (filter_map (row_of classes number)
          (cond b (member p ∷ filter (is_instance_method classes) (map member ps))
          (filter (is_instance_method classes) (map member ps))))
      by true e rest = (record { class = refl; item = refl; instance = e; openness = refl; numbered = refl }, rest)
      by false e rest = rest

  -- each row is one of an instance method of the class
  pub all_rows : AllByRecursion (IsRow classes number n) (class_rows classes number n)
  all_rows = made (enumerate_from 0 (rows_in classes (Prog n)))

  others : (g : ℕ) (ps : List (ℕ × MemberRow)) → AllByRecursion (λ row. (row.number == g) ≡ false) (rows_over ps)
      → AllByRecursion (λ m. is_instance_method classes m ≡ true → (number (named_at classes m) == g) ≡ false)
      (map member ps)
  others g [] h = tt
  others g (p ∷ ps) h = by (is_instance_method classes (member p)) refl h (λ k. others g ps k)
    where
      by : (b : Bool) → is_instance_method classes (member p) ≡ b
          → AllByRecursion (λ row. (row.number == g) ≡ false) (filter_map (row_of classes number)
          (cond b (member p ∷ filter (is_instance_method classes) (map member ps))
          (filter (is_instance_method classes) (map member ps))))
          → (AllByRecursion (λ row. (row.number == g) ≡ false) (rows_over ps)
          → AllByRecursion (λ m. is_instance_method classes m ≡ true → (number (named_at classes m) == g) ≡ false)
          (map member ps))
          → AllByRecursion (λ m. is_instance_method classes m ≡ true → (number (named_at classes m) == g) ≡ false)
          (map member (p ∷ ps))
      by true e h rest = (λ i. h.0, rest h.1)
      by false e h rest = (λ i. absurd (let q : true ≡ false = sym i ∙ e in cc), rest h)

  -- where no row has a number, no instance method has it
  pub none_numbered : (g k : ℕ) → AllByRecursion (λ row. (row.number == g) ≡ false) (class_rows classes number n)
      → is_instance_method classes (record { class = Prog n; index = k }) ≡ true
      → (number (named_at classes (record { class = Prog n; index = k })) == g) ≡ false
  none_numbered g k h i =
      member_among classes
      (λ m. is_instance_method classes m ≡ true → (number (named_at classes m) == g) ≡ false)
      (record { class = Prog n; index = k }) (others g (enumerate_from 0 (rows_in classes (Prog n))) h) i i

  each_over : (Q : InstanceMethod → Type 0) (ps : List (ℕ × MemberRow)) → AllByRecursion Q (rows_over ps)
      → AllByRecursion (λ m. is_instance_method classes m ≡ true → Q (row_in classes number n m.index)) (map member ps)
  each_over Q [] h = tt
  each_over Q (p ∷ ps) h = by (is_instance_method classes (member p)) refl h (λ k. each_over Q ps k)
    where
      by : (b : Bool) → is_instance_method classes (member p) ≡ b
          → AllByRecursion Q (filter_map (row_of classes number)
          (cond b (member p ∷ filter (is_instance_method classes) (map member ps))
          (filter (is_instance_method classes) (map member ps))))
          → (AllByRecursion Q (rows_over ps)
          → AllByRecursion (λ m. is_instance_method classes m ≡ true → Q (row_in classes number n m.index))
          (map member ps))
          → AllByRecursion (λ m. is_instance_method classes m ≡ true → Q (row_in classes number n m.index))
          (map member (p ∷ ps))
      by true e h rest = (λ i. h.0, rest h.1)
      by false e h rest = (λ i. absurd (let q : true ≡ false = sym i ∙ e in cc), rest h)

  -- what holds of each row holds of that of an instance method
  pub each_row : (Q : InstanceMethod → Type 0) (k : ℕ) → AllByRecursion Q (class_rows classes number n)
      → is_instance_method classes (record { class = Prog n; index = k }) ≡ true → Q (row_in classes number n k)
  each_row Q k h i =
      member_among classes (λ m. is_instance_method classes m ≡ true → Q (row_in classes number n m.index))
      (record { class = Prog n; index = k }) (each_over Q (enumerate_from 0 (rows_in classes (Prog n))) h) i i

  inheritable_over : (ps : List (ℕ × MemberRow)) → filter (is_inheritable classes) (map member_at (rows_over ps))
      ≡ filter (is_inheritable classes) (map member ps)
  inheritable_over [] = refl
  inheritable_over (p ∷ ps) = by (is_instance_method classes (member p)) refl (inheritable_over ps)
    where
      by : (b : Bool) → is_instance_method classes (member p) ≡ b → filter (is_inheritable classes)
          (map member_at (rows_over ps))
          ≡ filter (is_inheritable classes) (map member ps)
          → filter (is_inheritable classes) (map member_at (filter_map (row_of classes number)
          (cond b (member p ∷ filter (is_instance_method classes) (map member ps))
          (filter (is_instance_method classes) (map member ps)))))
          ≡ cond (b && not (is_private_member classes (member p)))
          (member p ∷ filter (is_inheritable classes) (map member ps)) (filter (is_inheritable classes) (map member ps))
      by true e rest =
          ap (λ (b : Bool). cond (b && not (is_private_member classes (member p)))
          (member p ∷ filter (is_inheritable classes) (map member_at (rows_over ps)))
          (filter (is_inheritable classes) (map member_at (rows_over ps)))) e
          ∙ ap (λ (t : List MemberAt). cond (true && not (is_private_member classes (member p))) (member p ∷ t) t) rest
      by false e rest = rest

  -- the inheritable methods are those of the rows
  pub rows_inheritable : filter (is_inheritable classes) (map member_at (class_rows classes number n))
      ≡ filter (is_inheritable classes) (members_of classes (Prog n))
  rows_inheritable = inheritable_over (enumerate_from 0 (rows_in classes (Prog n)))

hidden_is : (i p a o : Bool) → i ≡ true
    → (i && not p) ≡ not (is_hidden (cond p Private (cond a Abstract (cond o Open Package))))
hidden_is false p a o one = absurd cc
hidden_is true true a o one = refl
hidden_is true false true o one = refl
hidden_is true false false true one = refl
hidden_is true false false false one = refl

-- the method of a row may be inherited unless it is hidden
pub inheritable_is : (classes : List Class) (number : NameAndType → ℕ) (n : ℕ) (row : InstanceMethod)
    → IsRow classes number n row → is_inheritable classes (member_at row) ≡ not (is_hidden row.openness)
inheritable_is classes number n row is =
    hidden_is (is_instance_method classes (member_at row)) (is_private_member classes (member_at row))
    (is_interface_in classes (member_at row).class)
    (is_public_member classes (member_at row) || is_protected_member classes (member_at row)) is.instance
    ∙ ap (λ (o : Openness). not (is_hidden o)) (sym is.openness)

-- the pairs with the rows of a class
pub rows_paired : (classes : List Class) (table : List (List InstanceMethod)) (are : AreRows classes table)
    (own t n : ℕ)
    (rows : List InstanceMethod) → n < length classes → rows ≡ get_or table n []
    → filter_map (pair_with classes own t) (filter (is_inheritable classes) (map member_at rows))
    ≡ pairs_in classes own t (Prog n)
rows_paired classes table are own t n rows within at =
    ap (λ (rs : List InstanceMethod). filter_map (pair_with classes own t)
    (filter (is_inheritable classes) (map member_at rs))) (at ∙ are.each n within)
    ∙ ap (filter_map (pair_with classes own t)) (rows_inheritable classes are.number n)

-- one row more
pub row_paired : (classes : List Class) (own t : ℕ) (rows : List InstanceMethod) (i : ℕ) (row : InstanceMethod)
    → i < length rows → row ≡ get_or rows i row
    → filter_map (pair_with classes own t) (filter (is_inheritable classes) (map member_at (take i rows)))
    ++ cond (is_inheritable classes (member_at row)) (cons_option (pair_with classes own t (member_at row)) []) []
    ≡ filter_map (pair_with classes own t) (filter (is_inheritable classes) (map member_at (take (i + 1) rows)))
row_paired classes own t rows i row lt at =
    let f : MemberAt → Option Pair = pair_with classes own t in
    let p : MemberAt → Bool = is_inheritable classes in
    ap (λ (x : List Pair). filter_map f (filter p (map member_at (take i rows))) ++ x)
    (sym (passed_one f p (member_at row)))
    ∙ sym (filter_map-append f (filter p (map member_at (take i rows))) (filter p (member_at row ∷ [])))
    ∙ ap (filter_map f) (sym (filter-append p (map member_at (take i rows)) (member_at row ∷ [])))
    ∙ ap (λ (x : List MemberAt). filter_map f (filter p x)) (sym (map_push member_at (take i rows) row))
    ∙ ap (λ (x : List InstanceMethod). filter_map f (filter p (map member_at x))) (sym (more_of rows i row lt at))

-- the pair of two rows by their items
abbrev two_of : (classes : List Class) → ℕ → InstanceMethod → InstanceMethod → Bool → Option Pair
two_of classes own row found same =
    cond same None (pair_from classes (class_number classes (Prog own)) (item_of classes (member_at row))
    (item_of classes (member_at found)))

pub pair_items : (classes : List Class) (own : ℕ) (row found : InstanceMethod) (one : ℕ) → one ≡ class_item classes own
    → HasItem classes row → HasItem classes found → same_member (member_at found) (member_at row) ≡ false
    → Some (record { one = one; two = row.item; derived = found.item })
    ≡ pair_of classes (Prog own) (member_at row) (member_at found)
pair_items classes own row found one first two derived other =
    (λ i. Some (record { one = first i; two = two i; derived = derived i }))
    ∙ sym (ap (two_of classes own row found) other)

pub pair_itself : (classes : List Class) (own : ℕ) (row found : InstanceMethod)
    → same_member (member_at found) (member_at row) ≡ true
    → None ≡ pair_of classes (Prog own) (member_at row) (member_at found)
pair_itself classes own row found same = sym (ap (two_of classes own row found) same)

-- ---- how the table is made

-- a list with some more
pub grown : {Y : Type 0} (ys zs old add new : List Y) → zs ≡ ys ++ add → ys ≡ old → new ≡ old ++ add → zs ≡ new
grown ys zs old add new more is whole = more ∙ ap (λ t. t ++ add) is ∙ sym whole

-- the row of a member of a class of the set
pub row_made : (classes : List Class) (number : NameAndType → ℕ) (n : ℕ) (m : MemberAt) → m.class ≡ Prog n
    → (o : Openness) (g i : ℕ) → o ≡ openness classes m → g ≡ number (named_at classes m)
    → i ≡ class_item classes n + 1 + m.index
    → row_of classes number m ≡ Some (record { class = n; index = m.index; item = i; openness = o; number = g })
row_made classes number n m at o g i opened numbered item =
    ap (λ (c : ClassId). row_of classes number (record { class = c; index = m.index })) at
    ∙ ap (λ (u : Openness). Some (record {
      class = n;
      index = m.index;
      item = class_item classes n + 1 + m.index;
      openness = u;
      number = number (named_at classes (record { class = Prog n; index = m.index }));
    }))
    (ap (λ (c : ClassId). openness classes (record { class = c; index = m.index })) (sym at) ∙ sym opened)
    ∙ ap (λ (k : ℕ). Some (record {
      class = n;
      index = m.index;
      item = class_item classes n + 1 + m.index;
      openness = o;
      number = k;
    }))
    (ap (λ (c : ClassId). number (named_at classes (record { class = c; index = m.index }))) (sym at) ∙ sym numbered)
    ∙ ap (λ (k : ℕ). Some (record { class = n; index = m.index; item = k; openness = o; number = g })) (sym item)

-- what is known of a group that has a number
of_group : (classes : List Class) (g : Group) (place : ℕ) (m : MemberAt) → Knows classes g m
    → 0 < group_number place g → (group_number place g ≡ place + 1) × IsFirst classes m
of_group classes (no_method) place m k some = absurd k
of_group classes (Of one last) place m k some = (refl, k.1)
of_group classes (Mixed) place m k some = absurd (omega (arith, some))

both_named : (classes : List Class) (g : Group) (m x : MemberAt) (place : ℕ) → Knows classes g m → Knows classes g x
    → 0 < group_number place g → named_at classes m ≡ named_at classes x
both_named classes (no_method) m x place k l some = absurd k
both_named classes (Of one last) m x place k l some = k.0 ∙ sym l.0
both_named classes (Mixed) m x place k l some = absurd (omega (arith, some))

module _ (classes : List Class) (marks : List (List ℕ)) (keys : List ℕ) (groups : List Group)
    (are : AreAlike classes marks keys groups) where
  abbrev member_of : ℕ → ℕ → MemberAt
  member_of n k = record { class = Prog n; index = k }

  abbrev place_at : ℕ → ℕ → ℕ
  place_at n k = place_of keys (mark_of (named_at classes (member_of n k)))

  known : (n k : ℕ) → is_instance_method classes (member_of n k) ≡ true
      → Knows classes (get_or groups (place_at n k) Mixed) (member_of n k)
  known n k i = are.grouped n k (instance_class classes n k i) (instance_is_method classes (member_of n k) i)

  same_named : (n k o l : ℕ) → is_instance_method classes (member_of n k) ≡ true
      → is_instance_method classes (member_of o l) ≡ true
      → 0 < number_in keys groups (named_at classes (member_of n k))
      → number_in keys groups (named_at classes (member_of n k))
      ≡ number_in keys groups (named_at classes (member_of o l))
      → named_at classes (member_of n k) ≡ named_at classes (member_of o l)
  same_named n k o l i j some e =
      let one = (of_group classes _ (place_at n k) (member_of n k) (known n k i) some).0 in
      let other = (of_group classes _ (place_at o l) (member_of o l) (known o l j)
      (subst (λ (g : ℕ). 0 < g) e some)).0 in
      let place : place_at n k ≡ place_at o l = omega (arith, one, other, e) in
      both_named classes (get_or groups (place_at n k) Mixed) (member_of n k) (member_of o l) (place_at n k)
      (known n k i)
      (subst (λ (t : ℕ). Knows classes (get_or groups t Mixed) (member_of o l)) (sym place) (known o l j)) some

  -- the numbers of groups tell names and descriptors
  pub are_numbers : AreNumbers classes (number_in keys groups)
  are_numbers = record {
    first = λ n k i some. (of_group classes _ (place_at n k) (member_of n k) (known n k i) some).1;
    same = same_named;
  }

-- the table has the rows of each class
pub rows_made : (classes : List Class) (marks : List (List ℕ)) (keys : List ℕ) (groups : List Group)
    (rows : List (List InstanceMethod)) (count : ℕ) → AreAlike classes marks keys groups → length rows ≡ count
    → length classes ≤ count → count ≤ length classes
    → ((n : ℕ) → n < count → get_or rows n [] ≡ class_rows classes (number_in keys groups) n) → AreRows classes rows
rows_made classes marks keys groups rows count are long low high each = record {
  number = number_in keys groups;
  numbers = are_numbers classes marks keys groups are;
  count = omega (arith, long, low, high);
  each = λ n less. each n (omega (arith, less, low));
}

-- ---- the nearest one

pub found_holds : (P : InstanceMethod → Type 0) (test : InstanceMethod → Bool) (rows : List InstanceMethod)
    (row : InstanceMethod) → AllByRecursion P rows → find test rows ≡ Some row → P row × (test row ≡ true)
found_holds P test [] row all is = absurd cc
found_holds P test (r ∷ rows) row all is = by (test r) refl is (λ h. found_holds P test rows row all.1 h)
  where
    by : (b : Bool) → test r ≡ b → cond b (Some r) (find test rows) ≡ Some row
        → (find test rows ≡ Some row → P row × (test row ≡ true)) → P row × (test row ≡ true)
    by true e h next = let same : r ≡ row = same_Some r row h in (subst P same all.0, ap test (sym same) ∙ e)
    by false e h next = next h

pub none_holds : (test : InstanceMethod → Bool) (rows : List InstanceMethod) → find test rows ≡ None
    → AllByRecursion (λ row. test row ≡ false) rows
none_holds test [] is = tt
none_holds test (r ∷ rows) is = by (test r) refl is (λ h. none_holds test rows h)
  where
    by : (b : Bool) → test r ≡ b → cond b (Some r) (find test rows) ≡ None
        → (find test rows ≡ None → AllByRecursion (λ row. test row ≡ false) rows)
        → AllByRecursion (λ row. test row ≡ false) (r ∷ rows)
    by true e h next = absurd cc
    by false e h next = (e, next h)

same_row : {P : Type 0} (a b : Bool) → a ≡ true → a ≡ false → P
same_row a b one other = absurd (let q : true ≡ false = sym one ∙ other in cc)

module _ (classes : List Class) (table : List (List InstanceMethod)) (are : AreRows classes table) where
  abbrev IsSome : InstanceMethod → Type 0
  IsSome row = (row.class < length classes) × IsRow classes are.number row.class row

  -- a row of a class
  pub listed_row : (n : ℕ) (row : InstanceMethod) → n < length classes → IsListed table n row
      → IsRow classes are.number n row
  listed_row n row within listed =
      all_at (IsRow classes are.number n) (get_or table n []) listed.0 row
      (subst (AllByRecursion (IsRow classes are.number n)) (sym (are.each n within)) (all_rows classes are.number n))
      listed.1
    where
      all_at : (P : InstanceMethod → Type 0) (rows : List InstanceMethod) (k : ℕ) (r : InstanceMethod)
          → AllByRecursion P rows → slice_get rows k ≡ Some r → P r
      all_at P [] k r all is = absurd cc
      all_at P (x ∷ rows) zero r all is = subst P (same_Some x r is) all.0
      all_at P (x ∷ rows) (suc k) r all is = all_at P rows k r all.1 is

  some_rows : (n : ℕ) → n < length classes → AllByRecursion IsSome (get_or table n [])
  some_rows n within =
      subst (AllByRecursion IsSome) (sym (are.each n within))
      (weaker (class_rows classes are.number n) (all_rows classes are.number n))
    where
      weaker : (rows : List InstanceMethod) → AllByRecursion (IsRow classes are.number n) rows
          → AllByRecursion IsSome rows
      weaker [] all = tt
      weaker (r ∷ rows) all = (
        (
          (let at = all.0.class in omega (arith, at, within)),
          subst (λ (k : ℕ). IsRow classes are.number k r) (sym all.0.class) all.0,
        ),
        weaker rows all.1,
      )

  front_all : (cs : List ClassId) → All (IsClass classes) cs → AllByRecursion IsSome (front_rows table cs)
  front_all [] there = tt
  front_all (Prog n ∷ cs) there =
      all_append IsSome (get_or table n []) (front_rows table cs)
      (some_rows n (All-head (IsClass classes) (Prog n) cs there))
      (front_all cs (All-tail (IsClass classes) (Prog n) cs there))
  front_all (Lib id ∷ cs) there = tt

  module _ (row : InstanceMethod) (n : ℕ) (is : IsRow classes are.number n row) (some : 0 < row.number) where
    -- another one with its number has its name and its descriptor
    pub alike_named : (other : InstanceMethod) (o : ℕ) → IsRow classes are.number o other
        → (other.number == row.number) ≡ true → named_at classes (member_at row) ≡ named_at classes (member_at other)
    alike_named other o that same =
        let g = is.numbered in
        let h = that.numbered in
        let e = eqb-true other.number row.number same in
        are.numbers.same row.class row.index other.class other.index is.instance that.instance
        (omega (arith, some, g)) (omega (arith, g, h, e))

    -- and is the first one of its class
    pub alike_first : (other : InstanceMethod) (o : ℕ) → IsRow classes are.number o other
        → (other.number == row.number) ≡ true → IsFirst classes (member_at other)
    alike_first other o that same =
        let h = that.numbered in
        let e = eqb-true other.number row.number same in
        are.numbers.first other.class other.index that.instance (omega (arith, some, h, e))

    -- what a class of the set declares, by its rows
    in_class : (p : ℕ) → p < length classes → (o : Option InstanceMethod)
        → row_with row.number (class_rows classes are.number p) ≡ o → (d : Option MemberAt)
        → declared_in classes (named_at classes (member_at row)) (Prog p) ≡ d
        → find (is_instance_method classes) (cons_option d []) ≡ option_map member_at o
    in_class p within (Some r) found d declared =
        let h = found_holds (IsRow classes are.number p) (λ x. x.number == row.number)
        (class_rows classes are.number p) r (all_rows classes are.number p) found in
        let here : declared_in classes (named_at classes (member_at row)) (Prog p) ≡ Some (member_at r) =
        ap (λ (t : NameAndType). declared_in classes t (Prog p)) (alike_named r p h.0 h.1)
        ∙ ap (λ (k : ℕ). declared_in classes (named_at classes (member_at r)) (Prog k)) (sym h.0.class)
        ∙ alike_first r p h.0 h.1 in
        ap (λ (x : Option MemberAt). find (is_instance_method classes) (cons_option x [])) (sym declared ∙ here)
        ∙ ap (λ b. cond b (Some (member_at r)) None) h.0.instance
    in_class p within None found None declared = refl
    in_class p within None found (Some y) declared = by (is_instance_method classes y) refl
      where
        at : (k : Option ℕ) → option_map (λ n. record { class = Prog p; index = n }) k ≡ Some y
            → (record { class = Prog p; index = y.index }) ≡ y
        at None e = absurd cc
        at (Some k) e =
            let same : record { class = Prog p; index = k } ≡ y = same_Some _ _ e in
            ap (λ (m : MemberAt). record { class = Prog p; index = m.index }) (sym same) ∙ same

        own : (record { class = Prog p; index = y.index }) ≡ y
        own = at (declared_at classes (Prog p) (named_at classes (member_at row)).0
            (named_at classes (member_at row)).1) declared

        by : (b : Bool) → is_instance_method classes y ≡ b → cond b (Some y) None ≡ None
        by false e = refl
        by true e =
            let other : (are.number (named_at classes y) == row.number) ≡ false =
            subst (λ (m : MemberAt). (are.number (named_at classes m) == row.number) ≡ false) own
            (none_numbered classes are.number p row.number y.index
            (none_holds (λ x. x.number == row.number) (class_rows classes are.number p) found)
            (ap (is_instance_method classes) own ∙ e)) in
            let equal : row.number ≡ are.number (named_at classes y) =
            is.numbered ∙ ap are.number (sym (declared_named classes (named_at classes (member_at row)) (Prog p) y
            declared)) in
            same_row (are.number (named_at classes y) == row.number) true
            (eq-eqb (are.number (named_at classes y)) row.number (sym equal)) other

    -- the nearest row with its number is the nearest instance method of its name and descriptor
    pub nearest_is : (cs : List ClassId) → All (IsClass classes) cs → (r : InstanceMethod)
        → row_with row.number (front_rows table cs) ≡ Some r
        → find (is_instance_method classes) (declared_by classes (named_at classes (member_at row)) cs)
        ≡ Some (member_at r)
    nearest_is [] there r found = absurd cc
    nearest_is (Lib id ∷ cs) there r found = absurd cc
    nearest_is (Prog p ∷ cs) there r found =
        let within : p < length classes = All-head (IsClass classes) (Prog p) cs there in
        let rows : get_or table p [] ≡ class_rows classes are.number p = are.each p within in
        let both : option_or (row_with row.number (class_rows classes are.number p))
        (row_with row.number (front_rows table cs)) ≡ Some r =
        ap (λ t. option_or (row_with row.number t) (row_with row.number (front_rows table cs))) (sym rows)
        ∙ sym (find-append (λ x. x.number == row.number) (get_or table p []) (front_rows table cs)) ∙ found in
        split (declared_in classes (named_at classes (member_at row)) (Prog p))
        ∙ by (row_with row.number (class_rows classes are.number p)) refl both
        (λ h. nearest_is cs (All-tail (IsClass classes) (Prog p) cs there) r h)
      where
        split : (d : Option MemberAt)
            → find (is_instance_method classes)
            (cons_option d (declared_by classes (named_at classes (member_at row)) cs))
            ≡ option_or (find (is_instance_method classes) (cons_option d []))
            (find (is_instance_method classes) (declared_by classes (named_at classes (member_at row)) cs))
        split None = refl
        split (Some y) = cases (is_instance_method classes y)
          where
            cases : (b : Bool)
                → cond b (Some y) (find (is_instance_method classes)
                (declared_by classes (named_at classes (member_at row)) cs))
                ≡ option_or (cond b (Some y) None) (find (is_instance_method classes)
                (declared_by classes (named_at classes (member_at row)) cs))
            cases true = refl
            cases false = refl

        by : (o : Option InstanceMethod) → row_with row.number (class_rows classes are.number p) ≡ o
            → option_or o (row_with row.number (front_rows table cs)) ≡ Some r
            → (row_with row.number (front_rows table cs) ≡ Some r
            → find (is_instance_method classes) (declared_by classes (named_at classes (member_at row)) cs)
            ≡ Some (member_at r))
            → option_or (find (is_instance_method classes)
            (cons_option (declared_in classes (named_at classes (member_at row)) (Prog p)) []))
            (find (is_instance_method classes) (declared_by classes (named_at classes (member_at row)) cs))
            ≡ Some (member_at r)
        by o found both next =
            ap (λ t. option_or t (find (is_instance_method classes)
            (declared_by classes (named_at classes (member_at row)) cs)))
            (in_class p (All-head (IsClass classes) (Prog p) cs there) o found
            (declared_in classes (named_at classes (member_at row)) (Prog p)) refl)
            ∙ ends o both next
          where
            ends : (o : Option InstanceMethod)
                → option_or o (row_with row.number (front_rows table cs)) ≡ Some r
                → (row_with row.number (front_rows table cs) ≡ Some r
                → find (is_instance_method classes) (declared_by classes (named_at classes (member_at row)) cs)
                ≡ Some (member_at r))
                → option_or (option_map member_at o) (find (is_instance_method classes)
                (declared_by classes (named_at classes (member_at row)) cs)) ≡ Some (member_at r)
            ends None both next = next both
            ends (Some x) both next = ap (λ (y : InstanceMethod). Some (member_at y)) (same_Some x r both)

-- a row that is found from a class upwards is one of a class of the set, and has the number
pub front_row : (classes : List Class) (table : List (List InstanceMethod)) (are : AreRows classes table)
    (cs : List ClassId) → All (IsClass classes) cs → (g : ℕ) (r : InstanceMethod)
    → row_with g (front_rows table cs) ≡ Some r → IsRow classes are.number r.class r × ((r.number == g) ≡ true)
front_row classes table are cs there g r found =
    let h = found_holds (IsSome classes table are) (λ x. x.number == g) (front_rows table cs) r
    (front_all classes table are cs there) found in
    (h.0.1, h.1)

-- a row that passes a test from a class upwards is one of a class of the set
pub front_tested : (classes : List Class) (table : List (List InstanceMethod)) (are : AreRows classes table)
    (cs : List ClassId) → All (IsClass classes) cs → (q : InstanceMethod → Bool) (r : InstanceMethod)
    → find q (front_rows table cs) ≡ Some r → IsRow classes are.number r.class r
front_tested classes table are cs there q r found =
    (found_holds (IsSome classes table are) q (front_rows table cs) r (front_all classes table are cs there) found).0.1
