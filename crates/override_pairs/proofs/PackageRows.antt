-- Places of methods that may override others: what two methods with one place have in common.
use Rattle.std.proofs.Common.{◌≡◌, ℕ, zero, suc, ◌+◌, ◌*◌, ◌<◌, ◌≤◌, ◌==◌, not, ◌&&◌, ◌||◌, Bool, true, false, cond, List}
use Rattle.std.proofs.Common.{[], ◌∷◌, ◌++◌, length, map, get_or, nat_lt, slice_get, Option, Some, None, refl, sym, ap}
use Rattle.std.proofs.Common.{◌∙◌, arith}
use Rattle.std.specs.List.{cons_option, filter_map, find, position}
use Rattle.std.specs.Option.{option_and_then, option_map, option_map_or}
use Rattle.std.proofs.lemmas.Bool.{eq-eqb, eqb-true, ltb-false}
use Rattle.std.proofs.lemmas.List.Elements.{filter_map-append}
use Rattle.std.proofs.lemmas.List.Quantifiers.{position-Some}
use Rattle.std.proofs.lemmas.Option.{same_Some, slice_get-map}
use Rattle.jv_base.specs.Names.{is_text}
use Rattle.jv_base.proofs.Equality.{text_Decides}
use Rattle.class_model.specs.declared.class.Class.{Class}
use Rattle.class_pool.specs.Found.{is_instance_method, is_private_member, is_protected_member, is_public_member}
use Rattle.class_pool.specs.Found.{package_of, same_package}
use Rattle.class_pool.specs.Resolution.{is_interface_in}
use Rattle.class_pool.specs.Selection.{may_override}
use Rattle.class_pool.specs.declared.id.ClassId.{ClassId}
use Rattle.class_pool.specs.declared.id.ClassId.TheVariants.{Prog, Lib}
use Rattle.method_places.specs.bodies.Alike.{AreRows, IsRow, member_at, place_of}
use Rattle.method_places.specs.bodies.Nearest.{front_rows, is_overriding}
use Rattle.method_places.specs.bodies.Places.{HavePlaces, is_part, joined, key_in, package_number, part_row, place_at, place_in}
use Rattle.method_places.specs.bodies.Places.{place_where, with_number}
use Rattle.method_places.specs.declared.methods.InstanceMethod.{InstanceMethod}
use Rattle.method_places.specs.declared.methods.Openness.TheVariants.{Abstract, Open, Package, Private}
use Rattle.method_places.specs.declared.places.Part.{Part}
use Rattle.method_places.specs.declared.places.Part.TheVariants.{Each, Open as OfOpen}
use Rattle.method_places.specs.declared.places.Places.{Places}
use Rattle.method_places.proofs.InstanceRows.{instance_class}

-- ---- keys

-- a place of a key that is there
where_is : (place key p : ℕ) (o : Option ℕ) → place_where place key o ≡ p → 0 < p → (p ≡ place + 1) × (o ≡ Some key)
where_is place key p None is some = absurd (omega (arith, some, is))
where_is place key p (Some found) is some = by (found == key) refl is
  where
    by : (b : Bool) → (found == key) ≡ b → cond b (place + 1) 0 ≡ p → (p ≡ place + 1) × (Some found ≡ Some key)
    by true e h = (sym h, ap Some (eqb-true found key e))
    by false e h = absurd (omega (arith, some, h))

positive : (n : ℕ) → (n == 0) ≡ false → 0 < n
positive zero e = absurd cc
positive (suc n) e = omega arith

-- what two numbers that are told apart are
joined_is : (n q key : ℕ) → joined n q ≡ Some key → (0 < n) × ((q ≤ 4294967295) × (key ≡ n * 4294967296 + q))
joined_is n q key is = by (n == 0) refl (nat_lt 4294967295 n) (nat_lt 4294967295 q) refl is
  where
    by : (a : Bool) → (n == 0) ≡ a → (b c : Bool) → nat_lt 4294967295 q ≡ c
        → cond (a || (b || c)) None (Some (n * 4294967296 + q)) ≡ Some key
        → (0 < n) × ((q ≤ 4294967295) × (key ≡ n * 4294967296 + q))
    by true e b c low h = absurd cc
    by false e true c low h = absurd cc
    by false e false true low h = absurd cc
    by false e false false low h = (positive n e, (ltb-false 4294967295 q low, sym (same_Some _ _ h)))

-- a method has a place
record IsKeyed (packages keys : List ℕ) (row : InstanceMethod) (p : ℕ) : Type 0 where
  overriding : is_overriding row.openness ≡ true
  home : ℕ
  is : slice_get packages row.class ≡ Some home
  low : home ≤ 4294967295
  some : 0 < row.number
  place : ℕ
  placed : p ≡ place + 1
  there : slice_get keys place ≡ Some (row.number * 4294967296 + home)

keyed : (packages keys : List ℕ) (row : InstanceMethod) (p : ℕ) → place_in packages keys row ≡ p → 0 < p
    → IsKeyed packages keys row p
keyed packages keys row p is some = by (is_overriding row.openness) refl is
  where
    in_key : is_overriding row.openness ≡ true → (q : ℕ) → slice_get packages row.class ≡ Some q → (k : Option ℕ)
        → joined row.number q ≡ k → option_map_or (place_at keys) k 0 ≡ p → IsKeyed packages keys row p
    in_key e q f None g h = absurd (omega (arith, some, h))
    in_key e q f (Some key) g h =
        let j = joined_is row.number q key g in
        let w = where_is (place_of keys key) key p (slice_get keys (place_of keys key)) h some in
        record {
          overriding = e;
          home = q;
          is = f;
          low = j.1.0;
          some = j.0;
          place = place_of keys key;
          placed = w.0;
          there = w.1 ∙ ap Some j.1.1;
        }

    in_package : is_overriding row.openness ≡ true → (o : Option ℕ) → slice_get packages row.class ≡ o
        → option_map_or (place_at keys) (option_and_then (joined row.number) o) 0 ≡ p → IsKeyed packages keys row p
    in_package e None f h = absurd (omega (arith, some, h))
    in_package e (Some q) f h = in_key e q f (joined row.number q) refl h

    by : (b : Bool) → is_overriding row.openness ≡ b
        → cond b (option_map_or (place_at keys) (key_in packages row) 0) 0 ≡ p → IsKeyed packages keys row p
    by false e h = absurd (omega (arith, some, h))
    by true e h = in_package e (slice_get packages row.class) refl h

-- two methods with one place have one name and descriptor and one package
one_key : (packages keys : List ℕ) (r s : InstanceMethod) (p : ℕ) (a : IsKeyed packages keys r p)
    (b : IsKeyed packages keys s p) → (r.number ≡ s.number) × (a.home ≡ b.home)
one_key packages keys r s p a b =
    let first = a.placed in
    let second = b.placed in
    let place : a.place ≡ b.place = omega (arith, first, second) in
    let key : r.number * 4294967296 + a.home ≡ s.number * 4294967296 + b.home =
    same_Some _ _ (sym a.there ∙ ap (slice_get keys) place ∙ b.there) in
    let low = a.low in
    let low_too = b.low in
    (omega (arith, key, low, low_too), omega (arith, key, low, low_too))

-- ---- packages

found_at : (names : List (List ℕ)) (name : List ℕ) (q : ℕ) → package_number names name ≡ q → q ≤ 4294967295
    → position (is_text name) names ≡ Some q
found_at names name q is low = by (position (is_text name) names) refl is
  where
    by : (o : Option ℕ) → position (is_text name) names ≡ o → option_map_or (λ p. p) o 18446744073709551615 ≡ q
        → position (is_text name) names ≡ Some q
    by None e h = absurd (omega (arith, low, h))
    by (Some k) e h = e ∙ ap Some h

-- the name of the package of a class
abbrev text_at : List Class → ℕ → List ℕ
text_at classes n = package_of (option_map_or (λ d. d.name) (slice_get classes n) [])

module _ (classes : List Class) (packages : List ℕ) (names : List (List ℕ))
    (are : packages ≡ map (λ c. package_number names (package_of c.name)) classes) where
  abbrev number_of : Class → ℕ
  number_of c = package_number names (package_of c.name)

  package_at : (n : ℕ) (o : Option Class) → slice_get classes n ≡ o → slice_get packages n ≡ option_map number_of o
  package_at n o is = ap (λ (t : List ℕ). slice_get t n) are ∙ slice_get-map number_of classes n
      ∙ ap (option_map number_of) is

  -- the number of a package is that of a class
  class_at : (n q : ℕ) → slice_get packages n ≡ Some q → (c : Class) × ((slice_get classes n ≡ Some c) × (number_of c ≡ q))
  class_at n q is = by (slice_get classes n) refl
    where
      by : (o : Option Class) → slice_get classes n ≡ o
          → (c : Class) × ((slice_get classes n ≡ Some c) × (number_of c ≡ q))
      by None e = absurd (let h : None ≡ Some q = sym (package_at n None e) ∙ is in cc)
      by (Some c) e = (c, (e, same_Some _ _ (sym (package_at n (Some c) e) ∙ is)))

  named : (n : ℕ) (c : Class) → slice_get classes n ≡ Some c
      → text_at classes n ≡ package_of c.name
  named n c is = ap (λ (o : Option Class). package_of (option_map_or (λ d. d.name) o [])) is

  -- classes with one low number are of one package
  pub one_package_at : (m n q : ℕ) → slice_get packages m ≡ Some q → slice_get packages n ≡ Some q → q ≤ 4294967295
      → same_package classes (Prog m) (Prog n) ≡ true
  one_package_at m n q first second low =
      let a = class_at m q first in
      let b = class_at n q second in
      let c = a.0 in
      let d = b.0 in
      let one = position-Some (is_text (package_of c.name)) names q []
      (found_at names (package_of c.name) q a.1.1 low) in
      let two = position-Some (is_text (package_of d.name)) names q []
      (found_at names (package_of d.name) q b.1.1 low) in
      (text_Decides (text_at classes m) (text_at classes n)).1
      (named m c a.1.0 ∙ (text_Decides (package_of c.name) (get_or names q [])).0 one.1
      ∙ sym ((text_Decides (package_of d.name) (get_or names q [])).0 two.1) ∙ sym (named n d b.1.0))

  -- classes of one package have one number
  pub package_same : (m n q : ℕ) → slice_get packages m ≡ Some q → n < length classes
      → same_package classes (Prog m) (Prog n) ≡ true → slice_get packages n ≡ Some q
  package_same m n q first within same =
      let a = class_at m q first in
      by a.0 a.1.0 a.1.1 (slice_get classes n) refl
    where
      by : (c : Class) → slice_get classes m ≡ Some c → number_of c ≡ q → (o : Option Class) → slice_get classes n ≡ o
          → slice_get packages n ≡ Some q
      by c at number None e = absurd (let h = slice_get_there classes n within e in h)
        where
          slice_get_there : (cs : List Class) (k : ℕ) → k < length cs → slice_get cs k ≡ None → ⊥
          slice_get_there [] k lt none = omega (arith, lt)
          slice_get_there (x ∷ xs) zero lt none = absurd cc
          slice_get_there (x ∷ xs) (suc k) lt none = slice_get_there xs k (omega (arith, lt)) none
      by c at number (Some d) e =
          package_at n (Some d) e
          ∙ ap (λ (t : List ℕ). Some (package_number names t))
          (sym (named n d e) ∙ sym ((text_Decides (text_at classes m) (text_at classes n)).0 same) ∙ named m c at)
          ∙ ap Some number

-- ---- which methods have a place

overriding_is : (i p a o : Bool) → i ≡ true
    → is_overriding (cond p Private (cond a Abstract (cond o Open Package))) ≡ ((i && not p) && not a)
overriding_is false p a o one = absurd cc
overriding_is true true a o one = refl
overriding_is true false true o one = refl
overriding_is true false false true one = refl
overriding_is true false false false one = refl

-- a row may override others where its method may
pub row_overrides : (classes : List Class) (table : List (List InstanceMethod)) (are : AreRows classes table) (n : ℕ)
    (r : InstanceMethod) → IsRow classes are.number n r → is_overriding r.openness ≡ may_override classes (member_at r)
row_overrides classes table are n r is =
    ap is_overriding is.openness
    ∙ overriding_is (is_instance_method classes (member_at r)) (is_private_member classes (member_at r))
    (is_interface_in classes (member_at r).class)
    (is_public_member classes (member_at r) || is_protected_member classes (member_at r)) is.instance

module _ (classes : List Class) (table : List (List InstanceMethod)) (are : AreRows classes table)
    (packages keys : List ℕ) (names : List (List ℕ))
    (named : packages ≡ map (λ c. package_number names (package_of c.name)) classes)
    (m : InstanceMethod) (p : ℕ) (place : place_in packages keys m ≡ p) (some : 0 < p) where
  -- one with the same place has the same name and descriptor
  pub placed_number : (r : InstanceMethod) → (place_in packages keys r == p) ≡ true → (r.number == m.number) ≡ true
  placed_number r is =
      eq-eqb r.number m.number
      (one_key packages keys r m p (keyed packages keys r p (eqb-true _ p is) some) (keyed packages keys m p place some)).0

  placed_package : (r : InstanceMethod) → place_in packages keys r ≡ p
      → same_package classes (Prog r.class) (Prog m.class) ≡ true
  placed_package r is =
      let a = keyed packages keys r p is some in
      let b = keyed packages keys m p place some in
      one_package_at classes packages names named r.class m.class a.home a.is
      (b.is ∙ ap Some (sym (one_key packages keys r m p a b).1)) a.low

  package_placed : (n : ℕ) (r : InstanceMethod) → IsRow classes are.number n r → r.number ≡ m.number
      → may_override classes (member_at r) ≡ true → same_package classes (Prog r.class) (Prog m.class) ≡ true
      → place_in packages keys r ≡ p
  package_placed n r is number may same =
      let b = keyed packages keys m p place some in
      let back : same_package classes (Prog m.class) (Prog r.class) ≡ true =
      (text_Decides (text_at classes m.class) (text_at classes r.class)).1
      (sym ((text_Decides (text_at classes r.class) (text_at classes m.class)).0 same)) in
      let at : slice_get packages r.class ≡ slice_get packages m.class =
      package_same classes packages names named m.class r.class b.home b.is
      (instance_class classes r.class r.index is.instance) back ∙ sym b.is in
      ap (λ (b : Bool). cond b (option_map_or (place_at keys) (key_in packages r) 0) 0)
      (row_overrides classes table are n r is ∙ may)
      ∙ (λ i. option_map_or (place_at keys) (option_and_then (joined (number i)) (at i)) 0)
      ∙ sym (ap (λ (b : Bool). cond b (option_map_or (place_at keys) (key_in packages m) 0) 0) b.overriding)
      ∙ place

  -- one of the same name and descriptor has the same place where it may override others and has the same package
  pub placed_alike : (n : ℕ) (r : InstanceMethod) → IsRow classes are.number n r → (r.number == m.number) ≡ true
      → (place_in packages keys r == p)
      ≡ (may_override classes (member_at r) && same_package classes (Prog r.class) (Prog m.class))
  placed_alike n r is number =
      by (place_in packages keys r == p) refl (may_override classes (member_at r)) refl
      (same_package classes (Prog r.class) (Prog m.class)) refl
    where
      by : (b : Bool) → (place_in packages keys r == p) ≡ b → (x : Bool) → may_override classes (member_at r) ≡ x
          → (y : Bool) → same_package classes (Prog r.class) (Prog m.class) ≡ y → b ≡ (x && y)
      by true e true f true g = refl
      by false e false f y g = refl
      by false e true f false g = refl
      by true e false f y g =
          absurd (let h : true ≡ false = sym (keyed packages keys r p (eqb-true _ p e) some).overriding
          ∙ row_overrides classes table are n r is ∙ f in cc)
      by true e true f false g =
          absurd (let h : true ≡ false = sym (placed_package r (eqb-true _ p e)) ∙ g in cc)
      by false e true f true g =
          absurd (let h : true ≡ false = sym (eq-eqb _ p (package_placed n r is (eqb-true _ _ number) f g)) ∙ e in cc)

-- ---- parts of a table

module _ (packages keys : List ℕ) (part : Part) (p : ℕ) (some : 0 < p) where
  abbrev is_placed : InstanceMethod → Bool
  is_placed r = is_part part r.openness && (place_in packages keys r == p)

  -- the first row of a part with a number
  pub part_found : (rows : List InstanceMethod)
      → find (λ r. r.number == p) (filter_map (part_row packages keys part) rows)
      ≡ option_map (λ r. with_number r p) (find is_placed rows)
  part_found [] = refl
  part_found (r ∷ rows) =
      by (is_part part r.openness) (place_in packages keys r) (place_in packages keys r == 0) refl
      (place_in packages keys r == p) refl (part_found rows)
    where
      by : (b : Bool) (k : ℕ) (z : Bool) → (k == 0) ≡ z → (t : Bool) → (k == p) ≡ t
          → find (λ r. r.number == p) (filter_map (part_row packages keys part) rows)
          ≡ option_map (λ r. with_number r p) (find is_placed rows)
          → find (λ r. r.number == p) (cons_option (cond b (cond z None (Some (with_number r k))) None)
          (filter_map (part_row packages keys part) rows))
          ≡ option_map (λ r. with_number r p) (cond (b && t) (Some r) (find is_placed rows))
      by false k z e t f rest = rest
      by true k true e true f rest =
          absurd (let zeroth : k ≡ 0 = eqb-true k 0 e in let same : k ≡ p = eqb-true k p f in omega
          (arith, zeroth, same, some))
      by true k true e false f rest = rest
      by true k false e true f rest =
          ap (λ (b : Bool). cond b (Some (with_number r k))
          (find (λ r. r.number == p) (filter_map (part_row packages keys part) rows))) f
          ∙ ap (λ (j : ℕ). Some (with_number r j)) (eqb-true k p f)
      by true k false e false f rest =
          ap (λ (b : Bool). cond b (Some (with_number r k))
          (find (λ r. r.number == p) (filter_map (part_row packages keys part) rows))) f
          ∙ rest

part_at : (h : InstanceMethod → Option InstanceMethod) (table : List (List InstanceMethod)) (n : ℕ)
    → get_or (map (filter_map h) table) n [] ≡ filter_map h (get_or table n [])
part_at h [] n = refl
part_at h (rows ∷ table) zero = refl
part_at h (rows ∷ table) (suc n) = part_at h table n

-- the rows of a part from a class upwards
pub front_part : (h : InstanceMethod → Option InstanceMethod) (table : List (List InstanceMethod)) (cs : List ClassId)
    → front_rows (map (filter_map h) table) cs ≡ filter_map h (front_rows table cs)
front_part h table [] = refl
front_part h table (Lib id ∷ cs) = refl
front_part h table (Prog n ∷ cs) =
    (λ i. part_at h table n i ++ front_part h table cs i)
    ∙ sym (filter_map-append h (get_or table n []) (front_rows table cs))

pub mapped_length : {X Y : Type 0} (f : X → Y) (xs : List X) → length (map f xs) ≡ length xs
mapped_length f [] = refl
mapped_length f (x ∷ xs) = ap suc (mapped_length f xs)

-- each class has a list in both parts
pub each_count : (classes : List Class) (table : List (List InstanceMethod)) (places : Places)
    → HavePlaces classes table places → length places.each ≡ length table
each_count classes table places have =
    ap (λ (t : List (List InstanceMethod)). length t) have.each
    ∙ mapped_length (filter_map (part_row places.packages places.keys.items Each)) table

pub opening_count : (classes : List Class) (table : List (List InstanceMethod)) (places : Places)
    → HavePlaces classes table places → length places.opening ≡ length table
opening_count classes table places have =
    ap (λ (t : List (List InstanceMethod)). length t) have.opening
    ∙ mapped_length (filter_map (part_row places.packages places.keys.items OfOpen)) table
