-- Which items have lines, item by item.
use Rattle.std.proofs.Common.{◌≡◌, ◌<◌, ℕ, zero, suc, ◌+◌, Bool, false, List, [], ◌∷◌, ◌++◌, length, map, take}
use Rattle.std.proofs.Common.{Some, slice_get, get_or, refl, ap, ◌∙◌, arith, length-append}
use Rattle.std.specs.Prelude.{is_some}
use Rattle.std.specs.List.{flat_map}
use Rattle.std.specs.Option.{option_map}
use Rattle.std.proofs.lemmas.List.{get_or_append_left, get_or-append-add, length-map}
use Rattle.std.proofs.lemmas.List.Sums.{sum_by-cons}
use Rattle.std.proofs.lemmas.Option.{slice_get-map, slice_get_within}
use Rattle.class_model.specs.declared.class.Class.{Class}
use Rattle.class_model.specs.declared.class.Field.{Field}
use Rattle.class_model.specs.declared.class.Method.{Method}
use Rattle.class_pool.specs.Count.{item_count, items_of}
use Rattle.class_pool.specs.Items.{class_item}
use Rattle.member_shrink.specs.Shrunk.{is_marked}
use Rattle.mapping_file.specs.declared.mapping.Mapping.{Mapping}
use Rattle.new_names.specs.NewNames.{names_given, new_class, new_field, new_method}
use Rattle.pair_clauses.specs.Closing.{lined_in, lined_items}
use Rattle.pair_checker.specs.Clauses.{given_names}

pub flat_of_map : {X Y Z : Type 0} (f : Y → List Z) (g : X → Y) (xs : List X)
    → flat_map f (map g xs) ≡ flat_map (λ x. f (g x)) xs
flat_of_map f g [] = refl
flat_of_map {X} {Y} {Z} f g (x ∷ xs) = ap (λ (t : List Z). f (g x) ++ t) (flat_of_map f g xs)

-- what stands for an item of the n-th class is among what stands for the items of that class
flat_at : (g : Class → List Bool) → ((c : Class) → length (g c) ≡ items_of c) → (cs : List Class) (n : ℕ) (c : Class)
    (k : ℕ) → slice_get cs n ≡ Some c → k < items_of c
    → get_or (flat_map g cs) (item_count (take n cs) + k) false ≡ get_or (g c) k false
flat_at g count [] n c k e low = absurd cc
flat_at g count (d ∷ cs) zero c k e low =
    let same : d ≡ c = cc in
    let start : item_count (take zero (d ∷ cs)) + k ≡ k = omega arith in
    let here : k < length (g d) = omega (arith, low, count d, ap items_of same) in
    ap (λ (j : ℕ). get_or (g d ++ flat_map g cs) j false) start
    ∙ get_or_append_left (g d) (flat_map g cs) false k here ∙ ap (λ (x : Class). get_or (g x) k false) same
flat_at g count (d ∷ cs) (suc n) c k e low =
    let long = count d in
    let sum = sum_by-cons items_of d (take n cs) in
    let place : item_count (d ∷ take n cs) + k
    ≡ length (g d) + (item_count (take n cs) + k) = omega (arith, long, sum) in
    ap (λ (j : ℕ). get_or (g d ++ flat_map g cs) j false) place
    ∙ get_or-append-add (g d) (flat_map g cs) (item_count (take n cs) + k) false ∙ flat_at g count cs n c k e low

test_at : {X : Type 0} (g : X → Bool) (xs : List X) (k : ℕ) (x : X) → slice_get xs k ≡ Some x
    → get_or (map g xs) k false ≡ g x
test_at g [] k x e = absurd cc
test_at g (y ∷ xs) zero x e = let same : y ≡ x = cc in ap g same
test_at g (y ∷ xs) (suc k) x e = test_at g xs k x e

module _ (mapping : Mapping) (input : List Class) where
  -- of each item, whether it has a line
  abbrev pub marks : List Bool
  marks = lined_items (given_names mapping input)

  abbrev lined : Class → List Bool
  lined c = lined_in (names_given mapping c)

  abbrev fields_lined : Class → List Bool
  fields_lined c = map is_some (map (new_field mapping c) c.fields)

  abbrev methods_lined : Class → List Bool
  methods_lined c = map is_some (map (new_method mapping c) c.methods)

  fields_count : (c : Class) → length (fields_lined c) ≡ length c.fields
  fields_count c = length-map (map (new_field mapping c) c.fields) is_some ∙ length-map c.fields (new_field mapping c)

  methods_count : (c : Class) → length (methods_lined c) ≡ length c.methods
  methods_count c =
      length-map (map (new_method mapping c) c.methods) is_some ∙ length-map c.methods (new_method mapping c)

  count : (c : Class) → length (lined c) ≡ items_of c
  count c =
      let both = length-append (fields_lined c) (methods_lined c) in
      let fields = fields_count c in
      let methods = methods_count c in
      omega (arith, both, fields, methods)

  module _ (n : ℕ) (c : Class) (is : slice_get input n ≡ Some c) where
    item_at : (k : ℕ) → k < items_of c → is_marked marks (class_item input n + k) ≡ get_or (lined c) k false
    item_at k low =
        ap (λ (t : List Bool). get_or t (class_item input n + k) false) (flat_of_map lined_in
        (names_given mapping) input)
        ∙ flat_at lined count input n c k is low

    pub class_lined : is_marked marks (class_item input n) ≡ is_some (new_class mapping c.name)
    class_lined =
        let start : class_item input n ≡ class_item input n + 0 = omega arith in
        ap (is_marked marks) start ∙ item_at 0 (omega arith)

    pub field_lined : (k : ℕ) (f : Field) → slice_get c.fields k ≡ Some f
        → is_marked marks (class_item input n + 1 + k) ≡ is_some (new_field mapping c f)
    field_lined k f at =
        let low = slice_get_within c.fields k f at in
        let place : class_item input n + 1 + k ≡ class_item input n + suc k = omega arith in
        let long = fields_count c in
        ap (is_marked marks) place ∙ item_at (suc k) (omega (arith, low))
        ∙ get_or_append_left (fields_lined c) (methods_lined c) false k (omega (arith, low, long))
        ∙ test_at is_some (map (new_field mapping c) c.fields) k (new_field mapping c f)
        (slice_get-map (new_field mapping c) c.fields k ∙ ap (option_map (new_field mapping c)) at)

    pub method_lined : (k : ℕ) (m : Method) → slice_get c.methods k ≡ Some m
        → is_marked marks (class_item input n + 1 + (length c.fields + k)) ≡ is_some (new_method mapping c m)
    method_lined k m at =
        let low = slice_get_within c.methods k m at in
        let place : class_item input n + 1 + (length c.fields + k) ≡ class_item input n + suc (length c.fields + k) =
        omega arith in
        let long = fields_count c in
        let behind : length c.fields + k ≡ length (fields_lined c) + k = omega (arith, long) in
        ap (is_marked marks) place ∙ item_at (suc (length c.fields + k)) (omega (arith, low))
        ∙ ap (λ (j : ℕ). get_or (fields_lined c ++ methods_lined c) j false) behind
        ∙ get_or-append-add (fields_lined c) (methods_lined c) k false
        ∙ test_at is_some (map (new_method mapping c) c.methods) k (new_method mapping c m)
        (slice_get-map (new_method mapping c) c.methods k ∙ ap (option_map (new_method mapping c)) at)
