-- Where items stand among all.
use Rattle.std.proofs.Common.{◌≡◌, ◌≤◌, ℕ, zero, suc, ◌+◌, ◌-◌, ◌<◌, List, [], ◌∷◌, ◌++◌, length, map, take, Some}
use Rattle.std.proofs.Common.{slice_get, ap, ◌∙◌, arith, length-append}
use Rattle.std.proofs.lemmas.List.{length-map}
use Rattle.std.proofs.lemmas.List.Sums.{sum_by-cons}
use Rattle.jv_base.proofs.Lists.{got_in_front, got_left, got_right, got_mapped}
use Rattle.class_model.specs.declared.class.Class.{Class}
use Rattle.class_model.specs.declared.class.Field.{Field}
use Rattle.class_model.specs.declared.class.Method.{Method}
use Rattle.class_pool.specs.Count.{items_of}
use Rattle.class_pool.specs.Items.{class_item}
use Rattle.pair_clauses.specs.Places.{item_places, place_of_field, place_of_method, places_in}

places_counted : (c : Class) → length (places_in c) ≡ items_of c
places_counted c =
    let fields = length-map c.fields (place_of_field c) in
    let methods = length-map c.methods (place_of_method c) in
    let both = length-append (map (place_of_field c) c.fields) (map (place_of_method c) c.methods) in
    omega (arith, fields, methods, both)

-- an item of a class among all
pub place_there : (classes : List Class) (n : ℕ) (c : Class) (k : ℕ) → slice_get classes n ≡ Some c → k < items_of c
    → slice_get (item_places classes) (class_item classes n + k) ≡ slice_get (places_in c) k
place_there [] n c k is low = absurd cc
place_there (d ∷ cs) zero c k is low =
    let same : d ≡ c = cc in
    let start : class_item (d ∷ cs) zero + k ≡ k = omega arith in
    let here : k < length (places_in d) = omega (arith, low, places_counted d, ap items_of same) in
    ap (slice_get (places_in d ++ item_places cs)) start ∙ got_left (places_in d) (item_places cs) k here
    ∙ ap (λ (x : Class). slice_get (places_in x) k) same
place_there (d ∷ cs) (suc n) c k is low =
    let long = places_counted d in
    let sum = sum_by-cons items_of d (take n cs) in
    let place : class_item (d ∷ cs) (suc n) + k
    ≡ length (places_in d) + (class_item cs n + k) = omega (arith, long, sum) in
    ap (slice_get (places_in d ++ item_places cs)) place
    ∙ got_right (places_in d) (item_places cs) (class_item cs n + k)
    ∙ place_there cs n c k is low

-- the places of members of a class
pub field_there : (c : Class) (k : ℕ) (f : Field) → slice_get c.fields k ≡ Some f
    → slice_get (places_in c) (k + 1) ≡ Some (place_of_field c f)
field_there c k f is =
    let e : k + 1 ≡ suc k = omega arith in
    ap (slice_get (places_in c)) e
    ∙ got_in_front (map (place_of_field c) c.fields) (map (place_of_method c) c.methods) k (place_of_field c f)
    (got_mapped (place_of_field c) c.fields k f is)

pub method_there : (c : Class) (k n : ℕ) (m : Method) → n ≡ length c.fields → n ≤ k
    → slice_get c.methods (k - n) ≡ Some m
    → slice_get (places_in c) (k + 1) ≡ Some (place_of_method c m)
method_there c k n m fields behind is =
    let long = length-map c.fields (place_of_field c) in
    let e : k + 1 ≡ suc (length (map (place_of_field c) c.fields) + (k - n)) = omega (arith, fields, behind, long) in
    ap (slice_get (places_in c)) e
    ∙ got_right (map (place_of_field c) c.fields) (map (place_of_method c) c.methods) (k - n)
    ∙ got_mapped (place_of_method c) c.methods (k - n) m is
