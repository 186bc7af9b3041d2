-- Names, and numbers of classes.
use Rattle.std.proofs.Common.{◌≡◌, ℕ, zero, suc, ◌+◌, ◌<◌, ◌||◌, Bool, false, List, [], ◌∷◌, ◌++◌, length, get_or}
use Rattle.std.proofs.Common.{take, map, Some, refl, sym, ap, ◌∙◌, arith}
use Rattle.std.specs.List.{position, list_any}
use Rattle.std.proofs.lemmas.List.{take_more, length-take, length-map, get_or-map, get_or-take, map-append}
use Rattle.std.proofs.lemmas.List.Quantifiers.{position-Some}
use Rattle.indexmap.specs.IndexSet.{insert_key}
use Rattle.jv_base.specs.Names.{is_text}
use Rattle.jv_base.proofs.Equality.{text_Decides}
use Rattle.jv_base.proofs.Tests.{false_where}
use Rattle.class_model.specs.declared.class.Class.{Class}
use Rattle.class_pool.specs.bodies.Faults.{NamesDiffer}
use Rattle.lib_table.proofs.Classes.{position_map}

abbrev pub name_of : Class → List ℕ
name_of c = c.name

pub number_found : (classes : List Class) (keys : List (List ℕ)) (name : List ℕ) → keys ≡ map name_of classes
    → position (is_text name) keys ≡ position (λ c. is_text name c.name) classes
number_found classes keys name h = ap (position (is_text name)) h ∙ position_map name_of (is_text name) classes

pub number_below : (classes : List Class) (name : List ℕ) (n : ℕ) → position (λ c. is_text name c.name) classes ≡ Some n
    → n < length classes
number_below (c ∷ classes) name n is = (position-Some (λ (x : Class). is_text name x.name) (c ∷ classes) n c is).0
number_below [] name n is = absurd cc

none_passes : {X : Type 0} (p : X → Bool) (xs : List X) (d : X) → ((k : ℕ) → k < length xs → p (get_or xs k d) ≡ false)
    → list_any p xs ≡ false
none_passes p [] d h = refl
none_passes p (x ∷ xs) d h =
    ap (λ b. b || list_any p xs) (h zero (omega arith))
    ∙ none_passes p xs d (λ k within. h (suc k) (omega (arith, within)))

-- a name that no class before has
pub fresh : (classes : List Class) (i : ℕ) (c : Class) → NamesDiffer classes → i < length classes
    → c ≡ get_or classes i c → list_any (is_text c.name) (map name_of (take i classes)) ≡ false
fresh classes i c differ within is =
    none_passes (is_text c.name) (map name_of (take i classes)) c.name (λ k k-within.
    let below : k < i = omega (arith, k-within, length-map (take i classes) name_of, length-take i classes) in
    let there : k < length (take i classes) = omega (arith, k-within, length-map (take i classes) name_of) in
    let at : get_or (map name_of (take i classes)) k c.name ≡ (get_or classes k c).name =
    get_or-map name_of (take i classes) k c c.name there ∙ ap name_of (get_or-take i classes k c below) in
    ap (is_text c.name) at
    ∙ false_where _ (text_Decides c.name (get_or classes k c).name)
    (λ same. differ k i c below within (sym same ∙ ap name_of is)))

-- the next name is put behind the others
pub name_put : (classes : List Class) (i : ℕ) (c : Class) (keys : List (List ℕ)) → NamesDiffer classes
    → i < length classes → c ≡ get_or classes i c → keys ≡ map name_of (take i classes)
    → insert_key is_text keys c.name ≡ map name_of (take (i + 1) classes)
name_put classes i c keys differ within is before =
    let none : list_any (is_text c.name) keys ≡ false = ap (list_any (is_text c.name)) before
    ∙ fresh classes i c differ within is in
    let grown : insert_key is_text keys c.name ≡ keys ++ c.name ∷ [] = rw none refl in
    let more : take (i + 1) classes ≡ take i classes ++ c ∷ [] = take_more classes i c within
    ∙ ap (λ (x : Class). take i classes ++ x ∷ []) (sym is) in
    grown ∙ ap (λ (ks : List (List ℕ)). ks ++ c.name ∷ []) before ∙ sym (map-append name_of (take i classes) (c ∷ []))
    ∙ ap (map name_of) (sym more)
