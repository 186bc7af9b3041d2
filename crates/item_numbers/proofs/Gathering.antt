-- What is wanted step by step.
use Rattle.std.proofs.Common.{◌≡◌, ℕ, ◌+◌, ◌<◌, List, [], ◌∷◌, ◌++◌, length, get_or, map, take}
use Rattle.std.proofs.Common.{Result, Ok, Err, sym, ap, ◌∙◌, append_assoc, append-nil}
use Rattle.std.specs.Prelude.{OnOk}
use Rattle.std.specs.List.{flat_map}
use Rattle.std.proofs.lemmas.List.{map_push}
use Rattle.std.proofs.lemmas.List.Concat.{flat_map-append}
use Rattle.std.proofs.lemmas.List.Elements.{filter_map-append}
use Rattle.class_model.specs.declared.class.Class.{Class}
use Rattle.require_sys.specs.Requires.{Item, number_of, numbers}
use Rattle.item_numbers.specs.bodies.Wanting.{Wanted, wanting}
use Rattle.require_sys.proofs.Steps.{more_of}

pub joins : (w : Wanted) (a b : List Item) → wanting (wanting w a) b ≡ wanting w (a ++ b)
joins w a b =
    let both : (w.numbers ++ numbers w.classes a) ++ numbers w.classes b ≡ w.numbers ++ numbers w.classes (a ++ b) =
    append_assoc w.numbers (numbers w.classes a) (numbers w.classes b)
    ∙ ap (λ t. w.numbers ++ t) (sym (filter_map-append (number_of w.classes) a b)) in
    λ i. record { classes = w.classes; numbers = both i }

-- nothing was wanted
pub nothing : (w : Wanted) → w ≡ wanting w []
nothing w =
    let same = sym (append-nil w.numbers) in
    λ i. record { classes = w.classes; numbers = same i }

-- some more was wanted
pub in_turn : (w v u : Wanted) (a : List Item) (b : List Class → List Item) → v ≡ wanting w a
    → u ≡ wanting v (b v.classes) → u ≡ wanting w (a ++ b w.classes)
in_turn w v u a b first second =
    second ∙ ap (λ (x : Wanted). wanting x (b x.classes)) first ∙ joins w a (b w.classes)

-- the same, by a call whose answer is handed on
pub and_then : {E : Type 0} (r : Result (Unit {0}) E) (w v u : Wanted) (a : List Item) (b : List Class → List Item)
    → v ≡ wanting w a → OnOk r (u ≡ wanting v (b v.classes)) → OnOk r (u ≡ wanting w (a ++ b w.classes))
and_then (Ok x) w v u a b first second = in_turn w v u a b first second
and_then (Err e) w v u a b first second = tt

-- one more element of a list
pub more_wanted : {X : Type 0} (f : List Class → X → List Item) (xs : List X) (i : ℕ) (x : X) (w v u : Wanted)
    → i < length xs → x ≡ get_or xs i x → v ≡ wanting w (flat_map (f w.classes) (take i xs))
    → u ≡ wanting v (f v.classes x) → u ≡ wanting w (flat_map (f w.classes) (take (i + 1) xs))
more_wanted f xs i x w v u lt at so_far one =
    in_turn w v u (flat_map (f w.classes) (take i xs)) (λ cs. f cs x) so_far one
    ∙ ap (wanting w)
    (ap (λ t. flat_map (f w.classes) (take i xs) ++ t) (sym (append-nil (f w.classes x)))
    ∙ sym (flat_map-append (f w.classes) (take i xs) (x ∷ []))
    ∙ ap (flat_map (f w.classes)) (sym (more_of xs i x lt at)))

-- one more element of a list, each of which is one item
pub more_mapped : {X : Type 0} (f : X → Item) (xs : List X) (i : ℕ) (x : X) (w v u : Wanted) → i < length xs
    → x ≡ get_or xs i x → v ≡ wanting w (map f (take i xs)) → u ≡ wanting v (f x ∷ [])
    → u ≡ wanting w (map f (take (i + 1) xs))
more_mapped f xs i x w v u lt at so_far one =
    in_turn w v u (map f (take i xs)) (λ cs. f x ∷ []) so_far one
    ∙ ap (wanting w) (sym (map_push f (take i xs) x) ∙ ap (map f) (sym (more_of xs i x lt at)))
