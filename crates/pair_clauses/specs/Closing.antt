-- The clauses SeedLost and NotClosed: what has to be kept has a line (ProGuard manual, "Keep Options"; the project's
-- own: what an item needs, and what two items need together).
use Rattle.std.specs.Prelude.{ℕ, Bool, false, not, ◌&&◌, List, [], ◌∷◌, ◌++◌, map, fold, min, Option, Some, None}
use Rattle.std.specs.Prelude.{is_some}
use Rattle.std.specs.Prelude.{slice_get, slice_index_or, if◌then◌else◌}
use Rattle.std.specs.List.{enumerate_from, filter, find, flat_map}
use Rattle.std.specs.Option.{option_and_then}
use Rattle.mark_core.specs.declared.system.Pair.{Pair}
use Rattle.mark_core.specs.declared.system.System.{System}
use Rattle.class_model.specs.declared.class.Class.{Class}
use Rattle.new_names.specs.declared.class_names.ClassNames.{ClassNames}
use Rattle.pair_clauses.specs.Places.{item_places}
use Rattle.pair_clauses.specs.declared.place.Place.{Place}

-- of a class and its members, in the order of their items, whether each has a line
abbrev pub lined_in : ClassNames → List Bool
lined_in given = is_some given.class ∷ (map is_some given.fields ++ map is_some given.methods)

-- of each item of a set, whether it has a line
abbrev pub lined_items : List ClassNames → List Bool
lined_items given = flat_map lined_in given

-- an item has a line
abbrev pub has_line : List Bool → ℕ → Bool
has_line lined item = slice_index_or lined item false

-- the least of some numbers
abbrev pub lesser : Option ℕ → ℕ → Option ℕ
lesser None n = Some n
lesser (Some least) n = Some (min least n)

abbrev pub least : List ℕ → Option ℕ
least numbers = fold lesser None numbers

-- the first seed without a line
abbrev pub lost_seed : System → List Bool → Option ℕ
lost_seed sys lined = find (λ x. not (has_line lined x)) sys.seeds

-- what an item needs, where it has a line
abbrev pub needed_by : List Bool → ℕ × List ℕ → List ℕ
needed_by lined (item, needs) = if has_line lined item then needs else []

-- what two items need together, where both have lines
abbrev pub needed_together : List Bool → Pair → List ℕ
needed_together lined pair =
    if has_line lined pair.one && has_line lined pair.two then pair.derived ∷ [] else []

-- all that items with lines need
abbrev pub needed : System → List Bool → List ℕ
needed sys lined =
    flat_map (needed_by lined) (enumerate_from 0 sys.needs) ++ flat_map (needed_together lined) sys.pairs

-- the first item that is needed and has no line
abbrev pub lacking : System → List Bool → Option ℕ
lacking sys lined = least (filter (λ x. not (has_line lined x)) (needed sys lined))

-- the place of an item
abbrev pub place_of_item : List Class → Option ℕ → Option Place
place_of_item input item = option_and_then (λ n. slice_get (item_places input) n) item

-- the first place of SeedLost, in the order of items
abbrev pub seed_fault : List Class → List ClassNames → System → Option Place
seed_fault input given sys = place_of_item input (lost_seed sys (lined_items given))

-- the first place of NotClosed, in the order of items
abbrev pub closed_fault : List Class → List ClassNames → System → Option Place
closed_fault input given sys = place_of_item input (lacking sys (lined_items given))
