-- Reading types of a row one behind the other, as a loop does.
use Rattle.std.proofs.Common.{◌≡◌, ℕ, ◌-◌, ◌+◌, ◌<◌, List, [], ◌∷◌, ◌++◌, map, Result, Ok, ap, ◌∙◌}
use Rattle.std.proofs.lemmas.List.{map-append}
use Rattle.jv_base.specs.Place.{Place}
use Rattle.format_reading.specs.declared.fault.FormatFault.{FormatFault}
use Rattle.format_reading.specs.Reader.{FormatReader, many, behind}
use Rattle.format_reading.proofs.Many.{goes_on}

-- one more value, seen by view
pub goes_on_as : {T V : Type 0} (view : T → V) (r : FormatReader V) (front : List T) (count i : ℕ) (p after : Place)
    (next : T) (total : Result
    (List V × Place) FormatFault) → i < count → r p ≡ Ok (view next, after)
    → behind (map view front) (many (count - i) r p) ≡ total
    → behind (map view (front ++ next ∷ [])) (many (count - (i + 1)) r after)
    ≡ total
goes_on_as view r front count i p after next total lt h so_far =
    ap (λ (xs : List _). behind xs (many (count - (i + 1)) r after)) (map-append view front (next ∷ []))
    ∙ goes_on r (map view front) count i p after (view next) total lt h so_far
