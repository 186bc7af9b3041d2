-- The system of one item, which is its seed, and what is known of a seat between two calls.
use Rattle.std.specs.Prelude.{◌≡◌, false, true, None, [], ◌∷◌}
use Rattle.mark_core.specs.declared.system.System.{System}
use Rattle.mark_machine.specs.declared.machine.View.{View}

abbrev pub one_item : System
one_item = record { n = 1; seeds = 0 ∷ []; needs = [] ∷ []; pairs = [] }

-- the view holds the standing reservation, and has no hand and no other note
abbrev pub IsSeeding : View → Type 0
IsSeeding v = (v.hand ≡ None) × (v.reserved ≡ false) × (v.standing ≡ true)

-- the view has no hand and no note
abbrev pub IsFree : View → Type 0
IsFree v = (v.hand ≡ None) × (v.reserved ≡ false) × (v.standing ≡ false)
