-- What a seat keeps while it does an item, and what it has then done.
use Rattle.std.specs.Prelude.{◌≡◌, ◌⊎◌, ℕ, ◌<◌, Bool, false, IsTrue, Some, None, List, [], ◌∷◌, ◌++◌, length}
use Rattle.std.specs.List.{Contains}
use Rattle.mark_core.specs.Marks.{set_of}
use Rattle.mark_core.specs.Valid.{Valid}
use Rattle.mark_core.specs.declared.system.Pair.{Pair}
use Rattle.mark_core.specs.declared.system.System.{System}
use Rattle.mark_machine.specs.Machine.{look}
use Rattle.mark_machine.specs.declared.machine.Look.{Look}
use Rattle.mark_machine.specs.declared.machine.View.{View}
use Rattle.mark_words.specs.Seats.{system_of}
use Rattle.mark_words.specs.declared.table.MarkTable.{MarkTable}
use Rattle.mark_workers.specs.Index.{IsIndex}
use Rattle.mark_workers.specs.declared.pair_index.PairIndex.{PairIndex}

-- the table is one of this valid system, and its pairs are indexed
abbrev pub Fits : MarkTable → System → PairIndex → Type 0
Fits table sys index = (system_of table ≡ sys) × Valid sys × IsIndex sys index

-- the item is in hand, and nothing is reserved
abbrev pub IsBusy : View → ℕ → Type 0
IsBusy v x = (v.hand ≡ Some x) × (v.reserved ≡ false)

-- what it has seen lies below n
abbrev pub SeenBelow : ℕ → View → Type 0
SeenBelow n v = (x : ℕ) → Contains v.seen x → x < n

-- there is a note for each item, and what is noted was seen
pub record Knows (n : ℕ) (v : View) (known : List Bool) : Type 0 where
  pub count : length known ≡ n
  pub seen : (x : ℕ) → IsTrue (set_of known x) → Contains v.seen x

-- the view may have seen and looked at more
pub record Kept (n : ℕ) (v w : View) : Type 0 where
  pub hand : w.hand ≡ v.hand
  pub reserved : w.reserved ≡ v.reserved
  pub standing : w.standing ≡ v.standing
  pub quiet : w.quiet ≡ v.quiet
  pub seats : w.seats ≡ v.seats
  pub all : w.all ≡ v.all
  pub finished : w.finished ≡ v.finished
  pub seen : (x : ℕ) → Contains v.seen x → Contains w.seen x
  pub looks : (l : Look) → Contains v.looks l → Contains w.looks l
  pub below : SeenBelow n v → SeenBelow n w

-- the pair has x and the partner as its items
abbrev pub Sides : Pair → ℕ → ℕ → Type 0
Sides pair x partner = ((pair.one ≡ x) × (pair.two ≡ partner)) ⊎ ((pair.two ≡ x) × (pair.one ≡ partner))

-- the consequence was seen, or the look at the partner stands
abbrev pub Looked : View → ℕ → ℕ → Pair → Type 0
Looked v x partner pair = Contains v.seen pair.derived ⊎ Contains v.looks (look x partner)

-- the item was in hand and is finished, and the view may have seen more
pub record Did (n : ℕ) (v : View) (x : ℕ) (w : View) : Type 0 where
  pub hand : w.hand ≡ None
  pub reserved : w.reserved ≡ false
  pub standing : w.standing ≡ v.standing
  pub quiet : w.quiet ≡ v.quiet
  pub seats : w.seats ≡ v.seats
  pub all : w.all ≡ v.all
  pub finished : w.finished ≡ v.finished ++ x ∷ []
  pub seen : (y : ℕ) → Contains v.seen y → Contains w.seen y
  pub below : SeenBelow n v → SeenBelow n w
