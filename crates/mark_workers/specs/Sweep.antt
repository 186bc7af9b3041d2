-- The rounds of the sweep.
use Rattle.std.specs.Prelude.{◌≡◌, ◌⊎◌, ℕ, ◌<◌, Bool, true, false, ◌==◌, [], ◌∷◌, ◌++◌}
use Rattle.std.specs.List.{Contains}
use Rattle.mark_machine.specs.Counts.{bit, sums, times}
use Rattle.mark_machine.specs.declared.machine.View.{View}
use Rattle.mark_words.specs.Plays.{IsFull}
use Rattle.mark_workers.specs.Ready.{IsFree}

-- the view stands for all seats, and is free
abbrev pub Rests : ℕ → View → Type 0
Rests n v = IsFree n v × IsFull v

-- how many items it has not finished
abbrev pub left_of : ℕ → View → ℕ
left_of n v = sums n (λ x. bit (times x v.finished == 0))

-- each item below m that was seen is finished
abbrev pub IsSwept : ℕ → View → Type 0
IsSwept m v = (x : ℕ) → x < m → Contains v.seen x → Contains v.finished x

-- the item was new and is finished; or nothing but it was seen, and where it was seen it is finished
abbrev pub Visited : ℕ → View → ℕ → Bool → View → Type 0
Visited n v x true w = Rests n w × (Contains v.finished x → ⊥) × (w.finished ≡ v.finished ++ x ∷ [])
Visited n v x false w =
    Rests n w × (w.finished ≡ v.finished) × ((y : ℕ) → Contains w.seen y → Contains v.seen y ⊎ (x ≡ y))
    × (Contains w.seen x → Contains w.finished x)
