-- The words of the table: word 0 is the pending number, and then a mark word and a taken word for each 64 items.
use Rattle.std.specs.Prelude.{ℕ, ◌+◌, ◌*◌, ◌/◌, ◌%◌, ◌^◌, Bool, ◌==◌, List, slice_index}
use Rattle.std.specs.Int.{bit_at}
use Rattle.mark_machine.specs.declared.machine.View.{View}
use Rattle.mark_machine.specs.Machine.{Machine}

abbrev pub mark_word : ℕ → ℕ
mark_word x = 2 * (x / 64) + 1

abbrev pub taken_word : ℕ → ℕ
taken_word x = 2 * (x / 64) + 2

abbrev pub mask : ℕ → ℕ
mask x = 1 * 2 ^ (x % 64) % 2 ^ 64

-- whether the item's bit is set in this word
abbrev pub has_bit : ℕ → ℕ → Bool
has_bit word x = bit_at word (x % 64) == 1

abbrev pub word_count : ℕ → ℕ
word_count n = 2 * ((n + 63) / 64) + 1

-- what the words and the views are, as a state of the mark machine
abbrev pub machine_of : List ℕ → List View → Machine
machine_of words views =
    record {
      marked = λ x. has_bit (slice_index words (mark_word x)) x;
      taken = λ x. has_bit
          (slice_index words (taken_word x)) x;
      pending = slice_index words 0;
      views = views;
    }
