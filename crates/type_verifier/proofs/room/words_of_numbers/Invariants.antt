use Rattle.std.proofs.Common.{◌≡◌, ◌+◌, drop, map}
use Rattle.type_verifier.specs.Effects.{all_words_wanted}
use Rattle.type_verifier.specs.Rules.{wanted_number}
use Rattle.type_verifier.proofs.room.words_of_numbers.Given as goal

abbrev pub invariant-loop-num : goal.invariant-loop-num
invariant-loop-num l = l.words + all_words_wanted (map wanted_number (drop l.num-index l.nums))
    ≡ all_words_wanted (map wanted_number l.nums)
