-- A code in its canonical spelling, or the limit that it passes: parts that only the proofs of bodies need (the
-- project's own: steps of a call).
use Rattle.std.specs.Prelude.{ℕ, []}
use Rattle.std.specs.Int.{w32, cast_unsigned}
use Rattle.class_model.specs.CanonicalCode.{far}
use Rattle.class_model.specs.InstructionStructure.{MatchOffset}
use Rattle.class_model.specs.declared.op.Case.{Case}

-- a case of a lookupswitch as it is written (only the proof of encode_with needs it)
abbrev pub match_of : (ℕ → ℕ) → ℕ → Case → MatchOffset
match_of place at c = record { key = cast_unsigned w32 c.key; offset = far [] place at c.to }
