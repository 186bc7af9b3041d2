-- Types as Java source spells them: parts that only the proofs of bodies need (the project's own: steps of a call).
use Rattle.std.specs.Prelude.{ℕ, ◌<◌, ◌≤◌, Bool, List, take}
use Rattle.std.specs.Prelude.{Option, Some, None}
use Rattle.jv_base.specs.declared.external_form.ExternalRead as kept
use Rattle.jv_base.specs.declared.external_form.ExternalRead.TheVariants as read
use Rattle.jv_base.specs.External.{slashed, External, word, opened, closed}

-- ---- What the reader keeps (only the proof of read_external needs it)

-- what the reader keeps before a place
abbrev pub external_at : List ℕ → ℕ → kept.ExternalRead → External
external_at text at (read.Word in_part) = word (slashed (take at text)) in_part
external_at text at (read.Opened dims base) = opened dims base
external_at text at (read.Closed dims base) = closed dims base

-- the same behind one more byte, if it can stand there (only the proof of read_external needs it)
abbrev pub external_next_at : List ℕ → ℕ → Option kept.ExternalRead → Option External
external_next_at text at (Some r) = Some (external_at text at r)
external_next_at text at None = None

-- one more dimension fits
abbrev pub HasRoom : kept.ExternalRead → Type 0
HasRoom (read.Word in_part) = Unit {0}
HasRoom (read.Opened dims base) = dims < 255
HasRoom (read.Closed dims base) = dims ≤ 255

-- the same behind one more byte (only the proof of read_external needs it)
abbrev pub NextHasRoom : Option kept.ExternalRead → Type 0
NextHasRoom (Some r) = HasRoom r
NextHasRoom None = Unit {0}

-- a word, which goes on (only the proof of read_external needs it)
abbrev pub word_read : Option Bool → Option kept.ExternalRead
word_read (Some in_part) = Some (read.Word in_part)
word_read None = None
