use Rattle.std.proofs.Common.{◌≡◌, ◌++◌, drop, map}
use Rattle.known_pool.specs.bodies.Texts.{text_in}
use Rattle.known_pool.proofs.text_pool.known_texts.Given as goal

abbrev pub invariant-loop-entry : goal.invariant-loop-entry
invariant-loop-entry l = l.texts ++ map text_in (drop l.entry-index l.entries) ≡ map text_in l.entries
