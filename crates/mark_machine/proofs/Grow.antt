-- What is marked where others are: a consequence of two items, and what an item needs.
use Rattle.std.proofs.Common.{ℕ, IsTrue}
use Rattle.std.specs.List.{All, Contains}
use Rattle.std.proofs.lemmas.List.Elements.{All-contains}
use Rattle.mark_core.specs.declared.system.System.{System}
use Rattle.mark_core.specs.declared.system.Pair.{Pair}
use Rattle.mark_core.specs.Marks.{IsMarked, needs_of}

pub derived_due : (sys : System) (q : Pair) → Contains sys.pairs q → IsMarked sys q.one → IsMarked sys q.two
    → IsMarked sys q.derived
derived_due sys q h one two set closed =
    All-contains (λ p. IsTrue (set p.one) → IsTrue (set p.two) → IsTrue (set p.derived)) sys.pairs q closed.pairs h
    (one set closed) (two set closed)

pub needs_due : (sys : System) (x : ℕ) → IsMarked sys x → All (IsMarked sys) (needs_of sys x)
needs_due sys x due k d lt set closed = closed.needs x (due set closed) k d lt
