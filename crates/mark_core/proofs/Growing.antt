-- What stays while the worklist grows, and what a marked item makes due.
use Rattle.std.proofs.Common.{ℕ, IsTrue, inl, inr, ⊎_elim, ◌∙◌, refl}
use Rattle.std.specs.List.{All, Contains}
use Rattle.std.proofs.lemmas.List.Elements.{All-contains}
use Rattle.mark_core.specs.declared.system.System.{System}
use Rattle.mark_core.specs.declared.system.Pair.{Pair}
use Rattle.mark_core.specs.declared.plain.Worklist.{Worklist}
use Rattle.mark_core.specs.Marks.{IsMarked, needs_of}
use Rattle.mark_core.specs.bodies.Worklist.{Grows, IsDone}

pub grows_refl : (work : Worklist) → Grows work work
grows_refl work = record { keeps = λ x has. has; waits = λ x w. w; fresh = λ x has. inl has; left = refl }

pub grows_trans : (a b c : Worklist) → Grows a b → Grows b c → Grows a c
grows_trans a b c first then = record {
  keeps = λ x has. then.keeps x (first.keeps x has);
  waits = λ x w. then.waits x (first.waits x w);
  fresh = λ x has. ⊎_elim (λ mid. ⊎_elim inl (λ w. inr (then.waits x w)) (first.fresh x mid)) inr (then.fresh x has);
  left = then.left ∙ first.left;
}

pub done_grows : (old new : Worklist) (pair : Pair) → Grows old new → IsDone old pair → IsDone new pair
done_grows old new pair grows done one two =
    ⊎_elim
    (λ had_one. ⊎_elim
    (λ had_two. ⊎_elim
    (λ w. inl (grows.waits pair.one w))
    (λ rest. ⊎_elim (λ w. inr (inl (grows.waits pair.two w))) (λ has. inr (inr (grows.keeps pair.derived has))) rest)
    (done had_one had_two))
    (λ w. inr (inl w))
    (grows.fresh pair.two two))
    inl
    (grows.fresh pair.one one)

pub derived_due : (sys : System) (pair : Pair) → Contains sys.pairs pair → IsMarked sys pair.one → IsMarked sys pair.two
    → IsMarked sys pair.derived
derived_due sys pair listed one two set closed =
    All-contains (λ p. IsTrue (set p.one) → IsTrue (set p.two)
    → IsTrue (set p.derived)) sys.pairs pair closed.pairs listed (one set closed) (two set closed)

pub needs_due : (sys : System) (x : ℕ) → IsMarked sys x → All (IsMarked sys) (needs_of sys x)
needs_due sys x due k d lt set closed = closed.needs x (due set closed) k d lt
