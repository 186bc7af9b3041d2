-- Answers of `illegal_in`: what its calls ask for, and what it promises.
use Rattle.std.proofs.Common.{◌≡◌, List, Some, None, slice_get, refl, subst}
use Rattle.class_model.specs.declared.class.Method.{Method}
use Rattle.pair_clauses.specs.Finding.{FindsUnless}
use Rattle.pair_clauses.specs.Places.{place_of_method}
use Rattle.pair_clauses.proofs.Zipped.{got}
use Rattle.pair_edits.specs.Edits.{AreLegalOn}
use Rattle.pair_edits.specs.Entries.{steps_of}
use Rattle.pair_edits.proofs.Finding.{found_on}
use Rattle.pair_edits.proofs.illegal.illegal_in.Goals as goal

pub loop-method-preserved : goal.loop-method-preserved
loop-method-preserved c = found_on
    (λ (m : Method). FindsUnless (AreLegalOn (steps_of c.args.entries.now c.args.class.now m) m.code)
    (place_of_method c.args.class.now m))
    c.args.class.now.methods c.loop-method.method-index c.loop-method.invariant c.method-item.result
    (subst (λ (ms : List Method). slice_get ms c.loop-method.method-index ≡ Some c.method-item.result)
    c.as_slice-method-items.ensures
    (got c.as_slice-method-items.result.now c.loop-method.method-index c.method-item.result c.loop-method-test.true
    c.method-item.is))
    None refl (c.in_ok-is_legal.ensures.0 c.if-not-branch.false)
