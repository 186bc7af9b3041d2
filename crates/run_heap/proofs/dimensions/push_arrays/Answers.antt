-- Answers of `push_arrays`: what its calls ask for, and what it promises.
use Rattle.std.proofs.Common.{◌∙◌, ◌+◌, ◌++◌, ℕ, List, ap, drop, get_or, length, map, pos, rules}
use Rattle.std.proofs.lemmas.Int.{to_z-of_z}
use Rattle.std.specs.Int.RustNames.{unsigned_abs}
use mir.Syntax.{w32}
use mir.Val.{SFits}
use Rattle.jvm_model.specs.Arrays.{arrays_from}
use Rattle.run_heap.specs.Worlds.{object_of}
use Rattle.run_heap.proofs.Nesting.{abs_opened, are_more_is}
use Rattle.run_heap.proofs.dimensions.push_arrays.Goals as goal

pub loop-at-preserved : goal.loop-at-preserved
loop-at-preserved c =
    let fits : SFits w32 (get_or c.args.sizes.now c.loop-at.at (pos 0)) = search rules in
    c.in_ok-push_next.ensures (map unsigned_abs (drop (c.loop-at.at + 1) c.args.sizes.now))
    (are_more_is c.args.sizes.now (c.loop-at.at + 1))
    ∙ ap (λ (ns : List ℕ). map object_of c.loop-at.heap.items
    ++ arrays_from (length c.loop-at.heap.items) c.loop-at.level.count c.loop-at.level.ty ns)
    (abs_opened c.args.sizes.now c.loop-at.at c.unsigned_abs-size.result c.loop-at-test.true
    (rw (to_z-of_z w32 (get_or c.args.sizes.now c.loop-at.at (pos 0)) fits) at c.unsigned_abs-size.ensures.value))
    ∙ c.loop-at.invariant
