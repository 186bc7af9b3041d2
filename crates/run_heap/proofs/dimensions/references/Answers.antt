-- Answers of `references`: what its calls ask for, and what it promises.
use Rattle.std.proofs.Common.{◌∙◌, ◌++◌, [], ◌∷◌, List, ap, rules, sym}
use Rattle.std.proofs.lemmas.List.FromFn.{map-range_with_len_more}
use Rattle.jvm_model.specs.Arrays.{references_from}
use Rattle.jvm_model.specs.Value.{Ref, Value}
use Rattle.run_heap.proofs.dimensions.references.Goals as goal

pub loop-index-preserved : goal.loop-index-preserved
loop-index-preserved c = rw c.in_ok-push.ensures.items
    (ap (λ (vs : List Value). vs ++ c.reference.result ∷ []) c.loop-index.invariant
    ∙ ap (λ (v : Value). references_from c.args.first c.loop-index.index ++ v ∷ []) c.reference.ensures
    ∙ sym (map-range_with_len_more Ref c.args.first c.loop-index.index c.in-Some.number (search rules)))
