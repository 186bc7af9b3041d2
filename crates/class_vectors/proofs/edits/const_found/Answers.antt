-- Answers of `const_found`: what its calls ask for, and what it promises.
use Rattle.std.proofs.Common.{◌≡◌, ◌∙◌, List, [], true, rules, sym, subst}
use Rattle.code_edit.specs.declared.act.Act.{Act}
use Rattle.code_edit.specs.Passes.{IsReachEdits}
use Rattle.class_vectors.proofs.Empty.{empty_is}
use Rattle.class_vectors.proofs.edits.const_found.Goals as goal

pub edits-requires-clause-reached : goal.edits-requires-clause-reached
edits-requires-clause-reached c =
    let acts = c.in_ok-left_out.left_out.acts in
    let empty : c.is_empty.result ≡ true = search rules in
    let none : acts ≡ [] = empty_is acts (sym c.is_empty.ensures ∙ empty) in
    c.left_codes_are_reached.ensures c.args.code.now
    (subst (λ (xs : List Act). IsReachEdits c.args.code.now xs) none c.in_ok-left_out.ensures.acts)
