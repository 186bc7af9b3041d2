-- Answers of `put_entry`: what its calls ask for, and what it promises.
use Rattle.std.proofs.Common.{ap, map, not, sym, ◌∙◌}
use Rattle.std.proofs.lemmas.Result.{IfOk-weaker, on_ok_weaker}
use Rattle.std.specs.List.{list_any}
use Rattle.pair_clauses.proofs.SeenLaw.{is_new_among, seen_more}
use Rattle.pair_edits.specs.bodies.Tables.{MethodKey, is_same, key_of}
use Rattle.pair_edits.proofs.Keyed.{key_Decides, keys_more, named_among}
use Rattle.pair_edits.proofs.strays.put_entry.Goals as goal

pub returns-clause-is_new : goal.returns-clause-is_new
returns-clause-is_new c = λ before has.
    IfOk-weaker c.insert.result _ _
    (λ is_new is. is ∙ ap not (named_among (key_of c.args.entry.now) before))
    (is_new_among is_same c.insert.result c.args.seen.now (map key_of before) (key_of c.args.entry.now) _
    c.insert.ensures.is_new
    (λ i. (c.in_ok-clone.ensures.cases i, (c.in_ok-clone-2.ensures.cases i, c.in_ok-clone-3.ensures.cases i))) has)

pub returns-clause-put : goal.returns-clause-put
returns-clause-put c = λ before has.
    on_ok_weaker c.insert.result
    (λ each key. each key ∙ ap (list_any (λ (there : MethodKey). is_same there key)) (sym (keys_more before c.args.entry.now)))
    (seen_more is_same key_Decides c.insert.result c.args.seen.now c.insert.new.self (map key_of before)
    (key_of c.args.entry.now) _ c.insert.ensures.keys
    (λ i. (c.in_ok-clone.ensures.cases i, (c.in_ok-clone-2.ensures.cases i, c.in_ok-clone-3.ensures.cases i))) has)
