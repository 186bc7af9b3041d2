-- Answers of `take`: what its calls ask for, and what it promises.
use Rattle.std.proofs.Common.{◌≡◌, [], subst, sym, ◌∙◌}
use Rattle.std.specs.List.{All}
use Rattle.std.proofs.lemmas.Option.{get_or_from_slice_get}
use Rattle.std.proofs.lemmas.List.Elements.{All-weaker}
use Rattle.mark_core.specs.Marks.{IsMarked, needs_of}
use Rattle.mark_core.specs.bodies.Worklist.{Has}
use Rattle.mark_core.proofs.Growing.{needs_due}
use Rattle.mark_core.proofs.plain.take.Goals as goal

pub mark_all-requires-clause-due : goal.mark_all-requires-clause-due
mark_all-requires-clause-due c =
    let read : needs_of c.args.sys.now c.args.item
    ≡ c.as_slice.result.now = get_or_from_slice_get c.args.sys.now.needs c.args.item _ [] c.index.ensures
    ∙ sym c.as_slice.ensures in
    subst (All (IsMarked c.args.sys.now)) read (needs_due c.args.sys.now c.args.item c.requires.due)

pub returns-clause-needs : goal.returns-clause-needs
returns-clause-needs c =
    let read : c.as_slice.result.now ≡ needs_of c.args.sys.now c.args.item = c.as_slice.ensures
    ∙ sym (get_or_from_slice_get c.args.sys.now.needs c.args.item _ [] c.index.ensures) in
    subst (All (Has c.mark_pairs.new.work)) read
    (All-weaker (Has c.mark_all.new.work)
    (Has c.mark_pairs.new.work) c.in_ok-mark_pairs.ensures.grows.keeps c.as_slice.result.now
    c.in_ok-mark_all.ensures.has)
