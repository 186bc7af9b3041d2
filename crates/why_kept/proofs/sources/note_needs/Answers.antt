-- Answers of `note_needs`: what its calls ask for, and what it promises.
use Rattle.std.proofs.Common.{◌≡◌, ◌<◌, [], sym, subst, ap, ◌∙◌, get_or, length, arith}
use Rattle.std.specs.List.{All}
use Rattle.std.proofs.lemmas.List.{get_or_default}
use Rattle.std.proofs.lemmas.List.Elements.{All-get_or}
use Rattle.std.proofs.lemmas.Option.{get_or_from_slice_get}
use Rattle.mark_core.specs.Marks.{needs_of}
use Rattle.why_kept.proofs.NotedItems.{among_all, among_first, among_noted}
use Rattle.why_kept.proofs.sources.note_needs.Goals as goal

pub loop-need-init : goal.loop-need-init
loop-need-init c =
    among_first c.args.sys.now c.args.levels.now c.args.item (needs_of c.args.sys.now c.args.item) c.args.sys.now.n
    c.args.sources.now.items c.requires.sources

pub loop-need-preserved : goal.loop-need-preserved
loop-need-preserved c =
    let sys = c.args.sys.now in
    let levels = c.args.levels.now in
    let item = c.args.item in
    let slice = c.as_slice-need-items.result.now in
    let m = c.loop-need.need-index in
    let same : slice ≡ needs_of sys item = c.as_slice-need-items.ensures
    ∙ sym (get_or_from_slice_get sys.needs item _ [] c.index.ensures) in
    let below : All (λ x. x < sys.n) slice = subst (All (λ x. x < sys.n)) (sym same)
    (c.requires.valid.2 item [] (subst (λ n. item < n) (sym c.requires.valid.0) c.requires.item)) in
    let need_in : get_or slice m 0 < sys.n = All-get_or (λ x. x < sys.n) slice m 0 c.loop-need-test.true below in
    let is_t = c.from.ensures
    ∙ get_or_default levels (get_or slice m 0) 0 sys.n (subst (λ n. get_or slice m 0 < n) (sym c.requires.count) need_in) in
    let is_u = c.from-level.ensures
    ∙ get_or_default levels item 0 sys.n (subst (λ n. item < n) (sym c.requires.count) c.requires.item) in
    among_noted sys levels item (needs_of sys item) slice sys.n m c.from.result c.from-level.result c.args.sources.now.items
    c.loop-need.sources.items c.note.new.sources.items same c.loop-need-test.true is_t is_u c.loop-need.invariant
    c.note.ensures

pub returns : goal.returns
returns c =
    let sys = c.args.sys.now in
    let item = c.args.item in
    let same : c.as_slice-need-items.result.now ≡ needs_of sys item = c.as_slice-need-items.ensures
    ∙ sym (get_or_from_slice_get sys.needs item _ [] c.index.ensures) in
    let long = ap length same in
    among_all sys c.args.levels.now item sys.n c.loop-need.need-index c.args.sources.now.items c.loop-need.sources.items
    (omega (arith, long, c.loop-need-test.false)) c.loop-need.invariant
