-- Answers of `put_locals`: what its calls ask for, and what it promises.
use Rattle.std.proofs.Common.{◌≡◌, ◌≤◌, ℕ, ◌+◌, ◌++◌, ◌∙◌, List, ap, sym, subst, drop, take, length}
use Rattle.std.proofs.lemmas.Result.{on_ok_weaker}
use Rattle.class_model.specs.FrameLists.{frame_numbered}
use Rattle.class_model.specs.Frames.{words_of_types}
use Rattle.class_model.specs.declared.frame.VType.{VType}
use Rattle.frame_rebuild.specs.bodies.Ends.{ends_from, locals_before, no_end}
use Rattle.frame_rebuild.specs.bodies.Fitting.{Fits, is_gone, stays}
use Rattle.frame_rebuild.specs.declared.locals.End.{End}
use Rattle.frame_rebuild.proofs.Fronts.{front_end, front_ends, front_items, front_within, front_words, whole_built}
use Rattle.frame_rebuild.proofs.Fronts.{whole_ends}
use Rattle.frame_rebuild.proofs.Rows.{numbered_has}
use Rattle.frame_rebuild.proofs.walking.put_locals.Goals as goal

pub take_back-end-requires : goal.take_back-end-requires
take_back-end-requires c =
    let m = c.args.moves.now in
    front_within (stays m) (is_gone m) (locals_before c.args.frames.now c.args.number)
    (frame_numbered c.args.frames.now c.args.number).frame.locals c.shared_before-shared.result
    c.shared_before-shared.ensures.same c.args.ends.now.items c.requires.ends
    c.args.built.now.locals c.requires.locals

pub moved_locals-requires-clause-items : goal.moved_locals-requires-clause-items
moved_locals-requires-clause-items c =
    let m = c.args.moves.now in
    let before = locals_before c.args.frames.now c.args.number in
    let here = (frame_numbered c.args.frames.now c.args.number).frame.locals in
    let same = c.shared_before-shared.ensures.same in
    front_items (stays m) (is_gone m) before here c.shared_before-shared.result same
    c.take_back-end.result
    (c.take_back-end.ensures.end
    ∙ front_end (stays m) (is_gone m) before here c.shared_before-shared.result same
    c.args.ends.now.items c.requires.ends)

pub moved_locals-requires-clause-few : goal.moved_locals-requires-clause-few
moved_locals-requires-clause-few c =
    let m = c.args.moves.now in
    let before = locals_before c.args.frames.now c.args.number in
    let here = (frame_numbered c.args.frames.now c.args.number).frame.locals in
    let same = c.shared_before-shared.ensures.same in
    subst (λ (l : List VType). c.take_back-end.result.slot + words_of_types l ≤ 65535)
    (sym c.in_ok-rest.ensures)
    (front_words (stays m) (is_gone m) before here c.shared_before-shared.result same
    c.take_back-end.result
    (c.take_back-end.ensures.end
    ∙ front_end (stays m) (is_gone m) before here c.shared_before-shared.result same
    c.args.ends.now.items c.requires.ends)
    (numbered_has (Fits (length m.lives.items)) c.args.frames.now c.args.number c.requires.fits
    c.requires.number).locals)

pub returns-clause-built : goal.returns-clause-built
returns-clause-built c =
    let m = c.args.moves.now in
    let before = locals_before c.args.frames.now c.args.number in
    let here = (frame_numbered c.args.frames.now c.args.number).frame.locals in
    let same = c.shared_before-shared.ensures.same in
    let are = whole_built (stays m) (is_gone m) before here c.shared_before-shared.result same
    c.take_back-end.result
    (c.take_back-end.ensures.end
    ∙ front_end (stays m) (is_gone m) before here c.shared_before-shared.result same
    c.args.ends.now.items c.requires.ends)
    c.args.built.now.locals c.in_ok-rest.rest c.in_ok-more.more c.requires.locals
    c.in_ok-rest.ensures c.in_ok-more.ensures.moved in
    on_ok_weaker c.append.result
    (λ is. is
    ∙ (λ i. record {
      frames = (c.take_back-end.ensures.built i).frames;
      locals = (c.take_back-end.ensures.built i).locals ++ c.in_ok-more.more;
    })
    ∙ (λ i. record { frames = c.args.built.now.frames; locals = are i }))
    c.append.ensures

pub returns-clause-ends : goal.returns-clause-ends
returns-clause-ends c =
    let m = c.args.moves.now in
    let before = locals_before c.args.frames.now c.args.number in
    let here = (frame_numbered c.args.frames.now c.args.number).frame.locals in
    let same = c.shared_before-shared.ensures.same in
    let n = c.shared_before-shared.result in
    let e = c.take_back-end.result in
    let end = c.take_back-end.ensures.end
    ∙ front_end (stays m) (is_gone m) before here n same c.args.ends.now.items c.requires.ends in
    let are : c.moved_locals.new.ends.items ≡ ends_from (is_gone m) no_end here =
    c.in_ok-more.ensures.ends
    ∙ (λ i. c.take_back-end.ensures.ends i ++ ends_from (is_gone m) e (c.in_ok-rest.ensures i))
    ∙ ap (λ (l : List End). l ++ ends_from (is_gone m) e (drop n here))
    (front_ends (stays m) (is_gone m) before here n same c.args.ends.now.items c.requires.ends)
    ∙ whole_ends (stays m) (is_gone m) before here n same e end in
    on_ok_weaker c.append.result (λ is. are) c.append.ensures
