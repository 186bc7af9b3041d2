-- Answers of `put_locals`: what its calls ask for, and what it promises.
use Rattle.std.proofs.Common.{◌∙◌, ◌++◌, ap, map}
use Rattle.std.proofs.lemmas.Result.{on_ok_weaker}
use Rattle.class_model.specs.FrameLists.{frame_numbered}
use Rattle.class_rename.specs.Names.{names_in}
use Rattle.class_rename.specs.Renamed.{renamed_vtype}
use Rattle.class_rename.specs.bodies.Cut.{locals_before}
use Rattle.class_rename.proofs.Cutting.{locals_are}
use Rattle.class_rename.proofs.frames.put_locals.Goals as goal

pub returns : goal.returns
returns c =
    let names = names_in c.args.names.now in
    let f = frame_numbered c.args.frames.now c.args.number in
    let are = locals_are names (locals_before c.args.frames.now c.args.number) f.frame.locals c.args.built.now.locals
    c.rename_each.new.items c.len.result c.shared_before-shared.result c.requires.locals
    c.shared_before-shared.ensures.few
    c.shared_before-shared.ensures.same
    (c.in_ok-rename_each.ensures ∙ ap (map (renamed_vtype names)) c.in_ok-more.ensures) c.len.ensures in
    on_ok_weaker c.append.result
    (λ is. is
    ∙ (λ i. record {
      frames = (c.chop.ensures i).frames;
      locals = (c.chop.ensures i).locals ++ c.rename_each.new.items;
    })
    ∙ (λ i. record { frames = c.args.built.now.frames; locals = are i }))
    c.append.ensures
