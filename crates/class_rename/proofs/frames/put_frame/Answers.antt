-- Answers of `put_frame`: what its calls ask for, and what it promises.
use Rattle.std.proofs.Common.{◌∙◌, ◌++◌, [], ◌∷◌, ap, map}
use Rattle.std.proofs.lemmas.Result.{on_ok_weaker}
use Rattle.class_model.specs.FrameLists.{frame_numbered}
use Rattle.class_rename.specs.Names.{names_in}
use Rattle.class_rename.specs.Renamed.{renamed_vtype}
use Rattle.class_rename.proofs.Cutting.{frame_is}
use Rattle.class_rename.proofs.frames.put_frame.Goals as goal

pub returns : goal.returns
returns c =
    let names = names_in c.args.names.now in
    let f = frame_numbered c.args.frames.now c.args.number in
    let same = frame_is names f _ _ _ c.index.ensures c.requires.locals c.requires.cut
    (c.in_ok-rename_each.ensures ∙ ap (map (renamed_vtype names)) c.in_ok-stack.ensures) in
    on_ok_weaker c.push.result
    (λ is. is ∙ (λ i. record { frames = c.args.built.now.frames ++ same i ∷ []; locals = c.args.built.now.locals }))
    c.push.ensures
