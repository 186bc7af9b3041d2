-- Answers of `is_cut`: what its calls ask for, and what it promises.
use Rattle.std.proofs.Common.{◌∙◌, ◌-◌, List, ap, arith, slice_get, sym}
use Rattle.std.proofs.lemmas.Bool.{not-true}
use Rattle.class_model.specs.FrameLists.{frame_numbered}
use Rattle.class_model.specs.declared.frame.VType.{VType}
use Rattle.class_rename.proofs.Cutting.{cut_whole}
use Rattle.class_rename.proofs.frames.is_cut.Goals as goal

pub returns : goal.returns
returns c = λ is.
    cut_whole (frame_numbered c.args.frames.now c.args.number).frame.locals (c.locals_len-len.result - 1)
    c.index.result.now
    (omega (arith, c.locals_len-len.ensures, c.if-len-eq0.false))
    (ap (λ (l : List VType). slice_get l 0) (sym c.in_ok-last.ensures) ∙ c.index.ensures)
    (sym c.is_top.ensures ∙ not-true c.is_top.result is)
