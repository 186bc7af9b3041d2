-- Answers of `FrameBuilder::chop_one`: what its calls ask for, and what it promises.
use Rattle.std.proofs.Common.{◌≡◌, ◌∙◌, sym}
use Rattle.class_model.specs.Frames.{cut_tops}
use Rattle.class_model.specs.bodies.TypeLists.{types_in, IsHeld}
use Rattle.class_model.proofs.Built.{built_less, view_less, words_enough, cut_same}
use Rattle.class_model.proofs.frame_builder.FrameBuilder.chop_one.Goals as goal
use Rattle.class_model.proofs.frame_builder.FrameBuilder.chop_one.Goals.{then-was_top, else-was_top}

pub overflow_sub-self : goal.overflow_sub-self
overflow_sub-self c =
    rw (c.from.ensures, c.words_of_last-words.ensures) (words_enough c.self.inside c.below-locals.result
    c.self.invariant
    c.below-locals.ensures.len c.below-locals.ensures.top)

pub invariant_of-self : goal.invariant_of-self
invariant_of-self c =
    let b = c.self.inside in
    let less = c.below-locals.result in
    let held : IsHeld b.lists c.if-was_top.cut = elim c.if-was_top.branch [
      | then-was_top w ↦ rw w.cut-is c.self.invariant.cut_held
      | else-was_top w ↦ rw w.cut-is w.without_tops-cut.ensures.held
    ] in
    let cuts : types_in b.lists c.if-was_top.cut ≡ cut_tops (types_in b.lists less) = elim c.if-was_top.branch [
      | then-was_top w ↦ rw w.cut-is (cut_same b less c.self.invariant c.below-locals.ensures.len
          c.below-locals.ensures.top
          (sym c.ends_in_top-was_top.ensures ∙ w.if-was_top.true))
      | else-was_top w ↦ rw w.cut-is w.without_tops-cut.ensures.types
    ] in
    rw (c.from.ensures, c.words_of_last-words.ensures) (built_less b less c.if-was_top.cut c.self.invariant
    c.below-locals.ensures.len c.below-locals.ensures.top c.below-locals.ensures.lies held cuts)

pub returns : goal.returns
returns c = view_less c.self.inside c.args.self.now c.below-locals.result c.self.view_is c.below-locals.ensures.len
    c.below-locals.ensures.top
