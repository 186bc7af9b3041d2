-- Answers of `FrameBuilder::append_one`: what its calls ask for, and what it promises.
use Rattle.std.proofs.Common.{arith}
use Rattle.class_model.proofs.Tops.{few_words}
use Rattle.class_model.proofs.Built.{words_short, built_more, view_more}
use Rattle.class_model.proofs.frame_builder.FrameBuilder.append_one.Goals as goal

pub overflow_add-words : goal.overflow_add-words
overflow_add-words c =
    let short = words_short c.self.inside c.self.invariant in
    let few = few_words c.args.ty in
    let is = c.words.ensures in
    omega (arith, short, few, is)

pub invariant_of-self-2 : goal.invariant_of-self-2
invariant_of-self-2 c =
    rw (c.choice-self-inside.ensures, c.is_top-is_top.ensures, c.from.ensures, c.words.ensures)
    (built_more c.self.inside c.push.new.self c.in_ok-locals.locals c.args.ty c.self.invariant
    c.in_ok-locals.ensures.grows c.in_ok-locals.ensures.held c.in_ok-locals.ensures.types)

pub returns : goal.returns
returns c = view_more c.self.inside c.args.self.now c.push.new.self c.in_ok-locals.locals c.args.ty c.self.invariant
    c.self.view_is c.in_ok-locals.ensures.grows c.in_ok-locals.ensures.types
