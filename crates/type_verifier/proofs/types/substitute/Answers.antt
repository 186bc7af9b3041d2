-- Answers of `substitute`: what its calls ask for, and what it promises.
use Rattle.std.proofs.Common.{◌≡◌, ◌<◌, ◌∙◌, get_or, length, sym, ap, arith}
use Rattle.std.specs.Prelude.{if◌then◌else◌}
use Rattle.class_model.specs.Frames.{words_of_type}
use Rattle.class_model.specs.declared.frame.VType.{VType}
use Rattle.type_verifier.specs.Effects.{is_copy}
use Rattle.type_verifier.proofs.Lists.{changed_more, set_sum}
use Rattle.type_verifier.proofs.types.substitute.Goals as goal

pub loop-index-preserved : goal.loop-index-preserved
loop-index-preserved c =
    let i = c.loop-index.index in
    let same : length c.loop-index.types ≡ length c.args.types.now = c.loop-index.auto.types in
    let lt : i < length c.loop-index.types = omega (arith, c.loop-index-test.true, same) in
    let x : VType = c.index-types-index.result in
    let y : VType = c.replace.new.ty in
    let h : VType → VType = λ ty. if is_copy c.args.old.now ty then c.args.new.now else ty in
    let is : x ≡ get_or c.loop-index.types i x = c.index-types-index.is in
    let both = changed_more h
    c.args.types.now c.loop-index.types i x y lt same
    is (c.in_ok-replace.ensures.is ∙ ap h (sym is)) c.loop-index.invariant.front c.loop-index.invariant.rest in
    record {
      front = both.0;
      rest = both.1;
      words = λ one. set_sum words_of_type c.loop-index.types i x y lt is
          (c.replace.ensures.words one ∙ ap words_of_type (sym is)) ∙ c.loop-index.invariant.words one;
    }
