-- Answers of `is_told`: what its calls ask for, and what it promises.
use Rattle.std.proofs.Common.{List, Option, length, ap, subst, ◌∙◌}
use Rattle.std.specs.Prelude.{min}
use Rattle.class_model.specs.declared.frame.VType.{VType}
use Rattle.type_verifier.specs.declared.fitting.Noted.{Noted}
use Rattle.type_verifier.specs.bodies.Noting.{AreTold}
use Rattle.type_verifier.proofs.Noting.{told_among}
use Rattle.type_verifier.proofs.fitting.is_told.Goals as goal

pub returns : goal.returns
returns c = λ is.
    let doubt = c.in-Some.doubt in
    let words = c.among-words.result in
    let types = c.args.frame.now.locals in
    let same = c.as_slice-types.ensures in
    let count = ap length same in
    let told = subst (λ (all : List (Option Noted)). AreTold all words types) c.as_slice.ensures.value
    (subst (λ (l : List VType). AreTold c.as_slice.result.now words l) same (c.are_noted.ensures is)) in (
      doubt,
      c.in-Some.ensures,
      told_among c.args.fitting.now.noted.items doubt words types c.among-words.ensures.from
          (c.among-words.ensures.to ∙ ap (min doubt.to) count) told,
    )
