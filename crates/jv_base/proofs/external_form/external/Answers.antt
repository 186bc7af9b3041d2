-- Answers of `external`: what its calls ask for, and what it promises.
use Rattle.std.proofs.Common.{ℕ, List, ◌++◌, ap, sym, ◌∙◌}
use Rattle.std.specs.List.{repeat}
use Rattle.std.specs.Prelude.{codes}
use Rattle.jv_base.specs.External.{external_text, word_text}
use Rattle.jv_base.proofs.ExternalLaw.{read_external-only}
use Rattle.jv_base.proofs.external_form.external.Goals as goal

pub returns-clause-written : goal.returns-clause-written
unfolding external_text
returns-clause-written c =
    let ty = c.args.ty.now in
    let word = c.in_ok-push_word.ensures ∙ ap (λ (t : List ℕ). t ++ word_text ty.base) c.new-text.ensures.bytes in
    c.in_ok-from_string.ensures ∙ c.in_ok-push_dimensions.ensures
    ∙ ap (λ (t : List ℕ). t ++ repeat ty.dims (codes "[]")) word

pub returns-clause-read_back : goal.returns-clause-read_back
returns-clause-read_back c = λ is. read_external-only _ c.args.ty.now (is, sym (returns-clause-written c))
