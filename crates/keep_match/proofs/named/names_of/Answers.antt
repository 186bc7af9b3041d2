-- Answers of `names_of`: what its calls ask for, and what it promises.
use Rattle.std.proofs.Common.{List, ℕ, subst, sym, ◌∙◌}
use Rattle.std.specs.Str.{IsUtf8}
use Rattle.keep_match.proofs.NameLaw.{names_put}
use Rattle.keep_match.proofs.named.names_of.Goals as goal

pub loop-number-preserved : goal.loop-number-preserved
loop-number-preserved c =
    names_put c.args.set.now c.loop-number.number _ _ c.class-class.result.now c.in_ok-class_text.field-0
    c.loop-number.invariant c.class-class.ensures.is (subst (λ (t : List ℕ). IsUtf8 t) c.as_str-name.ensures
    c.as_str-name.utf8)
    c.in_ok-class_text.ensures (sym c.in_ok-add_name.ensures.new ∙ c.if-not-branch.false)
    (c.in_ok-add_name.ensures.names c.if-not-branch.false)
