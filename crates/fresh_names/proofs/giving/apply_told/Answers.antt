-- Answers of `apply_told`: what its calls ask for, and what it promises.
use Rattle.std.proofs.Common.{ap, subst, sym, ◌∙◌}
use Rattle.std.specs.Prelude.{◌≡◌, Some}
use Rattle.class_rename.specs.Names.{MethodName}
use Rattle.fresh_names.specs.declared.taken.Named.{Named}
use Rattle.fresh_names.proofs.giving.apply_told.Goals as goal

pub returns : goal.returns
returns g c = λ told done is applied.
    c.apply_new.ensures told done
    (subst (λ (m : MethodName). told m.1 m.0 ≡ Some c.args.name)
    (sym (c.in_ok-member.ensures ∙ ap (λ (n : Named). g.K.Grouped.pair n c.args.key.now) c.named.ensures)) is) applied
