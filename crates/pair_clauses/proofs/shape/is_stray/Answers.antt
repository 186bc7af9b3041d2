-- Answers of `is_stray`: what its calls ask for, and what it promises.
use Rattle.std.proofs.Common.{Bool, not, ap, sym, ◌∙◌}
use Rattle.std.specs.Prelude.{◌||◌}
use Rattle.std.specs.List.{list_any}
use Rattle.new_names.specs.NewNames.{is_same}
use Rattle.pair_clauses.proofs.SeenLaw.{twice}
use Rattle.pair_clauses.proofs.shape.is_stray.Goals as goal

pub returns-else-not-has_member-clause-stray : goal.returns-else-not-has_member-clause-stray
returns-else-not-has_member-clause-stray c = λ members has.
    let seen = list_any (λ key. is_same key (c.args.name.now, c.args.ty.now)) members in
    ap not (c.in_ok-is_new.ensures.is_new members has) ∙ twice seen
    ∙ ap (λ (b : Bool). not b || seen) (sym c.if-not-has_member.false ∙ c.has_member.ensures)
