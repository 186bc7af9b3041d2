-- Answers of `is_method_kept`: what its calls ask for, and what it promises.
use Rattle.std.proofs.Common.{ℕ, List, subst}
use Rattle.std.specs.Str.{IsUtf8}
use Rattle.keep_match.specs.Matches.{matches_method}
use Rattle.keep_match.proofs.TableLaw.{method_named, tried_group, tried_others}
use Rattle.keep_match.proofs.member_table.is_method_kept.Goals as goal

pub returns-then-any_method : goal.returns-then-any_method
returns-then-any_method c =
    tried_others c.args.specs.now c.args.table.now (λ spec. matches_method spec c.args.method.now) c.args.method.now.name
    c.requires
    (method_named c.args.method.now (subst (λ (t : List ℕ). IsUtf8 t) c.as_str-name.ensures c.as_str-name.utf8))
    c.as_slice.result.now c.any_method.result c.as_slice.ensures.value c.any_method.ensures c.if-any_method.true

pub returns-else-any_method : goal.returns-else-any_method
returns-else-any_method c =
    tried_group c.args.specs.now c.args.table.now (λ spec. matches_method spec c.args.method.now) c.args.method.now.name
    c.requires
    (method_named c.args.method.now (subst (λ (t : List ℕ). IsUtf8 t) c.as_str-name.ensures c.as_str-name.utf8))
    c.as_slice.result.now c.group_of.result.now c.any_method.result c.any_method-else-any_method.result
    c.as_slice.ensures.value c.any_method.ensures c.if-any_method.false c.group_of.ensures
    c.any_method-else-any_method.ensures
