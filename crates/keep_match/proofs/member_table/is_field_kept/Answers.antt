-- Answers of `is_field_kept`: what its calls ask for, and what it promises.
use Rattle.std.proofs.Common.{ℕ, List, subst}
use Rattle.std.specs.Str.{IsUtf8}
use Rattle.keep_match.specs.Matches.{matches_field}
use Rattle.keep_match.proofs.TableLaw.{field_named, tried_group, tried_others}
use Rattle.keep_match.proofs.member_table.is_field_kept.Goals as goal

pub returns-then-any_field : goal.returns-then-any_field
returns-then-any_field c =
    tried_others c.args.specs.now c.args.table.now (λ spec. matches_field spec c.args.field.now) c.args.field.now.name
    c.requires
    (field_named c.args.field.now (subst (λ (t : List ℕ). IsUtf8 t) c.as_str-name.ensures c.as_str-name.utf8))
    c.as_slice.result.now c.any_field.result c.as_slice.ensures.value c.any_field.ensures c.if-any_field.true

pub returns-else-any_field : goal.returns-else-any_field
returns-else-any_field c =
    tried_group c.args.specs.now c.args.table.now (λ spec. matches_field spec c.args.field.now) c.args.field.now.name
    c.requires
    (field_named c.args.field.now (subst (λ (t : List ℕ). IsUtf8 t) c.as_str-name.ensures c.as_str-name.utf8))
    c.as_slice.result.now c.group_of.result.now c.any_field.result c.any_field-else-any_field.result
    c.as_slice.ensures.value c.any_field.ensures c.if-any_field.false c.group_of.ensures
    c.any_field-else-any_field.ensures
