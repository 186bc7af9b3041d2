-- Answers of `field_table`: what its calls ask for, and what it promises.
use Rattle.std.proofs.Common.{List, ℕ, [], refl, ap, ◌∙◌}
use Rattle.std.specs.Map.{lookup}
use Rattle.std.specs.Prelude.{Option}
use Rattle.jv_base.specs.Names.{is_text}
use Rattle.class_rename.specs.Names.{or_else}
use Rattle.class_rename.proofs.Known.{if_ok}
use Rattle.fresh_names.specs.Given.{field_given, given_name}
use Rattle.fresh_names.proofs.Groups.{in_one_group}
use Rattle.fresh_names.proofs.naming.field_table.Goals as goal

pub returns : goal.returns
returns c =
    if_ok c.give_names.result
    (λ table has a.
    ap (λ (o : Option (List ℕ)). or_else o a) (has a)
    ∙ ap (λ (l : List (List ℕ)). given_name (λ b. lookup (is_text b) c.args.old.now) c.args.taken.now [] l a)
    (in_one_group c.as_slice.result.now)
    ∙ ap (λ (l : List (List ℕ)). field_given c.args.old.now c.args.taken.now l a)
    (c.as_slice.ensures ∙ c.in_ok-names.ensures))
    (c.give_names.ensures (λ group b. lookup (is_text b) c.args.old.now) (λ k. refl))
