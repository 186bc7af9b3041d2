-- Answers of `class_table`: what its calls ask for, and what it promises.
use Rattle.std.proofs.Common.{List, ℕ, refl, ap, ◌∙◌}
use Rattle.std.specs.Map.{lookup}
use Rattle.std.specs.Prelude.{Option}
use Rattle.jv_base.specs.Names.{is_text}
use Rattle.class_rename.specs.Names.{or_else}
use Rattle.class_rename.proofs.Known.{if_ok}
use Rattle.fresh_names.specs.Given.{class_given, front_of, given_name, if_in_package}
use Rattle.fresh_names.proofs.Groups.{packaged}
use Rattle.fresh_names.proofs.naming.class_table.Goals as goal

pub returns : goal.returns
returns c =
    if_ok c.give_names.result
    (λ table has a.
    ap (λ (o : Option (List ℕ)). or_else o a) (has a)
    ∙ ap (λ (l : List (List ℕ)). given_name (λ b. if_in_package (front_of a) (lookup (is_text b) c.args.old.now))
    c.args.taken.now (front_of a) l a)
    (packaged (front_of a) c.as_slice.result.now)
    ∙ ap (λ (l : List (List ℕ)). class_given c.args.old.now c.args.taken.now l a)
    (c.as_slice.ensures ∙ c.in_ok-names.ensures))
    (c.give_names.ensures (λ front b. if_in_package front (lookup (is_text b) c.args.old.now)) (λ k. refl))
