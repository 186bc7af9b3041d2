-- Answers of `method_table`: what its calls ask for, and what it promises.
use Rattle.std.proofs.Common.{List, ℕ, [], refl, ap, ◌∙◌}
use Rattle.std.specs.Map.{lookup}
use Rattle.std.specs.Prelude.{Option}
use Rattle.std.proofs.lemmas.List.{map-id}
use Rattle.class_rename.specs.Names.{MethodName, is_same_method, or_else}
use Rattle.class_rename.proofs.Known.{if_ok}
use Rattle.fresh_names.specs.Given.{given_name, method_given, of_type, stays_for}
use Rattle.fresh_names.proofs.naming.method_table.Goals as goal

pub returns : goal.returns
returns c =
    if_ok c.give_names.result
    (λ table has a d.
    ap (λ (o : Option (List ℕ)). or_else o a) (has (a, d))
    ∙ ap (λ (l : List MethodName). given_name (λ b. lookup (is_same_method (b, d)) c.args.old.now)
    (stays_for c.args.taken.now d) [] (of_type d l) a)
    (map-id c.as_slice.result.now)
    ∙ ap (λ (l : List MethodName). method_given c.args.old.now c.args.taken.now l a d)
    (c.as_slice.ensures ∙ c.in_ok-methods.ensures))
    (c.give_names.ensures (λ d b. lookup (is_same_method (b, d)) c.args.old.now) (λ k. refl))
