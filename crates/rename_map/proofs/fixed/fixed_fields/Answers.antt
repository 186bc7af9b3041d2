-- Answers of `fixed_fields`: what its calls ask for, and what it promises.
use Rattle.std.proofs.Common.{ℕ, List, ◌++◌, sym, subst}
use Rattle.fresh_names.specs.Reserved.{reserved}
use Rattle.fresh_names.specs.declared.taken.Named.TheVariants as named
use Rattle.rename_map.specs.declared.gathering.Chosen.TheVariants as choose
use Rattle.rename_map.specs.Fixed.{of_each}
use Rattle.rename_map.specs.Names.{AreSame}
use Rattle.jv_base.specs.Names.{is_text}
use Rattle.rename_map.specs.bodies.Adding.{Adds}
use Rattle.rename_map.proofs.Added.{one_stay}
use Rattle.rename_map.proofs.fixed.fixed_fields.Goals as goal

pub returns : goal.returns
returns c =
    let chosen = of_each choose.Fields c.args.rows.now c.args.input.now in
    subst (λ (t : List (List ℕ)). AreSame t (chosen ++ reserved named.Field)) (sym c.new.ensures)
    (one_stay c.gather.new.names chosen (reserved named.Field)
    (subst (λ (l : List (List ℕ)). Adds is_text l chosen c.gather.new.names) c.new-names.ensures
    c.in_ok-gather.ensures))
