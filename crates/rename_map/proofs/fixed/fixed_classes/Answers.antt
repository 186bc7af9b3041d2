-- Answers of `fixed_classes`: what its calls ask for, and what it promises.
use Rattle.std.proofs.Common.{ℕ, List, sym, subst}
use Rattle.keep_match.specs.Fixed.{fixed_rows}
use Rattle.keep_match.specs.declared.fixed.Fixes.TheVariants as fixes
use Rattle.fresh_names.specs.Reserved.{reserved}
use Rattle.fresh_names.specs.declared.taken.Named.TheVariants as named
use Rattle.rename_map.specs.Fixed.{names_that_stay, of_each}
use Rattle.rename_map.specs.Names.{AreSame}
use Rattle.jv_base.specs.Names.{is_text}
use Rattle.rename_map.specs.bodies.Adding.{Adds}
use Rattle.rename_map.specs.declared.gathering.Chosen.TheVariants as choose
use Rattle.rename_map.proofs.Added.{both_stay}
use Rattle.rename_map.proofs.fixed.fixed_classes.Goals as goal

pub returns : goal.returns
returns c =
    let input = c.args.input.now in
    let own = of_each choose.Class (fixed_rows fixes.Classes c.args.rules.now input) input in
    let told = of_each choose.Described (fixed_rows fixes.DescriptorClasses c.args.rules.now input) input in
    subst (λ (t : List (List ℕ)). AreSame t (names_that_stay c.args.rules.now input).classes) (sym c.new.ensures)
    (both_stay c.gather_classes.new.names c.gather_described.new.names own told (reserved named.Class)
    (subst (λ (l : List (List ℕ)). Adds is_text l own c.gather_classes.new.names) c.new-names.ensures
    c.in_ok-gather_classes.ensures)
    c.in_ok-gather_described.ensures)
