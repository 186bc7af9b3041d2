-- Answers of `fixed_methods`: what its calls ask for, and what it promises.
use Rattle.std.proofs.Common.{ℕ, List, sym, subst}
use Rattle.class_rename.specs.Names.{MethodName, is_same_method}
use Rattle.fresh_names.specs.Given.{stays_for}
use Rattle.rename_map.specs.Fixed.{methods_of_each}
use Rattle.rename_map.specs.Names.{AreSame}
use Rattle.rename_map.specs.bodies.Adding.{Adds}
use Rattle.rename_map.proofs.Added.{methods_stay}
use Rattle.rename_map.proofs.fixed.fixed_methods.Goals as goal

pub returns : goal.returns
returns c =
    let chosen = methods_of_each c.args.rows.now c.args.input.now in
    subst (λ (t : List MethodName). (d : List ℕ) → AreSame (stays_for t d) (stays_for chosen d)) (sym c.new.ensures)
    (methods_stay c.gather_methods.new.methods chosen
    (subst (λ (l : List MethodName). Adds is_same_method l chosen c.gather_methods.new.methods) c.new-methods.ensures
    c.in_ok-gather_methods.ensures))
