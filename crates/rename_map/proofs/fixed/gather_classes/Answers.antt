-- Answers of `gather_classes`: what its calls ask for, and what it promises.
use Rattle.std.proofs.Common.{List, Bool, OnOk, ◌∙◌, ap, sym, subst}
use Rattle.std.specs.List.{list_all}
use Rattle.keep_rules.specs.declared.rules.Keep.{Keep}
use Rattle.jv_base.specs.Names.{is_text}
use Rattle.rename_map.specs.Fixed.{of_each}
use Rattle.rename_map.specs.bodies.Adding.{Adds}
use Rattle.rename_map.specs.bodies.Kinds.{is_for_classes}
use Rattle.rename_map.specs.declared.gathering.Chosen.TheVariants as choose
use Rattle.rename_map.proofs.OnClasses.{rows_same}
use Rattle.rename_map.proofs.fixed.gather_classes.Goals as goal

pub returns-then-are_on_classes : goal.returns-then-are_on_classes
returns-then-are_on_classes c =
    subst (λ (rows : List (List Bool)). OnOk c.gather.result (Adds is_text c.args.names.now
    (of_each choose.Class rows c.args.input.now) c.gather.new.names))
    (c.requires ∙ rows_same c.args.rules.now c.args.input.now
    (ap (λ (ks : List Keep). list_all is_for_classes ks) (sym c.as_slice.ensures)
    ∙ sym c.are_on_classes.ensures ∙ c.if-are_on_classes.true)) c.gather.ensures
