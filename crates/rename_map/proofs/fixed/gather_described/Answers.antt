-- Answers of `gather_described`: what its calls ask for, and what it promises.
use Rattle.std.proofs.Common.{ℕ, List, ◌∙◌, ap, sym, subst}
use Rattle.std.specs.List.{list_all}
use Rattle.keep_rules.specs.declared.rules.Keep.{Keep}
use Rattle.jv_base.specs.Names.{is_text}
use Rattle.rename_map.specs.bodies.Adding.{Adds}
use Rattle.rename_map.specs.bodies.Kinds.{is_undescribed}
use Rattle.rename_map.proofs.Added.{adds_none}
use Rattle.rename_map.proofs.Undescribed.{nothing_described}
use Rattle.rename_map.proofs.fixed.gather_described.Goals as goal

pub returns-then-are_undescribed : goal.returns-then-are_undescribed
returns-then-are_undescribed c =
    subst (λ (told : List (List ℕ)). Adds is_text c.args.names.now told c.args.names.now)
    (sym (nothing_described c.args.rules.now c.args.input.now
    (ap (λ (ks : List Keep). list_all is_undescribed ks) (sym c.as_slice.ensures)
    ∙ sym c.are_undescribed.ensures ∙ c.if-are_undescribed.true)))
    (adds_none c.args.names.now)
