-- Answers of `others_met`: what its calls ask for, and what it promises.
use Rattle.std.proofs.Common.{List, ℕ, ap, ◌∙◌, ◌++◌}
use Rattle.std.specs.List.{filter_map, flat_map}
use Rattle.item_numbers.specs.bodies.Supers.{other_number, own_once}
use Rattle.item_numbers.proofs.Meeting.{both_mapped}
use Rattle.item_numbers.proofs.supers.others_met.Goals as goal

pub returns : goal.returns
returns c =
    both_mapped (other_number c.args.own) c.args.chain.now (flat_map (own_once c.args.set.now) c.args.chain.now)
    c.push_others.new.numbers.items c.push_interfaces.new.numbers.items
    (c.in_ok-push_others.ensures
    ∙ ap (λ (t : List ℕ). t ++ filter_map (other_number c.args.own) c.args.chain.now) c.in_ok-numbers.ensures.items)
    c.in_ok-push_interfaces.ensures
