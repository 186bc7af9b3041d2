-- Answers of `library_supers`: what its calls ask for, and what it promises.
use Rattle.std.proofs.Common.{◌≡◌, ◌++◌, ◌∙◌, [], List, refl, subst}
use Rattle.std.specs.Prelude.{IfOk}
use Rattle.std.specs.List.{filter, flat_map}
use Rattle.class_pool.specs.Walk.{each_once}
use Rattle.class_pool.specs.declared.id.ClassId.{ClassId}
use Rattle.item_numbers.specs.bodies.Supers.{is_library, own_once}
use Rattle.item_numbers.proofs.Meeting.{chain_there, library_are}
use Rattle.item_numbers.proofs.supers.library_supers.Goals as goal

pub libraries_met-requires : goal.libraries_met-requires
libraries_met-requires c = chain_there c.args.set.now c.args.number c.as_slice.result.now c.requires
    (c.as_slice.ensures.value ∙ c.in_ok-chain.ensures)

pub returns : goal.returns
returns c =
    let chain : List ClassId = c.as_slice.result.now in
    subst (λ (t : List ClassId). IfOk c.libraries_met.result (λ ids. ids.items ≡ t))
    (library_are c.args.set.now c.args.number chain
    (each_once [] (filter is_library (chain ++ flat_map (own_once c.args.set.now) chain)))
    (c.as_slice.ensures.value ∙ c.in_ok-chain.ensures) refl)
    c.libraries_met.ensures
