-- Answers of `TypeLists::push`: what its calls ask for, and what it promises.
use Rattle.class_model.specs.declared.type_lists.TypeList.{TypeList}
use Rattle.std.proofs.Common.{◌≡◌, ◌+◌, length, refl, rules}
use Rattle.class_model.proofs.TypesAbove.{grows_by, list_above}
use Rattle.class_model.proofs.type_lists.TypeLists.push.Goals as goal

pub returns-clause-grows : goal.returns-clause-grows
returns-clause-grows c =
    rw (← c.self.view_is) (grows_by c.self.inside.types.items _ _ c.self.invariant.0 c.in_ok-push.ensures.items)

pub returns-clause-types : goal.returns-clause-types
returns-clause-types c =
    let more : TypeList = record { len = c.args.list.len + 1; top = c.len-2.result } in
    let top : c.len-2.result ≡ length c.push.new.self.items = search rules in
    rw (← c.self.view_is) (list_above c.self.inside.types.items c.push.new.self.items c.args.list more c.args.ty
    c.self.invariant.0 (rw c.self.view_is c.requires.top) c.in_ok-push.ensures.items refl top)
