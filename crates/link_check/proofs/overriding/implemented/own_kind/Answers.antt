-- Answers of `own_kind`: what its calls ask for, and what it promises.
use Rattle.std.proofs.Common.{List, ◌∙◌, ap}
use Rattle.std.specs.List.{flat_map}
use Rattle.class_pool.specs.declared.id.ClassId.{ClassId}
use Rattle.class_pool.specs.Walk.{own_superinterfaces}
use Rattle.link_check.specs.declared.fault.ProfileKind.{ProfileKind}
use Rattle.link_check.specs.Profile.{least, methods_of, selected_kinds}
use Rattle.link_check.proofs.Once.{least_once}
use Rattle.link_check.proofs.overriding.implemented.own_kind.Goals as goal

pub returns : goal.returns
returns c =
    let f : ClassId → List ProfileKind = λ i. flat_map (selected_kinds c.args.set.now c.args.number)
    (methods_of c.args.set.now i) in
    c.interfaces_kind.ensures ∙ ap (λ (is : List ClassId). least (flat_map f is)) c.own_superinterfaces.ensures.are
    ∙ least_once f (own_superinterfaces c.args.set.now c.args.class.now)
