use Rattle.std.proofs.Common.{◌≡◌, map, take}
use Rattle.class_pool.specs.declared.id.ClassId.TheVariants.{Prog}
use Rattle.require_sys.specs.Requires.{OfMember}
use Rattle.item_numbers.specs.bodies.Wanting.{wanting}
use Rattle.item_needs.proofs.classes.want_members.Given as goal

abbrev pub invariant-loop-index : goal.invariant-loop-index
invariant-loop-index l = l.wants ≡ wanting l.fn.wants
    (map (λ k. OfMember (record { class = Prog l.number; index = k })) (take l.index-index l.members))
