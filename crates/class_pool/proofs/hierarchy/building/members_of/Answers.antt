-- Answers of `members_of`: what its calls ask for, and what it promises.
use Rattle.std.proofs.Common.{rules, ◌≡◌, ◌+◌, ◌<◌, List, length, get_or, sym, subst, arith, ◌++◌, ◌∷◌, [], take}
use Rattle.std.specs.List.{AllZip}
use Rattle.std.proofs.lemmas.Option.{get_or_from_slice_get}
use Rattle.class_pool.specs.declared.set.members.MemberIndex.{MemberIndex}
use Rattle.class_pool.specs.bodies.ByName.{IsIndexOf}
use Rattle.class_pool.specs.bodies.Descriptors.{method_texts}
use Rattle.class_pool.proofs.LikeMethods.{mapped_at, mapped_within}
use Rattle.class_pool.proofs.NamedMembers.{index_more}
use Rattle.class_pool.proofs.hierarchy.building.members_of.Goals as goal

pub loop-number-preserved : goal.loop-number-preserved
loop-number-preserved c =
    let x = c.class.result.now in
    let at : x ≡ get_or c.args.classes.now c.loop-number.number x = sym
    (get_or_from_slice_get c.args.classes.now c.loop-number.number x x c.class.ensures.is) in
    let within : c.loop-number.number < length c.args.classes.now = omega
    (arith, c.loop-number-test.true, c.len-number-end.ensures) in
    let put : c.push.new.self ≡ c.loop-number.members ++ c.in_ok-of.field-0 ∷ [] = search rules in
    subst (λ (members : List MemberIndex). AllZip IsIndexOf
    (take (c.loop-number.number + 1) c.args.classes.now) members) (sym put)
    (index_more c.args.classes.now c.loop-number.members c.loop-number.number x c.in_ok-of.field-0
    c.loop-number.invariant within at c.in_ok-of.ensures)

pub index-texts-requires : goal.index-texts-requires
index-texts-requires c =
    mapped_within method_texts c.args.classes.now c.args.descriptors.now c.loop-number.number c.requires
    (omega (arith, c.loop-number-test.true, c.len-number-end.ensures))

pub of-requires-clause-texts : goal.of-requires-clause-texts
of-requires-clause-texts c =
    mapped_at method_texts c.args.classes.now c.args.descriptors.now c.loop-number.number c.class.result.now
    c.index-texts.result.now c.requires c.class.ensures.is c.index-texts.ensures
