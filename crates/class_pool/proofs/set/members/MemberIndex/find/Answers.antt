-- Answers of `MemberIndex::find`: what its calls ask for, and what it promises.
use Rattle.std.proofs.Common.{◌∙◌, ◌+◌, length, subst, sym}
use Rattle.std.specs.List.Sorted.{IsSorted}
use Rattle.class_pool.specs.bodies.ByName.{HasKeys, key_cmp}
use Rattle.class_pool.proofs.Sorting.{number_found}
use Rattle.class_pool.proofs.set.members.MemberIndex.find.Goals as goal

pub returns : goal.returns
returns c =
    c.number_at.ensures
    ∙ number_found c.args.class.now c.as_slice-keys.result.now c.args.name.now c.args.ty.now c.place_of.result
    (subst
    (HasKeys c.args.class.now (length c.args.class.now.fields + length c.args.class.now.methods))
    (sym c.as_slice-keys.ensures.value) c.requires.keys)
    (subst (IsSorted key_cmp) (sym c.as_slice-keys.ensures.value) c.requires.sorted) c.place_of.ensures
