-- Answers of `class_rows`: what its calls ask for, and what it promises.
use Rattle.std.proofs.Common.{arith, ◌∙◌}
use Rattle.class_pool.specs.Found.{is_instance_method}
use Rattle.class_pool.specs.declared.id.ClassId.TheVariants.{Prog}
use Rattle.link_check.proofs.Methods.{rows_count}
use Rattle.method_places.specs.bodies.Alike.{number_in, row_of}
use Rattle.method_places.proofs.InstanceRows.{grown}
use Rattle.item_numbers.proofs.Membering.{all_taken, one_more}
use Rattle.method_places.proofs.methods.class_rows.Goals as goal

pub loop-index-preserved : goal.loop-index-preserved
loop-index-preserved c =
    let set = c.args.alike.now.set.now in
    let number = number_in c.args.alike.now.keys.items c.args.alike.now.groups.items in
    let few = rows_count set c.args.number c.args.class.now c.requires.there in
    grown _ _ _ _ _ c.in_ok-add_row.ensures c.loop-index.invariant
    (one_more set (Prog c.args.number) (is_instance_method set) (row_of set number) c.loop-index.index
    (omega (arith, few, c.loop-index-test.true, c.len.ensures, c.len-2.ensures)))

pub returns : goal.returns
returns c =
    let set = c.args.alike.now.set.now in
    let number = number_in c.args.alike.now.keys.items c.args.alike.now.groups.items in
    let few = rows_count set c.args.number c.args.class.now c.requires.there in
    c.loop-index.invariant
    ∙ all_taken set (Prog c.args.number) (is_instance_method set) (row_of set number) c.loop-index.index
    (omega (arith, few, c.loop-index-test.false, c.len.ensures, c.len-2.ensures))
