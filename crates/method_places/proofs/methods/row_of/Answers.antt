-- Answers of `row_of`: what its calls ask for, and what it promises.
use Rattle.std.proofs.Common.{◌-◌, ◌+◌, ◌<◌, ◌∙◌, ℕ, arith, get_or, length, sym, ap, subst}
use Rattle.std.proofs.lemmas.Option.{slice_get_within}
use Rattle.class_pool.specs.Found.{IsMethod, named_at, rows_in}
use Rattle.class_pool.specs.declared.id.ClassId.{ClassId}
use Rattle.class_pool.proofs.LikeMethods.{mapped_within, own_method}
use Rattle.method_places.specs.bodies.Alike.{mark_in, marked_number, number_in}
use Rattle.method_places.proofs.Grouping.{marked_at}
use Rattle.method_places.proofs.InstanceRows.{row_made}
use Rattle.require_sys.proofs.Numbering.{member_below}
use Rattle.method_places.proofs.methods.row_of.Goals as goal

pub overflow_sub-mark : goal.overflow_sub-mark
overflow_sub-mark c =
    let own = own_method c.args.alike.now.set.now c.args.number c.args.m.now.index c.args.class.now c.requires.there
    (subst (λ (k : ClassId). IsMethod c.args.alike.now.set.now (record { class = k; index = c.args.m.now.index }))
    c.requires.class c.requires.method) in
    let low = own.1 in
    omega (arith, low, c.len.ensures)

pub bounds-marks-m : goal.bounds-marks-m
bounds-marks-m c =
    let own = own_method c.args.alike.now.set.now c.args.number c.args.m.now.index c.args.class.now c.requires.there
    (subst (λ (k : ClassId). IsMethod c.args.alike.now.set.now (record { class = k; index = c.args.m.now.index }))
    c.requires.class c.requires.method) in
    let inside = mapped_within mark_in c.args.class.now.methods c.args.marks.now
    (c.args.m.now.index - length c.args.class.now.fields) c.requires.marks
    (slice_get_within c.args.class.now.methods (c.args.m.now.index - length c.args.class.now.fields) own.0 own.2) in
    omega (arith, inside, c.len.ensures)

pub overflow_add-item : goal.overflow_add-item
overflow_add-item c =
    let low = member_below c.args.alike.now.set.now c.args.number c.args.m.now.index
    (subst (λ (k : ClassId). c.args.m.now.index < length (rows_in c.args.alike.now.set.now k)) c.requires.class
    c.requires.member.1) in
    omega (arith, low, c.requires.item, c.requires.items)

pub overflow_add-item-2 : goal.overflow_add-item-2
overflow_add-item-2 c =
    let low = member_below c.args.alike.now.set.now c.args.number c.args.m.now.index
    (subst (λ (k : ClassId). c.args.m.now.index < length (rows_in c.args.alike.now.set.now k)) c.requires.class
    c.requires.member.1) in
    omega (arith, low, c.requires.item, c.requires.items)

pub returns : goal.returns
returns c =
    let set = c.args.alike.now.set.now in
    let keys = c.args.alike.now.keys.items in
    let groups = c.args.alike.now.groups.items in
    let number = number_in keys groups in
    let own = own_method set c.args.number c.args.m.now.index c.args.class.now c.requires.there
    (subst (λ (k : ClassId). IsMethod set (record { class = k; index = c.args.m.now.index })) c.requires.class
    c.requires.method) in
    row_made set number c.args.number c.args.m.now c.requires.class c.openness_of.result c.number_of.result
    (c.args.item + 1 + c.args.m.now.index)
    c.openness_of.ensures
    (c.number_of.ensures
    ∙ ap (λ (k : ℕ). marked_number keys groups (get_or c.args.marks.now (c.args.m.now.index - k) 0)) c.len.ensures
    ∙ ap (marked_number keys groups) (marked_at c.args.class.now c.args.marks.now
    (c.args.m.now.index - length c.args.class.now.fields) own.0 c.requires.marks own.2)
    ∙ ap number (sym own.3)
    ∙ ap (λ (k : ClassId). number (named_at set (record { class = k; index = c.args.m.now.index })))
    (sym c.requires.class))
    (ap (λ (k : ℕ). k + 1 + c.args.m.now.index) c.requires.item)
