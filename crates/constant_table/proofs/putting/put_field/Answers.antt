-- Answers of `put_field`: what its calls ask for, and what it promises.
use Rattle.std.proofs.Common.{[], ◌∷◌, ◌++◌}
use Rattle.jv_base.specs.Utf16.{units_of}
use Rattle.class_model.specs.declared.constant.PoolConstant.TheVariants as constant
use Rattle.class_model.specs.CanonicalPool as canonical
use Rattle.constant_table.specs.bodies.Members.{part_keys, field_key}
use Rattle.constant_table.proofs.Wanted.{on_put, member_told, field_told}
use Rattle.constant_table.proofs.putting.put_field.Goals as goal

pub returns-clause-put : goal.returns-clause-put
returns-clause-put c =
    let texts = c.keep_member.new.texts in
    let m = c.in_ok-m.m in
    let t = c.in_ok-m.ensures.texts in
    let class = units_of (canonical.type_name c.args.field.now.class) in
    let name = units_of c.args.field.now.name in
    let descriptor = units_of c.args.field.now.ty in
    on_put c.args.texts.now texts c.args.keys.now c.put_member.new.keys c.put_member.result
    (part_keys m ++ field_key m ∷ []) _ c.keep_member.ensures.grows c.requires
    (member_told texts m class name descriptor t (field_key m) (constant.Fieldref class name descriptor)
    (field_told texts m class name descriptor t)) c.put_member.ensures.put
