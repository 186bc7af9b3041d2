-- Answers of `put_method`: what its calls ask for, and what it promises.
use Rattle.std.proofs.Common.{[], ◌∷◌, ◌++◌, ap, ◌∙◌}
use Rattle.jv_base.specs.Utf16.{units_of}
use Rattle.class_model.specs.CanonicalPool as canonical
use Rattle.constant_table.specs.bodies.Keys.{constant_of}
use Rattle.constant_table.specs.bodies.Members.{part_keys}
use Rattle.constant_table.proofs.Wanted.{on_put, member_told, method_told}
use Rattle.constant_table.proofs.putting.put_method.Goals as goal

pub returns-clause-put : goal.returns-clause-put
returns-clause-put c =
    let texts = c.keep_member.new.texts in
    let m = c.in_ok-m.m in
    let t = c.in_ok-m.ensures.texts in
    let class = units_of (canonical.type_name c.args.method.now.class) in
    let name = units_of c.args.method.now.name in
    let descriptor = units_of c.args.method.now.ty in
    on_put c.args.texts.now texts c.args.keys.now c.put_member.new.keys c.put_member.result
    (part_keys m ++ c.method_key.result ∷ []) _ c.keep_member.ensures.grows c.requires
    (member_told texts m class name descriptor t (c.method_key.result) (canonical.methodref c.args.method.now)
    (ap (constant_of texts) c.method_key.ensures
    ∙ method_told texts m class name descriptor t c.args.method.now.of_interface)) c.put_member.ensures.put
