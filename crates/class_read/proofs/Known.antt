-- Which attributes are read, by their names.
use Rattle.std.proofs.Common.{◌≡◌, ℕ, Bool, true, false, cond, List, Some, None, refl}
use Rattle.std.specs.Prelude.{codes, option_map}
use Rattle.jv_base.specs.Names.{is_text}
use Rattle.jv_base.specs.declared.types.FieldType.{FieldType}
use Rattle.class_model.specs.declared.pool.Entry.{Entry}
use Rattle.class_model.specs.ReadingMembers.{FieldSeen, known_of_field}
use Rattle.class_read.specs.bodies.Fields.{field_attribute, field_contents}

-- a choice by three tests, and a function of what was chosen
pub three : {A B : Type 0} (f : A → B) (a b c : Bool) (x y z : A)
    → cond a (Some (f x)) (cond b (Some (f y)) (cond c (Some (f z)) None))
    ≡ option_map f (cond a (Some x) (cond b (Some y) (cond c (Some z) None)))
three f true b c x y z = refl
three f false true c x y z = refl
three f false false true x y z = refl
three f false false false x y z = refl

pub of_field : (pool : List Entry) (static : Bool) (ty : FieldType) (at : ℕ) (name : List ℕ) (n : ℕ) (seen : FieldSeen)
    → known_of_field pool static ty at name n seen
    ≡ option_map (field_contents pool static ty at n seen) (field_attribute name)
of_field pool static ty at name n seen =
    three (field_contents pool static ty at n seen) (is_text name (codes "ConstantValue"))
    (is_text name (codes "Synthetic")) (is_text name (codes "Deprecated")) _ _ _
