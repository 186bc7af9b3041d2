-- Which attributes of a method are read, by their names.
use Rattle.std.proofs.Common.{◌≡◌, ℕ, Bool, true, false, cond, List, Some, None, refl}
use Rattle.std.specs.Prelude.{codes, option_map}
use Rattle.jv_base.specs.Names.{is_text}
use Rattle.class_model.specs.declared.pool.Entry.{Entry}
use Rattle.class_model.specs.ReadingMembers.{MethodSeen}
use Rattle.class_read.specs.declared.methods.MethodHead.{MethodHead}
use Rattle.class_read.specs.bodies.Methods.{known_of, method_attribute, method_contents}

-- a choice by four tests, and a function of what was chosen
four : {A B : Type 0} (f : A → B) (a b c d : Bool) (x y z w : A)
    → cond a (Some (f x)) (cond b (Some (f y)) (cond c (Some (f z)) (cond d (Some (f w)) None)))
    ≡ option_map f (cond a (Some x) (cond b (Some y) (cond c (Some z) (cond d (Some w) None))))
four f true b c d x y z w = refl
four f false true c d x y z w = refl
four f false false true d x y z w = refl
four f false false false true x y z w = refl
four f false false false false x y z w = refl

pub of_method : (pool : List Entry) (class : List ℕ) (head : MethodHead) (at : ℕ) (name : List ℕ) (n : ℕ)
    (seen : MethodSeen)
    → known_of pool class head at name n seen
    ≡ option_map (method_contents pool class head at seen) (method_attribute name)
of_method pool class head at name n seen =
    four (method_contents pool class head at seen) (is_text name (codes "Code")) (is_text name (codes "Exceptions"))
    (is_text name (codes "Synthetic")) (is_text name (codes "Deprecated")) _ _ _ _
