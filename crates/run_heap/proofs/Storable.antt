-- Whether a value may be a component of an array.
use Rattle.std.proofs.Common.{◌≡◌, Bool, true, false, Option, Some, None, refl}
use Rattle.std.specs.Option.{option_map}
use Rattle.std.specs.Prelude.{if◌then◌else◌}
use Rattle.jv_base.specs.declared.types.FieldType.{FieldType}
use Rattle.jvm_model.specs.Answers.{Answer, Raises, of_some}
use Rattle.jvm_model.specs.Arrays.{if_storable}
use Rattle.jvm_model.specs.Exceptions.{ArrayStore}
use Rattle.jvm_model.specs.Heap.{Object, World, object_of, type_of}
use Rattle.jvm_model.specs.Program.{Shape}
use Rattle.jvm_model.specs.Types.{is_type_below}
use Rattle.jvm_model.specs.Value.{Int, Lit, Long, Null, Ref, Value, is_reference, same_reference}
use Rattle.run_heap.specs.bodies.Kinships.{kin}
use Rattle.run_heap.specs.bodies.Storing.{storing_answer}

-- a number
pub number_stored : (p : Shape) (w : World) (ty : FieldType) (v : Value) (a : Answer) → is_reference v ≡ false
    → a ≡ if_storable p w ty v a
number_stored p w ty (Int z) a e = refl
number_stored p w ty (Long z) a e = refl
number_stored p w ty Null a e = let f : true ≡ false = e in absurd cc
number_stored p w ty (Ref n) a e = let f : true ≡ false = e in absurd cc
number_stored p w ty (Lit units) a e = let f : true ≡ false = e in absurd cc

-- null
pub null_stored : (p : Shape) (w : World) (ty : FieldType) (v : Value) (a : Answer) → v ≡ Null
    → a ≡ if_storable p w ty v a
null_stored p w ty v a e = rw e refl

-- a reference to an object
pub stored_by_kin : (p : Shape) (w : World) (ty : FieldType) (v : Value) (a : Answer) (b : Option Bool)
    → same_reference v Null ≡ false → is_reference v ≡ true → b ≡ kin p w v ty
    → storing_answer b a ≡ if_storable p w ty v a
stored_by_kin p w ty v a b e f g = rw g (by_value v e f)
  where
    by_object : (o : Option Object)
        → storing_answer (option_map (λ x. is_type_below p.is_sub (type_of x) ty) o) a
        ≡ of_some (λ x. if is_type_below p.is_sub (type_of x) ty then a else Raises ArrayStore) o
    by_object None = refl
    by_object (Some x) = refl

    by_value : (u : Value) → same_reference u Null ≡ false → is_reference u ≡ true
        → storing_answer (kin p w u ty) a ≡ if_storable p w ty u a
    by_value (Int z) k l = let h : false ≡ true = l in absurd cc
    by_value (Long z) k l = let h : false ≡ true = l in absurd cc
    by_value Null k l = let h : true ≡ false = k in absurd cc
    by_value (Ref n) k l = by_object (object_of w (Ref n))
    by_value (Lit units) k l = refl

-- a value, by its tests
pub ruleset value_stored = (number_stored, null_stored, stored_by_kin)
