-- Casts and tests, by whether the object is of the type.
use Rattle.std.proofs.Common.{◌≡◌, Bool, true, false, Option, Some, None, refl}
use Rattle.std.specs.Option.{option_map}
use Rattle.std.specs.Prelude.{if◌then◌else◌}
use Rattle.jv_base.specs.declared.types.FieldType.{FieldType}
use Rattle.jvm_model.specs.Answers.{Gives, Raises, of_some}
use Rattle.jvm_model.specs.Casts.{cast, instance_of}
use Rattle.jvm_model.specs.Exceptions.{ClassCast}
use Rattle.jvm_model.specs.Heap.{Object, World, object_of, string, type_of}
use Rattle.jvm_model.specs.Program.{Shape}
use Rattle.jvm_model.specs.Types.{class_type, is_type_below}
use Rattle.jvm_model.specs.Value.{Int, Lit, Long, Null, Ref, Value, is_reference, same_reference, truth}
use Rattle.run_heap.specs.bodies.Kinships.{cast_answer, kin, test_answer}
use Rattle.run_heap.specs.bodies.Pointing.{is_other}

-- the string of a literal
pub literal_kin : (p : Shape) (w : World) (v : Value) (ty : FieldType) → is_other v ≡ true → is_reference v ≡ true
    → Some (is_type_below p.is_sub (class_type string) ty) ≡ kin p w v ty
literal_kin p w (Int z) ty e f = let g : false ≡ true = f in absurd cc
literal_kin p w (Long z) ty e f = let g : false ≡ true = f in absurd cc
literal_kin p w Null ty e f = let g : false ≡ true = e in absurd cc
literal_kin p w (Ref n) ty e f = let g : false ≡ true = e in absurd cc
literal_kin p w (Lit units) ty e f = refl

-- a number
pub no_kin : (p : Shape) (w : World) (v : Value) (ty : FieldType) → is_other v ≡ true → is_reference v ≡ false
    → None ≡ kin p w v ty
no_kin p w (Int z) ty e f = refl
no_kin p w (Long z) ty e f = refl
no_kin p w Null ty e f = let g : false ≡ true = e in absurd cc
no_kin p w (Ref n) ty e f = let g : false ≡ true = e in absurd cc
no_kin p w (Lit units) ty e f = let g : true ≡ false = f in absurd cc

-- null
pub null_kin : (p : Shape) (w : World) (v : Value) (ty : FieldType) → v ≡ Null → None ≡ kin p w v ty
null_kin p w v ty e = rw e refl

-- a cast of a value that isn't null
pub cast_by : (p : Shape) (w : World) (v : Value) (ty : FieldType) (b : Option Bool) → same_reference v Null ≡ false
    → b ≡ kin p w v ty → cast_answer w v b ≡ cast p w ty v
cast_by p w v ty b e f = rw f (by_value v e)
  where
    by_object : (u : Value) (o : Option Object)
        → cast_answer w u (option_map (λ x. is_type_below p.is_sub (type_of x) ty) o)
        ≡ of_some (λ x. if is_type_below p.is_sub (type_of x) ty then Gives (Some u) w else Raises ClassCast) o
    by_object u None = refl
    by_object u (Some x) = refl

    by_value : (u : Value) → same_reference u Null ≡ false → cast_answer w u (kin p w u ty) ≡ cast p w ty u
    by_value (Int z) g = refl
    by_value (Long z) g = refl
    by_value Null g = let h : true ≡ false = g in absurd cc
    by_value (Ref n) g = by_object (Ref n) (object_of w (Ref n))
    by_value (Lit units) g = refl

-- a test of a value that isn't null
pub test_by : (p : Shape) (w : World) (v : Value) (ty : FieldType) (b : Option Bool) → same_reference v Null ≡ false
    → b ≡ kin p w v ty → test_answer w b ≡ instance_of p w ty v
test_by p w v ty b e f = rw f (by_value v e)
  where
    by_object : (o : Option Object)
        → test_answer w (option_map (λ x. is_type_below p.is_sub (type_of x) ty) o)
        ≡ of_some (λ x. Gives (Some (truth (is_type_below p.is_sub (type_of x) ty))) w) o
    by_object None = refl
    by_object (Some x) = refl

    by_value : (u : Value) → same_reference u Null ≡ false → test_answer w (kin p w u ty) ≡ instance_of p w ty u
    by_value (Int z) g = refl
    by_value (Long z) g = refl
    by_value Null g = let h : true ≡ false = g in absurd cc
    by_value (Ref n) g = by_object (object_of w (Ref n))
    by_value (Lit units) g = refl

-- null
pub cast_null : (p : Shape) (w : World) (v : Value) (ty : FieldType) → v ≡ Null → Gives (Some Null) w ≡ cast p w ty v
cast_null p w v ty e = rw e refl

pub test_null : (p : Shape) (w : World) (v : Value) (ty : FieldType) → v ≡ Null
    → Gives (Some (truth false)) w ≡ instance_of p w ty v
test_null p w v ty e = rw e refl
