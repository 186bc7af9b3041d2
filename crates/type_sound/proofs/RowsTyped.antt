-- The row that is typed.
use Rattle.std.proofs.Common.{◌≡◌, ℕ, zero, suc, false, List, [], ◌∷◌, Some, slice_get, refl}
use Rattle.std.proofs.Common.{sym, subst, codes, ◌∙◌}
use Rattle.jv_base.specs.Descriptors.{grown, read_field, read_method}
use Rattle.jv_base.specs.Names.{is_class_name, is_member_name, is_name_byte, is_primitive_or_void, part_after}
use Rattle.jv_base.specs.Types.{argument_words, base_text, field_text, method_text, result_text, words_of}
use Rattle.jv_base.specs.Walk.{walk}
use Rattle.class_model.specs.declared.class.Class.{Class}
use Rattle.class_model.specs.declared.class.Method.{Method}
use Rattle.class_model.specs.declared.code.Code.{Code}
use Rattle.class_model.specs.declared.frame.VType.{VType}
use Rattle.class_model.specs.declared.frame.VType.TheVariants as vtype
use Rattle.class_pool.specs.Walk.{upwards, walked}
use Rattle.jvm_model.specs.Types.{class_type}
use Rattle.lib_table.specs.Library.{library}
use Rattle.type_verifier.specs.Assignable.{is_assignable, is_java_assignable}
use Rattle.type_verifier.specs.Rules.{rule_of}
use Rattle.type_verifier.specs.Typed.{Typed}
use Rattle.type_verifier.specs.Verified.{IsTypedMethod, environment}
use Rattle.type_verifier.specs.declared.frame.TypeFrame.{TypeFrame}
use Rattle.type_sound.specs.Rows.{FailingTyped, calling, class_e, class_g, dividing, empty, failing, plain, throwable}

-- a frame without locals
abbrev holding : List VType → TypeFrame
holding stack = record { locals = []; stack = stack; marked = false }

some_is : {A : Type 0} (x y : A) → Some x ≡ Some y → x ≡ y
some_is x y e = cc

abbrev first : Method
first = plain 0x0008 (codes "<clinit>") dividing

dividing_typed : Typed (environment failing 0 class_e 0 first dividing)
unfolding library upwards walked field_text base_text method_text result_text grown read_field read_method walk
    is_class_name is_member_name is_primitive_or_void is_name_byte part_after words_of argument_words rule_of
    is_assignable is_java_assignable
dividing_typed = (
  holding [] ∷ holding (vtype.Int ∷ []) ∷ holding (vtype.Int ∷ vtype.Int ∷ []) ∷ holding (vtype.Int ∷ [])
      ∷ holding [] ∷ [],
  (
    (refl, refl),
    holding (vtype.Int ∷ []),
    refl,
    refl,
    refl,
    (
      (refl, refl),
      holding (vtype.Int ∷ vtype.Int ∷ []),
      refl,
      refl,
      refl,
      (
        (refl, refl),
        holding (vtype.Int ∷ []),
        refl,
        refl,
        refl,
        (
          (refl, refl),
          holding [],
          refl,
          refl,
          refl,
          ((refl, refl), holding [], refl, refl, refl, refl),
        ),
      ),
    ),
  ),
)

empty_typed : Typed (environment failing 0 class_e 1 (plain 0x0009 (codes "f") empty) empty)
unfolding rule_of
empty_typed = (holding [] ∷ [], ((refl, refl), holding [], refl, refl, refl, refl))

calling_typed : Typed (environment failing 1 class_g 0 (plain 0x0009 (codes "g") calling) calling)
unfolding library upwards walked field_text base_text method_text result_text grown read_field read_method walk
    is_class_name is_member_name is_primitive_or_void is_name_byte part_after words_of argument_words rule_of
    is_assignable is_java_assignable
calling_typed = (
  holding [] ∷ holding [] ∷ holding (vtype.Object (class_type throwable) ∷ []) ∷ holding [] ∷ holding [] ∷ [],
  (
    (refl, refl),
    holding [],
    refl,
    refl,
    refl,
    (
      (refl, refl),
      holding [],
      refl,
      refl,
      refl,
      (
        refl,
        holding [],
        refl,
        refl,
        refl,
        (
          (refl, refl),
          holding [],
          refl,
          refl,
          refl,
          ((refl, refl), holding [], refl, refl, refl, refl),
        ),
      ),
    ),
  ),
)

-- a method by its parts
of_method : (own : ℕ) (c : Class) (number : ℕ) (m n : Method) (code : Code) → n.code ≡ Some code
    → Typed (environment failing own c number n code) → Some n ≡ Some m → IsTypedMethod failing own c number m
of_method own c number m n code is typed e = subst (λ x. IsTypedMethod failing own c number x) (some_is n m e)
    (λ other same. subst (λ x. Typed (environment failing own c number n x))
    (some_is code other (sym is ∙ same)) typed)

in_e : (number : ℕ) (m : Method) → slice_get class_e.methods number ≡ Some m → IsTypedMethod failing 0 class_e number m
in_e zero m e = of_method 0 class_e 0 m first dividing refl dividing_typed e
in_e (suc zero) m e = of_method 0 class_e 1 m (plain 0x0009 (codes "f") empty) empty refl empty_typed e
in_e (suc (suc n)) m e = absurd cc

in_g : (number : ℕ) (m : Method) → slice_get class_g.methods number ≡ Some m → IsTypedMethod failing 1 class_g number m
in_g zero m e = of_method 1 class_g 0 m (plain 0x0009 (codes "g") calling) calling refl calling_typed e
in_g (suc n) m e = absurd cc

pub failing_typed : FailingTyped
failing_typed zero number c at m there =
    subst (λ x. (z : Method) → slice_get x.methods number ≡ Some z → IsTypedMethod failing 0 x number z)
    (some_is class_e c at) (in_e number) m there
failing_typed (suc zero) number c at m there =
    subst (λ x. (z : Method) → slice_get x.methods number ≡ Some z → IsTypedMethod failing 1 x number z)
    (some_is class_g c at) (in_g number) m there
failing_typed (suc (suc n)) number c at m there = absurd cc
