-- What the passes make of the set, and runs, computed.
use Rattle.std.proofs.Common.{◌≡◌, ◌<◌, ℕ, zero, suc, [], ◌∷◌, Some, None, codes, refl, subst, arith, slice_get}
use Rattle.std.specs.Fmt.{digits}
use Rattle.std.specs.Int.{int_wrap}
use Rattle.std.proofs.lemmas.Option.{same_Some}
use Rattle.jv_base.specs.Descriptors.{grown, read_field, read_method}
use Rattle.jv_base.specs.Names.{is_class_name, is_member_name, is_name_byte, is_primitive_or_void, part_after}
use Rattle.jv_base.specs.Types.{argument_words, base_text, field_text, method_text, result_text, words_of}
use Rattle.jv_base.specs.Walk.{walk}
use Rattle.lib_table.specs.Library.{library}
use Rattle.class_model.specs.declared.class.Class.{Class}
use Rattle.class_model.specs.declared.class.Method.{Method}
use Rattle.class_model.specs.declared.code.Code.{Code}
use Rattle.link_check.specs.rows.ProfileRows.{made_method}
use Rattle.class_pool.specs.Walk.{upwards, walked as went}
use Rattle.code_edit.specs.declared.act.Act.TheVariants as act
use Rattle.frame_rebuild.specs.Carried.{carried}
use Rattle.pass_driver.specs.Outcomes.{IsTypedWith}
use Rattle.pass_driver.specs.Stepped.{AreSteps}
use Rattle.pass_driver.specs.declared.judging.Outcome.TheVariants.{Own, Edited}
use Rattle.type_verifier.specs.Assignable.{is_assignable, is_java_assignable}
use Rattle.type_verifier.specs.Environment.{Environment}
use Rattle.type_verifier.specs.Rules.{rule_of}
use Rattle.type_verifier.specs.Typed.{Typed}
use Rattle.type_verifier.specs.Verified.{environment}
use Rattle.type_verifier.specs.bodies.Walked.{walked}
use Rattle.type_verifier.proofs.TypedLaw.{typed_where_yes}
use Rattle.optimised_rows.specs.Rows.{OptimisedRow, PrintsRow, class_c, class_t, optimised, popping}
use Rattle.optimised_rows.specs.Rows.{printing, set, steps, steps_with, storing}
use Rattle.optimised_rows.proofs.Stepping.{GoesOn, IsStraight, behind_slots, six_steps}

-- ---- codes without branches

printing_on : (at : ℕ) → suc at < 4 → GoesOn printing at
printing_on zero lt = (_, refl, refl)
printing_on (suc zero) lt = (_, refl, refl)
printing_on (suc (suc zero)) lt = (_, refl, refl)
printing_on (suc (suc (suc n))) lt = absurd (omega (arith, lt))

printing_straight : IsStraight printing
printing_straight = record {
  plain = ((refl, refl), ((refl, refl), ((refl, refl), ((refl, refl), tt))));
  on = printing_on;
  few = refl;
  folds = refl;
  aims = refl;
}

storing_on : (at : ℕ) → suc at < 3 → GoesOn storing at
storing_on zero lt = (_, refl, refl)
storing_on (suc zero) lt = (_, refl, refl)
storing_on (suc (suc n)) lt = absurd (omega (arith, lt))

storing_straight : IsStraight storing
storing_straight = record {
  plain = ((refl, refl), ((refl, refl), ((refl, refl), tt)));
  on = storing_on;
  few = refl;
  folds = refl;
  aims = refl;
}

popping_on : (at : ℕ) → suc at < 3 → GoesOn popping at
popping_on zero lt = (_, refl, refl)
popping_on (suc zero) lt = (_, refl, refl)
popping_on (suc (suc n)) lt = absurd (omega (arith, lt))

popping_straight : IsStraight popping
popping_straight = record {
  plain = ((refl, refl), ((refl, refl), ((refl, refl), tt)));
  on = popping_on;
  few = refl;
  folds = refl;
  aims = refl;
}

-- ---- what becomes of the set

printing_steps : AreSteps (steps_with []) printing
printing_steps = six_steps printing printing_straight [] refl (behind_slots printing printing_straight)

storing_steps : AreSteps steps storing
unfolding carried
storing_steps = six_steps storing storing_straight (act.Cut 1 ∷ []) refl (behind_slots popping popping_straight)

-- the initialisation of demo.C, and f with a code
abbrev first : Method
first = made_method 0x0008 (codes "<clinit>") [] None [] (Some printing)

abbrev f : Code → Method
f code = made_method 0x0009 (codes "f") [] None [] (Some code)

-- f in the set that has its new code
abbrev its : Class → Method → Code → Environment
its c m code = environment (class_c ∷ class_t popping ∷ []) 1 c 0 m code

popping_typed : Typed (its (class_t popping) (f popping) popping)
unfolding library upwards went field_text base_text method_text result_text grown read_field read_method walk
    is_class_name is_member_name is_primitive_or_void is_name_byte part_after words_of argument_words rule_of
    is_assignable is_java_assignable walked
popping_typed = typed_where_yes (its (class_t popping) (f popping) popping) refl

typed_with : IsTypedWith set 1 0 popping
typed_with c in_set m in_class code has =
    subst (λ (x : Class). slice_get x.methods 0 ≡ Some m → Typed (its x m code)) (same_Some (class_t popping) c in_set)
    (λ here. subst (λ (y : Method). y.code ≡ Some code → Typed (its (class_t popping) y code))
    (same_Some (f popping) m here)
    (λ own. subst (λ z. Typed (its (class_t popping) (f popping) z)) (same_Some popping code own) popping_typed) has)
    in_class

pub optimised_is : OptimisedRow
unfolding carried method_text result_text field_text base_text
optimised_is = (
  (
    class_c,
    first,
    printing,
    record { in_set = refl; in_class = refl; has = refl },
    Own,
    (steps_with [], printing_steps, refl),
    optimised.codes,
    optimised.witness.methods,
    0,
    refl,
    refl,
    refl,
    (
      class_t storing,
      f storing,
      storing,
      record { in_set = refl; in_class = refl; has = refl },
      Edited popping (record { steps = steps }),
      (storing_steps, refl, refl, typed_with),
      [],
      [],
      0,
      refl,
      refl,
      refl,
      (refl, refl, refl),
    ),
  ),
  refl,
)

-- ---- runs

pub prints_are : PrintsRow
unfolding library upwards went field_text base_text method_text result_text grown read_field read_method walk
    is_class_name is_member_name is_primitive_or_void is_name_byte part_after words_of argument_words digits int_wrap
prints_are = (refl, refl)
