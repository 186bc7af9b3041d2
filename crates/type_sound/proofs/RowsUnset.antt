-- The row that isn't typed, computed.
use Rattle.std.proofs.Common.{◌≡◌, List, [], ◌∷◌, Some, None, Ok, Err, refl, sym, ap, ◌∙◌, codes}
use Rattle.std.specs.Fmt.{digits}
use Rattle.std.specs.Int.{int_wrap}
use Rattle.jv_base.specs.Descriptors.{grown, read_field, read_method}
use Rattle.jv_base.specs.Names.{is_class_name, is_member_name, is_name_byte, is_primitive_or_void, part_after}
use Rattle.jv_base.specs.Types.{argument_words, base_text, field_text, method_text, result_text, words_of}
use Rattle.jv_base.specs.Walk.{walk}
use Rattle.class_model.specs.declared.class.Method.{Method}
use Rattle.class_model.specs.declared.op.Kind.TheVariants as kind
use Rattle.class_model.specs.declared.op.Op.TheVariants as op
use Rattle.class_pool.specs.Walk.{upwards, walked}
use Rattle.class_pool.specs.rows.LinkRows.{object}
use Rattle.lib_table.specs.Library.{library}
use Rattle.link_check.specs.rows.ProfileRows.{made_method}
use Rattle.set_view.specs.Examples.{class, int}
use Rattle.type_verifier.specs.Assignable.{is_assignable, is_java_assignable}
use Rattle.type_verifier.specs.Environment.{Environment, initial_frame}
use Rattle.type_verifier.specs.Rules.{rule_of}
use Rattle.type_verifier.specs.Effects.{stepped}
use Rattle.type_verifier.specs.Typed.{AreInstructionsTyped}
use Rattle.type_verifier.specs.Verified.{environment}
use Rattle.type_verifier.specs.declared.fault.TypeKind.TheVariants.{Local}
use Rattle.type_verifier.specs.declared.frame.TypeFrame.{TypeFrame}
use Rattle.type_sound.specs.Rows.{GoesWrong, NotTyped, unset, unset_code}

abbrev unset_method : Method
unset_method = made_method 0x0009 (codes "w") [] (Some int) [] (Some unset_code)

abbrev env : Environment
env = environment unset 0 (class (codes "demo/W") object (unset_method ∷ [])) 0 unset_method unset_code

-- nothing fits the local
refused : stepped env 0 (op.Load kind.Int 0) (initial_frame env) ≡ Err Local
unfolding rule_of is_assignable is_java_assignable
refused = refl

no_local : (after : TypeFrame) → stepped env 0 (op.Load kind.Int 0) (initial_frame env) ≡ Ok after → ⊥
no_local after e = never (sym refused ∙ e) where
  never : {A : Type 0} {a : A} → Err Local ≡ Ok a → ⊥
  never q = cc

pub not_typed : NotTyped
not_typed t = by r.0 r.1 where
  r : (frames : List TypeFrame)
      × AreInstructionsTyped env 0 (Some (initial_frame env)) unset_code.ins frames None
  r = t 0 0 _ refl _ refl unset_code refl

  by : (frames : List TypeFrame)
      → AreInstructionsTyped env 0 (Some (initial_frame env)) unset_code.ins frames None → ⊥
  by [] h = h
  by (f ∷ fs) h = no_local h.1 (sym (ap (stepped env 0 (op.Load kind.Int 0)) h.0.0) ∙ h.2)

pub goes_wrong : GoesWrong
unfolding library upwards walked field_text base_text method_text result_text grown read_field read_method walk
    is_class_name is_member_name is_primitive_or_void is_name_byte part_after words_of argument_words digits int_wrap
goes_wrong = refl
