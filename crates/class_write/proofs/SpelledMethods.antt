-- A method as it is written is a method_info (JVMS 4.6).
use Rattle.std.proofs.Common.{◌≡◌, ℕ, ◌+◌, ◌*◌, ◌^◌, ◌<◌, ◌≤◌, Bool, true, false, not, cond, List, [], ◌∷◌, ◌++◌}
use Rattle.std.proofs.Common.{length, map, Option, Some, None, refl, sym, ap, subst, ◌∙◌, arith}
use Rattle.std.specs.Prelude.{codes, IfSome, IsTrue, is_some}
use Rattle.std.specs.List.{AllByRecursion, AllZip, flat_map}
use Rattle.std.specs.Int.{w16, to_be_bytes}
use Rattle.std.proofs.lemmas.List.{length-map, length-append}
use Rattle.std.proofs.lemmas.List.Folds.{flat_map-map}
use Rattle.jv_base.specs.Names.{is_text}
use Rattle.jv_base.specs.Types.{method_text}
use Rattle.class_model.specs.declared.constant.PoolConstant.{PoolConstant}
use Rattle.class_model.specs.declared.code.Code.{Code}
use Rattle.class_model.specs.declared.frame.VType.{VType}
use Rattle.class_model.specs.declared.class.Method.{Method}
use Rattle.class_model.specs.declared.class.LeftKind.{LeftKind}
use Rattle.class_model.specs.declared.class.LeftKind.TheVariants as left
use Rattle.class_model.specs.Flags.{method_mask, is_native, has_body, are_method_flags}
use Rattle.class_model.specs.Pool.{IsClassAt}
use Rattle.class_model.specs.Structure.{AttributeInfo}
use Rattle.class_model.specs.Attributes.{named, IsAttribute, IsExceptions, AreThrown}
use Rattle.class_model.specs.Members.{IsCodeOf, IsMethod}
use Rattle.class_model.specs.CanonicalPool.{class_constants}
use Rattle.class_model.specs.CanonicalClass.{class_index, u2_of, attribute, attribute_constants, is_some_item}
use Rattle.class_model.specs.CanonicalClass.{mark_attributes, mark_constants, code_constants, body_constants}
use Rattle.class_model.specs.CanonicalClass.{first_locals, code_contents, body_attributes, exceptions, method_constants}
use Rattle.class_model.specs.CanonicalClass.{method_raw}
use Rattle.class_model.specs.bodies.PoolEntries.{entries_of, Has}
use Rattle.class_model.specs.WellFormed.{IsClassName, IsGoodMethod}
use Rattle.class_laws.specs.ClassValues.{IsMethodValue}
use Rattle.class_laws.proofs.SpelledLists.{all_front, all_back, all_both}
use Rattle.class_laws.proofs.SpelledWanted.{HasAll, method_utf8}
use Rattle.class_write.proofs.SpelledAttributes.{code_units, exceptions_units, named_left, named_right, named_this}
use Rattle.class_write.proofs.SpelledAttributes.{named_other, few, attribute_is, marks_other, synthetic_is}
use Rattle.class_write.proofs.SpelledAttributes.{deprecated_is, marks_are, marks_few, mark_behind}
use Rattle.class_write.proofs.SpelledFields.{flags_are, text_at_index}
use Rattle.class_write.proofs.SpelledInstructions.{class_at_index}
use Rattle.class_write.proofs.SpelledCode.{IsSpelled, no_items, body_is}

module _ (pool : List PoolConstant) (count : length pool + 1 < 2 ^ 16) where
  -- ---- Exceptions

  classes_at : (names : List (List ℕ)) → AllByRecursion IsClassName names → HasAll pool (flat_map class_constants names)
      → AllZip (IsClassAt (entries_of pool)) (map (class_index pool) names) names
  classes_at [] is h = tt
  classes_at (name ∷ names) is h =
      let others = flat_map class_constants names in (
        class_at_index pool count name is.0 (all_front (Has pool) (class_constants name) others h),
        classes_at names is.1
            (all_back (Has pool) (class_constants name) others h),
      )

  pub classes_are : (names : List (List ℕ)) → AllByRecursion IsClassName names
      → HasAll pool (flat_map class_constants names)
      → AllZip (IsClassAt (entries_of pool)) (map (class_index pool) names) names
  classes_are names is h = classes_at names is h

  exceptions_are : (names : List (List ℕ)) → length names < 2 ^ 16 → AllByRecursion IsClassName names
      → HasAll pool (flat_map class_constants names) → IsExceptions (entries_of pool) (exceptions pool names) names
  exceptions_are names low is h =
      let n : length (map (class_index pool) names) ≡ length names = length-map names (class_index pool) in
      record {
        indices = map (class_index pool) names;
        is = ap (λ (k : ℕ). to_be_bytes w16 k ++ flat_map (λ name. u2_of pool (class_index pool name)) names) (sym n)
            ∙ ap (λ (t : List ℕ). to_be_bytes w16 (length (map (class_index pool) names)) ++ t)
            (sym (flat_map-map (to_be_bytes w16) (class_index pool) names));
        count_fits = omega (arith, n, low);
        each = classes_at names is h;
      }

  thrown_by : (b : Bool) (names : List (List ℕ)) → is_some_item names ≡ b → length names < 2 ^ 16
      → AllByRecursion IsClassName names
      → HasAll pool (attribute_constants b (codes "Exceptions") (flat_map class_constants names))
      → AreThrown (entries_of pool) (attribute pool b (codes "Exceptions") (exceptions pool names)) names
  thrown_by true names e low is h = exceptions_are names low is h.1
  thrown_by false names e low is h = no_items names e

  exceptions_short : (names : List (List ℕ)) → length names < 2 ^ 16 → length (exceptions pool names) < 2 ^ 32
  exceptions_short names low =
      let k = by names in
      omega (
        arith,
        low,
        k,
        length-append (u2_of pool (length names))
            (flat_map (λ name. u2_of pool (class_index pool name)) names),
      )
    where
      by : (names : List (List ℕ))
          → length (flat_map (λ name. u2_of pool (class_index pool name)) names) ≡ 2 * length names
      by [] = refl
      by (name ∷ names) = omega (
        arith,
        by names,
        length-append (u2_of pool (class_index pool name))
            (flat_map (λ name. u2_of pool (class_index pool name)) names),
      )

  -- ---- Code

  -- what is asked of the code of a method, if there is one
  abbrev pub IsSpelledCode : List VType → Option Code → Type 0
  IsSpelledCode first o = IfSome o (IsSpelled pool first)

  code_named : (first : List VType) (o : Option Code) → HasAll pool (body_constants first o)
      → named (entries_of pool) (codes "Code") (body_attributes pool first o) ≡ body_attributes pool first o
  code_named first None h = refl
  code_named first (Some code) h = named_this pool true (codes "Code") (code_contents pool first code)
      (code_constants first code) code_units refl h

  code_other : (name : List ℕ) (first : List VType) (o : Option Code) → is_text (codes "Code") name ≡ false
      → HasAll pool (body_constants first o) → named (entries_of pool) name (body_attributes pool first o) ≡ []
  code_other name first None e h = refl
  code_other name first (Some code) e h = named_other pool true (codes "Code") name (code_contents pool first code)
      (code_constants first code) code_units e h

  code_attribute : (first : List VType) (o : Option Code) → IsSpelledCode first o → HasAll pool (body_constants first o)
      → AllByRecursion (IsAttribute (entries_of pool)) (body_attributes pool first o)
  code_attribute first None s h = tt
  code_attribute first (Some code) s h = attribute_is pool count true (codes "Code") (code_contents pool first code)
      (code_constants first code) (λ e. s.short) h

  code_few : (first : List VType) (o : Option Code) → length (body_attributes pool first o) ≤ 1
  code_few first None = omega arith
  code_few first (Some code) = omega arith

  -- a method that is not native has nothing left out
  none_left : (b : Bool) → IsTrue (not b) → None ≡ cond b (let o : Option LeftKind = Some left.Flag in o) None
  none_left true h = absurd cc
  none_left false h = refl

  code_of : (first : List VType) (flags : ℕ) (b : Bool) (o : Option Code) → is_some o ≡ b
      → IsTrue (not (is_native flags)) → IsSpelledCode first o
      → IsCodeOf (entries_of pool) first flags b (body_attributes pool first o) o None
  code_of first flags true (Some code) e native s = body_is pool first code s
  code_of first flags false (Some code) e native s = absurd cc
  code_of first flags true None e native s = absurd cc
  code_of first flags false None e native s = (refl, none_left (is_native flags) native)

  -- ---- the whole

  pub method_is : (in_interface : Bool) (class : List ℕ) (m : Method) → IsGoodMethod in_interface m → IsMethodValue m
      → IsSpelledCode (first_locals class m) m.code → length m.throws < 2 ^ 16 → HasAll pool (method_constants class m)
      → IsMethod (entries_of pool) in_interface class (method_raw pool class m) m None
  method_is in_interface class m good value spelled few_throws has =
      let first = first_locals class m in
      let entries = entries_of pool in
      let thrown = is_some_item m.throws in
      let throw_constants = flat_map class_constants m.throws in
      let bodies = body_constants first m.code in
      let throws = attribute_constants thrown (codes "Exceptions") throw_constants in
      let marks = mark_constants m.synthetic m.deprecated in
      let has_bodies = all_front (Has pool) bodies (throws ++ marks) has.1.1 in
      let has_rest = all_back (Has pool) bodies (throws ++ marks) has.1.1 in
      let has_throws = all_front (Has pool) throws marks has_rest in
      let has_marks = all_back (Has pool) throws marks has_rest in
      let xs = body_attributes pool first m.code in
      let info = exceptions pool m.throws in
      let ys = attribute pool thrown (codes "Exceptions") info in
      let zs = mark_attributes pool m.synthetic m.deprecated in
      let throws_other : (name : List ℕ) → is_text (codes "Exceptions") name ≡ false
      → named entries name ys
      ≡ [] = λ name e. named_other pool thrown
      (codes "Exceptions") name info throw_constants exceptions_units e has_throws in
      record {
        flags = flags_are method_mask are_method_flags m.flags (omega arith) good.meant good.flags;
        name = text_at_index pool count m.name good.name.0 (has.0, tt);
        named_right = good.name.1;
        descriptor = text_at_index pool count (method_text m.ty) (method_utf8 m.ty value.ty) (has.1.0, tt);
        typed = good.typed;
        room_for_this = good.room_for_this;
        initial_flags = good.initial_flags;
        initial_type = good.initial_type;
        attributes = record {
          count_fits = omega (
            arith,
            length-append xs (ys ++ zs),
            length-append ys zs,
            code_few first m.code,
            few pool thrown
                (codes "Exceptions") info,
            marks_few pool m.synthetic m.deprecated has_marks,
          );
          each = all_both (IsAttribute entries) xs (ys ++ zs) (code_attribute first m.code spelled has_bodies)
              (all_both (IsAttribute entries) ys zs
              (attribute_is pool count thrown (codes "Exceptions") info throw_constants
              (λ e. exceptions_short m.throws few_throws) has_throws)
              (marks_are pool m.synthetic m.deprecated has_marks count));
        };
        code = subst (λ (l : List AttributeInfo). IsCodeOf entries first m.flags.0 (has_body m.flags.0) l m.code None)
            (sym (named_left pool (codes "Code") xs (ys ++ zs) xs (code_named first m.code has_bodies)
            (named_left pool (codes "Code") ys zs [] (throws_other (codes "Code") refl)
            (marks_other pool m.synthetic m.deprecated has_marks (codes "Code") refl refl))))
            (code_of first m.flags.0 (has_body m.flags.0) m.code good.body good.not_native spelled);
        throws = subst (λ (l : List AttributeInfo). AreThrown entries l m.throws)
            (sym (named_right pool (codes "Exceptions") xs (ys ++ zs) ys
            (code_other (codes "Exceptions") first m.code refl has_bodies)
            (named_left pool (codes "Exceptions") ys zs ys
            (named_this pool thrown (codes "Exceptions") info throw_constants exceptions_units refl has_throws)
            (marks_other pool m.synthetic m.deprecated has_marks (codes "Exceptions") refl refl))))
            (thrown_by thrown m.throws refl few_throws good.throws has_throws);
        synthetic = mark_behind pool (codes "Synthetic") xs (ys ++ zs) m.synthetic
            (code_other (codes "Synthetic") first m.code refl has_bodies)
            (mark_behind pool (codes "Synthetic") ys zs m.synthetic (throws_other (codes "Synthetic") refl)
            (synthetic_is pool m.synthetic m.deprecated has_marks));
        deprecated = mark_behind pool (codes "Deprecated") xs (ys ++ zs) m.deprecated
            (code_other (codes "Deprecated") first m.code refl has_bodies)
            (mark_behind pool (codes "Deprecated") ys zs m.deprecated (throws_other (codes "Deprecated") refl)
            (deprecated_is pool m.synthetic m.deprecated has_marks));
      }
