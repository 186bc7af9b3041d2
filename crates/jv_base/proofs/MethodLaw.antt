-- Method descriptors: what is written is read, and what is read was written so.
use Rattle.std.proofs.Common.{◌≡◌, ℕ, ◌+◌, ◌<◌, ◌≤◌, Bool, true, false, cond, ◌&&◌, List, [], ◌∷◌, ◌++◌, Option, Some}
use Rattle.std.proofs.Common.{None, Result, Ok, Err, inl, inr, refl, sym, ap, subst, ◌∙◌, append_assoc, arith, IfSome}
use Rattle.std.specs.Prelude.{nat_eq, nat_le}
use Rattle.std.specs.List.{AllByRecursion, flat_map}
use Rattle.std.proofs.lemmas.List.{append-nil}
use Rattle.std.proofs.lemmas.List.Concat.{flat_map-append}
use Rattle.std.proofs.lemmas.Bool.{eqb-true, and_parts}
use Rattle.std.proofs.lemmas.Bool.Decides.{nat_tests}
use Rattle.std.proofs.Math.Bool.{and-false}
use Rattle.std.proofs.lemmas.Option.{cond_some}
use Rattle.jv_base.specs.Descriptors.{SpellsMethod, Begun, brackets, name, Grown, more, whole, grown, MethodPart}
use Rattle.jv_base.specs.Descriptors.{before, parameter, returned, behind, MethodRead, is_fresh, parameter_on}
use Rattle.jv_base.specs.Descriptors.{parameter_byte, returned_on, returned_byte, part_byte, method_byte, part_end}
use Rattle.jv_base.specs.Descriptors.{method_end, bad_descriptor, read_method}
use Rattle.jv_base.specs.Longest.{GoesOn, IsLongest}
use Rattle.jv_base.specs.Types.{argument_words, field_text, IsFieldType, method_text, result_text, words_of}
use Rattle.jv_base.specs.Walk.{walk, walk_from}
use Rattle.jv_base.specs.declared.descriptors.BadDescriptor.{BadDescriptor}
use Rattle.jv_base.specs.declared.types.FieldType.{FieldType}
use Rattle.jv_base.specs.declared.types.MethodType.{MethodType}
use Rattle.jv_base.proofs.FieldLaw.{bad_err, bad_ok, begun_text, CanBegin, goes_whole, grown_fits, Path, path_field}
use Rattle.jv_base.proofs.WalkLaw.{nothing_more, walk_found, walk_longest}
use Rattle.jv_base.proofs.Words.{no_words, words_more}

-- ---- lists of parameters

AllByRecursion_push : (args : List FieldType) (ty : FieldType) → AllByRecursion IsFieldType args → IsFieldType ty
    → AllByRecursion IsFieldType (args ++ ty ∷ [])
AllByRecursion_push [] ty h is = (is, tt)
AllByRecursion_push (a ∷ args) ty h is = (h.0, AllByRecursion_push args ty h.1 is)

texts_push : (args : List FieldType) (ty : FieldType)
    → flat_map field_text (args ++ ty ∷ []) ≡ flat_map field_text args ++ field_text ty
texts_push args ty = flat_map-append field_text args (ty ∷ [])
    ∙ ap (λ (t : List ℕ). flat_map field_text args ++ t) (append-nil (field_text ty))

some_word : (ty : FieldType) → 1 ≤ words_of ty
unfolding words_of
some_word ty = grind (arith, nat_tests)

-- ---- what the bytes so far are

abbrev texts : List FieldType → List ℕ
texts args = flat_map field_text args

-- the parameters so far can stand in a descriptor
record AreParameters (args : List FieldType) : Type 0 where
  all : AllByRecursion IsFieldType args
  words : argument_words args ≤ 255

abbrev PartReads : List FieldType → MethodPart → List ℕ → Type 0
PartReads args before so_far = (args ≡ []) × (so_far ≡ [])
PartReads args (parameter s) so_far = AreParameters args × CanBegin s × (is_fresh s ≡ false → argument_words args < 255)
    × (so_far ≡ 40 ∷ (texts args ++ begun_text s))
PartReads args (returned s) so_far = AreParameters args × CanBegin s
    × (so_far ≡ 40 ∷ (texts args ++ (41 ∷ begun_text s)))
PartReads args (behind ret) so_far = AreParameters args × IfSome ret IsFieldType
    × (so_far ≡ 40 ∷ (texts args ++ (41 ∷ result_text ret)))

abbrev MethodReads : MethodRead → List ℕ → Type 0
MethodReads m so_far = PartReads m.args m.part so_far

abbrev at_part : List FieldType → MethodPart → MethodRead
at_part args part = record { args = args; part = part }

-- one more byte at the end of a parameter, and of a result
longer : (args s t : List ℕ) (b : ℕ) (so_far : List ℕ) → t ≡ s ++ b ∷ [] → so_far ≡ 40 ∷ (args ++ s)
    → so_far ++ b ∷ [] ≡ 40 ∷ (args ++ t)
longer args s t b so_far more_ h = ap (λ (x : List ℕ). x ++ b ∷ []) h
    ∙ ap (λ (x : List ℕ). 40 ∷ x) (append_assoc args s (b ∷ []) ∙ ap (λ (x : List ℕ). args ++ x) (sym more_))

longer_result : (args s t : List ℕ) (b : ℕ) (so_far : List ℕ) → t ≡ s ++ b ∷ [] → so_far ≡ 40 ∷ (args ++ (41 ∷ s))
    → so_far ++ b ∷ [] ≡ 40 ∷ (args ++ (41 ∷ t))
longer_result args s t b so_far more_ h = longer args (41 ∷ s) (41 ∷ t) b so_far (ap (λ (x : List ℕ). 41 ∷ x) more_) h

fresh_text : (s : Begun) → is_fresh s ≡ true → begun_text s ≡ []
fresh_text (brackets dims) h = rw (eqb-true dims 0 h) refl
fresh_text (name dims text in_part) h = absurd cc

abbrev KeepsIn : MethodRead → List ℕ → Type 0
KeepsIn m so_far = MethodReads m so_far

-- ---- keeping it, byte by byte

parameter_keeps : (args : List FieldType) (s : Begun) (o : Option Grown) (m : MethodRead) (b : ℕ) (so_far : List ℕ)
    → AreParameters args → CanBegin s → argument_words args < 255
    → so_far ≡ 40 ∷ (texts args ++ begun_text s) → grown s b ≡ o → parameter_on args o ≡ Some m
    → MethodReads m (so_far ++ b ∷ [])
parameter_keeps args s None m b so_far are can room text h k = absurd cc
parameter_keeps args s (Some (more next)) m b so_far are can room text h k =
    let f = grown_fits s b (more next) can h in
    let made : at_part args (parameter next) ≡ m = cc in
    subst (λ (x : MethodRead). MethodReads x (so_far ++ b ∷ [])) made
    (are, f.0, λ e. room, longer (texts args) (begun_text s) (begun_text next) b so_far f.1 text)
parameter_keeps args s (Some (whole ty)) m b so_far are can room text h k =
    let f = grown_fits s b (whole ty) can h in
    let p = cond_some (nat_le (argument_words (args ++ ty ∷ [])) 255)
    (at_part (args ++ ty ∷ []) (parameter (brackets 0))) m k in
    let few : argument_words (args ++ ty ∷ []) ≤ 255 = grind (arith, nat_tests, p.0) in
    let said : so_far ++ b ∷ []
    ≡ 40 ∷ (texts args ++ field_text ty) = longer (texts args) (begun_text s) (field_text ty) b so_far f.1 text in
    subst (λ (x : MethodRead). MethodReads x (so_far ++ b ∷ [])) p.1 (
      record { all = AllByRecursion_push args ty are.all f.0; words = few },
      omega arith,
      λ e. absurd cc,
      said ∙ ap (λ (x : List ℕ). 40 ∷ x) (sym (texts_push args ty) ∙ sym (append-nil (texts (args ++ ty ∷ [])))),
    )

returned_keeps : (args : List FieldType) (s : Begun) (o : Option Grown) (m : MethodRead) (b : ℕ) (so_far : List ℕ)
    → AreParameters args → CanBegin s
    → so_far ≡ 40 ∷ (texts args ++ (41 ∷ begun_text s)) → grown s b ≡ o → returned_on args o ≡ Some m
    → MethodReads m (so_far ++ b ∷ [])
unfolding result_text
returned_keeps args s None m b so_far are can text h k = absurd cc
returned_keeps args s (Some (more next)) m b so_far are can text h k =
    let f = grown_fits s b (more next) can h in
    let made : at_part args (returned next) ≡ m = cc in
    subst (λ (x : MethodRead). MethodReads x (so_far ++ b ∷ [])) made
    (are, f.0, longer_result (texts args) (begun_text s) (begun_text next) b so_far f.1 text)
returned_keeps args s (Some (whole ty)) m b so_far are can text h k =
    let f = grown_fits s b (whole ty) can h in
    let made : at_part args (behind (Some ty)) ≡ m = cc in
    subst (λ (x : MethodRead). MethodReads x (so_far ++ b ∷ [])) made
    (are, f.0, longer_result (texts args) (begun_text s) (field_text ty) b so_far f.1 text)

-- behind the last parameter
closes : (args : List FieldType) (s : Begun) (b : ℕ) (so_far : List ℕ) → AreParameters args
    → (is_fresh s && nat_eq b 41) ≡ true → so_far ≡ 40 ∷ (texts args ++ begun_text s)
    → MethodReads (at_part args (returned (brackets 0))) (so_far ++ b ∷ [])
closes args s b so_far are h text =
    let p = and_parts (is_fresh s) (nat_eq b 41) h in
    let is : b ≡ 41 = eqb-true b 41 p.1 in (
      are,
      omega arith,
      longer (texts args) (begun_text s) (41 ∷ []) b so_far
          (ap (λ (n : ℕ). n ∷ []) (sym is) ∙ ap (λ (t : List ℕ). t ++ b ∷ []) (sym (fresh_text s p.0))) text,
    )

-- the result is void
voids : (args : List FieldType) (s : Begun) (b : ℕ) (so_far : List ℕ) → AreParameters args
    → (is_fresh s && nat_eq b 86) ≡ true → so_far ≡ 40 ∷ (texts args ++ (41 ∷ begun_text s))
    → MethodReads (at_part args (behind None)) (so_far ++ b ∷ [])
unfolding result_text
voids args s b so_far are h text =
    let p = and_parts (is_fresh s) (nat_eq b 86) h in
    let is : b ≡ 86 = eqb-true b 86 p.1 in (
      are,
      tt,
      longer_result (texts args) (begun_text s) (86 ∷ []) b so_far
          (ap (λ (n : ℕ). n ∷ []) (sym is) ∙ ap (λ (t : List ℕ). t ++ b ∷ []) (sym (fresh_text s p.0))) text,
    )

no_room : (fresh : Bool) (words : ℕ) → words ≤ 255 → (fresh ≡ false → words < 255) → (fresh && nat_le 255 words) ≡ false
    → words < 255
no_room true words few begun h = grind (arith, nat_tests, h)
no_room false words few begun h = begun refl

parameter_step : (args : List FieldType) (s : Begun) (closing full : Bool) (m : MethodRead) (b : ℕ) (so_far : List ℕ)
    → AreParameters args → CanBegin s → (is_fresh s ≡ false → argument_words args < 255)
    → so_far ≡ 40 ∷ (texts args ++ begun_text s) → (is_fresh s && nat_eq b 41) ≡ closing
    → (is_fresh s && nat_le 255 (argument_words args)) ≡ full
    → cond closing (Some (at_part args (returned (brackets 0)))) (cond full None (parameter_on args (grown s b)))
    ≡ Some m → MethodReads m (so_far ++ b ∷ [])
parameter_step args s true full m b so_far are can room text c f k =
    let made : at_part args (returned (brackets 0)) ≡ m = cc in
    subst (λ (x : MethodRead). MethodReads x (so_far ++ b ∷ [])) made (closes args s b so_far are c text)
parameter_step args s false true m b so_far are can room text c f k = absurd cc
parameter_step args s false false m b so_far are can room text c f k =
    parameter_keeps args s (grown s b) m b so_far are can
    (no_room (is_fresh s) (argument_words args) are.words room f) text refl k

returned_step : (args : List FieldType) (s : Begun) (voiding : Bool) (m : MethodRead) (b : ℕ) (so_far : List ℕ)
    → AreParameters args → CanBegin s
    → so_far ≡ 40 ∷ (texts args ++ (41 ∷ begun_text s)) → (is_fresh s && nat_eq b 86) ≡ voiding
    → cond voiding (Some (at_part args (behind None))) (returned_on args (grown s b)) ≡ Some m
    → MethodReads m (so_far ++ b ∷ [])
returned_step args s true m b so_far are can text v k =
    let made : at_part args (behind None) ≡ m = cc in
    subst (λ (x : MethodRead). MethodReads x (so_far ++ b ∷ [])) made (voids args s b so_far are v text)
returned_step args s false m b so_far are can text v k = returned_keeps args s
    (grown s b) m b so_far are can text refl k

part_keeps : (args : List FieldType) (part : MethodPart) (m : MethodRead) (b : ℕ) (so_far : List ℕ)
    → PartReads args part so_far → part_byte args part b ≡ Some m → MethodReads m (so_far ++ b ∷ [])
part_keeps args before m b so_far r k =
    let p = cond_some (nat_eq b 40) (at_part args (parameter (brackets 0))) m k in
    let none : argument_words args ≡ 0 = ap argument_words r.0 ∙ no_words in
    let all : AllByRecursion IsFieldType args = subst (λ (xs : List FieldType). AllByRecursion IsFieldType xs)
    (sym r.0) tt in
    let text : so_far ++ b ∷ [] ≡ 40 ∷ (texts args ++ []) = ap (λ (t : List ℕ). t ++ b ∷ []) r.1
    ∙ ap (λ (n : ℕ). n ∷ []) (eqb-true b 40 p.0) ∙ ap (λ (xs : List FieldType). 40 ∷ (texts xs ++ [])) (sym r.0) in
    subst (λ (x : MethodRead). MethodReads x (so_far ++ b ∷ [])) p.1
    (record { all = all; words = omega arith }, omega arith, λ e. absurd cc, text)
part_keeps args (parameter s) m b so_far r k = parameter_step args s _ _ m b so_far r.0 r.1 r.2 r.3 refl refl k
part_keeps args (returned s) m b so_far r k = returned_step args s _ m b so_far r.0 r.1 r.2 refl k
part_keeps args (behind ret) m b so_far r k = absurd cc

keeps : (m n : MethodRead) (b : ℕ) (so_far : List ℕ) → MethodReads m so_far → method_byte m b ≡ Some n
    → MethodReads n (so_far ++ b ∷ [])
keeps m n b so_far r k = part_keeps m.args m.part n b so_far r k

part_ends : (args : List FieldType) (part : MethodPart) (ty : MethodType) (so_far : List ℕ) → PartReads args part so_far
    → part_end args part ≡ Some ty → SpellsMethod so_far ty
unfolding method_text
part_ends args before ty so_far r k = absurd cc
part_ends args (parameter s) ty so_far r k = absurd cc
part_ends args (returned s) ty so_far r k = absurd cc
part_ends args (behind ret) ty so_far r k =
    let made : MethodType = record { args = args; ret = ret } in
    let same : made ≡ ty = cc in
    subst (λ (t : MethodType). SpellsMethod so_far t) same
    (record { arguments = r.0.all; words = r.0.words; returned = r.1 }, sym r.2)

ends : (m : MethodRead) (ty : MethodType) (so_far : List ℕ) → MethodReads m so_far → method_end m ≡ Some ty
    → SpellsMethod so_far ty
ends m ty so_far r k = part_ends m.args m.part ty so_far r k

-- ---- whatever was read goes on

live_fresh : (args : List FieldType) (so_far : List ℕ) → AreParameters args → so_far ≡ 40 ∷ (texts args ++ [])
    → GoesOn SpellsMethod so_far
unfolding method_text result_text
live_fresh args so_far are text = (
  41 ∷ 86 ∷ [],
  record { args = args; ret = None },
  (
    record { arguments = are.all; words = are.words; returned = tt },
    ap (λ (t : List ℕ). 40 ∷ (t ++ (41 ∷ 86 ∷ []))) (sym (append-nil (texts args)))
        ∙ ap (λ (t : List ℕ). t ++ 41 ∷ 86 ∷ []) (sym text),
  ),
)

live_parameter : (args : List FieldType) (s : Begun) (so_far : List ℕ) → AreParameters args → CanBegin s
    → argument_words args < 255 → so_far ≡ 40 ∷ (texts args ++ begun_text s) → GoesOn SpellsMethod so_far
live_parameter args s so_far are can room text =
    let g = goes_whole s can in
    let more_ = args ++ g.ty ∷ [] in
    let count = words_more args g.ty in
    let narrow = g.narrow in
    let all : AreParameters more_ = record { all = AllByRecursion_push args g.ty are.all g.is; words = omega arith } in
    let said : so_far ++ g.rest ≡ 40 ∷ (texts more_ ++ []) =
    ap (λ (t : List ℕ). t ++ g.rest) text
    ∙ ap (λ (t : List ℕ). 40 ∷ t) (append_assoc (texts args) (begun_text s) g.rest
    ∙ ap (λ (t : List ℕ). texts args ++ t) (sym g.text) ∙ sym (texts_push args g.ty)
    ∙ sym (append-nil (texts more_))) in
    let h = live_fresh more_ (so_far ++ g.rest) all said in
    (g.rest ++ h.0, h.1, subst (λ (t : List ℕ). SpellsMethod t h.1) (append_assoc so_far g.rest h.0) h.2)

live_begun : (args : List FieldType) (s : Begun) (fresh : Bool) (so_far : List ℕ) → is_fresh s ≡ fresh
    → AreParameters args → CanBegin s → (is_fresh s ≡ false → argument_words args < 255)
    → so_far ≡ 40 ∷ (texts args ++ begun_text s) → GoesOn SpellsMethod so_far
live_begun args s true so_far is are can room text = live_fresh args so_far are
    (text ∙ ap (λ (t : List ℕ). 40 ∷ (texts args ++ t)) (fresh_text s is))
live_begun args s false so_far is are can room text = live_parameter args s so_far are can (room is) text

live_returned : (args : List FieldType) (s : Begun) (so_far : List ℕ) → AreParameters args → CanBegin s
    → so_far ≡ 40 ∷ (texts args ++ (41 ∷ begun_text s)) → GoesOn SpellsMethod so_far
unfolding method_text result_text
live_returned args s so_far are can text =
    let g = goes_whole s can in (
      g.rest,
      record { args = args; ret = Some g.ty },
      (
        record { arguments = are.all; words = are.words; returned = g.is },
        ap (λ (t : List ℕ). 40 ∷ t) (ap (λ (t : List ℕ). texts args ++ (41 ∷ t)) g.text
            ∙ sym (append_assoc (texts args) (41 ∷ begun_text s) g.rest)) ∙ ap (λ (t : List ℕ). t ++ g.rest) (sym text),
      ),
    )

live_at : (args : List FieldType) (part : MethodPart) (so_far : List ℕ) → PartReads args part so_far
    → GoesOn SpellsMethod so_far
live_at args before so_far r =
    let none : AreParameters [] = record { all = tt; words = let w = no_words in omega arith } in
    let h = live_fresh [] (40 ∷ []) none refl in
    (40 ∷ h.0, h.1, subst (λ (t : List ℕ). SpellsMethod (t ++ 40 ∷ h.0) h.1) (sym r.1) h.2)
live_at args (parameter s) so_far r = live_begun args s (is_fresh s) so_far refl r.0 r.1 r.2 r.3
live_at args (returned s) so_far r = live_returned args s so_far r.0 r.1 r.2
live_at args (behind ret) so_far r = nothing_more SpellsMethod so_far (record { args = args; ret = ret })
    (part_ends args (behind ret) (record { args = args; ret = ret }) so_far r refl)

live : (m : MethodRead) (so_far : List ℕ) → MethodReads m so_far → GoesOn SpellsMethod so_far
live m so_far r = live_at m.args m.part so_far r

-- ---- what is written is read

abbrev from_part : List FieldType → MethodPart → ℕ → List ℕ → Result MethodType ℕ
from_part args part at text = walk method_byte method_end (at_part args part) at text

over : (args then_args : List FieldType) (part then_part : MethodPart) (at b : ℕ) (text : List ℕ)
    → part_byte args part b ≡ Some (at_part then_args then_part)
    → from_part args part at (b ∷ text) ≡ from_part then_args then_part (at + 1) text
unfolding walk
over args then_args part then_part at b text h = ap
    (λ (o : Option MethodRead). walk_from at o (λ t. walk method_byte method_end t (at + 1) text)) h

-- neither `)` nor V begins or goes on in a type that isn't a class name
not_closing : (s : Begun) (b : ℕ) (o : Grown) → grown s b ≡ Some o → (is_fresh s && nat_eq b 41) ≡ false
unfolding grown
not_closing (name dims text in_part) b o h = refl
not_closing (brackets dims) b o h = by (nat_eq b 41) refl
  where
    by : (t : Bool) → nat_eq b 41 ≡ t → (nat_eq dims 0 && t) ≡ false
    by false e = and-false (nat_eq dims 0)
    by true e = let none : grown (brackets dims) b ≡ None = rw (eqb-true b 41 e) refl in absurd cc

not_voiding : (s : Begun) (b : ℕ) (o : Grown) → grown s b ≡ Some o → (is_fresh s && nat_eq b 86) ≡ false
unfolding grown
not_voiding (name dims text in_part) b o h = refl
not_voiding (brackets dims) b o h = by (nat_eq b 86) refl
  where
    by : (t : Bool) → nat_eq b 86 ≡ t → (nat_eq dims 0 && t) ≡ false
    by false e = and-false (nat_eq dims 0)
    by true e = let none : grown (brackets dims) b ≡ None = rw (eqb-true b 86 e) refl in absurd cc

room_left : (fresh : Bool) (words : ℕ) → words < 255 → (fresh && nat_le 255 words) ≡ false
room_left true words lt = grind (arith, nat_tests)
room_left false words lt = refl

parameter_byte_is : (args : List FieldType) (s : Begun) (b : ℕ) (o : Grown) → argument_words args < 255
    → grown s b ≡ Some o → parameter_byte args s b ≡ parameter_on args (Some o)
parameter_byte_is args s b o room h = rw
    (not_closing s b o h, room_left (is_fresh s) (argument_words args) room, h) refl

returned_byte_is : (args : List FieldType) (s : Begun) (b : ℕ) (o : Grown) → grown s b ≡ Some o
    → returned_byte args s b ≡ returned_on args (Some o)
returned_byte_is args s b o h = rw (not_voiding s b o h, h) refl

fits_on : (args : List FieldType) (ty : FieldType) → argument_words (args ++ ty ∷ []) ≤ 255
    → parameter_on args (Some (whole ty)) ≡ Some (at_part (args ++ ty ∷ []) (parameter (brackets 0)))
fits_on args ty few = let fit : nat_le (argument_words (args ++ ty ∷ [])) 255
    ≡ true = grind (arith, nat_tests) in rw fit refl

parameter_follows : (text rest : List ℕ) (s : Begun) (args : List FieldType) (ty : FieldType) (at : ℕ)
    → argument_words args < 255 → argument_words (args ++ ty ∷ []) ≤ 255 → Path s text ty
    → (next : ℕ) × (from_part args (parameter s) at (text ++ rest)
    ≡ from_part (args ++ ty ∷ []) (parameter (brackets 0)) next rest)
parameter_follows [] rest s args ty at room few p = absurd p
parameter_follows (b ∷ bs) rest s args ty at room few (inl last) =
    let one = over args (args ++ ty ∷ []) (parameter s) (parameter (brackets 0)) at b rest
    (parameter_byte_is args s b (whole ty) room last.1 ∙ fits_on args ty few) in
    (at + 1, ap (λ (t : List ℕ). from_part args (parameter s) at (b ∷ (t ++ rest))) last.0 ∙ one)
parameter_follows (b ∷ bs) rest s args ty at room few (inr on) =
    let one = over args args (parameter s) (parameter on.0) at b (bs ++ rest)
    (parameter_byte_is args s b (more on.0) room on.1) in
    let deep = parameter_follows bs rest on.0 args ty (at + 1) room few on.2 in
    (deep.0, one ∙ deep.1)

returned_follows : (text : List ℕ) (s : Begun) (args : List FieldType) (ty : FieldType) (at : ℕ) → Path s text ty
    → from_part args (returned s) at text ≡ Ok (record { args = args; ret = Some ty })
unfolding walk
returned_follows [] s args ty at p = absurd p
returned_follows (b ∷ bs) s args ty at (inl last) =
    ap (λ (t : List ℕ). from_part args (returned s) at (b ∷ t)) last.0
    ∙ over args args (returned s) (behind (Some ty)) at b [] (returned_byte_is args s b (whole ty) last.1)
returned_follows (b ∷ bs) s args ty at (inr on) =
    over args args (returned s) (returned on.0) at b bs (returned_byte_is args s b (more on.0) on.1)
    ∙ returned_follows bs on.0 args ty (at + 1) on.2

result_follows : (args : List FieldType) (ret : Option FieldType) (at : ℕ) → IfSome ret IsFieldType
    → from_part args (returned (brackets 0)) at (result_text ret) ≡ Ok (record { args = args; ret = ret })
unfolding walk result_text
result_follows args None at is = refl
result_follows args (Some ty) at is = returned_follows (field_text ty) (brackets 0) args ty at (path_field ty is)

-- the words of more arguments are not fewer
words_rise : (args others : List FieldType) → argument_words args ≤ argument_words (args ++ others)
words_rise args [] = let e = ap argument_words (append-nil args) in omega arith
words_rise args (o ∷ os) =
    let e = ap argument_words (append_assoc args (o ∷ []) os) in
    let deep = words_rise (args ++ o ∷ []) os in
    let one = words_more args o in
    omega arith

args_follow : (others args : List FieldType) (ret : Option FieldType) (at : ℕ) → AllByRecursion IsFieldType others
    → argument_words (args ++ others) ≤ 255 → IfSome ret IsFieldType
    → from_part args (parameter (brackets 0)) at (texts others ++ (41 ∷ result_text ret))
    ≡ Ok (record { args = args ++ others; ret = ret })
args_follow [] args ret at all few is =
    over args args (parameter (brackets 0)) (returned (brackets 0)) at 41 (result_text ret) refl
    ∙ result_follows args ret (at + 1) is
    ∙ ap (λ (xs : List FieldType). Ok (let made : MethodType = record { args = xs; ret = ret } in made))
    (sym (append-nil args))
args_follow (o ∷ os) args ret at all few is =
    let whole_ : args ++ o ∷ os ≡ (args ++ o ∷ []) ++ os = sym (append_assoc args (o ∷ []) os) in
    let few' : argument_words ((args ++ o ∷ []) ++ os) ≤ 255 = subst
    (λ (xs : List FieldType). argument_words xs ≤ 255) whole_ few in
    let rise = words_rise (args ++ o ∷ []) os in
    let count = words_more args o in
    let word = some_word o in
    let one = parameter_follows (field_text o) (texts os ++ (41 ∷ result_text ret)) (brackets 0) args o at (omega arith)
    (omega arith) (path_field o all.0) in
    let deep = args_follow os (args ++ o ∷ []) ret one.0 all.1 few' is in
    ap (from_part args (parameter (brackets 0)) at) (append_assoc (field_text o) (texts os) (41 ∷ result_text ret))
    ∙ one.1 ∙ deep
    ∙ ap (λ (xs : List FieldType). Ok (let made : MethodType = record { args = xs; ret = ret } in made)) (sym whole_)

reads : (text : List ℕ) (ty : MethodType) → SpellsMethod text ty → from_part [] before 0 text ≡ Ok ty
unfolding method_text
reads text ty h = subst (λ (t : List ℕ). from_part [] before 0 t ≡ Ok ty) h.1
    (over [] [] before (parameter (brackets 0)) 0 40 (texts ty.args ++ (41 ∷ result_text ty.ret)) refl
    ∙ args_follow ty.args [] ty.ret 1 h.0.arguments h.0.words h.0.returned)

starts : MethodReads (at_part [] before) []
starts = (refl, refl)

pub read_method-found : (text : List ℕ) (ty : MethodType) → read_method text ≡ Ok ty → SpellsMethod text ty
unfolding read_method
read_method-found text ty h = walk_found method_byte method_end MethodReads SpellsMethod keeps ends text
    (at_part [] before) 0 ty [] starts (bad_ok _ ty h)

pub read_method-only : (text : List ℕ) (ty : MethodType) → SpellsMethod text ty → read_method text ≡ Ok ty
unfolding read_method
read_method-only text ty h = ap bad_descriptor (reads text ty h)

pub read_method-longest : (text : List ℕ) (e : BadDescriptor) → read_method text ≡ Err e
    → IsLongest SpellsMethod text e.place
unfolding read_method
read_method-longest text e h = walk_longest method_byte method_end MethodReads SpellsMethod keeps
    (at_part [] before) starts live reads text e.place (bad_err _ e h)
