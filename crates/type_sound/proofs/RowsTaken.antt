-- The row that is taken, and that never goes wrong, by the law.
use Rattle.std.proofs.Common.{◌≡◌, ◌<◌, ◌≤◌, ◌+◌, ℕ, zero, suc, Bool, true, false, List, [], ◌∷◌, length}
use Rattle.std.proofs.Common.{map, Option, Some, None, Ok, slice_get, refl, sym, subst, inr, arith, codes}
use Rattle.std.specs.Prelude.{AllPairs, IsSome, IsTrue, nat_lt, slice_index_or}
use Rattle.std.specs.List.{All, list_all}
use Rattle.std.specs.Cmp.Lexicographic.{slice_cmp}
use Rattle.std.specs.Ordering.{is_lt, nat_cmp}
use Rattle.std.specs.Str.{all_scalars, encode_utf8_all}
use lib.Utf8.{encode}
use Rattle.std.proofs.lemmas.Bool.{and_parts, ltb-true}
use Rattle.std.proofs.lemmas.List.Elements.{All-cons, All-nil}
use Rattle.std.proofs.lemmas.List.Kept.{AllPairs-cons}
use Rattle.jv_base.specs.Descriptors.{grown, read_field, read_method}
use Rattle.jv_base.specs.Names.{is_class_name, is_member_name, is_method_name, is_name_byte, is_primitive_or_void}
use Rattle.jv_base.specs.Names.{part_after}
use Rattle.jv_base.specs.Types.{IsFieldType, IsMethodType, argument_words, base_text, field_text, method_text, result_text}
use Rattle.jv_base.specs.Types.{words_of}
use Rattle.jv_base.specs.Walk.{walk}
use Rattle.jv_base.specs.declared.types.Base.TheVariants as base
use Rattle.jv_base.proofs.Lists.{no_pairs}
use Rattle.class_model.specs.Members.{FieldsDiffer, MethodsDiffer}
use Rattle.class_model.specs.WellFormed.{Ascend, IsClassName, IsGoodCode, IsGoodMethod}
use Rattle.class_model.specs.WellFormed.{IsMethodReference, IsName, IsWellFormed, LinesGoOn}
use Rattle.class_model.specs.declared.class.Class.{Class}
use Rattle.class_model.specs.declared.code.Ins.{Ins}
use Rattle.class_model.specs.declared.op.Op.{Op}
use Rattle.class_pool.specs.Faults.{Ascends, first_faults}
use Rattle.class_pool.specs.Hierarchy.{IsClass}
use Rattle.class_pool.specs.Ranks.{HasRanks}
use Rattle.class_pool.specs.Supertypes.{direct}
use Rattle.class_pool.specs.Walk.{upwards, walked}
use Rattle.class_pool.specs.bodies.Graph.{library_ids}
use Rattle.class_pool.specs.declared.fault.NamedClass.{NamedClass}
use Rattle.class_pool.specs.declared.id.ClassId.{ClassId}
use Rattle.class_pool.specs.declared.id.ClassId.TheVariants.{Prog, Lib}
use Rattle.class_pool.specs.rows.LinkRows.{object}
use Rattle.class_pool.proofs.CycleLaws.{none_cyclic}
use Rattle.class_pool.proofs.ObjectLaws.{at_row}
use Rattle.link_check.specs.Profile.{least, links_checked}
use Rattle.link_check.specs.rows.ProfileRows.{instruction, no_result, of_class}
use Rattle.lib_table.specs.Library.{library}
use Rattle.type_sound.specs.Rows.{FailingNeverWrong, FailingTaken, calling, caught, class_e, class_g, dividing}
use Rattle.type_sound.specs.Rows.{calling_ops, dividing_ops, empty, empty_ops, failing, plain, throwable}
use Rattle.type_sound.proofs.RowsTyped.{failing_typed}
use Rattle.type_sound.proofs.Whole.{never_goes_wrong}

-- ---- names

spelled : (passes : List ℕ → Bool) (name : List ℕ) → all_scalars name ≡ true → encode_utf8_all name ≡ name
    → passes name ≡ true → IsName passes name
spelled passes name s e p = ((name, (s, e)), p)

name_e : IsClassName (codes "demo/E")
unfolding is_class_name is_member_name is_name_byte is_primitive_or_void encode
name_e = spelled is_class_name (codes "demo/E") refl refl refl

name_g : IsClassName (codes "demo/G")
unfolding is_class_name is_member_name is_name_byte is_primitive_or_void encode
name_g = spelled is_class_name (codes "demo/G") refl refl refl

name_object : IsClassName object
unfolding is_class_name is_member_name is_name_byte is_primitive_or_void encode
name_object = spelled is_class_name object refl refl refl

name_throwable : IsClassName throwable
unfolding is_class_name is_member_name is_name_byte is_primitive_or_void encode
name_throwable = spelled is_class_name throwable refl refl refl

-- a method without parameters and without a result
no_type : IsMethodType (record { args = []; ret = None })
unfolding argument_words
no_type = record { arguments = tt; words = omega arith; returned = tt }

-- ---- codes

lines_at : (ops : List Op) (i : ℕ) (d : Ins) → i < length (map instruction ops)
    → (slice_index_or (map instruction ops) i d).line ≡ None
lines_at [] i d low = absurd (omega (arith, low))
lines_at (o ∷ ops) zero d low = refl
lines_at (o ∷ ops) (suc i) d low = lines_at ops i d (omega (arith, low))

no_lines : (ops : List Op) → AllPairs LinesGoOn (map instruction ops)
no_lines ops i j d low high some = absurd (none (subst (λ o. IsSome o) (lines_at ops i d (omega (arith, low, high))) some)) where
  none : (let o : Option ℕ = None in IsSome o) → ⊥
  none h = cc

no_elements : {A : Type 0} (R : A → A → Type 0) → AllPairs R []
no_elements R i j d low high = absurd (omega (arith, high))

dividing_good : IsGoodCode dividing
dividing_good = record {
  some = omega arith;
  instructions = (tt, (tt, (tt, (tt, (tt, tt)))));
  lines = no_lines dividing_ops;
  handlers = tt;
  frames = tt;
  ascending = no_elements Ascend;
}

empty_good : IsGoodCode empty
empty_good = record {
  some = omega arith;
  instructions = (tt, tt);
  lines = no_lines empty_ops;
  handlers = tt;
  frames = tt;
  ascending = no_elements Ascend;
}

class_good : (name : List ℕ) → IsTrue (is_class_name name) → IsFieldType (record { dims = 0; base = base.Class name })
class_good name h = record { dimensions = omega arith; named = h }

call_good : IsMethodReference (of_class (codes "demo/E") (codes "f") no_result)
unfolding is_class_name is_member_name is_name_byte is_primitive_or_void is_method_name method_text result_text
    encode
call_good = record {
  class = (class_good (codes "demo/E") refl, inr (codes "demo/E", refl));
  name = spelled is_method_name (codes "f") refl refl refl;
  descriptor = (record { args = []; ret = None }, no_type, refl);
}

calling_good : IsGoodCode calling
unfolding is_class_name is_member_name is_name_byte is_primitive_or_void
calling_good = record {
  some = omega arith;
  instructions = (call_good, (tt, (tt, (call_good, (tt, tt)))));
  lines = no_lines calling_ops;
  handlers = (record { range = omega arith; to = omega arith; entry = omega arith; caught = name_throwable }, tt);
  frames = (
    record {
      index = omega arith;
      locals = tt;
      cut = refl;
      locals_fit = omega arith;
      stack = ((class_good throwable refl, inr (throwable, refl)), tt);
      stack_fits = omega arith;
    },
    tt,
  );
  ascending = no_pairs Ascend caught;
}

-- ---- methods and classes

first_good : IsGoodMethod false (plain 0x0008 (codes "<clinit>") dividing)
unfolding is_method_name is_member_name is_name_byte argument_words encode
first_good = record {
  meant = refl;
  flags = refl;
  not_native = refl;
  name = spelled is_method_name (codes "<clinit>") refl refl refl;
  typed = no_type;
  room_for_this = refl;
  initial_flags = refl;
  initial_type = refl;
  body = refl;
  code = dividing_good;
  throws = tt;
}

f_good : IsGoodMethod false (plain 0x0009 (codes "f") empty)
unfolding is_method_name is_member_name is_name_byte argument_words encode
f_good = record {
  meant = refl;
  flags = refl;
  not_native = refl;
  name = spelled is_method_name (codes "f") refl refl refl;
  typed = no_type;
  room_for_this = refl;
  initial_flags = refl;
  initial_type = refl;
  body = refl;
  code = empty_good;
  throws = tt;
}

g_good : IsGoodMethod false (plain 0x0009 (codes "g") calling)
unfolding is_method_name is_member_name is_name_byte argument_words encode
g_good = record {
  meant = refl;
  flags = refl;
  not_native = refl;
  name = spelled is_method_name (codes "g") refl refl refl;
  typed = no_type;
  room_for_this = refl;
  initial_flags = refl;
  initial_type = refl;
  body = refl;
  code = calling_good;
  throws = tt;
}

differ : MethodsDiffer (plain 0x0008 (codes "<clinit>") dividing) (plain 0x0009 (codes "f") empty)
differ p = apart p.0 where
  apart : codes "<clinit>" ≡ codes "f" → ⊥
  apart e = cc

e_formed : IsWellFormed class_e
e_formed = record {
  nothing_left_out = refl;
  meant = refl;
  flags = refl;
  no_annotation_or_enum = refl;
  name = name_e;
  super_name = name_object;
  interfaces = tt;
  fields = tt;
  fields_differ = no_elements FieldsDiffer;
  methods = (first_good, (f_good, tt));
  methods_differ = AllPairs-cons MethodsDiffer (plain 0x0008 (codes "<clinit>") dividing)
      (plain 0x0009 (codes "f") empty ∷ [])
      (All-cons (MethodsDiffer (plain 0x0008 (codes "<clinit>") dividing)) (plain 0x0009 (codes "f") empty) [] differ
      (All-nil (MethodsDiffer (plain 0x0008 (codes "<clinit>") dividing))))
      (no_pairs MethodsDiffer (plain 0x0009 (codes "f") empty));
  source = tt;
}

g_formed : IsWellFormed class_g
g_formed = record {
  nothing_left_out = refl;
  meant = refl;
  flags = refl;
  no_annotation_or_enum = refl;
  name = name_g;
  super_name = name_object;
  interfaces = tt;
  fields = tt;
  fields_differ = no_elements FieldsDiffer;
  methods = (g_good, tt);
  methods_differ = no_pairs MethodsDiffer (plain 0x0009 (codes "g") calling);
  source = tt;
}

some_is : {A : Type 0} (x y : A) → Some x ≡ Some y → x ≡ y
some_is x y e = cc

formed : (n : ℕ) (c : Class) → slice_get failing n ≡ Some c → IsWellFormed c
formed zero c e = subst IsWellFormed (some_is class_e c e) e_formed
formed (suc zero) c e = subst IsWellFormed (some_is class_g c e) g_formed
formed (suc (suc n)) c e = absurd cc

-- ---- the set

abbrev file_e : NamedClass
file_e = record { path = codes "demo/E.class"; class = class_e }

abbrev file_g : NamedClass
file_g = record { path = codes "demo/G.class"; class = class_g }

-- each class of the library stands behind its supertypes
abbrev rank : ClassId → ℕ
rank (Lib id) = id
rank (Prog n) = length library

low_rows : list_all (λ id. list_all (λ b. nat_lt (rank b) id) (direct [] (Lib id))) library_ids ≡ true
unfolding library
low_rows = refl

-- the library has classes
some_library : 0 < length library
unfolding library
some_library = omega arith

direct_e : direct failing (Prog 0) ≡ Lib 0 ∷ []
unfolding library
direct_e = refl

direct_g : direct failing (Prog 1) ≡ Lib 0 ∷ []
unfolding library
direct_g = refl

falls : (a : ClassId) → IsClass failing a → All (λ b. rank b < rank a) (direct failing a)
falls (Prog zero) there = subst (λ bs. All (λ b. rank b < rank (Prog 0)) bs) (sym direct_e)
    (All-cons (λ b. rank b < rank (Prog 0)) (Lib 0) [] some_library (All-nil (λ b. rank b < rank (Prog 0))))
falls (Prog (suc zero)) there = subst (λ bs. All (λ b. rank b < rank (Prog 1)) bs) (sym direct_g)
    (All-cons (λ b. rank b < rank (Prog 1)) (Lib 0) [] some_library (All-nil (λ b. rank b < rank (Prog 1))))
falls (Prog (suc (suc n))) there = absurd (omega (arith, there))
falls (Lib id) there = each (direct [] (Lib id))
    (at_row (λ k. list_all (λ b. nat_lt (rank b) k) (direct [] (Lib k))) id low_rows there)
  where
    each : (bs : List ClassId) → list_all (λ b. nat_lt (rank b) id) bs ≡ true → All (λ b. rank b < id) bs
    each [] h = All-nil (λ b. rank b < id)
    each (b ∷ bs) h =
        let p = and_parts (nat_lt (rank b) id) (list_all (λ z. nat_lt (rank z) id) bs) h in
        All-cons (λ z. rank z < id) b bs (ltb-true (rank b) id p.0) (each bs p.1)

most : (a : ClassId) → IsClass failing a → rank a ≤ length library + length failing
most (Prog n) there = omega arith
most (Lib id) there = omega (arith, there)

ranks : HasRanks failing
ranks = record { rank = rank; falls = falls; most = most }

ascend : Ascends (file_e ∷ file_g ∷ [])
ascend = AllPairs-cons (λ a b. is_lt (slice_cmp nat_cmp a.path b.path) ≡ true) file_e (file_g ∷ [])
    (All-cons (λ b. is_lt (slice_cmp nat_cmp file_e.path b.path) ≡ true) file_g [] refl
    (All-nil (λ b. is_lt (slice_cmp nat_cmp file_e.path b.path) ≡ true)))
    (no_pairs (λ a b. is_lt (slice_cmp nat_cmp a.path b.path) ≡ true) file_g)

named_right : first_faults (file_e ∷ file_g ∷ []) ≡ Ok tt
unfolding library
named_right = refl

linked : links_checked failing ≡ Ok tt
unfolding library upwards walked field_text base_text method_text result_text grown read_field read_method walk
    is_class_name is_member_name is_primitive_or_void is_name_byte part_after words_of argument_words least
linked = refl

pub failing_taken : FailingTaken
failing_taken = record {
  files = file_e ∷ file_g ∷ [];
  ascend = ascend;
  built = (named_right, none_cyclic failing ranks, refl);
  few = omega arith;
  ranks = ranks;
  formed = formed;
  linked = linked;
}

pub failing_never_wrong : FailingNeverWrong
unfolding library upwards walked field_text base_text method_text result_text grown read_field read_method walk
    is_class_name is_member_name is_primitive_or_void is_name_byte part_after words_of argument_words
failing_never_wrong n = never_goes_wrong failing failing_taken failing_typed
    (record { class = codes "demo/G"; name = codes "g"; descriptor = no_result }) [] []
    (record { startable = refl; typed = refl; right = tt }) n
