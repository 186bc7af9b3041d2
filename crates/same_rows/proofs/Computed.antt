-- What is kept, written and run, computed.
use Rattle.std.proofs.Common.{◌≡◌, ℕ, zero, suc, Bool, [], ◌∷◌, Ok, refl, sym, subst, arith}
use Rattle.std.specs.Prelude.{IsTrue}
use Rattle.std.specs.Fmt.{digits}
use Rattle.std.specs.Int.{int_wrap}
use Rattle.std.specs.List.{All, Contains}
use Rattle.std.specs.Str.{chars}
use Rattle.std.proofs.lemmas.List.Elements.{All-from_recursion}
use Rattle.jv_base.specs.Descriptors.{grown, read_field, read_method}
use Rattle.jv_base.specs.External.{external_text, word_text}
use Rattle.jv_base.specs.Mutf8.{mutf8, unit_bytes}
use Rattle.jv_base.specs.Names.{is_class_name, is_member_name, is_name_byte, is_primitive_or_void}
use Rattle.jv_base.specs.Names.{part_after}
use Rattle.jv_base.specs.Types.{argument_words, base_text, field_text, method_text, result_text, words_of}
use Rattle.jv_base.specs.Utf16.{units_of}
use Rattle.jv_base.specs.Walk.{walk}
use Rattle.lib_table.specs.Library.{library}
use Rattle.mark_core.specs.Marks.{Closed, Marks, needs_of, set_of}
use Rattle.mark_core.specs.declared.system.System.{System}
use Rattle.class_model.specs.CanonicalClass.{layout, pool_of}
use Rattle.class_model.specs.CanonicalCode.{code_bytes, places}
use Rattle.class_model.specs.CanonicalPool.{filled}
use Rattle.class_model.specs.WriteLimits.{class_written, limits}
use Rattle.class_pool.specs.Walk.{upwards, walked}
use Rattle.class_pool.specs.declared.id.ClassId.TheVariants.{Prog}
use Rattle.keep_match.specs.Filters.{accepts, flags_met}
use Rattle.keep_match.specs.Fixed.{fixes_class}
use Rattle.keep_match.specs.Matches.{is_kind_met, matches_class, matches_method}
use Rattle.keep_match.specs.TypePatterns.{match_each, matches_element, matches_result, matches_type, without_pairs}
use Rattle.keep_match.specs.Wildcards.{is_cut, pieces, wild, wild_class}
use Rattle.fresh_names.specs.Fresh.{free_from, given, spelled}
use Rattle.fresh_names.specs.Given.{once}
use Rattle.fresh_names.specs.Reserved.{library_names, type_words}
use Rattle.mapping_file.specs.MapLines.{line_text}
use Rattle.mapping_file.specs.Mappings.{mapping_text}
use Rattle.witness_file.specs.WitnessLines.{line_text as entry_text}
use Rattle.witness_file.specs.Witnesses.{witness_text}
use Rattle.require_sys.specs.Limits.{limited}
use Rattle.rule_system.specs.Required.{system_due}
use Rattle.pair_rows.proofs.Required.{system}
use Rattle.same_rows.specs.Rows.{BeginRow, EntryRow, MarksRow, NamesRow, RunRow, ShrunkRow, TextsRow, marks}

-- ---- the entry

pub entry_is : EntryRow
unfolding library upwards walked field_text base_text method_text result_text grown read_field read_method walk
    words_of argument_words is_class_name is_member_name is_primitive_or_void is_name_byte part_after
entry_is = record {
  startable = refl;
  member = record { class = Prog 0; index = 0 };
  item = 1;
  member_is = refl;
  item_is = refl;
  seed = subst (λ (sys : System). Contains sys.seeds 1) (sym system) (1, omega arith, refl);
}

pub may_begin : BeginRow
unfolding library upwards walked field_text base_text method_text result_text grown read_field read_method walk
    words_of argument_words is_class_name is_member_name is_primitive_or_void is_name_byte part_after
may_begin = record { startable = refl; typed = refl; right = tt }

-- ---- what is kept

-- what the rules require of the set
abbrev its : System
its = record {
  n = 5;
  seeds = 0 ∷ 1 ∷ [];
  needs = [] ∷ (0 ∷ 2 ∷ 3 ∷ []) ∷ [] ∷ (2 ∷ []) ∷ (2 ∷ []) ∷ [];
  pairs = [];
}

needs_marked : (x : ℕ) → IsTrue (set_of marks x) → All (λ y. IsTrue (set_of marks y)) (needs_of its x)
needs_marked zero h = All-from_recursion (λ y. IsTrue (set_of marks y)) [] tt
needs_marked (suc zero) h =
    All-from_recursion (λ y. IsTrue (set_of marks y)) (0 ∷ 2 ∷ 3 ∷ []) (refl, (refl, (refl, tt)))
needs_marked (suc (suc zero)) h = All-from_recursion (λ y. IsTrue (set_of marks y)) [] tt
needs_marked (suc (suc (suc zero))) h = All-from_recursion (λ y. IsTrue (set_of marks y)) (2 ∷ []) (refl, tt)
needs_marked (suc (suc (suc (suc zero)))) h = absurd cc
needs_marked (suc (suc (suc (suc (suc x))))) h = absurd cc

is_closed : Closed its (set_of marks)
is_closed = record {
  seeds = All-from_recursion (λ x. IsTrue (set_of marks x)) (0 ∷ 1 ∷ []) (refl, (refl, tt));
  needs = needs_marked;
  pairs = All-from_recursion _ [] tt;
}

is_least : (x : ℕ) → IsTrue (set_of marks x) → (set : ℕ → Bool) → Closed its set → IsTrue (set x)
is_least zero h set c = c.seeds 0 0 (omega arith)
is_least (suc zero) h set c = c.seeds 1 0 (omega arith)
is_least (suc (suc zero)) h set c = c.needs 1 (c.seeds 1 0 (omega arith)) 1 0 (omega arith)
is_least (suc (suc (suc zero))) h set c = c.needs 1 (c.seeds 1 0 (omega arith)) 2 0 (omega arith)
is_least (suc (suc (suc (suc zero)))) h set c = absurd cc
is_least (suc (suc (suc (suc (suc x))))) h set c = absurd cc

pub marks_are : MarksRow
unfolding system_due
marks_are = (
  subst (λ (sys : System). Marks sys marks) (sym system)
      (record { count = refl; closed = is_closed; least = is_least }),
  subst (λ (sys : System). limited sys ≡ Ok sys) (sym system) refl,
)

-- ---- what is written

pub shrunk_is : ShrunkRow
unfolding unit_bytes mutf8 units_of chars filled places code_bytes pool_of layout limits class_written library field_text
    base_text method_text result_text word_text external_text words_of argument_words pieces is_cut wild wild_class
    accepts flags_met is_kind_met matches_class matches_method matches_result matches_type matches_element
    without_pairs match_each fixes_class type_words library_names free_from given once spelled grown read_field
    read_method walk upwards walked is_class_name is_member_name is_primitive_or_void is_name_byte part_after
shrunk_is = record { files = ((refl, refl), ((refl, refl), tt)); mapping = refl; read = refl; left = refl }

pub texts_are : TextsRow
unfolding field_text base_text method_text result_text word_text external_text line_text mapping_text entry_text
    witness_text
texts_are = (refl, refl, refl)

-- ---- names, and runs

pub names_are : NamesRow
unfolding field_text base_text method_text result_text word_text external_text library grown read_field read_method walk
    upwards walked words_of argument_words is_class_name is_member_name is_primitive_or_void is_name_byte part_after
names_are = (refl, refl, refl)

pub runs_are : RunRow
unfolding library upwards walked field_text base_text method_text result_text grown read_field read_method walk
    is_class_name is_member_name is_primitive_or_void is_name_byte part_after words_of argument_words digits int_wrap
runs_are = (refl, refl)
