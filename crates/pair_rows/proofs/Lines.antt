-- A pair of which LineRange is the first clause that holds, computed.
use Rattle.std.proofs.Common.{◌≡◌, ◌<◌, refl, sym, ap, arith, List, [], ◌∷◌, Some, None}
use Rattle.std.specs.Str.{chars}
use Rattle.jv_base.specs.Descriptors.{grown, read_field, read_method}
use Rattle.jv_base.specs.External.{external_text, word_text}
use Rattle.jv_base.specs.Names.{is_class_name, is_member_name, is_name_byte, is_primitive_or_void, part_after}
use Rattle.jv_base.specs.Types.{argument_words, base_text, field_text, method_text, result_text, words_of}
use Rattle.jv_base.specs.Walk.{walk}
use Rattle.lib_table.specs.Library.{library}
use Rattle.class_model.specs.declared.class.Class.{Class}
use Rattle.class_pool.specs.Walk.{each_once, upwards, walked}
use Rattle.keep_match.specs.Asked.{asks_class}
use Rattle.keep_match.specs.Filters.{accepts, flags_met}
use Rattle.keep_match.specs.Matches.{is_kind_met, matches_class, matches_method}
use Rattle.keep_match.specs.Seeds.{keeps_class}
use Rattle.keep_match.specs.TypePatterns.{match_each, matches_element, matches_result, matches_type, without_pairs}
use Rattle.keep_match.specs.Wildcards.{is_cut, pieces, wild, wild_class}
use Rattle.rule_system.specs.Required.{required}
use Rattle.attribute_filter.specs.KeptAttributes.{filter_of}
use Rattle.pair_clauses.specs.Closing.{closed_fault, seed_fault}
use Rattle.pair_clauses.specs.Codes.{CodeDiffers}
use Rattle.pair_clauses.specs.FixedNames.{fixed_by, fixed_fault}
use Rattle.pair_clauses.specs.LineRanges.{range_fault}
use Rattle.pair_clauses.specs.Members.{MemberDiffers}
use Rattle.pair_clauses.specs.Shape.{shape_fault}
use Rattle.pair_checker.specs.Clauses.{Finds, given_names, number}
use Rattle.pair_checker.specs.PairOk.{IsFirst, by_clause}
use Rattle.pair_checker.specs.declared.answer.Clause.{Clause}
use Rattle.pair_checker.specs.declared.answer.Clause.TheVariants as clause
use Rattle.pair_rows.specs.Examples.{lined, other_lines, plain_rules, unedited}
use Rattle.pair_rows.specs.Rows.{LineRangeRow}
use Rattle.pair_rows.proofs.Required.{method_f}
use Rattle.pair_rows.proofs.Sets.{lined_accepted}

abbrev one : List Class
one = lined ∷ []

-- f is kept, and needs its class, which is kept too
system : required one plain_rules ≡ record {
  n = 2;
  seeds = 0 ∷ 1 ∷ [];
  needs = [] ∷ (0 ∷ []) ∷ [];
  pairs = [];
}
unfolding library upwards walked each_once field_text base_text method_text result_text word_text grown read_field
    read_method walk chars pieces is_cut wild wild_class accepts flags_met is_kind_met matches_class matches_method
    matches_result matches_type matches_element without_pairs match_each keeps_class asks_class words_of argument_words
    is_class_name is_member_name is_name_byte is_primitive_or_void part_after
system = refl

no_seed_lost : None ≡ seed_fault one (given_names other_lines one) (required one plain_rules)
unfolding field_text base_text method_text result_text word_text external_text
no_seed_lost = ap (λ sys. seed_fault one (given_names other_lines one) sys) (sym system)

closed : None ≡ closed_fault one (given_names other_lines one) (required one plain_rules)
unfolding field_text base_text method_text result_text word_text external_text
closed = ap (λ sys. closed_fault one (given_names other_lines one) sys) (sym system)

shaped : None ≡ shape_fault one one other_lines
unfolding field_text base_text method_text result_text word_text external_text
shaped = refl

names_stay : None ≡ fixed_fault (fixed_by plain_rules one) one (given_names other_lines one)
unfolding field_text base_text method_text result_text word_text external_text
names_stay = refl

members_alike : MemberDiffers other_lines (filter_of plain_rules) one (given_names other_lines one) one None
unfolding field_text base_text method_text result_text word_text external_text grown read_method walk accepts
members_alike = (
  (
    record { flags = refl; super_name = refl; interfaces = refl },
    (refl, ((record { flags = refl; name = refl; ty = refl; code = refl; throws = refl }, refl), refl)),
  ),
  refl,
)

codes_alike : CodeDiffers other_lines (filter_of plain_rules) one (given_names other_lines one) one None
unfolding field_text base_text method_text result_text word_text external_text grown read_field read_method walk accepts
    words_of argument_words is_class_name is_member_name is_name_byte is_primitive_or_void part_after
codes_alike = ((record { ins = refl; handlers = refl }, refl), refl)

line_outside : Some method_f ≡ range_fault other_lines one (given_names other_lines one) one
unfolding field_text base_text method_text result_text word_text external_text
line_outside = refl

before_line_range : (earlier : Clause) → number earlier < number clause.LineRange
    → Finds one one other_lines plain_rules unedited earlier None
before_line_range clause.OutputFormat lt = refl
before_line_range clause.OutputProfile lt = refl
before_line_range clause.MapShape lt = shaped
before_line_range clause.FixedName lt = names_stay
before_line_range clause.Package lt = refl
before_line_range clause.SeedLost lt = no_seed_lost
before_line_range clause.NotClosed lt = closed
before_line_range clause.MemberDiffers lt = members_alike
before_line_range clause.WitnessStray lt = refl
before_line_range clause.EditIllegal lt = ((tt, refl), refl)
before_line_range clause.CodeDiffers lt = codes_alike
before_line_range clause.LineRange lt = absurd (omega (arith, lt))

first_line_range : IsFirst one one other_lines plain_rules unedited clause.LineRange method_f
first_line_range = record { holds = line_outside; before = before_line_range }

pub line_range : LineRangeRow
line_range = by_clause one lined_accepted clause.LineRange method_f first_line_range refl
