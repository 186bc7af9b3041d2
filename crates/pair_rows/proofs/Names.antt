-- Lines, names that stay, and packages, computed.
use Rattle.std.proofs.Common.{◌≡◌, refl, Some, None}
use Rattle.std.specs.Str.{chars}
use Rattle.jv_base.specs.External.{external_text, word_text}
use Rattle.jv_base.specs.Types.{base_text, field_text, method_text, result_text}
use Rattle.lib_table.specs.Library.{library}
use Rattle.keep_match.specs.Filters.{accepts, flags_met}
use Rattle.keep_match.specs.Fixed.{fixes_class}
use Rattle.keep_match.specs.Matches.{is_kind_met, matches_class, matches_method}
use Rattle.keep_match.specs.TypePatterns.{match_each, matches_element, matches_result, matches_type, without_pairs}
use Rattle.keep_match.specs.Wildcards.{is_cut, pieces, wild, wild_class}
use Rattle.fresh_names.specs.Reserved.{library_names, type_words}
use Rattle.pair_clauses.specs.FixedNames.{fixed_by, fixed_fault, package_fault}
use Rattle.pair_clauses.specs.LineRanges.{range_fault}
use Rattle.pair_clauses.specs.Shape.{shape_fault}
use Rattle.pair_checker.specs.Clauses.{given_names}
use Rattle.pair_rows.specs.Examples.{input, kept_renamed, mapping, moved, needed_lost, output, output_hidden}
use Rattle.pair_rows.specs.Examples.{output_longer, output_moved, rules, seed_lost, stray_line}
use Rattle.pair_rows.proofs.Required.{class_b, method_f, method_k}

-- ---- MapShape

pub shaped : None ≡ shape_fault input output mapping
unfolding field_text base_text method_text result_text word_text external_text
shaped = refl

pub k_stray : Some method_k ≡ shape_fault input output stray_line
unfolding field_text base_text method_text result_text word_text external_text
k_stray = refl

pub shaped_renamed : None ≡ shape_fault input output kept_renamed
unfolding field_text base_text method_text result_text word_text external_text
shaped_renamed = refl

pub shaped_moved : None ≡ shape_fault input output_moved moved
unfolding field_text base_text method_text result_text word_text external_text
shaped_moved = refl

pub shaped_without_f : None ≡ shape_fault input output seed_lost
unfolding field_text base_text method_text result_text word_text external_text
shaped_without_f = refl

pub shaped_without_g : None ≡ shape_fault input output needed_lost
unfolding field_text base_text method_text result_text word_text external_text
shaped_without_g = refl

pub shaped_hidden : None ≡ shape_fault input output_hidden mapping
unfolding field_text base_text method_text result_text word_text external_text
shaped_hidden = refl

pub shaped_longer : None ≡ shape_fault input output_longer mapping
unfolding field_text base_text method_text result_text word_text external_text
shaped_longer = refl

-- ---- FixedName

pub names_stay : None ≡ fixed_fault (fixed_by rules input) input (given_names mapping input)
unfolding field_text base_text method_text result_text word_text external_text library chars pieces is_cut wild
    wild_class accepts flags_met is_kind_met matches_class matches_method matches_result matches_type matches_element
    without_pairs match_each fixes_class type_words library_names
names_stay = refl

pub f_renamed : Some method_f ≡ fixed_fault (fixed_by rules input) input (given_names kept_renamed input)
unfolding field_text base_text method_text result_text word_text external_text library chars pieces is_cut wild
    wild_class accepts flags_met is_kind_met matches_class matches_method matches_result matches_type matches_element
    without_pairs match_each fixes_class type_words library_names
f_renamed = refl

pub names_stay_moved : None ≡ fixed_fault (fixed_by rules input) input (given_names moved input)
unfolding field_text base_text method_text result_text word_text external_text library chars pieces is_cut wild
    wild_class accepts flags_met is_kind_met matches_class matches_method matches_result matches_type matches_element
    without_pairs match_each fixes_class type_words library_names
names_stay_moved = refl

pub names_stay_without_f : None ≡ fixed_fault (fixed_by rules input) input (given_names seed_lost input)
unfolding field_text base_text method_text result_text word_text external_text library chars pieces is_cut wild
    wild_class accepts flags_met is_kind_met matches_class matches_method matches_result matches_type matches_element
    without_pairs match_each fixes_class type_words library_names
names_stay_without_f = refl

pub names_stay_without_g : None ≡ fixed_fault (fixed_by rules input) input (given_names needed_lost input)
unfolding field_text base_text method_text result_text word_text external_text library chars pieces is_cut wild
    wild_class accepts flags_met is_kind_met matches_class matches_method matches_result matches_type matches_element
    without_pairs match_each fixes_class type_words library_names
names_stay_without_g = refl

-- ---- LineRange

pub no_line_told : None ≡ range_fault mapping input (given_names mapping input) output
unfolding field_text base_text method_text result_text word_text external_text
no_line_told = refl

-- ---- Package

pub packages_stay : None ≡ package_fault input (given_names mapping input)
packages_stay = refl

pub b_gone : Some class_b ≡ package_fault input (given_names moved input)
b_gone = refl

pub packages_stay_without_f : None ≡ package_fault input (given_names seed_lost input)
packages_stay_without_f = refl

pub packages_stay_without_g : None ≡ package_fault input (given_names needed_lost input)
packages_stay_without_g = refl
