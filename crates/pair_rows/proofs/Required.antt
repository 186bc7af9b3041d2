-- What has to be kept of the input, computed, and what lines are missing.
use Rattle.std.proofs.Common.{◌≡◌, refl, sym, ap, Some, None}
use Rattle.std.specs.Prelude.{codes}
use Rattle.std.specs.Str.{chars}
use Rattle.jv_base.specs.Descriptors.{grown, read_field, read_method}
use Rattle.jv_base.specs.External.{external_text, word_text}
use Rattle.jv_base.specs.Names.{is_class_name, is_member_name, is_name_byte, is_primitive_or_void, part_after}
use Rattle.jv_base.specs.Types.{argument_words, base_text, field_text, method_text, result_text, words_of}
use Rattle.jv_base.specs.Walk.{walk}
use Rattle.lib_table.specs.Library.{library}
use Rattle.class_pool.specs.Walk.{each_once, upwards, walked}
use Rattle.keep_match.specs.Asked.{asks_class}
use Rattle.keep_match.specs.Filters.{accepts, flags_met}
use Rattle.keep_match.specs.Matches.{is_kind_met, matches_class, matches_method}
use Rattle.keep_match.specs.Seeds.{keeps_class}
use Rattle.keep_match.specs.TypePatterns.{match_each, matches_element, matches_result, matches_type, without_pairs}
use Rattle.keep_match.specs.Wildcards.{is_cut, pieces, wild, wild_class}
use Rattle.rule_system.specs.Required.{required}
use Rattle.pair_clauses.specs.Closing.{closed_fault, seed_fault}
use Rattle.pair_clauses.specs.declared.place.Place.{Place}
use Rattle.pair_checker.specs.Clauses.{given_names}
use Rattle.pair_rows.specs.Examples.{input, mapping, needed_lost, rules, seed_lost}
use Rattle.pair_rows.specs.Rows.{RequiredRow}

pub system : RequiredRow
unfolding library upwards walked each_once field_text base_text method_text result_text word_text grown read_field
    read_method walk chars pieces is_cut wild wild_class accepts flags_met is_kind_met matches_class matches_method
    matches_result matches_type matches_element without_pairs match_each keeps_class asks_class words_of argument_words
    is_class_name is_member_name is_name_byte is_primitive_or_void part_after
system = refl

-- ---- places

abbrev pub class_b : Place
class_b = record { class = codes "p.B"; member = None }

abbrev pub method_f : Place
method_f = record { class = codes "p.A"; member = Some (codes "void f()") }

abbrev pub method_g : Place
method_g = record { class = codes "p.B"; member = Some (codes "int g()") }

abbrev pub method_k : Place
method_k = record { class = codes "p.B"; member = Some (codes "int k()") }

-- ---- by the mapping of the output

pub no_seed_lost : None ≡ seed_fault input (given_names mapping input) (required input rules)
unfolding field_text base_text method_text result_text word_text external_text
no_seed_lost = ap (λ sys. seed_fault input (given_names mapping input) sys) (sym system)

pub closed : None ≡ closed_fault input (given_names mapping input) (required input rules)
unfolding field_text base_text method_text result_text word_text external_text
closed = ap (λ sys. closed_fault input (given_names mapping input) sys) (sym system)

-- ---- by the others

pub f_lost : Some method_f ≡ seed_fault input (given_names seed_lost input) (required input rules)
unfolding field_text base_text method_text result_text word_text external_text
f_lost = ap (λ sys. seed_fault input (given_names seed_lost input) sys) (sym system)

pub no_seed_lost_without_g : None ≡ seed_fault input (given_names needed_lost input) (required input rules)
unfolding field_text base_text method_text result_text word_text external_text
no_seed_lost_without_g = ap (λ sys. seed_fault input (given_names needed_lost input) sys) (sym system)

pub g_lost : Some method_g ≡ closed_fault input (given_names needed_lost input) (required input rules)
unfolding field_text base_text method_text result_text word_text external_text
g_lost = ap (λ sys. closed_fault input (given_names needed_lost input) sys) (sym system)
