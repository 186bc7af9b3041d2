-- Classes of an output that are those of the input under new names, and that aren't, computed.
use Rattle.std.proofs.Common.{refl, ap, arith, inl, inr, List, length, Some, None}
use Rattle.jv_base.specs.Descriptors.{grown, read_field, read_method}
use Rattle.jv_base.specs.External.{external_text, word_text}
use Rattle.jv_base.specs.Names.{is_class_name, is_member_name, is_name_byte, is_primitive_or_void, part_after}
use Rattle.jv_base.specs.Types.{argument_words, base_text, field_text, method_text, result_text, words_of}
use Rattle.jv_base.specs.Walk.{walk}
use Rattle.keep_match.specs.Filters.{accepts}
use Rattle.jv_base.specs.declared.access.Access.{Access}
use Rattle.class_model.specs.declared.code.Ins.{Ins}
use Rattle.attribute_filter.specs.KeptAttributes.{filter_of}
use Rattle.pair_clauses.specs.Codes.{CodeDiffers}
use Rattle.pair_clauses.specs.Members.{MemberDiffers}
use Rattle.pair_checker.specs.Clauses.{given_names}
use Rattle.pair_rows.specs.Examples.{input, mapping, output, output_hidden, output_longer, rules}
use Rattle.pair_rows.proofs.Required.{method_g}

pub members_alike : MemberDiffers mapping (filter_of rules) input (given_names mapping input) output None
unfolding field_text base_text method_text result_text word_text external_text grown read_method walk accepts
members_alike = (
  (
    record { flags = refl; super_name = refl; interfaces = refl },
    (refl, ((record { flags = refl; name = refl; ty = refl; code = refl; throws = refl }, refl), refl)),
  ),
  (
    (
      record { flags = refl; super_name = refl; interfaces = refl },
      (refl, ((record { flags = refl; name = refl; ty = refl; code = refl; throws = refl }, refl), refl)),
    ),
    refl,
  ),
)

pub codes_alike : CodeDiffers mapping (filter_of rules) input (given_names mapping input) output None
unfolding field_text base_text method_text result_text word_text external_text grown read_field read_method walk accepts
    words_of argument_words is_class_name is_member_name is_name_byte is_primitive_or_void part_after
codes_alike = ((record { ins = refl; handlers = refl }, refl), ((record { ins = refl; handlers = refl }, refl), refl))

pub members_alike_longer : MemberDiffers mapping (filter_of rules) input (given_names mapping input) output_longer None
unfolding field_text base_text method_text result_text word_text external_text grown read_method walk accepts
members_alike_longer = (
  (
    record { flags = refl; super_name = refl; interfaces = refl },
    (refl, ((record { flags = refl; name = refl; ty = refl; code = refl; throws = refl }, refl), refl)),
  ),
  (
    (
      record { flags = refl; super_name = refl; interfaces = refl },
      (refl, ((record { flags = refl; name = refl; ty = refl; code = refl; throws = refl }, refl), refl)),
    ),
    refl,
  ),
)

pub g_hidden : MemberDiffers mapping (filter_of rules) input (given_names mapping input) output_hidden (Some method_g)
unfolding field_text base_text method_text result_text word_text external_text grown read_method walk accepts
g_hidden = inr (
  (
    record { flags = refl; super_name = refl; interfaces = refl },
    (refl, ((record { flags = refl; name = refl; ty = refl; code = refl; throws = refl }, refl), refl)),
  ),
  inl (inr (
    record { flags = refl; super_name = refl; interfaces = refl },
    inr (
      refl,
      inl (inl (
        λ same. (let flags = ap (λ (a : Access). a.0) same.flags in absurd (omega (arith, flags))),
        refl,
      )),
    ),
  )),
)

pub g_longer : CodeDiffers mapping (filter_of rules) input (given_names mapping input) output_longer (Some method_g)
unfolding field_text base_text method_text result_text word_text external_text grown read_field read_method walk accepts
    words_of argument_words is_class_name is_member_name is_name_byte is_primitive_or_void part_after
g_longer = inr (
  (record { ins = refl; handlers = refl }, refl),
  inl (inl (
    λ same. (let lengths = ap (λ (ins : List Ins). length ins) same.ins in absurd (omega (arith, lengths))),
    refl,
  )),
)
