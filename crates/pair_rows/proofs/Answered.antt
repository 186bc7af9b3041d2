-- No clause holds of the input and its output, and of each clause there is a pair of which it is the first that holds.
use Rattle.std.proofs.Common.{◌≡◌, ◌<◌, refl, arith, List, [], ◌∷◌, Some, None, inl}
use Rattle.std.specs.Prelude.{codes}
use Rattle.jv_base.specs.Descriptors.{grown, read_method}
use Rattle.jv_base.specs.External.{external_text, word_text}
use Rattle.jv_base.specs.Types.{base_text, field_text, method_text, result_text}
use Rattle.jv_base.specs.Walk.{walk}
use Rattle.format_reading.specs.Fault.{fault}
use Rattle.format_reading.specs.declared.fault.FormatKind.TheVariants.{Cut}
use Rattle.class_model.specs.declared.class.Class.{Class}
use Rattle.class_pool.specs.declared.fault.NamedClass.{NamedClass}
use Rattle.class_pool.specs.declared.fault.PoolFault.{PoolFault}
use Rattle.class_pool.specs.declared.fault.PoolKind.TheVariants.{SuperMissing}
use Rattle.set_read.specs.declared.fault.RuleFault.{RuleFault}
use Rattle.set_read.specs.declared.fault.RuleKind.TheVariants as rule
use Rattle.mapping_file.specs.declared.mapping.Mapping.{Mapping}
use Rattle.witness_file.specs.declared.witness.Witness.{Witness}
use Rattle.pair_edits.specs.Edits.{stray_fault}
use Rattle.pair_checker.specs.Clauses.{Finds, OutputFormat, OutputProfile, number}
use Rattle.pair_checker.specs.PairOk.{IsFirst, by_clause, by_format, by_profile}
use Rattle.pair_checker.specs.declared.answer.Clause.{Clause}
use Rattle.pair_checker.specs.declared.answer.Clause.TheVariants as clause
use Rattle.pair_rows.specs.Examples.{cut_file, dropped, edited, file_of_orphan, input, kept_renamed, mapping}
use Rattle.pair_rows.specs.Examples.{moved, needed_lost}
use Rattle.pair_rows.specs.Examples.{orphan, output, output_hidden, output_longer, output_moved, rules}
use Rattle.pair_rows.specs.Examples.{seed_lost as lost, stray_line, unedited}
use Rattle.pair_rows.specs.Rows.{CodeDiffersRow, EditIllegalRow, FixedNameRow, MapShapeRow, MemberDiffersRow, NoneRow}
use Rattle.pair_rows.specs.Rows.{NotClosedRow, OutputFormatRow, OutputProfileRow, PackageRow, SeedLostRow, TakenRow}
use Rattle.pair_rows.specs.Rows.{WitnessStrayRow}
use Rattle.pair_rows.proofs.Alike.{codes_alike, g_hidden, g_longer, members_alike, members_alike_longer}
use Rattle.pair_rows.proofs.Edits.{g_dropped, g_kept, nothing_edited}
use Rattle.pair_rows.proofs.Files.{cut_unread, orphan_spelled}
use Rattle.pair_rows.proofs.Names.{b_gone, f_renamed, k_stray, names_stay, names_stay_moved, names_stay_without_f, no_line_told}
use Rattle.pair_rows.proofs.Names.{names_stay_without_g, packages_stay, packages_stay_without_f}
use Rattle.pair_rows.proofs.Names.{packages_stay_without_g, shaped, shaped_hidden, shaped_longer, shaped_moved}
use Rattle.pair_rows.proofs.Names.{shaped_renamed, shaped_without_f, shaped_without_g}
use Rattle.pair_rows.proofs.Required.{class_b, closed, f_lost, g_lost, method_f, method_g, method_k, no_seed_lost}
use Rattle.pair_rows.proofs.Required.{no_seed_lost_without_g}
use Rattle.pair_rows.proofs.Sets.{accepted, hidden_accepted, longer_accepted, moved_accepted, orphan_missing}

-- ---- the pair that is taken

pub none : NoneRow
none clause.OutputFormat = refl
none clause.OutputProfile = refl
none clause.MapShape = shaped
none clause.FixedName = names_stay
none clause.Package = packages_stay
none clause.SeedLost = no_seed_lost
none clause.NotClosed = closed
none clause.MemberDiffers = members_alike
none clause.WitnessStray = refl
none clause.EditIllegal = nothing_edited
none clause.CodeDiffers = codes_alike
none clause.LineRange = no_line_told

pub taken : TakenRow
taken = record { output = output; accepted = accepted; none = none }

-- ---- files that aren't taken

cut : OutputFormat (cut_file ∷ [])
cut = (
  codes "p/A.class",
  fault 2 Cut,
  record {
    before = [];
    file = cut_file;
    after = [];
    split = refl;
    readable = tt;
    unread = cut_unread;
    named = refl;
  },
)

pub output_format : OutputFormatRow
output_format = by_format cut refl

abbrev orphan_named : List NamedClass
orphan_named = record { path = codes "p/A.class"; class = orphan } ∷ []

abbrev missing : PoolFault
missing = record { class = codes "p/A"; kind = SuperMissing }

abbrev told : RuleFault
told = record { class = codes "p.A"; member = None; kind = rule.Pool SuperMissing }

orphan_faulty : OutputProfile (file_of_orphan ∷ []) told
orphan_faulty = (orphan_named, ((refl, orphan_spelled), tt), inl (missing, inl orphan_missing, refl))

pub output_profile : OutputProfileRow
output_profile = by_profile told orphan_faulty refl

-- ---- the other clauses

-- no clause before this one holds
abbrev NoneBefore : List Class → Mapping → Witness → Clause → Type 0
NoneBefore output mapping witness clause = (earlier : Clause) → number earlier < number clause
    → Finds input output mapping rules witness earlier None

g_told : Some method_g ≡ stray_fault mapping input edited
unfolding field_text base_text method_text result_text grown read_method walk word_text external_text
g_told = refl

before_map_shape : NoneBefore output stray_line unedited clause.MapShape
before_map_shape clause.OutputFormat lt = refl
before_map_shape clause.OutputProfile lt = refl
before_map_shape c lt = absurd (omega (arith, lt))

first_map_shape : IsFirst input output stray_line rules unedited clause.MapShape method_k
first_map_shape = record { holds = k_stray; before = before_map_shape }

pub map_shape : MapShapeRow
map_shape = by_clause output accepted clause.MapShape method_k first_map_shape refl

before_fixed_name : NoneBefore output kept_renamed unedited clause.FixedName
before_fixed_name clause.OutputFormat lt = refl
before_fixed_name clause.OutputProfile lt = refl
before_fixed_name clause.MapShape lt = shaped_renamed
before_fixed_name c lt = absurd (omega (arith, lt))

first_fixed_name : IsFirst input output kept_renamed rules unedited clause.FixedName method_f
first_fixed_name = record { holds = f_renamed; before = before_fixed_name }

pub fixed_name : FixedNameRow
fixed_name = by_clause output accepted clause.FixedName method_f first_fixed_name refl

before_other_package : NoneBefore output_moved moved unedited clause.Package
before_other_package clause.OutputFormat lt = refl
before_other_package clause.OutputProfile lt = refl
before_other_package clause.MapShape lt = shaped_moved
before_other_package clause.FixedName lt = names_stay_moved
before_other_package c lt = absurd (omega (arith, lt))

first_other_package : IsFirst input output_moved moved rules unedited clause.Package class_b
first_other_package = record { holds = b_gone; before = before_other_package }

pub other_package : PackageRow
other_package = by_clause output_moved moved_accepted clause.Package class_b first_other_package refl

before_seed_lost : NoneBefore output lost unedited clause.SeedLost
before_seed_lost clause.OutputFormat lt = refl
before_seed_lost clause.OutputProfile lt = refl
before_seed_lost clause.MapShape lt = shaped_without_f
before_seed_lost clause.FixedName lt = names_stay_without_f
before_seed_lost clause.Package lt = packages_stay_without_f
before_seed_lost c lt = absurd (omega (arith, lt))

first_seed_lost : IsFirst input output lost rules unedited clause.SeedLost method_f
first_seed_lost = record { holds = f_lost; before = before_seed_lost }

pub seed_lost : SeedLostRow
seed_lost = by_clause output accepted clause.SeedLost method_f first_seed_lost refl

before_not_closed : NoneBefore output needed_lost unedited clause.NotClosed
before_not_closed clause.OutputFormat lt = refl
before_not_closed clause.OutputProfile lt = refl
before_not_closed clause.MapShape lt = shaped_without_g
before_not_closed clause.FixedName lt = names_stay_without_g
before_not_closed clause.Package lt = packages_stay_without_g
before_not_closed clause.SeedLost lt = no_seed_lost_without_g
before_not_closed c lt = absurd (omega (arith, lt))

first_not_closed : IsFirst input output needed_lost rules unedited clause.NotClosed method_g
first_not_closed = record { holds = g_lost; before = before_not_closed }

pub not_closed : NotClosedRow
not_closed = by_clause output accepted clause.NotClosed method_g first_not_closed refl

before_member_differs : NoneBefore output_hidden mapping unedited clause.MemberDiffers
before_member_differs clause.OutputFormat lt = refl
before_member_differs clause.OutputProfile lt = refl
before_member_differs clause.MapShape lt = shaped_hidden
before_member_differs clause.FixedName lt = names_stay
before_member_differs clause.Package lt = packages_stay
before_member_differs clause.SeedLost lt = no_seed_lost
before_member_differs clause.NotClosed lt = closed
before_member_differs c lt = absurd (omega (arith, lt))

first_member_differs : IsFirst input output_hidden mapping rules unedited clause.MemberDiffers method_g
first_member_differs = record { holds = g_hidden; before = before_member_differs }

pub member_differs : MemberDiffersRow
member_differs = by_clause output_hidden hidden_accepted clause.MemberDiffers method_g first_member_differs refl

before_witness_stray : NoneBefore output mapping edited clause.WitnessStray
before_witness_stray clause.OutputFormat lt = refl
before_witness_stray clause.OutputProfile lt = refl
before_witness_stray clause.MapShape lt = shaped
before_witness_stray clause.FixedName lt = names_stay
before_witness_stray clause.Package lt = packages_stay
before_witness_stray clause.SeedLost lt = no_seed_lost
before_witness_stray clause.NotClosed lt = closed
before_witness_stray clause.MemberDiffers lt = members_alike
before_witness_stray c lt = absurd (omega (arith, lt))

first_witness_stray : IsFirst input output mapping rules edited clause.WitnessStray method_g
first_witness_stray = record { holds = g_told; before = before_witness_stray }

pub witness_stray : WitnessStrayRow
witness_stray = by_clause output accepted clause.WitnessStray method_g first_witness_stray refl

before_code_differs : NoneBefore output_longer mapping unedited clause.CodeDiffers
before_code_differs clause.OutputFormat lt = refl
before_code_differs clause.OutputProfile lt = refl
before_code_differs clause.MapShape lt = shaped_longer
before_code_differs clause.FixedName lt = names_stay
before_code_differs clause.Package lt = packages_stay
before_code_differs clause.SeedLost lt = no_seed_lost
before_code_differs clause.NotClosed lt = closed
before_code_differs clause.MemberDiffers lt = members_alike_longer
before_code_differs clause.WitnessStray lt = refl
before_code_differs clause.EditIllegal lt = nothing_edited
before_code_differs c lt = absurd (omega (arith, lt))

first_code_differs : IsFirst input output_longer mapping rules unedited clause.CodeDiffers method_g
first_code_differs = record { holds = g_longer; before = before_code_differs }

pub code_differs : CodeDiffersRow
code_differs = by_clause output_longer longer_accepted clause.CodeDiffers method_g first_code_differs refl

before_edit_illegal : NoneBefore output mapping dropped clause.EditIllegal
before_edit_illegal clause.OutputFormat lt = refl
before_edit_illegal clause.OutputProfile lt = refl
before_edit_illegal clause.MapShape lt = shaped
before_edit_illegal clause.FixedName lt = names_stay
before_edit_illegal clause.Package lt = packages_stay
before_edit_illegal clause.SeedLost lt = no_seed_lost
before_edit_illegal clause.NotClosed lt = closed
before_edit_illegal clause.MemberDiffers lt = members_alike
before_edit_illegal clause.WitnessStray lt = g_kept
before_edit_illegal c lt = absurd (omega (arith, lt))

first_edit_illegal : IsFirst input output mapping rules dropped clause.EditIllegal method_g
first_edit_illegal = record { holds = g_dropped; before = before_edit_illegal }

pub edit_illegal : EditIllegalRow
edit_illegal = by_clause output accepted clause.EditIllegal method_g first_edit_illegal refl
