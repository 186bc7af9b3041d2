-- The files of the outputs are taken as sets of classes: these break no rule, and their codes are typed, computed.
use Rattle.std.proofs.Common.{◌≡◌, zero, suc, false, List, [], ◌∷◌, None, Ok, Err, IsTrue, refl}
use Rattle.std.proofs.Common.{sym, subst, arith}
use Rattle.std.specs.Prelude.{codes}
use Rattle.std.specs.List.{All}
use Rattle.std.proofs.lemmas.List.Elements.{All-cons}
use Rattle.jv_base.specs.Descriptors.{grown, read_field, read_method}
use Rattle.jv_base.specs.Names.{is_class_name, is_member_name, is_name_byte, is_primitive_or_void, part_after}
use Rattle.jv_base.specs.Types.{argument_words, base_text, field_text, method_text, result_text, words_of}
use Rattle.jv_base.specs.Walk.{walk}
use Rattle.tree_io.specs.declared.file_at.FileAt.{FileAt}
use Rattle.lib_table.specs.Library.{library}
use Rattle.class_model.specs.ClassFile.{File}
use Rattle.class_model.specs.declared.class.Class.{Class}
use Rattle.class_pool.proofs.Above.{library_up, lifted}
use Rattle.class_pool.specs.Faults.{first_faults}
use Rattle.class_pool.specs.Supertypes.{IsClosed, NoCycle, direct}
use Rattle.class_pool.specs.Walk.{upwards, walked}
use Rattle.class_pool.specs.declared.fault.NamedClass.{NamedClass}
use Rattle.class_pool.specs.declared.fault.PoolKind.TheVariants.{SuperMissing}
use Rattle.class_pool.specs.declared.id.ClassId.{ClassId}
use Rattle.class_pool.specs.declared.id.ClassId.TheVariants.{Lib, Prog}
use Rattle.link_check.specs.Profile.{least, links_checked}
use Rattle.set_read.specs.Accepted.{IsAccepted}
use Rattle.type_verifier.proofs.SetLaw.{set_typed}
use Rattle.type_verifier.specs.Assignable.{is_assignable, is_java_assignable}
use Rattle.type_verifier.specs.Rules.{rule_of}
use Rattle.type_verifier.specs.bodies.FirstFaults.{fault_of_set}
use Rattle.type_verifier.specs.bodies.Walked.{walked as code_walked}
use Rattle.pair_rows.specs.Examples.{b_hidden, b_longer, b_moved, file_of_a, file_of_a_moved, file_of_b, file_of_old_a}
use Rattle.pair_rows.specs.Examples.{file_of_lined, file_of_old_b, input, lined, old_a, old_b}
use Rattle.pair_rows.specs.Examples.{file_of_b_hidden, file_of_b_longer, file_of_b_moved, new_a, new_b, orphan, output}
use Rattle.pair_rows.specs.Examples.{output_hidden, output_longer, output_moved}
use Rattle.pair_rows.proofs.Files.{a_moved_spelled, a_spelled, b_hidden_spelled, b_longer_spelled, b_moved_spelled}
use Rattle.pair_rows.proofs.Files.{b_spelled, lined_spelled, old_a_spelled, old_b_spelled}

-- ---- what stands above two classes is of the library

-- the classes of the library
abbrev of_library : ClassId → Type 0
of_library id = IsTrue (lifted (λ n. false) id)

no_number : {X : Type 0} → IsTrue false → X
no_number e = absurd cc

only_object : All of_library (Lib 0 ∷ [])
only_object = All-cons of_library (Lib 0) [] refl (λ k d within. absurd (omega (arith, within)))

library_closed : (classes : List Class) → IsClosed classes (lifted (λ n. false))
library_closed classes (Prog n) has = no_number has
library_closed classes (Lib id) has = library_up classes (λ n. false) id

acyclic : (c d : Class) → direct (c ∷ d ∷ []) (Prog 0) ≡ Lib 0 ∷ [] → direct (c ∷ d ∷ []) (Prog 1) ≡ Lib 0 ∷ []
    → NoCycle (c ∷ d ∷ [])
acyclic c d above_c above_d zero lt cyclic = no_number
    (cyclic (lifted (λ n. false)) (subst (All of_library) (sym above_c) only_object) (library_closed (c ∷ d ∷ [])))
acyclic c d above_c above_d (suc zero) lt cyclic = no_number
    (cyclic (lifted (λ n. false)) (subst (All of_library) (sym above_d) only_object) (library_closed (c ∷ d ∷ [])))
acyclic c d above_c above_d (suc (suc n)) lt cyclic = absurd (omega (arith, lt))

acyclic_one : (c : Class) → direct (c ∷ []) (Prog 0) ≡ Lib 0 ∷ [] → NoCycle (c ∷ [])
acyclic_one c above zero lt cyclic = no_number
    (cyclic (lifted (λ n. false)) (subst (All of_library) (sym above) only_object) (library_closed (c ∷ [])))
acyclic_one c above (suc n) lt cyclic = absurd (omega (arith, lt))

-- ---- sets of two classes, and of one

abbrev named : FileAt → Class → NamedClass
named f c = record { path = f.path; class = c }

two_accepted : (one other : FileAt) (c d : Class) → File one.bytes c → File other.bytes d
    → first_faults (named one c ∷ named other d ∷ []) ≡ Ok tt → direct (c ∷ d ∷ []) (Prog 0) ≡ Lib 0 ∷ []
    → direct (c ∷ d ∷ []) (Prog 1) ≡ Lib 0 ∷ [] → links_checked (c ∷ d ∷ []) ≡ Ok tt
    → fault_of_set (c ∷ d ∷ []) ≡ None → IsAccepted (one ∷ other ∷ []) (c ∷ d ∷ [])
two_accepted one other c d spelled_c spelled_d first above_c above_d linked typed = record {
  named = named one c ∷ named other d ∷ [];
  read = ((refl, spelled_c), ((refl, spelled_d), tt));
  are = refl;
  first = first;
  acyclic = acyclic c d above_c above_d;
  linked = linked;
  typed = set_typed (c ∷ d ∷ []) typed;
}

pub input_accepted : IsAccepted (file_of_old_a ∷ file_of_old_b ∷ []) input
unfolding library upwards walked method_text result_text field_text base_text grown read_field read_method walk least
    is_assignable is_java_assignable rule_of code_walked words_of argument_words is_class_name is_member_name is_name_byte
    is_primitive_or_void part_after
input_accepted =
    two_accepted file_of_old_a file_of_old_b old_a old_b old_a_spelled old_b_spelled refl refl refl refl refl

pub accepted : IsAccepted (file_of_a ∷ file_of_b ∷ []) output
unfolding library upwards walked method_text result_text field_text base_text grown read_field read_method walk least
    is_assignable is_java_assignable rule_of code_walked words_of argument_words is_class_name is_member_name is_name_byte
    is_primitive_or_void part_after
accepted = two_accepted file_of_a file_of_b (new_a (codes "p/a")) new_b a_spelled b_spelled refl refl refl refl refl

pub moved_accepted : IsAccepted (file_of_a_moved ∷ file_of_b_moved ∷ []) output_moved
unfolding library upwards walked method_text result_text field_text base_text grown read_field read_method walk least
    is_assignable is_java_assignable rule_of code_walked words_of argument_words is_class_name is_member_name is_name_byte
    is_primitive_or_void part_after
moved_accepted = two_accepted file_of_a_moved file_of_b_moved (new_a (codes "q/a")) b_moved
    a_moved_spelled b_moved_spelled refl refl refl refl refl

pub hidden_accepted : IsAccepted (file_of_a ∷ file_of_b_hidden ∷ []) output_hidden
unfolding library upwards walked method_text result_text field_text base_text grown read_field read_method walk least
    is_assignable is_java_assignable rule_of code_walked words_of argument_words is_class_name is_member_name is_name_byte
    is_primitive_or_void part_after
hidden_accepted = two_accepted file_of_a file_of_b_hidden (new_a (codes "p/a")) b_hidden
    a_spelled b_hidden_spelled refl refl refl refl refl

pub longer_accepted : IsAccepted (file_of_a ∷ file_of_b_longer ∷ []) output_longer
unfolding library upwards walked method_text result_text field_text base_text grown read_field read_method walk least
    is_assignable is_java_assignable rule_of code_walked words_of argument_words is_class_name is_member_name is_name_byte
    is_primitive_or_void part_after
longer_accepted = two_accepted file_of_a file_of_b_longer (new_a (codes "p/a")) b_longer
    a_spelled b_longer_spelled refl refl refl refl refl

pub lined_accepted : IsAccepted (file_of_lined ∷ []) (lined ∷ [])
unfolding library upwards walked method_text result_text field_text base_text grown read_field read_method walk least
    is_assignable is_java_assignable rule_of code_walked words_of argument_words is_class_name is_member_name is_name_byte
    is_primitive_or_void part_after
lined_accepted = record {
  named = named file_of_lined lined ∷ [];
  read = ((refl, lined_spelled), tt);
  are = refl;
  first = refl;
  acyclic = acyclic_one lined refl;
  linked = refl;
  typed = set_typed (lined ∷ []) refl;
}

pub orphan_missing : first_faults (record { path = codes "p/A.class"; class = orphan } ∷ [])
    ≡ Err (record { class = codes "p/A"; kind = SuperMissing })
unfolding library
orphan_missing = refl
