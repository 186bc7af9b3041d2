-- What is left of classes that can be written can be written too.
use Rattle.std.proofs.Common.{ℕ, ◌+◌, Bool, List, length}
use Rattle.std.specs.List.{AllByRecursion, AllPairs}
use Rattle.class_model.specs.declared.class.Class.{Class}
use Rattle.class_model.specs.Flags.{is_interface}
use Rattle.class_model.specs.Members.{FieldsDiffer, MethodsDiffer}
use Rattle.class_model.specs.WellFormed.{IsGoodField}
use Rattle.class_model.specs.WellFormed.{IsGoodMethod}
use Rattle.class_laws.specs.ClassValues.{IsFieldValue, IsMethodValue}
use Rattle.class_laws.specs.SpellingLaws.{IsWritable}
use Rattle.class_pool.specs.Items.{class_item}
use Rattle.member_shrink.specs.Shrunk.{is_marked, chosen, with_marked_members}
use Rattle.attribute_filter.specs.Filtered.{field_filtered, method_filtered}
use Rattle.attribute_filter.proofs.FilteredMembers.{CodeCounts, MethodCounts, code_counts, code_holds, field_good, method_good, method_value}
use Rattle.attribute_filter.proofs.FilteredMembers.{source_by}
use Rattle.set_shrink.specs.Writable.{FilteredIsWritable, ShrunkAreWritable}
use Rattle.class_laws.proofs.Mapped.{all_mapped, pairs_mapped}
use Rattle.member_shrink.proofs.Picked.{all_picked, pairs_picked}

-- ---- some members

all_chosen : {A : Type 0} (P : A → Type 0) (marks : List Bool) (first : ℕ) (xs : List A) → AllByRecursion P xs
    → AllByRecursion P (chosen marks first xs)
all_chosen {A} P marks first xs h = all_picked P P (λ (e : ℕ × A). is_marked marks e.0) (λ (e : ℕ × A). e.1)
    (λ e p. p) first xs h

pairs_chosen : {A : Type 0} (R : A → A → Type 0) (marks : List Bool) (first : ℕ) (xs : List A) → AllPairs R xs
    → AllPairs R (chosen marks first xs)
pairs_chosen {A} R marks first xs h = pairs_picked R (λ (e : ℕ × A). is_marked marks e.0) first xs h

members_writable : (marks : List Bool) (item : ℕ) (c : Class) → IsWritable c
    → IsWritable (with_marked_members marks item c)
members_writable marks item c w =
    let formed = w.well_formed in
    let field = item + 1 in
    let method = item + 1 + length c.fields in
    record {
      well_formed = record {
        nothing_left_out = formed.nothing_left_out;
        meant = formed.meant;
        flags = formed.flags;
        no_annotation_or_enum = formed.no_annotation_or_enum;
        name = formed.name;
        super_name = formed.super_name;
        interfaces = formed.interfaces;
        fields = all_chosen (IsGoodField (is_interface c.flags.0)) marks field c.fields formed.fields;
        fields_differ = pairs_chosen FieldsDiffer marks field c.fields formed.fields_differ;
        methods = all_chosen (IsGoodMethod (is_interface c.flags.0)) marks method c.methods formed.methods;
        methods_differ = pairs_chosen MethodsDiffer marks method c.methods formed.methods_differ;
        source = formed.source;
      };
      counts = all_chosen MethodCounts marks method c.methods w.counts;
      value = record {
        fields = all_chosen IsFieldValue marks field c.fields w.value.fields;
        methods = all_chosen IsMethodValue marks method c.methods w.value.methods;
      };
    }

pub shrunk_writable : ShrunkAreWritable
shrunk_writable classes marks h =
    all_picked IsWritable IsWritable
    (λ (e : ℕ × Class). is_marked marks (class_item classes e.0))
    (λ (e : ℕ × Class). with_marked_members marks (class_item classes e.0) e.1)
    (λ e w. members_writable marks (class_item classes e.0) e.1 w) 0 classes h

pub filtered_writable : FilteredIsWritable
filtered_writable filter c utf8 w =
    let formed = w.well_formed in
    record {
      well_formed = record {
        nothing_left_out = formed.nothing_left_out;
        meant = formed.meant;
        flags = formed.flags;
        no_annotation_or_enum = formed.no_annotation_or_enum;
        name = formed.name;
        super_name = formed.super_name;
        interfaces = formed.interfaces;
        fields =
            all_mapped (IsGoodField (is_interface c.flags.0))
            (IsGoodField (is_interface c.flags.0)) (field_filtered filter)
            (field_good filter (is_interface c.flags.0)) c.fields formed.fields;
        fields_differ = pairs_mapped FieldsDiffer (field_filtered filter) c.fields formed.fields_differ;
        methods =
            all_mapped (IsGoodMethod (is_interface c.flags.0))
            (IsGoodMethod (is_interface c.flags.0)) (method_filtered filter)
            (method_good filter (is_interface c.flags.0)) c.methods formed.methods;
        methods_differ = pairs_mapped MethodsDiffer (method_filtered filter) c.methods formed.methods_differ;
        source = source_by filter utf8 filter.source_file c.source formed.source;
      };
      counts =
          all_mapped MethodCounts MethodCounts (method_filtered filter)
          (λ m h. code_holds CodeCounts code_counts filter.line_numbers m.code h) c.methods w.counts;
      value = record {
        fields = all_mapped IsFieldValue IsFieldValue (field_filtered filter)
            (λ field v. record { ty = v.ty; constant = v.constant }) c.fields w.value.fields;
        methods = all_mapped IsMethodValue IsMethodValue (method_filtered filter) (method_value filter) c.methods
            w.value.methods;
      };
    }
