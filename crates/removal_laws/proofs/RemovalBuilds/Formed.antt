-- A class with its marked members follows the format, as it did.
use Rattle.std.proofs.Common.{ℕ, ◌+◌, Bool, List, length, sym, subst}
use Rattle.std.specs.List.{AllByRecursion, AllPairs}
use Rattle.class_model.specs.Flags.{is_interface}
use Rattle.class_model.specs.Members.{FieldsDiffer, MethodsDiffer}
use Rattle.class_model.specs.WellFormed.{IsGoodField, IsGoodMethod, IsWellFormed}
use Rattle.class_model.specs.declared.class.Class.{Class}
use Rattle.member_shrink.specs.Shrunk.{chosen, is_marked, with_marked_members}
use Rattle.image_laws.proofs.ShrunkImage.Kept.{as_filter}
use Rattle.removal_laws.proofs.RemovalBuilds.LeftLists.{each_kept, pairs_kept}

module _ (marks : List Bool) where
  each_chosen : {A : Type 0} (P : A → Type 0) (first : ℕ) (xs : List A) → AllByRecursion P xs
      → AllByRecursion P (chosen marks first xs)
  each_chosen P first xs h =
      subst (AllByRecursion P) (sym (as_filter (is_marked marks) (λ k x. x) first xs))
      (each_kept (is_marked marks) (λ k x. x) P P (λ k x q. q) first xs h)

  pairs_chosen : {A : Type 0} (R : A → A → Type 0) (first : ℕ) (xs : List A) → AllPairs R xs
      → AllPairs R (chosen marks first xs)
  pairs_chosen R first xs h =
      subst (AllPairs R) (sym (as_filter (is_marked marks) (λ k x. x) first xs))
      (pairs_kept (is_marked marks) (λ k x. x) R R (λ k j x y r. r) first xs h)

  pub formed_left : (item : ℕ) (c : Class) → IsWellFormed c → IsWellFormed (with_marked_members marks item c)
  formed_left item c well = record {
    nothing_left_out = well.nothing_left_out;
    meant = well.meant;
    flags = well.flags;
    no_annotation_or_enum = well.no_annotation_or_enum;
    name = well.name;
    super_name = well.super_name;
    interfaces = well.interfaces;
    fields = each_chosen (IsGoodField (is_interface c.flags.0)) (item + 1) c.fields well.fields;
    fields_differ = pairs_chosen FieldsDiffer (item + 1) c.fields well.fields_differ;
    methods = each_chosen (IsGoodMethod (is_interface c.flags.0)) (item + 1 + length c.fields) c.methods well.methods;
    methods_differ = pairs_chosen MethodsDiffer (item + 1 + length c.fields) c.methods well.methods_differ;
    source = well.source;
  }
