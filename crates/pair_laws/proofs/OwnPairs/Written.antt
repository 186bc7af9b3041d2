-- The files that are written spell what is left.
use Rattle.std.proofs.Common.{◌≡◌, ℕ, ◌++◌, Bool, List, [], ◌∷◌, length, drop, map, Option, Some, None, slice_get}
use Rattle.std.proofs.Common.{refl, sym, ap, subst, ◌∙◌, codes, append_assoc}
use Rattle.std.specs.Prelude.{IfSome}
use Rattle.std.specs.List.{AllByRecursion}
use Rattle.std.specs.Option.{option_map}
use Rattle.std.specs.Str.{IsUtf8}
use Rattle.std.proofs.lemmas.List.{drop_at}
use Rattle.std.proofs.lemmas.Option.{same_Some, slice_get-map}
use Rattle.mapping_file.specs.Mappings.{IsMapping}
use Rattle.mapping_file.specs.declared.mapping.Mapping.{Mapping}
use Rattle.jv_base.proofs.Lists.{all_at, all_from}
use Rattle.tree_io.specs.Below.{front_of}
use Rattle.tree_io.specs.declared.file_at.FileAt.{FileAt}
use Rattle.mark_core.specs.Marks.{Closed, set_of}
use Rattle.class_model.specs.ClassFile.{File}
use Rattle.class_model.specs.declared.class.Class.{Class}
use Rattle.class_laws.specs.SpellingLaws.{IsWritable}
use Rattle.class_write.proofs.SpellingLaw.{written_spells}
use Rattle.keep_rules.specs.declared.rules.Rules.{Rules}
use Rattle.attribute_filter.specs.Filtered.{filtered}
use Rattle.attribute_filter.specs.KeptAttributes.{filter_of}
use Rattle.rule_system.specs.Required.{required}
use Rattle.set_read.specs.Accepted.{AreRead}
use Rattle.set_shrink.specs.Order.{class_path, in_order}
use Rattle.set_shrink.specs.ShrunkSet.{AreFilesOf, left_of, renamed_of}
use Rattle.set_shrink.proofs.Writable.{filtered_writable}
use Rattle.pair_laws.specs.NamedForm.Laws.{IsLinked}
use Rattle.pair_laws.proofs.NamedForm.Written.{all_written, kept_writable}
use Rattle.image_laws.specs.TakenSet.TakenSet.{IsTaken}
use Rattle.pair_laws.proofs.RenamedTyped.Taken.{IsReordered, places}
use Rattle.pair_laws.specs.FilesFound.Below.{AreBelow}
use Rattle.pair_laws.proofs.OwnPairs.Left.{at_its_path}

-- what comes behind a front is settled by the whole
pub same_rest : {A : Type 0} (front xs ys : List A) → front ++ xs ≡ front ++ ys → xs ≡ ys
same_rest front xs ys same =
    sym (drop_at front xs (length front) refl) ∙ ap (drop (length front)) same ∙ drop_at front ys (length front) refl

-- ---- files

module _ (directory : List ℕ) where
  -- a class that can be written is spelled by its file, at its path below the directory
  pub are_read : (cs : List Class) (files written : List FileAt) → AllByRecursion IsWritable cs
      → AreFilesOf directory cs files → AreBelow directory files written → AreRead written (map at_its_path cs)
  are_read [] [] [] all are below = tt
  are_read [] [] (w ∷ written) all are below = absurd below
  are_read [] (f ∷ files) written all are below = absurd are
  are_read (c ∷ cs) [] written all are below = absurd are
  are_read (c ∷ cs) (f ∷ files) [] all are below = absurd below
  are_read (c ∷ cs) (f ∷ files) (w ∷ written) all are below = (
    (
      same_rest (front_of directory) (class_path c) w.path
          (sym (append_assoc (front_of directory) c.name (codes ".class")) ∙ sym are.0.0 ∙ below.0.0),
      subst (λ (bytes : List ℕ). File bytes c) (sym below.0.1) (written_spells c f.bytes all.0 are.0.1),
    ),
    are_read cs files written all.1 are.1 below.1,
  )

  -- files below the directory tell one list of files by their paths there
  pub below_one : (files a b : List FileAt) → AreBelow directory files a → AreBelow directory files b → a ≡ b
  below_one [] [] [] first second = refl
  below_one [] (x ∷ a) b first second = absurd first
  below_one [] [] (y ∷ b) first second = absurd second
  below_one (f ∷ files) [] b first second = absurd first
  below_one (f ∷ files) (x ∷ a) [] first second = absurd second
  below_one (f ∷ files) (x ∷ a) (y ∷ b) first second =
      let path = same_rest (front_of directory) x.path y.path (sym first.0.0 ∙ second.0.0) in
      let bytes = first.0.1 ∙ sym second.0.1 in
      λ i. record { path = path i; bytes = bytes i } ∷ below_one files a b first.1 second.1 i

-- ---- what is left can be written

module _ (classes : List Class) (marks : List Bool) (rules : Rules) (old : Option Mapping) (has : IfSome old IsMapping)
    (taken : IsTaken classes)
    (closed : Closed (required classes rules) (set_of marks)) (utf8 : IfSome rules.source_name IsUtf8)
    (all : AllByRecursion IsWritable classes) where
  abbrev new : List Class
  new = renamed_of classes marks rules old

  linked : IsLinked classes
  linked = record { files = taken.files; ascend = taken.ascend; built = taken.built; linked = taken.linked }

  each_writable : (k : ℕ) (d : Class) → slice_get (left_of classes marks rules old) k ≡ Some d → IsWritable d
  each_writable k d at =
      by (slice_get (in_order new) k) refl (sym (slice_get-map (filtered (filter_of rules)) (in_order new) k) ∙ at)
    where
      there : (e : Class) → slice_get (in_order new) k ≡ Some e → IsWritable e
      there e is =
          let moved = places new (in_order new) (all_written classes rules old marks linked) in
          let order : IsReordered moved.0 moved.1 new (in_order new) = moved.2 in
          all_at IsWritable new (moved.1 k) e (kept_writable classes rules old marks has linked closed all)
          (sym (order.at (moved.1 k)) ∙ ap (slice_get (in_order new)) (order.from k) ∙ is)

      by : (o : Option Class) → slice_get (in_order new) k ≡ o → option_map (filtered (filter_of rules)) o ≡ Some d
          → IsWritable d
      by None e is = absurd cc
      by (Some c) e is = subst IsWritable (same_Some (filtered (filter_of rules) c) d is)
          (filtered_writable (filter_of rules) c utf8 (there c e))

  pub left_writable : AllByRecursion IsWritable (left_of classes marks rules old)
  left_writable = all_from IsWritable (left_of classes marks rules old) each_writable
