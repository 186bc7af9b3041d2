-- What a config keeps of a set can be written, or a first limit is passed.
use Rattle.std.proofs.Common.{◌≡◌, ◌⊎◌, inl, inr, ℕ, Bool, List, [], ◌∷◌, Option, Result, Ok, Err, refl, ap}
use Rattle.tree_io.specs.declared.file_at.FileAt.{FileAt}
use Rattle.attribute_filter.specs.KeptAttributes.{filter_of}
use Rattle.class_model.specs.WriteLimits.{class_written}
use Rattle.class_model.specs.declared.class.Class.{Class}
use Rattle.class_model.specs.declared.limit.WriteLimit.{WriteLimit}
use Rattle.keep_rules.specs.declared.rules.Rules.{Rules}
use Rattle.image_laws.specs.TakenSet.TakenSet.{IsTaken}
use Rattle.mark_core.specs.Marks.{Marks}
use Rattle.mark_core.specs.declared.system.System.{System}
use Rattle.member_shrink.specs.Shrunk.{shrunk}
use Rattle.optimised_laws.proofs.SomeOptimised.{some_optimised}
use Rattle.pass_driver.specs.Optimised.{with_codes}
use Rattle.pass_driver.specs.declared.optimising.Optimised.{Optimised}
use Rattle.mapping_file.specs.declared.mapping.Mapping.{Mapping}
use Rattle.rename_map.specs.MappingOf.{mapping_of}
use Rattle.rule_system.specs.Required.{system_due}
use Rattle.set_shrink.specs.ShrunkSet.{AreFilesOf, PassLimit, counts_of, left_of, new_names, path_of}
use Rattle.set_shrink.specs.Texts.{texts_due}
use Rattle.set_shrink.specs.declared.shrunk.ShrunkSet.{ShrunkSet}
use Rattle.type_verifier.specs.Verified.{AreTyped}
use Rattle.command_frame.proofs.OneStep.{IsSome, some_value, then_some}
use Rattle.command_steps.proofs.Systems.{system_told}
use Rattle.command_steps.specs.System.{IsSystem, or_many}
use Rattle.shrink_command.specs.Due.{AreMarks, AreOptimised, FollowsCodes, FollowsMarks, FollowsSystem, IsPlan}
use Rattle.shrink_command.specs.Due.{IsPlanned, IsWritten, Joins, limit_told, or_long, plan_for}
use Rattle.shrink_command.proofs.Planned.{kept_by, kept_count}
use Rattle.shrink_command.proofs.SomeMarks.{some_marks}
use Rattle.shrink_command.proofs.SomeSystem.{due_valid}

-- classes have files, or a first one passes a limit
abbrev Writes : List ℕ → List Class → Type 0
Writes directory classes = ((files : List FileAt) × AreFilesOf directory classes files)
    ⊎ ((limit : WriteLimit) × PassLimit classes limit)

write_more : (directory : List ℕ) (c : Class) (classes : List Class) (bytes : List ℕ) → class_written c ≡ Ok bytes
    → Writes directory classes
    → Writes directory (c ∷ classes)
write_more directory c classes bytes e (inl (files, are)) = inl
    (record { path = path_of directory c; bytes = bytes } ∷ files, ((refl, e), are))
write_more directory c classes bytes e (inr (limit, pass)) = inr (
  limit,
  record {
    before = c ∷ pass.before;
    class = pass.class;
    after = pass.after;
    split = ap (λ (cs : List Class). c ∷ cs) pass.split;
    fit = ((bytes, e), pass.fit);
    passes = pass.passes;
  },
)

write_first : (directory : List ℕ) (c : Class) (classes : List Class) (r : Result (List ℕ) WriteLimit)
    → class_written c ≡ r
    → Writes directory classes → Writes directory (c ∷ classes)
write_first directory c classes (Ok bytes) e rest = write_more directory c classes bytes e rest
write_first directory c classes (Err limit) e rest = inr (
  limit,
  record {
    before = [];
    class = c;
    after = classes;
    split = refl;
    fit = tt;
    passes = e;
  },
)

write_or : (directory : List ℕ) (classes : List Class) → Writes directory classes
write_or directory [] = inl ([], tt)
write_or directory (c ∷ classes) = write_first directory c classes (class_written c) refl (write_or directory classes)

module _ (rules : Rules) (old : Option Mapping) where
  some_written : (classes : List Class) (marks : List Bool) → Writes rules.out_dir (left_of classes marks rules old)
      → IsSome (IsWritten rules old classes marks)
  some_written classes marks (inl (files, written)) = (
    Ok (record {
      files = files;
      mapping = mapping_of (new_names classes marks rules old) (filter_of rules).line_numbers (shrunk classes marks);
      read = counts_of classes;
      kept = counts_of (shrunk classes marks);
    }),
    record { files = written; mapping = refl; read = refl; left = refl },
  )
  some_written classes marks (inr (limit, pass)) = (Err (limit_told limit), (limit, pass, refl))

module _ (rules : Rules) (old : Option Mapping) (classes : List Class) where
  some_marked : (sys : System) → IsSystem rules classes (Ok sys) → IsSome (AreMarks sys)
  some_marked sys told =
      let marks = some_marks sys (due_valid classes rules sys (system_told rules classes sys told).due) in
      (Ok marks.0, marks.1)

  some_codes : (witness : List ℕ) (marks : List Bool) (o : Optimised)
      → IsSome (FollowsCodes rules old witness classes marks o)
  some_codes witness marks o =
      let told = λ (shrunk : ShrunkSet). texts_due shrunk.mapping o.witness classes marks rules witness in
      then_some (IsWritten rules old (with_codes o.codes classes) marks)
      (λ shrunk. Joins shrunk o.witness o.fallback (told shrunk))
      (some_written rules old (with_codes o.codes classes) marks
      (write_or rules.out_dir (left_of (with_codes o.codes classes) marks rules old)))
      (λ shrunk written. then_some (λ due. due ≡ or_long (told shrunk)) (IsPlan shrunk o.witness o.fallback)
      (some_value (or_long (told shrunk)))
      (λ texts are. some_value (Ok (plan_for shrunk o.witness o.fallback texts))))

  some_optimised_by : (sys : System) (marks : List Bool) → IsSystem rules classes (Ok sys) → Marks sys marks
      → IsTaken classes → AreTyped classes → IsSome (AreOptimised rules classes marks)
  some_optimised_by sys marks told least taken typed =
      let count = kept_count rules classes marks (kept_by rules classes sys marks told least) in
      let o = some_optimised rules.optimise marks classes taken typed count in
      (Ok o.0, o.1)

  pub some_planned : (witness : List ℕ) → IsTaken classes → AreTyped classes
      → IsSome (IsPlanned rules old witness classes)
  some_planned witness taken typed =
      then_some (IsSystem rules classes) (FollowsSystem rules old witness classes)
      (some_value (or_many rules (system_due classes rules)))
      (λ sys told. then_some (AreMarks sys) (FollowsMarks rules old witness classes) (some_marked sys told)
      (λ marks least. then_some (AreOptimised rules classes marks) (FollowsCodes rules old witness classes marks)
      (some_optimised_by sys marks told least taken typed)
      (λ o is. some_codes witness marks o)))
