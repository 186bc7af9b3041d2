-- What is written of classes under new names is what is written of the set.
use Rattle.std.proofs.Common.{◌≡◌, Bool, List, map, Option, Result, Ok, Err, sym, subst, ◌∙◌, ap}
use Rattle.std.specs.List.{AllByRecursion}
use Rattle.jv_base.specs.declared.outcome.Or.{Or}
use Rattle.jv_base.specs.declared.outcome.Or.TheVariants.{Fault, OutOfMemory}
use Rattle.class_model.specs.declared.class.Class.{Class}
use Rattle.class_model.specs.declared.limit.WriteLimit.{WriteLimit}
use Rattle.class_rename.specs.Names.{Names}
use Rattle.class_rename.specs.Renamed.{renamed}
use Rattle.class_laws.specs.SpellingLaws.{IsWritable}
use Rattle.keep_rules.specs.declared.rules.Rules.{Rules}
use Rattle.member_shrink.specs.Shrunk.{shrunk}
use Rattle.mapping_file.specs.declared.mapping.Mapping.{Mapping}
use Rattle.rename_map.specs.Names.{names_of}
use Rattle.set_shrink.specs.ShrunkSet.{IsShrunk, Shrinks, counts_of, new_names, renamed_of}
use Rattle.set_shrink.specs.bodies.Steps.{WritesNamed}
use Rattle.set_shrink.specs.declared.counts.Counts.{Counts}
use Rattle.set_shrink.specs.declared.renaming.NamedFiles.{NamedFiles}
use Rattle.set_shrink.specs.declared.shrunk.ShrunkSet.{ShrunkSet}

module _ (classes : List Class) (marks : List Bool) (rules : Rules) (old : Option Mapping) (names : Names)
    (kept : List Class) (is_kept : kept ≡ shrunk classes marks) (named : names ≡ names_of classes kept rules old) where
  same_names : names ≡ new_names classes marks rules old
  same_names = named ∙ ap (λ (cs : List Class). names_of classes cs rules old) is_kept

  same_renamed : map (renamed names) kept ≡ renamed_of classes marks rules old
  same_renamed = λ i. map (renamed (same_names i)) (is_kept i)

  -- what can be written of the set can be written so
  pub named_writable : AllByRecursion IsWritable (renamed_of classes marks rules old)
      → AllByRecursion IsWritable (map (renamed names) kept)
  named_writable all = subst (AllByRecursion IsWritable) (sym same_renamed) all

  moved : (r : Result NamedFiles (Or WriteLimit)) → WritesNamed r names kept rules
      → WritesNamed r (new_names classes marks rules old) (shrunk classes marks) rules
  moved r written =
      subst (λ (cs : List Class). WritesNamed r (new_names classes marks rules old) cs rules) is_kept
      (subst (λ (n : Names). WritesNamed r n kept rules) same_names written)

  pub named_shrunk : (written : NamedFiles) (read counts : Counts) → WritesNamed (Ok written) names kept rules
      → read ≡ counts_of classes → counts ≡ counts_of kept
      → IsShrunk classes marks rules old
      (record { files = written.files; mapping = written.mapping; read = read; kept = counts })
  named_shrunk written read counts h all left =
      let there = moved (Ok written) h in
      record { files = there.0; mapping = there.1; read = all; left = left ∙ ap counts_of is_kept }

  pub named_stops : (e : Or WriteLimit) → WritesNamed (Err e) names kept rules → Shrinks (Err e) classes marks rules old
  named_stops (Fault limit) h = moved (Err (Fault limit)) h
  named_stops OutOfMemory h = tt
