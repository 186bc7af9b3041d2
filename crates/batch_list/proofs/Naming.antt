-- Lines that name jobs.
use Rattle.std.proofs.Common.{◌≡◌, ℕ, Bool, true, false, not, cond, ◌&&◌, List, [], ◌∷◌, ◌++◌, Option, Some, None, Bor}
use Rattle.std.proofs.Common.{refl, sym, ap, subst, ◌∙◌, inl, inr}
use Rattle.std.specs.Prelude.{is_some}
use Rattle.std.specs.Option.{option_map}
use Rattle.std.specs.Str.{IsUtf8, is_utf8}
use Rattle.std.proofs.lemmas.Bool.{cases_Bool}
use Rattle.std.proofs.lemmas.Str.{IsUtf8-from_is_utf8, is_utf8-from_IsUtf8}
use Rattle.path_text.specs.Path.{is_path}
use Rattle.text_lines.specs.Cut.{◌>>=◌, cut, parts_copied, where_true}
use Rattle.text_lines.proofs.Parts.{cut_is, cut_lacks, cut_not, cut_some}
use Rattle.batch_list.specs.Line.{Jobs, NamesJob, both_paths, has_blank, job_in, job_of, paths_in, paths_of}
use Rattle.batch_list.specs.declared.line.JobFiles.{JobFiles}

-- ---- texts

pub utf8_paths : (line text : List ℕ) (r : Option (List ℕ × List ℕ)) → text ≡ line → IsUtf8 line → r ≡ paths_in text
    → r ≡ paths_of line
unfolding paths_of
utf8_paths line text r same u e =
    let good : is_utf8 line ≡ true = is_utf8-from_IsUtf8 line u in rw good (e ∙ ap paths_in same)

pub other_paths : (line : List ℕ) → ¬ (IsUtf8 line) → None ≡ paths_of line
unfolding paths_of
other_paths line h =
    let other : is_utf8 line ≡ false = elim (cases_Bool (is_utf8 line)) [
      | inl good ↦ absurd (h (IsUtf8-from_is_utf8 line good))
      | inr wrong ↦ wrong
    ] in rw other refl

-- two paths that are lent are there where the files are
pub is_there : (r : Option (Bor (List ℕ) × Bor (List ℕ))) (o : Option (List ℕ × List ℕ)) → parts_copied r ≡ o
    → is_some r ≡ is_some (option_map job_of o)
is_there r o e = lent r ∙ ap (λ (p : Option (List ℕ × List ℕ)). is_some (option_map job_of p)) e
  where
    lent : (r : Option (Bor (List ℕ) × Bor (List ℕ))) → is_some r ≡ is_some (option_map job_of (parts_copied r))
    lent None = refl
    lent (Some x) = refl

-- ---- the law

none_there : {A : Type 0} (o : Option A) → is_some o ≡ false → o ≡ None
none_there None h = refl
none_there (Some x) h = absurd cc

named_by : (line : List ℕ) (p : List ℕ × List ℕ) (job : JobFiles) (a b c : Bool) → IsUtf8 line
    → cut 32 line ≡ Some p → is_path p.0 ≡ a → is_path p.1 ≡ b → has_blank p.1 ≡ c
    → option_map job_of (where_true (a && b && not c) p) ≡ Some job → NamesJob line job
named_by line p job true true false u e pa pb pc h =
    let cuts = cut_some 32 line p e in
    let named : NamesJob line (job_of p) = record {
      encoded = u;
      parts = cuts.0;
      config = pa;
      witness = pb;
      one_blank = (cuts.1, cut_not 32 p.1 (none_there (cut 32 p.1) pc));
    } in
    let same : job_of p ≡ job = cc in
    subst (NamesJob line) same named
named_by line p job true true true u e pa pb pc h = absurd cc
named_by line p job true false c u e pa pb pc h = absurd cc
named_by line p job false b c u e pa pb pc h = absurd cc

names_by : (line : List ℕ) (job : JobFiles) (u : Bool) (o : Option (List ℕ × List ℕ)) → is_utf8 line ≡ u
    → cut 32 line ≡ o → option_map job_of (cond u (o >>= (λ parts. both_paths parts.0 parts.1)) None) ≡ Some job → NamesJob line job
names_by line job true (Some p) u e h =
    named_by line p job (is_path p.0) (is_path p.1) (has_blank p.1) (IsUtf8-from_is_utf8 line u) e refl refl refl h
names_by line job true None u e h = absurd cc
names_by line job false o u e h = absurd cc

read_names : (line : List ℕ) (job : JobFiles) → job_in line ≡ Some job → NamesJob line job
unfolding paths_of paths_in
read_names line job h = names_by line job (is_utf8 line) (cut 32 line) refl refl h

names_read : (line : List ℕ) (job : JobFiles) → NamesJob line job → job_in line ≡ Some job
unfolding paths_of paths_in
names_read line job n =
    let good : is_utf8 line ≡ true = is_utf8-from_IsUtf8 line n.encoded in
    let cuts : cut 32 line ≡ Some (job.config, job.witness) =
    ap (cut 32) n.parts ∙ cut_is 32 job.config job.witness n.one_blank.0 in
    let no_blank : cut 32 job.witness ≡ None = cut_lacks 32 job.witness n.one_blank.1 in
    rw (good, cuts, n.config, n.witness, no_blank) refl

pub jobs_law : Jobs
jobs_law line job = (read_names line job, names_read line job)
