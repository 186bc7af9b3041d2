-- Answers of `read_each`: what its calls ask for, and what it promises.
use Rattle.std.proofs.Common.{rules, ℕ, ◌≡◌, ◌≤◌, ◌+◌, ◌-◌, ◌++◌, ◌∷◌, [], List, length, map, Ok, Some, refl, sym}
use Rattle.std.proofs.Common.{subst, ap, ◌∙◌, arith}
use Rattle.std.proofs.lemmas.List.{append-nil}
use Rattle.std.proofs.lemmas.Result.{err_from_is_err_and}
use Rattle.std.specs.Vec.Iter.{into_iter_items}
use Rattle.tree_io.specs.Event.{files_to_write}
use Rattle.tree_io.specs.Files.{Files}
use Rattle.tree_io.specs.Runs.{Sees}
use Rattle.tree_io.specs.declared.file_at.FileAt.{FileAt}
use Rattle.tree_io.proofs.Runs.{made_both, made_sees, nothing_both, tells_none}
use Rattle.class_files.specs.Input.{AreThere, FindsDue, IsThere, files_in, limited, missed, total}
use Rattle.class_files.specs.bodies.Input.{file_due}
use Rattle.class_files.proofs.Totals.{fails_so, more_bytes, more_paths, more_told, no_file, no_files}
use Rattle.class_files.proofs.input.read_each.Goals as goal

-- what is known of the files when a path is read
abbrev Read : Files → List ℕ → List (List ℕ) → List FileAt → List (List ℕ) → Type 0
Read fs directory all files rest = AreThere fs directory all
    → (files ++ files_in fs directory rest ≡ files_in fs directory all) × AreThere fs directory rest

pub loop-path-init : goal.loop-path-init
loop-path-init g c = record {
  files = refl;
  later = omega arith;
  room = search rules;
  paths = search rules;
  seen = (
    [],
    sym (append-nil _),
    tells_none _,
    (record { wrote = refl; missed = refl; had_memory = refl }, λ fs left run there. (search rules, search rules)),
  );
}

pub loop-path-preserved : goal.loop-path-preserved
loop-path-preserved g c =
    let inv = c.loop-path.invariant in
    let dir = c.args.directory.now in
    let file : FileAt = c.in_ok-file.file in
    let files : List FileAt = c.loop-path.files in
    let rest : List (List _) = into_iter_items c.next.new.self in
    let path = c.in-Some.path in
    let first : into_iter_items c.loop-path.path-iterator ≡ path ∷ rest = c.in-Some.ensures.steps.0 in
    let put : c.push.new.self ≡ files ++ file ∷ [] = c.in_ok-push.ensures in
    let fits : length file.bytes ≤ c.loop-path.room = c.in_ok-file.ensures.short in
    record {
      files = c.in_ok-file.ensures.files ∙ inv.files;
      later = omega (arith, inv.later, c.in_ok-file.ensures.later);
      room =
          ap (λ (n : ℕ). c.loop-path.room - n + total c.push.new.self) c.len.ensures
          ∙ ap (λ (fs : List FileAt). c.loop-path.room - length file.bytes + total fs) put
          ∙ more_bytes files file c.loop-path.room 67108864 inv.room fits;
      paths =
          ap (λ (fs : List FileAt). map (λ (f : FileAt). f.path) fs ++ rest) put
          ∙ more_paths files file path rest c.args.paths
          (ap (λ (t : List (List _)). map (λ (f : FileAt). f.path) files ++ t) (sym first)
          ∙ inv.paths) c.in_ok-file.ensures.path;
      seen =
          made_sees (Some []) (λ fs. Read fs dir c.args.paths files (into_iter_items c.loop-path.path-iterator))
          (λ fs. IsThere fs dir path → file_due fs dir path c.loop-path.room ≡ Ok file)
          (λ fs. Read fs dir c.args.paths c.push.new.self rest)
          _ _ _ _ _ _
          (λ fs before due there.
          let known = subst (λ (t : List (List _)). (files ++ files_in fs dir t ≡ files_in fs dir c.args.paths)
          × AreThere fs dir t) first (before there) in
          subst (λ (t : List FileAt). (t ++ files_in fs dir rest ≡ files_in fs dir c.args.paths) × AreThere fs dir rest)
          (sym put)
          (more_told fs dir files file path rest c.args.paths c.loop-path.room known (due known.1.0)))
          inv.seen c.in_ok-file.ensures.seen;
    }

pub returns-in_err-file-clause-seen : goal.returns-in_err-file-clause-seen
returns-in_err-file-clause-seen g c =
    let p = err_from_is_err_and c.from_residual.result c.from_residual.ensures.1 in
    let inv = c.loop-path.invariant in
    let dir = c.args.directory.now in
    let files : List FileAt = c.loop-path.files in
    let rest : List (List _) = into_iter_items c.next.new.self in
    let path = c.in-Some.path in
    let first : into_iter_items c.loop-path.path-iterator ≡ path ∷ rest = c.in-Some.ensures.steps.0 in
    let fault = c.in_err-file.field-0.0 in
    rw (p.1, p.2)
    (made_sees (missed (no_files fault))
    (λ fs. Read fs dir c.args.paths files (into_iter_items c.loop-path.path-iterator))
    (λ fs. IsThere fs dir path → FindsDue (no_file fault) (file_due fs dir path c.loop-path.room))
    (λ fs. AreThere fs dir c.args.paths → FindsDue (no_files fault) (limited (files_in fs dir c.args.paths)))
    _ _ _ _ _ _
    (λ fs before found there.
    let known = subst (λ (t : List (List _)). (files ++ files_in fs dir t ≡ files_in fs dir c.args.paths)
    × AreThere fs dir t) first (before there) in
    fails_so fs dir files path rest c.args.paths c.loop-path.room fault inv.room known.0 (found known.1.0))
    inv.seen c.in_err-file.ensures.seen)

pub returns-in_err-push-clause-seen : goal.returns-in_err-push-clause-seen
returns-in_err-push-clause-seen g c =
    let p = err_from_is_err_and c.from_residual-in_err-push.result c.from_residual-in_err-push.ensures.1 in
    let dir = c.args.directory.now in
    let files : List FileAt = c.loop-path.files in
    rw (p.1, p.2)
    (made_both (Sees (Some []) (λ fs. Read fs dir c.args.paths files (into_iter_items c.loop-path.path-iterator)))
    (Sees (Some []) (λ fs. IsThere fs dir c.in-Some.path → file_due fs dir c.in-Some.path c.loop-path.room
    ≡ Ok c.in_ok-file.file))
    (λ es. files_to_write es ≡ []) _ _ _ _ _ _ (λ es fs p q. nothing_both es fs p.0.wrote q.0.wrote)
    c.loop-path.invariant.seen c.in_ok-file.ensures.seen)
