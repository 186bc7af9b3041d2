-- Files that fit the calls of a log.
use Rattle.std.proofs.Common.{◌≡◌, ℕ, List, [], ◌∷◌, ◌++◌, Option, Some, None, refl, sym, ap, subst, length}
use Rattle.std.proofs.Common.{◌∙◌}
use Rattle.std.proofs.lemmas.List.{append_assoc, append-nil}
use Rattle.std.proofs.lemmas.List.Elements.{filter-append, filter_map-append}
use Rattle.tree_io.specs.Event.{absent_of, absent_paths, file_of, files_to_write, wants_memory, without_memory}
use Rattle.tree_io.specs.Files.{Files}
use Rattle.tree_io.specs.Runs.{Did, AddsCalls, Run, Sees, Step, Tells, memory_faults}
use Rattle.tree_io.specs.declared.event.Event.{Event}
use Rattle.tree_io.specs.declared.event.Event.TheVariants.{Listed, Read, Wrote, Put}
use Rattle.tree_io.specs.declared.file_at.FileAt.{FileAt}

-- ---- calls after calls

-- a run of two logs is a run of the first and one of the second
pub run_parts : (es fs : List Event) (old new : Files) → Run (es ++ fs) old new
    → (mid : Files) × Run es old mid × Run fs mid new
run_parts [] fs old new r = (old, refl, r)
run_parts (e ∷ es) fs old new r =
    let rest = run_parts es fs r.0 new r.2 in
    (rest.0, (r.0, r.1, rest.1), rest.2)

run_both : (es fs : List Event) (old mid new : Files) → Run es old mid → Run fs mid new → Run (es ++ fs) old new
run_both [] fs old mid new r s = subst (λ (x : Files). Run fs x new) r s
run_both (e ∷ es) fs old mid new r s = (r.0, r.1, run_both es fs r.0 mid new r.2 s)

tells_both : (a b c : Option Files) (es fs : List Event) → Tells a b es → Tells b c fs → Tells a c (es ++ fs)
tells_both None b c es fs p q = tt
tells_both (Some x) b c es fs p q =
    let r : Tells (Some p.0) c fs = subst (λ (o : Option Files). Tells o c fs) p.1 q in
    (r.0, r.1, run_both es fs x p.0 r.0 p.2 r.2)

-- what was made by one step and then by another
pub made_both : (P Q S : List Event → Type 0) (a b c : List Event) (x y z : Option Files)
    → ((es fs : List Event) → P es → Q fs → S (es ++ fs))
    → AddsCalls a b x y P → AddsCalls b c y z Q → AddsCalls a c x z S
made_both P Q S a b c x y z both p q = (
  p.0 ++ q.0,
  q.1 ∙ ap (λ (l : List Event). l ++ q.0) p.1 ∙ append_assoc a p.0 q.0,
  tells_both x y z p.0 q.0 p.2 q.2,
  both p.0 q.0 p.3 q.3,
)

pub made_so : (P Q : List Event → Type 0) (a b : List Event) (x y : Option Files) → ((es : List Event) → P es → Q es)
    → AddsCalls a b x y P → AddsCalls a b x y Q
made_so P Q a b x y so p = (p.0, p.1, p.2, so p.0 p.3)

pub tells_none : (x : Option Files) → Tells x x []
tells_none None = tt
tells_none (Some files) = (files, refl, refl)

-- no call was made
pub made_none : (P : List Event → Type 0) (a : List Event) (x : Option Files) → P [] → AddsCalls a a x x P
made_none P a x p = ([], sym (append-nil a), tells_none x, p)

-- one call alone
pub one_step : (e : Event) (old new : Files) → Run (e ∷ []) old new → Step e old new
one_step e old new r = subst (λ (x : Files). Step e old x) (sym r.2) r.1

-- ---- what calls did

pub wrote_both : (es fs : List Event) → files_to_write (es ++ fs) ≡ files_to_write es ++ files_to_write fs
wrote_both es fs = filter_map-append file_of es fs

-- calls that write nothing leave the files as they were
pub unchanged : (es : List Event) (old new : Files) → files_to_write es ≡ [] → Run es old new → new ≡ old
unchanged [] old new none r = r
unchanged (Listed dir max answer ∷ es) old new none r = unchanged es r.0 new none r.2 ∙ r.1.0
unchanged (Read path max answer ∷ es) old new none r = unchanged es r.0 new none r.2 ∙ r.1.0
unchanged (Wrote path bytes answer ∷ es) old new none r = absurd cc
unchanged (Put bytes answer ∷ es) old new none r = unchanged es r.0 new none r.2 ∙ r.1

pub did_both : {before files : List FileAt} {absent : List (List ℕ)} (es fs : List Event) → Did before [] es
    → Did files absent fs
    → Did (before ++ files) absent (es ++ fs)
did_both {before} es fs p q = record {
  wrote = wrote_both es fs ∙ ap (λ (l : List FileAt). l ++ files_to_write fs) p.wrote
      ∙ ap (λ (l : List FileAt). before ++ l) q.wrote;
  missed = filter_map-append absent_of es fs ∙ ap (λ (l : List (List ℕ)). l ++ absent_paths fs) p.missed ∙ q.missed;
  had_memory = filter-append wants_memory es fs ∙ ap (λ (l : List Event). l ++ without_memory fs) p.had_memory
      ∙ q.had_memory;
}

pub nothing_both : (es fs : List Event) → files_to_write es ≡ [] → files_to_write fs ≡ []
    → files_to_write (es ++ fs) ≡ []
nothing_both es fs p q = wrote_both es fs ∙ ap (λ (l : List FileAt). l ++ files_to_write fs) p ∙ q

-- what is seen by one step and then by another
pub sees_both : (absent : Option (List (List ℕ))) (P Q R : Files → Type 0)
    → ((files : Files) → P files → Q files → R files) → (es fs : List Event)
    → Sees (Some []) P es → Sees absent Q fs → Sees absent R (es ++ fs)
sees_both None P Q R so es fs p q = nothing_both es fs p.0.wrote q
sees_both (Some absent) P Q R so es fs p q = (
  did_both es fs p.0 q.0,
  λ old new run.
      let parts = run_parts es fs old new run in
      let same : parts.0 ≡ old = unchanged es old parts.0 p.0.wrote parts.1 in
      so old (p.1 old parts.0 parts.1) (subst Q same (q.1 parts.0 new parts.2)),
)

pub sees_so : (absent : Option (List (List ℕ))) (P Q : Files → Type 0) → ((files : Files) → P files → Q files)
    → (es : List Event) → Sees absent P es → Sees absent Q es
sees_so None P Q so es p = p
sees_so (Some absent) P Q so es p = (p.0, λ old new run. so old (p.1 old new run))

-- two steps of which the first found what it looked for
pub made_sees : (absent : Option (List (List ℕ))) (P Q R : Files → Type 0) (a b c : List Event) (x y z : Option Files)
    → ((files : Files) → P files → Q files → R files) → AddsCalls a b x y (Sees (Some []) P)
    → AddsCalls b c y z (Sees absent Q)
    → AddsCalls a c x z (Sees absent R)
made_sees absent P Q R a b c x y z so p q =
    made_both (Sees (Some []) P) (Sees absent Q) (Sees absent R) a b c x y z (sees_both absent P Q R so) p q

-- ---- memory

-- calls for which memory was never wanting don't raise the count
pub same_count : (a b calls : List Event) → b ≡ a ++ calls → without_memory calls ≡ []
    → memory_faults b ≡ memory_faults a
same_count a b calls is none =
    ap memory_faults is ∙ ap length (filter-append wants_memory a calls
    ∙ ap (λ (l : List Event). without_memory a ++ l) none ∙ append-nil (without_memory a))
