-- What was found and made of jobs, in terms of what is due of them.
use Rattle.std.proofs.Common.{◌≡◌, ◌≤◌, ◌<◌, ◌+◌, ℕ, zero, suc, List, [], ◌∷◌, ◌++◌, Option, Some, None, Result, Ok, Err}
use Rattle.std.proofs.Common.{refl, sym, ap, ap₂, subst, ◌∙◌, arith, drop, length, slice_get, unwrap_or}
use Rattle.std.specs.List.{All, AllByRecursion, AllZip}
use Rattle.std.proofs.lemmas.List.{get_or_append_left, length_push}
use Rattle.std.proofs.lemmas.List.Elements.{All-contains, Contains-push}
use Rattle.std.proofs.lemmas.List.Sums.{sum_by-cons}
use Rattle.jv_base.proofs.Results.{same_fault}
use Rattle.tree_io.specs.Files.{Files}
use Rattle.tree_io.specs.declared.file_at.FileAt.{FileAt}
use Rattle.command_frame.specs.Steps.{Seen, Then, follows, stops}
use Rattle.command_frame.specs.declared.command.Plan.{Plan}
use Rattle.command_frame.specs.declared.refusal.Refusal.{Refusal}
use Rattle.command_frame.specs.declared.stop.Stop.{Stop}
use Rattle.batch_command.specs.Finding.{FindsAll}
use Rattle.batch_command.specs.Jobs as jobs
use Rattle.batch_command.specs.Jobs.{AreInputs, Each, FollowsApart, IsInput, IsPlan, Parts}
use Rattle.batch_command.specs.bodies.Workers.{AreFound, IsFound, bytes_in, bytes_of, input_in, inputs_in}
use Rattle.batch_command.specs.declared.work.JobConfig.{JobConfig}
use Rattle.batch_command.proofs.Finding.{gave_behind, halts}

-- ---- elements of a list

same_some : {X : Type 0} (x y : X) → Some x ≡ Some y → x ≡ y
same_some {X} x y is = ap (λ (o : Option X). unwrap_or o x) is

drop_suc : {X : Type 0} (xs : List X) (n : ℕ) (x : X) → slice_get xs n ≡ Some x → drop n xs ≡ x ∷ drop (suc n) xs
drop_suc [] n x is = absurd cc
drop_suc (y ∷ xs) zero x is = ap (λ (z : _). z ∷ xs) (same_some y x is)
drop_suc (y ∷ xs) (suc n) x is = drop_suc xs n x is

-- behind an element that is there
pub drop_get : {X : Type 0} (xs : List X) (n : ℕ) (x : X) → slice_get xs n ≡ Some x → drop n xs ≡ x ∷ drop (n + 1) xs
drop_get xs n x is =
    let more : suc n ≡ n + 1 = omega arith in
    subst (λ (m : ℕ). drop n xs ≡ x ∷ drop m xs) more (drop_suc xs n x is)

-- an element that is there
pub get_at : {X : Type 0} (xs : List X) (n : ℕ) → n < length xs → (x : X) × (slice_get xs n ≡ Some x)
get_at [] n lt = absurd (omega (arith, lt))
get_at (x ∷ xs) zero lt = (x, refl)
get_at (x ∷ xs) (suc n) lt = get_at xs n (omega (arith, lt))

pub all_get : {X : Type 0} (P : X → Type 0) (xs : List X) (n : ℕ) (x : X) → AllByRecursion P xs
    → slice_get xs n ≡ Some x → P x
all_get P [] n x all is = absurd cc
all_get P (y ∷ xs) zero x all is = subst P (same_some y x is) all.0
all_get P (y ∷ xs) (suc n) x all is = all_get P xs n x all.1 is

-- what holds of each element holds of those before the last one, and of it
module _ {X : Type 0} (P : X → Type 0) (xs : List X) (x : X) (h : All P (xs ++ x ∷ [])) where
  pub all_but_last : All P xs
  all_but_last k d lt =
      let more : length (xs ++ x ∷ []) ≡ length xs + 1 = length_push xs x in
      subst P (get_or_append_left xs (x ∷ []) d k lt) (h k d (omega (arith, lt, more)))

  pub of_last : P x
  of_last = All-contains P (xs ++ x ∷ []) x h (Contains-push xs x)

-- ---- what was found

module _ (parts : Parts) (files : Files) where
  input_found : (config : Result JobConfig Refusal) (found : Result (List FileAt) Refusal)
      → IsFound parts files config found → IsInput parts files config (input_in config found)
  input_found (Ok config) (Ok found) h = follows found h refl
  input_found (Ok config) (Err refusal) h = stops refusal h refl
  input_found (Err refusal) (Ok found) h = absurd cc
  input_found (Err refusal) (Err other) h = ap Err (same_fault other refusal h)

  zip_found : (configs : List (Result JobConfig Refusal)) (found : List (Result (List FileAt) Refusal))
      → AllZip (IsFound parts files) configs found → AllZip (IsInput parts files) configs (inputs_in configs found)
  zip_found [] [] h = tt
  zip_found [] (f ∷ found) h = absurd h
  zip_found (c ∷ configs) [] h = absurd h
  zip_found (c ∷ configs) (f ∷ found) h = (input_found c f h.0, zip_found configs found h.1)

  bytes_found : (config : Result JobConfig Refusal) (found : Result (List FileAt) Refusal)
      → IsFound parts files config found → jobs.bytes_of (input_in config found) ≡ bytes_of found
  bytes_found (Ok config) (Ok found) h = refl
  bytes_found (Ok config) (Err refusal) h = refl
  bytes_found (Err refusal) (Ok found) h = absurd cc
  bytes_found (Err refusal) (Err other) h = refl

  bytes_all : (configs : List (Result JobConfig Refusal)) (found : List (Result (List FileAt) Refusal))
      → AllZip (IsFound parts files) configs found → jobs.bytes_in (inputs_in configs found) ≡ bytes_in found
  bytes_all [] [] h = refl
  bytes_all [] (f ∷ found) h = absurd h
  bytes_all (c ∷ configs) [] h = absurd h
  bytes_all (c ∷ configs) (f ∷ found) h =
      omega (
        arith,
        sum_by-cons jobs.bytes_of (input_in c f) (inputs_in configs found),
        sum_by-cons bytes_of f found,
        bytes_found c f h.0,
        bytes_all configs found h.1,
      )

  found_inputs : (configs : List (Result JobConfig Refusal)) (found : List (Result (List FileAt) Refusal))
      → AreFound parts files configs (Ok found) → AreInputs parts files configs (Ok (inputs_in configs found))
  found_inputs configs found h =
      (zip_found configs found h.0, subst (λ (n : ℕ). n ≤ 67108864) (sym (bytes_all configs found h.0)) h.1)

  refused_inputs : (configs : List (Result JobConfig Refusal)) (refusal : Refusal)
      → AreFound parts files configs (Err refusal) → AreInputs parts files configs (Err refusal)
  refused_inputs configs refusal h =
      let before = h.1.2 in
      let found = h.1.1 in (
        h.0,
        (
          h.1.0,
          inputs_in before.0 found,
          (before.0, before.1, zip_found before.0 found before.2),
          subst (λ (n : ℕ). 67108864 < n) (sym (bytes_all before.0 found before.2)) h.1.3,
        ),
      )

  pub follows_found : (configs : List (Result JobConfig Refusal)) (due : Result (List (Result Plan Refusal)) Refusal)
      → Then (AreFound parts files configs) (λ found. Each (IsPlan parts) (inputs_in configs found)) due
      → FollowsApart parts files configs due
  follows_found configs due (stops refusal h is) = stops refusal (refused_inputs configs refusal h) is
  follows_found configs due (follows found h k) = follows (inputs_in configs found) (found_inputs configs found h) k

-- ---- what is due in other words

pub finds_so : {A : Type 0} (P Q : Files → Result A Refusal → Type 0) (r : Result A Stop) (before after : Seen)
    → ((files : Files) (due : Result A Refusal) → P files due → Q files due) → FindsAll r P before after
    → FindsAll r Q before after
finds_so P Q (Ok x) before after so p = gave_behind P Q x x before after (λ files h. so files (Ok x) h) p
finds_so P Q (Err stop) before after so p = halts P Q stop before after (λ refusal files h. so files (Err refusal) h) p
