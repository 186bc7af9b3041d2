-- Jobs one after the other.
use Rattle.std.proofs.Common.{◌≡◌, ◌≤◌, ◌<◌, ◌+◌, ℕ, List, [], ◌∷◌, ◌++◌, Result, Ok, Err, refl, sym, ap, subst, ◌∙◌, arith}
use Rattle.std.specs.List.{AllByRecursion, AllZip}
use Rattle.std.specs.Prelude.{IfOk}
use Rattle.std.proofs.lemmas.List.{append_assoc, append-nil}
use Rattle.std.proofs.lemmas.List.Sums.{sum_by-append}
use Rattle.jv_base.proofs.Results.{same_fault, same_ok}
use Rattle.tree_io.specs.Files.{Files}
use Rattle.tree_io.specs.declared.file_at.FileAt.{FileAt}
use Rattle.command_frame.specs.Refusal.{passed}
use Rattle.command_frame.specs.Steps.{Seen}
use Rattle.command_frame.specs.declared.refusal.Quantity.TheVariants as quantity
use Rattle.command_frame.specs.declared.refusal.Refusal.{Refusal}
use Rattle.command_frame.specs.declared.stop.Stop.{Stop}
use Rattle.command_frame.specs.declared.stop.Stop.TheVariants.{Refused, Device, OutOfMemory}
use Rattle.batch_command.specs.Caught.{caught}
use Rattle.batch_command.specs.Finding.{Caught, FindsAll, MakesAll}
use Rattle.batch_command.specs.Jobs.{AreClassFiles, Each, EachBefore, HasNames, IsNamed, Parts}
use Rattle.batch_command.specs.bodies.Steps.{HasRoom}
use Rattle.batch_command.specs.bodies.Workers.{AreFound, AreTaken, IsFound, bytes_in, bytes_of}
use Rattle.batch_command.specs.declared.work.JobConfig.{JobConfig}
use Rattle.batch_command.proofs.Finding.{both_gave, caught_all, found_none, gave_behind, had, halt, lacks_behind}
use Rattle.batch_command.proofs.Finding.{next_halts, refused_behind}

-- ---- pairs of lists

zip_push : {X Y : Type 0} (R : X → Y → Type 0) (xs : List X) (ys : List Y) (x : X) (y : Y) → AllZip R xs ys → R x y
    → AllZip R (xs ++ x ∷ []) (ys ++ y ∷ [])
zip_push R [] [] x y h r = (r, tt)
zip_push R [] (b ∷ ys) x y h r = absurd h
zip_push R (a ∷ xs) [] x y h r = absurd h
zip_push R (a ∷ xs) (b ∷ ys) x y h r = (h.0, zip_push R xs ys x y h.1 r)

-- of none it is told before all
pub before_begins : {X Y : Type 0} (R : X → Result Y Refusal → Type 0) (all rest : List X)
    (ys : List (Result Y Refusal)) → ys ≡ [] → rest ≡ all → EachBefore R all rest (Ok ys)
before_begins R all rest ys none same =
    subst (λ (t : List (Result _ Refusal)). EachBefore R all rest (Ok t)) (sym none) ([], same, tt)

-- of one more element it is told
pub before_more : {X Y : Type 0} (R : X → Result Y Refusal → Type 0) (all rest less : List X) (x : X)
    (ys : List (Result Y Refusal)) (y : Result Y Refusal) → rest ≡ x ∷ less → EachBefore R all rest (Ok ys) → R x y
    → EachBefore R all less (Ok (ys ++ y ∷ []))
before_more R all rest less x ys y first h r = (
  h.0 ++ x ∷ [],
  append_assoc h.0 (x ∷ []) less ∙ ap (λ (l : List _). h.0 ++ l) (sym first) ∙ h.1,
  zip_push R h.0 ys x y h.2 r,
)

-- of all elements it is told
pub before_whole : {X Y : Type 0} (R : X → Result Y Refusal → Type 0) (all rest : List X) (ys : List (Result Y Refusal))
    → EachBefore R all rest (Ok ys) → rest ≡ [] → AllZip R all ys
before_whole R all rest ys h none =
    let same : h.0 ≡ all = sym (append-nil h.0) ∙ ap (λ (l : List _). h.0 ++ l) (sym none) ∙ h.1 in
    subst (λ (l : List _). AllZip R l ys) same h.2

-- ---- by the calls of a tree

-- what was caught, where it was caught
pub caught_is : {A : Type 0} (IsDue : Files → Result A Refusal → Type 0) (r : Result A Stop)
    (answer : Result (Result A Refusal) Stop) (before after : Seen) → answer ≡ caught r → FindsAll r IsDue before after
    → FindsAll answer (λ files. Caught (IsDue files)) before after
caught_is IsDue r answer before after is p =
    subst (λ (a : Result (Result _ Refusal) Stop). FindsAll a (λ files. Caught (IsDue files)) before after) (sym is)
    (caught_all IsDue r before after p)

module _ {X Y : Type 0} (IsDue : Files → X → Result Y Refusal → Type 0) (all : List X) where
  abbrev pub Before : List X → Files → Result (List (Result Y Refusal)) Refusal → Type 0
  Before rest files = EachBefore (IsDue files) all rest

  abbrev pub All : Files → Result (List (Result Y Refusal)) Refusal → Type 0
  All files = Each (IsDue files) all

  pub each_begins : (rest : List X) (ys : List (Result Y Refusal)) (before : Seen) → ys ≡ [] → rest ≡ all
      → FindsAll (had ys) (Before rest) before before
  each_begins rest ys before none same =
      subst (λ (t : List (Result Y Refusal)). FindsAll (had t) (Before rest) before before) (sym none)
      (found_none [] (Before rest) before (λ files. ([], same, tt)))

  pub each_more : (rest less : List X) (x : X) (ys : List (Result Y Refusal)) (y : Result Y Refusal)
      (before mid after : Seen) → rest ≡ x ∷ less → FindsAll (had ys) (Before rest) before mid
      → FindsAll (had y) (λ files. Caught (IsDue files x)) mid after
      → FindsAll (had (ys ++ y ∷ [])) (Before less) before after
  each_more rest less x ys y before mid after first p q =
      both_gave (Before rest) (λ files. Caught (IsDue files x)) (Before less) ys y (ys ++ y ∷ []) before mid after
      (λ files h k. before_more (IsDue files) all rest less x ys y first h k) p q

  -- a job stopped for all
  pub each_halts : (Due : Files → Result (List (Result Y Refusal)) Refusal → Type 0) (rest : List X) (x : X)
      (ys : List (Result Y Refusal)) (stop : Stop) (before mid after : Seen)
      → FindsAll (had ys) (Before rest) before mid
      → FindsAll (halt {A = Result Y Refusal} stop) (λ files. Caught (IsDue files x)) mid after
      → FindsAll (halt {A = List (Result Y Refusal)} stop) Due before after
  each_halts Due rest x ys stop before mid after p q =
      next_halts (Before rest) (λ files. Caught (IsDue files x)) Due ys stop before mid after
      (λ refusal files h k. absurd k) p q

  -- memory was wanting behind a job
  pub each_lacks : (Due : Files → Result (List (Result Y Refusal)) Refusal → Type 0) (rest : List X) (x : X)
      (ys : List (Result Y Refusal)) (y : Result Y Refusal) (before mid after : Seen)
      → FindsAll (had ys) (Before rest) before mid
      → FindsAll (had y) (λ files. Caught (IsDue files x)) mid after
      → FindsAll (halt {A = List (Result Y Refusal)} OutOfMemory) Due before after
  each_lacks Due rest x ys y before mid after p q =
      lacks_behind (λ files due. Unit {0}) Due ys before after
      (both_gave (Before rest) (λ files. Caught (IsDue files x)) (λ files due. Unit {0}) ys y ys before mid after
      (λ files h k. tt) p q)

  pub each_ends : (rest : List X) (ys : List (Result Y Refusal)) (before after : Seen)
      → FindsAll (had ys) (Before rest) before after → rest ≡ [] → FindsAll (had ys) All before after
  each_ends rest ys before after p none =
      gave_behind (Before rest) All ys ys before after
      (λ files h. before_whole (IsDue files) all rest ys h none) p

-- ---- class files

pub bytes_more : (found : List (Result (List FileAt) Refusal)) (files : Result (List FileAt) Refusal)
    → bytes_in (found ++ files ∷ []) ≡ bytes_in found + bytes_of files
bytes_more found files = omega (arith, sum_by-append bytes_of found (files ∷ []))

-- what was caught is taken as it was found
pub caught_taken : (r : Result (List FileAt) Stop) (files : Result (List FileAt) Refusal) → Ok files ≡ caught r
    → IfOk r AreClassFiles → AreTaken files
caught_taken (Ok found) files is h =
    subst AreTaken (sym (same_ok {X = Stop} files (Ok found) is)) h
caught_taken (Err (Refused refusal)) files is h =
    subst AreTaken (sym (same_ok {X = Stop} files (Err refusal) is)) tt
caught_taken (Err Device) files is h = absurd cc
caught_taken (Err OutOfMemory) files is h = absurd cc

-- so is what was caught of a config
pub caught_named : (r : Result JobConfig Stop) (config : Result JobConfig Refusal) → Ok config ≡ caught r
    → IfOk r HasNames → IsNamed config
caught_named (Ok found) config is h =
    subst IsNamed (sym (same_ok {X = Stop} config (Ok found) is)) h
caught_named (Err (Refused refusal)) config is h =
    subst IsNamed (sym (same_ok {X = Stop} config (Err refusal) is)) tt
caught_named (Err Device) config is h = absurd cc
caught_named (Err OutOfMemory) config is h = absurd cc

pub named_more : (configs : List (Result JobConfig Refusal)) (config : Result JobConfig Refusal)
    → AllByRecursion IsNamed configs → IsNamed config → AllByRecursion IsNamed (configs ++ config ∷ [])
named_more [] config all h = (h, tt)
named_more (x ∷ configs) config all h = (all.0, named_more configs config all.1 h)

module _ (parts : Parts) (configs : List (Result JobConfig Refusal)) where
  abbrev pub Found : Files → Result (List (Result (List FileAt) Refusal)) Refusal → Type 0
  Found files = AreFound parts files configs

  pub found_end : (rest : List (Result JobConfig Refusal)) (found : List (Result (List FileAt) Refusal))
      (before after : Seen) → FindsAll (had found) (Before (IsFound parts) configs rest) before after → rest ≡ []
      → bytes_in found ≤ 67108864 → FindsAll (had found) Found before after
  found_end rest found before after p none few =
      gave_behind (Before (IsFound parts) configs rest) Found found found before after
      (λ files h. (before_whole (IsFound parts files) configs rest found h none, few)) p

  found_many : (rest : List (Result JobConfig Refusal)) (found : List (Result (List FileAt) Refusal))
      (before after : Seen) → 67108864 < bytes_in found
      → FindsAll (had found) (Before (IsFound parts) configs rest) before after
      → FindsAll (halt {A = List (Result (List FileAt) Refusal)} (Refused (passed quantity.Batch))) Found before after
  found_many rest found before after many p =
      refused_behind (Before (IsFound parts) configs rest) Found found (passed quantity.Batch) before after
      (λ files h. (refl, (rest, found, h, many))) p

  -- the class files have no room, or there is no memory to say so
  pub found_stop : (rest : List (Result JobConfig Refusal)) (found : List (Result (List FileAt) Refusal)) (room : ℕ)
      (files : Result (List FileAt) Refusal) (stop : Stop) (before after : Seen) → room + bytes_in found ≡ 67108864
      → HasRoom room (bytes_of files) (Err stop)
      → FindsAll (had (found ++ files ∷ [])) (Before (IsFound parts) configs rest) before after
      → FindsAll (halt {A = List (Result (List FileAt) Refusal)} stop) Found before after
  found_stop rest found room files (Refused refusal) before after left h p =
      subst (λ (r : Refusal). FindsAll (halt {A = List (Result (List FileAt) Refusal)} (Refused r)) Found before after)
      (sym h.0) (found_many rest (found ++ files ∷ []) before after
      (omega (arith, left, h.1, bytes_more found files)) p)
  found_stop rest found room files Device before after left h p = absurd h
  found_stop rest found room files OutOfMemory before after left h p =
      lacks_behind (Before (IsFound parts) configs rest) Found (found ++ files ∷ []) before after p

-- ---- plans

-- what was caught of a plan, where something was
pub caught_due : {A : Type 0} (r : Result A Stop) (answer : Result A Refusal) (IsDue : Result A Refusal → Type 0)
    → Ok answer ≡ caught r → MakesAll r IsDue → IsDue answer
caught_due (Ok x) answer IsDue is h = subst IsDue (sym (same_ok {X = Stop} answer (Ok x) is)) h
caught_due (Err (Refused refusal)) answer IsDue is h = subst IsDue (sym (same_ok {X = Stop} answer (Err refusal) is)) h
caught_due (Err Device) answer IsDue is h = absurd cc
caught_due (Err OutOfMemory) answer IsDue is h = absurd cc

-- where nothing was, memory was wanting
pub caught_halts : {A B : Type 0} (r : Result A Stop) (stop : Stop) (IsDue : Result A Refusal → Type 0)
    (Due : Result B Refusal → Type 0) → halt {A = Result A Refusal} stop ≡ caught r → MakesAll r IsDue
    → MakesAll (halt {A = B} stop) Due
caught_halts (Ok x) stop IsDue Due is h = absurd cc
caught_halts (Err (Refused refusal)) stop IsDue Due is h = absurd cc
caught_halts (Err Device) stop IsDue Due is h = absurd h
caught_halts {A} {B} (Err OutOfMemory) stop IsDue Due is h =
    subst (λ (s : Stop). MakesAll (halt {A = B} s) Due)
    (sym (same_fault {V = Result A Refusal} stop OutOfMemory is)) tt
