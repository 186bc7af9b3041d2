-- What is found step by step.
use Rattle.std.proofs.Common.{◌≡◌, ◌≤◌, ℕ, List, [], Option, Some, None, Result, Ok, Err, refl, sym, ap, subst, ◌∙◌}
use Rattle.std.proofs.Common.{inl, inr, arith}
use Rattle.std.specs.Prelude.{IsErrOf}
use Rattle.tree_io.specs.Count.{Rose}
use Rattle.tree_io.specs.Files.{Files}
use Rattle.tree_io.specs.Runs.{AddsCalls, Sees}
use Rattle.tree_io.specs.declared.event.Event.{Event}
use Rattle.jv_base.proofs.Results.{same_fault}
use Rattle.tree_io.proofs.Runs.{made_sees, made_so, sees_so}
use Rattle.command_frame.specs.Steps.{Finds, Makes, Seen, Then, Told, follows, missed, missed_by, stops}
use Rattle.command_frame.specs.declared.refusal.Refusal.{Refusal}
use Rattle.command_frame.specs.declared.stop.Stop.{Stop}
use Rattle.command_frame.specs.declared.stop.Stop.TheVariants.{Refused, Device, OutOfMemory}

-- a step that stopped
abbrev pub stopped : {A : Type 0} → Stop → Result A Stop
stopped stop = Err stop

-- a step that found this
abbrev pub had : {A : Type 0} → A → Result A Stop
had x = Ok x

-- ---- devices

rose_later : (a b c : ℕ) → a ≤ b → Rose b c → Rose a c
rose_later a b c le (inl lt) = inl (omega (arith, le, lt))
rose_later a b c le (inr last) = inr last

-- ---- what is known of calls

-- of the same calls more is known
pub known : (absent : Option (List (List ℕ))) (P Q : Files → Type 0) (a b : List Event) (x y : Option Files)
    → ((files : Files) → P files → Q files)
    → AddsCalls a b x y (Sees absent P) → AddsCalls a b x y (Sees absent Q)
known absent P Q a b x y so p = made_so (Sees absent P) (Sees absent Q) a b x y (sees_so absent P Q so) p

-- where memory is wanting no more is said than that nothing was written
pub lacks : (absent : List (List ℕ)) (P Q : Files → Type 0) (a b : List Event) (x y : Option Files)
    → AddsCalls a b x y (Sees (Some absent) P) → AddsCalls a b x y (Sees None Q)
lacks absent P Q a b x y p = made_so (Sees (Some absent) P) (Sees None Q) a b x y (λ calls q. q.0.wrote) p

-- ---- one step after another

module _ {A B : Type 0} (First : Files → Result A Refusal → Type 0) (Next : Files → A → Result B Refusal → Type 0) where
  -- what is due of both
  abbrev pub Both : Files → Result B Refusal → Type 0
  Both files = Then (First files) (Next files)

  told_stops : (stop : Stop) (files : Files) → Told (stopped {A = A} stop) (First files)
      → Told (stopped {A = B} stop) (Both files)
  told_stops (Refused refusal) files h = stops refusal h refl
  told_stops Device files h = tt
  told_stops OutOfMemory files h = tt

  told_follows : (x : A) (r : Result B Stop) (files : Files) → First files (Ok x) → Told r (Next files x)
      → Told r (Both files)
  told_follows x (Ok y) files h k = follows x h k
  told_follows x (Err (Refused refusal)) files h k = follows x h k
  told_follows x (Err Device) files h k = tt
  told_follows x (Err OutOfMemory) files h k = tt

  -- the first step stopped
  pub first_stops : (stop : Stop) (before after : Seen) → Finds (stopped {A = A} stop) First before after
      → Finds (stopped {A = B} stop) Both before after
  first_stops stop before after p = record {
    files = p.files;
    later = p.later;
    device = λ h. p.device (ap Err (same_fault stop Device h));
    found = known (missed_by stop) (λ files. Told (stopped {A = A} stop) (First files))
        (λ files. Told (stopped {A = B} stop) (Both files)) before.calls after.calls before.files after.files
        (told_stops stop) p.found;
  }

  -- the first step found something, and the next one came to its end
  pub then_finds : (x : A) (r : Result B Stop) (before mid after : Seen) → Finds (had x) First before mid
      → Finds r (λ files. Next files x) mid after → Finds r Both before after
  then_finds x r before mid after p q = record {
    files = q.files ∙ p.files;
    later = omega (arith, p.later, q.later);
    device = λ h. rose_later before.faults mid.faults after.faults p.later (q.device h);
    found = made_sees (missed r) (λ files. First files (Ok x)) (λ files. Told r (Next files x))
        (λ files. Told r (Both files)) before.calls mid.calls after.calls before.files mid.files after.files
        (told_follows x r) p.found q.found;
  }

  -- the same where the next step is given what is the same as what the first one found
  pub then_finds_by : (x y : A) → y ≡ x → (r : Result B Stop) (before mid after : Seen)
      → Finds (had x) First before mid → Finds r (λ files. Next files y) mid after → Finds r Both before after
  then_finds_by x y same r before mid after p q =
      then_finds x r before mid after p (subst (λ (z : A). Finds r (λ files. Next files z) mid after) same q)

-- ---- a step that asks nothing of the tree

module _ {A B : Type 0} (First : Result A Refusal → Type 0) (Next : A → Result B Refusal → Type 0) where
  pub makes_stops : (stop : Stop) → Makes (stopped {A = A} stop) First → Makes (stopped {A = B} stop) (Then First Next)
  makes_stops (Refused refusal) h = (h.0, stops refusal h.1 refl)
  makes_stops Device h = absurd h
  makes_stops OutOfMemory h = tt

  pub then_makes : (x : A) (r : Result B Stop) → First (Ok x) → Makes r (Next x) → Makes r (Then First Next)
  then_makes x (Ok y) h k = follows x h k
  then_makes x (Err (Refused refusal)) h k = (k.0, follows x h k.1)
  then_makes x (Err Device) h k = absurd k
  then_makes x (Err OutOfMemory) h k = tt

-- what one step found, by another that asks nothing of the tree
module _ {A B : Type 0} (First : Files → Result A Refusal → Type 0) (Next : A → Result B Refusal → Type 0) (x : A)
    (before after : Seen) (p : Finds (had x) First before after) where
  abbrev Follows : Files → Result B Refusal → Type 0
  Follows files = Then (First files) Next

  found_by : (r : Result B Stop) → Makes r (Next x)
      → AddsCalls before.calls after.calls before.files after.files
      (Sees (missed r) (λ files. Told r (Follows files)))
  found_by (Ok y) h =
      known (Some []) (λ files. First files (Ok x)) (λ files. Follows files (Ok y)) before.calls after.calls before.files
      after.files (λ files e. follows x e h) p.found
  found_by (Err (Refused refusal)) h =
      subst (λ (paths : List (List ℕ)). AddsCalls before.calls after.calls before.files after.files
      (Sees (Some paths) (λ files. Follows files (Err refusal)))) (sym h.0)
      (known (Some []) (λ files. First files (Ok x)) (λ files. Follows files (Err refusal)) before.calls after.calls
      before.files after.files (λ files e. follows x e h.1) p.found)
  found_by (Err Device) h = absurd h
  found_by (Err OutOfMemory) h =
      lacks [] (λ files. First files (Ok x)) (λ files. Unit {0}) before.calls after.calls before.files after.files p.found

  no_device : (r : Result B Stop) → Makes r (Next x) → IsErrOf r Device → ⊥
  no_device (Ok y) h is = absurd cc
  no_device (Err (Refused refusal)) h is = absurd cc
  no_device (Err Device) h is = h
  no_device (Err OutOfMemory) h is = absurd cc

  pub then_made : (r : Result B Stop) → Makes r (Next x) → Finds r (λ files. Then (First files) Next) before after
  then_made r h = record {
    files = p.files;
    later = p.later;
    device = λ is. absurd (no_device r h is);
    found = found_by r h;
  }

  pub then_made_by : (y : A) → y ≡ x → (r : Result B Stop) → Makes r (Next y)
      → Finds r (λ files. Then (First files) Next) before after
  then_made_by y same r h = then_made r (subst (λ (z : A). Makes r (Next z)) same h)
