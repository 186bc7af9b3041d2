-- What is found step by step, where jobs may be refused.
use Rattle.std.proofs.Common.{◌≡◌, ◌≤◌, ℕ, List, ◌++◌, Result, Ok, Err, refl, ap, subst, ◌∙◌}
use Rattle.std.proofs.Common.{inl, inr, arith}
use Rattle.std.proofs.lemmas.List.Elements.{filter-append}
use Rattle.tree_io.specs.Count.{Rose}
use Rattle.tree_io.specs.Event.{wants_memory, without_memory}
use Rattle.tree_io.specs.Files.{Files}
use Rattle.tree_io.specs.Runs.{Sees}
use Rattle.tree_io.specs.declared.event.Event.{Event}
use Rattle.jv_base.proofs.Results.{same_fault}
use Rattle.tree_io.proofs.Runs.{made_both, made_none, made_so, nothing_both, run_parts, unchanged}
use Rattle.command_frame.specs.Steps.{Finds, Makes, Seen, Then, Told, follows, missed, stops}
use Rattle.command_frame.specs.declared.refusal.Refusal.{Refusal}
use Rattle.command_frame.specs.declared.stop.Stop.{Stop}
use Rattle.command_frame.specs.declared.stop.Stop.TheVariants.{Refused, Device, OutOfMemory}
use Rattle.batch_command.specs.Caught.{caught}
use Rattle.batch_command.specs.Finding.{Caught, FindsAll, MakesAll, Showed, Shows}

-- a step that stopped
abbrev pub halt : {A : Type 0} → Stop → Result A Stop
halt stop = Err stop

-- a step that found this
abbrev pub had : {A : Type 0} → A → Result A Stop
had x = Ok x

rose_later : (a b c : ℕ) → a ≤ b → Rose b c → Rose a c
rose_later a b c le (inl lt) = inl (omega (arith, le, lt))
rose_later a b c le (inr last) = inr last

-- ---- what is shown

shows_so : (P Q : Files → Type 0) → ((files : Files) → P files → Q files) → (calls : List Event) → Shows P calls
    → Shows Q calls
shows_so P Q so calls p = record {
  wrote = p.wrote;
  had_memory = p.had_memory;
  holds = λ files left run. so files (p.holds files left run);
}

shows_both : (P Q R : Files → Type 0) → ((files : Files) → P files → Q files → R files) → (es fs : List Event)
    → Shows P es → Shows Q fs → Shows R (es ++ fs)
shows_both P Q R so es fs p q = record {
  wrote = nothing_both es fs p.wrote q.wrote;
  had_memory = filter-append wants_memory es fs ∙ ap (λ (l : List Event). l ++ without_memory fs) p.had_memory
      ∙ q.had_memory;
  holds = λ old new run.
      let parts = run_parts es fs old new run in
      let same : parts.0 ≡ old = unchanged es old parts.0 p.wrote parts.1 in
      so old (p.holds old parts.0 parts.1) (subst Q same (q.holds parts.0 new parts.2));
}

-- what a step of one command sees is shown
sees_shows : {A : Type 0} (r : Result A Stop) (IsDue : Files → Result A Refusal → Type 0) (calls : List Event)
    → Sees (missed r) (λ files. Told r (IsDue files)) calls → Showed r IsDue calls
sees_shows (Ok x) IsDue calls p = record { wrote = p.0.wrote; had_memory = p.0.had_memory; holds = p.1 }
sees_shows (Err (Refused refusal)) IsDue calls p =
    record { wrote = p.0.wrote; had_memory = p.0.had_memory; holds = p.1 }
sees_shows (Err Device) IsDue calls p = record { wrote = p.0.wrote; had_memory = p.0.had_memory; holds = p.1 }
sees_shows (Err OutOfMemory) IsDue calls p = p

pub finds_all : {A : Type 0} (r : Result A Stop) (IsDue : Files → Result A Refusal → Type 0) (before after : Seen)
    → Finds r IsDue before after → FindsAll r IsDue before after
finds_all r IsDue before after p = record {
  files = p.files;
  later = p.later;
  device = p.device;
  found = made_so (Sees (missed r) (λ files. Told r (IsDue files))) (Showed r IsDue) before.calls after.calls
      before.files after.files (sees_shows r IsDue) p.found;
}

-- ---- a step that is left as it was

-- nothing was asked of the tree
pub found_none : {A : Type 0} (x : A) (IsDue : Files → Result A Refusal → Type 0) (before : Seen)
    → ((files : Files) → IsDue files (Ok x)) → FindsAll (had x) IsDue before before
found_none x IsDue before so = record {
  files = refl;
  later = omega arith;
  device = λ h. absurd cc;
  found = made_none (Showed (had x) IsDue) before.calls before.files
      (record { wrote = refl; had_memory = refl; holds = λ files left run. so files });
}

pub refused_none : {A : Type 0} (refusal : Refusal) (IsDue : Files → Result A Refusal → Type 0) (before : Seen)
    → ((files : Files) → IsDue files (Err refusal)) → FindsAll (halt {A = A} (Refused refusal)) IsDue before before
refused_none {A} refusal IsDue before so = record {
  files = refl;
  later = omega arith;
  device = λ h. absurd cc;
  found = made_none (Showed (halt {A = A} (Refused refusal)) IsDue) before.calls before.files
      (record { wrote = refl; had_memory = refl; holds = λ files left run. so files });
}

-- memory was wanting before anything was asked
pub lacks_none : {A : Type 0} (IsDue : Files → Result A Refusal → Type 0) (before : Seen)
    → FindsAll (halt {A = A} OutOfMemory) IsDue before before
lacks_none {A} IsDue before = record {
  files = refl;
  later = omega arith;
  device = λ is. absurd cc;
  found = made_none (Showed (halt {A = A} OutOfMemory) IsDue) before.calls before.files refl;
}

-- ---- one step after another, by what each shows

module _ {A B : Type 0} (First : Files → Result A Refusal → Type 0) (Both : Files → Result B Refusal → Type 0) where
  -- the first step stopped, and so do both
  stop_shows : (stop : Stop) (calls : List Event)
      → ((refusal : Refusal) (files : Files) → First files (Err refusal) → Both files (Err refusal))
      → Showed (halt {A = A} stop) First calls → Showed (halt {A = B} stop) Both calls
  stop_shows (Refused refusal) calls so p =
      shows_so (λ files. First files (Err refusal)) (λ files. Both files (Err refusal)) (so refusal) calls p
  stop_shows Device calls so p = p
  stop_shows OutOfMemory calls so p = p

  pub halts : (stop : Stop) (before after : Seen)
      → ((refusal : Refusal) (files : Files) → First files (Err refusal) → Both files (Err refusal))
      → FindsAll (halt {A = A} stop) First before after → FindsAll (halt {A = B} stop) Both before after
  halts stop before after so p = record {
    files = p.files;
    later = p.later;
    device = λ h. p.device (ap Err (same_fault stop Device h));
    found = made_so (Showed (halt {A = A} stop) First) (Showed (halt {A = B} stop) Both) before.calls after.calls
        before.files after.files (λ calls. stop_shows stop calls so) p.found;
  }

  -- memory was wanting behind the first step
  pub lacks_behind : (x : A) (before after : Seen) → FindsAll (had x) First before after
      → FindsAll (halt {A = B} OutOfMemory) Both before after
  lacks_behind x before after p = record {
    files = p.files;
    later = p.later;
    device = λ h. absurd cc;
    found = made_so (Showed (had x) First) (Showed (halt {A = B} OutOfMemory) Both) before.calls after.calls
        before.files after.files (λ calls q. q.wrote) p.found;
  }

  -- a refusal is due behind the first step
  pub refused_behind : (x : A) (refusal : Refusal) (before after : Seen)
      → ((files : Files) → First files (Ok x) → Both files (Err refusal)) → FindsAll (had x) First before after
      → FindsAll (halt {A = B} (Refused refusal)) Both before after
  refused_behind x refusal before after so p = record {
    files = p.files;
    later = p.later;
    device = λ h. absurd cc;
    found = made_so (Showed (had x) First) (Showed (halt {A = B} (Refused refusal)) Both) before.calls after.calls
        before.files after.files
        (shows_so (λ files. First files (Ok x)) (λ files. Both files (Err refusal)) so) p.found;
  }

  -- something is due behind the first step
  pub gave_behind : (x : A) (y : B) (before after : Seen)
      → ((files : Files) → First files (Ok x) → Both files (Ok y)) → FindsAll (had x) First before after
      → FindsAll (had y) Both before after
  gave_behind x y before after so p = record {
    files = p.files;
    later = p.later;
    device = λ h. absurd cc;
    found = made_so (Showed (had x) First) (Showed (had y) Both) before.calls after.calls
        before.files after.files
        (shows_so (λ files. First files (Ok x)) (λ files. Both files (Ok y)) so) p.found;
  }

module _ {A B C : Type 0} (First : Files → Result A Refusal → Type 0) (Next : Files → Result B Refusal → Type 0)
    (Both : Files → Result C Refusal → Type 0) where
  -- the first step found something, and the next one stopped
  next_shows : (x : A) (stop : Stop) (es fs : List Event)
      → ((refusal : Refusal) (files : Files) → First files (Ok x) → Next files (Err refusal)
      → Both files (Err refusal))
      → Showed (had x) First es → Showed (halt {A = B} stop) Next fs → Showed (halt {A = C} stop) Both (es ++ fs)
  next_shows x (Refused refusal) es fs so p q =
      shows_both (λ files. First files (Ok x)) (λ files. Next files (Err refusal)) (λ files. Both files (Err refusal))
      (so refusal) es fs p q
  next_shows x Device es fs so p q =
      shows_both (λ files. First files (Ok x)) (λ files. Unit {0}) (λ files. Unit {0}) (λ files h k. tt) es fs p q
  next_shows x OutOfMemory es fs so p q = nothing_both es fs p.wrote q

  pub next_halts : (x : A) (stop : Stop) (before mid after : Seen)
      → ((refusal : Refusal) (files : Files) → First files (Ok x) → Next files (Err refusal)
      → Both files (Err refusal))
      → FindsAll (had x) First before mid → FindsAll (halt {A = B} stop) Next mid after
      → FindsAll (halt {A = C} stop) Both before after
  next_halts x stop before mid after so p q = record {
    files = q.files ∙ p.files;
    later = omega (arith, p.later, q.later);
    device = λ h. rose_later before.faults mid.faults after.faults p.later (q.device (ap Err (same_fault stop Device h)));
    found = made_both (Showed (had x) First) (Showed (halt {A = B} stop) Next) (Showed (halt {A = C} stop) Both)
        before.calls mid.calls after.calls before.files mid.files after.files
        (λ es fs. next_shows x stop es fs so) p.found q.found;
  }

  -- both found something
  pub both_gave : (x : A) (y : B) (z : C) (before mid after : Seen)
      → ((files : Files) → First files (Ok x) → Next files (Ok y) → Both files (Ok z))
      → FindsAll (had x) First before mid → FindsAll (had y) Next mid after → FindsAll (had z) Both before after
  both_gave x y z before mid after so p q = record {
    files = q.files ∙ p.files;
    later = omega (arith, p.later, q.later);
    device = λ h. absurd cc;
    found = made_both (Showed (had x) First) (Showed (had y) Next) (Showed (had z) Both)
        before.calls mid.calls after.calls before.files mid.files after.files
        (λ es fs. shows_both (λ files. First files (Ok x)) (λ files. Next files (Ok y)) (λ files. Both files (Ok z)) so
        es fs) p.found q.found;
  }

-- ---- `Then`

module _ {A B : Type 0} (First : Files → Result A Refusal → Type 0) (Next : Files → A → Result B Refusal → Type 0) where
  abbrev pub Both : Files → Result B Refusal → Type 0
  Both files = Then (First files) (Next files)

  pub first_halts : (stop : Stop) (before after : Seen) → FindsAll (halt {A = A} stop) First before after
      → FindsAll (halt {A = B} stop) Both before after
  first_halts stop before after p = halts First Both stop before after (λ refusal files h. stops refusal h refl) p

  pub then_all : (x : A) (r : Result B Stop) (before mid after : Seen) → FindsAll (had x) First before mid
      → FindsAll r (λ files. Next files x) mid after → FindsAll r Both before after
  then_all x (Ok y) before mid after p q =
      both_gave First (λ files. Next files x) Both x y y before mid after (λ files h k. follows x h k) p q
  then_all x (Err stop) before mid after p q =
      next_halts First (λ files. Next files x) Both x stop before mid after (λ refusal files h k. follows x h k) p q

-- the next step asks nothing of the tree
module _ {A B : Type 0} (First : Files → Result A Refusal → Type 0) (Next : A → Result B Refusal → Type 0) where
  abbrev Made : Files → Result B Refusal → Type 0
  Made files = Then (First files) Next

  pub then_made : (x : A) (r : Result B Stop) (before after : Seen) → FindsAll (had x) First before after
      → MakesAll r (Next x) → FindsAll r Made before after
  then_made x (Ok y) before after p h =
      gave_behind First Made x y before after (λ files k. follows x k h) p
  then_made x (Err (Refused refusal)) before after p h =
      refused_behind First Made x refusal before after (λ files k. follows x k h) p
  then_made x (Err Device) before after p h = absurd h
  then_made x (Err OutOfMemory) before after p h = lacks_behind First Made x before after p

-- the first step asks nothing of the tree
module _ {A B : Type 0} (First : Result A Refusal → Type 0) (Next : Files → A → Result B Refusal → Type 0) where
  abbrev Behind : Files → Result B Refusal → Type 0
  Behind files = Then First (Next files)

  pub made_halts : (stop : Stop) (before : Seen) → MakesAll (halt {A = A} stop) First
      → FindsAll (halt {A = B} stop) Behind before before
  made_halts (Refused refusal) before h = refused_none refusal Behind before (λ files. stops refusal h refl)
  made_halts Device before h = absurd h
  made_halts OutOfMemory before h = record {
    files = refl;
    later = omega arith;
    device = λ is. absurd cc;
    found = made_none (Showed (halt {A = B} OutOfMemory) Behind) before.calls before.files refl;
  }

  pub made_then : (x : A) (r : Result B Stop) (before after : Seen) → First (Ok x)
      → FindsAll r (λ files. Next files x) before after → FindsAll r Behind before after
  made_then x (Ok y) before after h p =
      gave_behind (λ files. Next files x) Behind y y before after (λ files k. follows x h k) p
  made_then x (Err stop) before after h p =
      halts (λ files. Next files x) Behind stop before after (λ refusal files k. follows x h k) p

-- ---- a job's answer

module _ {A : Type 0} (IsDue : Files → Result A Refusal → Type 0) where
  pub caught_all : (r : Result A Stop) (before after : Seen) → FindsAll r IsDue before after
      → FindsAll (caught r) (λ files. Caught (IsDue files)) before after
  caught_all (Ok x) before after p =
      gave_behind IsDue (λ files. Caught (IsDue files)) x (Ok x) before after (λ files h. h) p
  caught_all (Err (Refused refusal)) before after p = record {
    files = p.files;
    later = p.later;
    device = λ h. absurd cc;
    found = p.found;
  }
  caught_all (Err Device) before after p = record {
    files = p.files;
    later = p.later;
    device = λ h. p.device refl;
    found = p.found;
  }
  caught_all (Err OutOfMemory) before after p = record {
    files = p.files;
    later = p.later;
    device = λ h. absurd cc;
    found = p.found;
  }

pub makes_all : {A : Type 0} (r : Result A Stop) (IsDue : Result A Refusal → Type 0) → Makes r IsDue → MakesAll r IsDue
makes_all (Ok x) IsDue h = h
makes_all (Err (Refused refusal)) IsDue h = h.1
makes_all (Err Device) IsDue h = h
makes_all (Err OutOfMemory) IsDue h = h

pub caught_made : {A : Type 0} (r : Result A Stop) (IsDue : Result A Refusal → Type 0) → MakesAll r IsDue
    → MakesAll (caught r) (Caught IsDue)
caught_made (Ok x) IsDue h = h
caught_made (Err (Refused refusal)) IsDue h = h
caught_made (Err Device) IsDue h = h
caught_made (Err OutOfMemory) IsDue h = h
