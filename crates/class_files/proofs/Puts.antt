-- One more file that is put.
use Rattle.std.proofs.Common.{◌≡◌, ℕ, ◌+◌, ◌<◌, ◌⊎◌, List, [], ◌∷◌, ◌++◌, length, take, get_or, Option, Some, Ok, Err}
use Rattle.std.proofs.Common.{refl, sym, ap, subst, ◌∙◌, inl, inr}
use Rattle.std.specs.Prelude.{slice_get}
use Rattle.std.proofs.lemmas.List.{take_more}
use Rattle.std.proofs.lemmas.Option.{slice_get-get_or}
use Rattle.std.specs.FinMap.{insert}
use Rattle.tree_io.specs.Files.{Files}
use Rattle.tree_io.specs.Runs.{AddsCalls}
use Rattle.tree_io.specs.declared.event.Event.{Event}
use Rattle.tree_io.specs.declared.event.Event.TheVariants.{Wrote}
use Rattle.tree_io.specs.declared.faults.WriteFault.{WriteFault}
use Rattle.tree_io.specs.declared.faults.WriteFault.TheVariants.{Failed, OutOfMemory}
use Rattle.tree_io.specs.declared.file_at.FileAt.{FileAt}
use Rattle.tree_io.proofs.Runs.{did_both, made_both, one_step, run_parts, wrote_both}
use Rattle.class_files.specs.Output.{put_all, Writes}

put_all-push : (told : Files) (fs : List FileAt) (f : FileAt)
    → put_all told (fs ++ f ∷ []) ≡ insert (put_all told fs) f.path f.bytes
put_all-push told [] f = refl
put_all-push told (g ∷ fs) f = put_all-push (insert told g.path g.bytes) fs f

pub there : (files : List FileAt) (i : ℕ) (f : FileAt) → i < length files → f ≡ get_or files i f
    → slice_get files i ≡ Some f
there files i f within is = slice_get-get_or files i f within ∙ ap Some (sym is)

-- the call that is made for a file
abbrev pub IsFor : FileAt → List Event → Type 0
IsFor f calls = calls ≡ Wrote f.path f.bytes (Ok tt) ∷ []

abbrev pub FailsFor : WriteFault → FileAt → List Event → Type 0
FailsFor fault f calls = calls ≡ Wrote f.path f.bytes (Err fault) ∷ []

written_too : (front : List FileAt) (f : FileAt) (es fs : List Event) → Writes (Ok tt) front es → IsFor f fs
    → Writes (Ok tt) (front ++ f ∷ []) (es ++ fs)
written_too front f es fs p is =
    subst (λ (l : List Event). Writes (Ok tt) (front ++ f ∷ []) (es ++ l)) (sym is) (
      did_both es (Wrote f.path f.bytes (Ok tt) ∷ []) p.0 (record { wrote = refl; missed = refl; had_memory = refl }),
      λ old new run.
          let parts = run_parts es (Wrote f.path f.bytes (Ok tt) ∷ []) old new run in
          one_step (Wrote f.path f.bytes (Ok tt)) parts.0 new parts.2
          ∙ ap (λ (m : Files). insert m f.path f.bytes) (p.1 old parts.0 parts.1) ∙ sym (put_all-push old front f),
    )

-- where a call answers that the device failed, or that memory was wanting
stops_at : (files : List FileAt) (n : ℕ) (f : FileAt) (fault : WriteFault) (es fs : List Event)
    → slice_get files n ≡ Some f
    → Writes (Ok tt) (take n files) es → FailsFor fault f fs → Writes (Err fault) files (es ++ fs)
stops_at files n f Failed es fs next p is =
    subst (λ (l : List Event). Writes (Err Failed) files (es ++ l)) (sym is) (
      n,
      f,
      record {
        is_next = next;
        wrote = wrote_both es (Wrote f.path f.bytes (Err Failed) ∷ [])
            ∙ ap (λ (l : List FileAt). l ++ f ∷ []) p.0.wrote;
      },
      did_both es (Wrote f.path f.bytes (Err Failed) ∷ []) p.0
          (record { wrote = refl; missed = refl; had_memory = refl }),
      λ old new run.
          let parts = run_parts es (Wrote f.path f.bytes (Err Failed) ∷ []) old new run in
          within (put_all old (take n files)) parts.0 new f (p.1 old parts.0 parts.1)
          (one_step (Wrote f.path f.bytes (Err Failed)) parts.0 new parts.2),
    )
  where
    within : (before mid new : Files) (f : FileAt) → mid ≡ before
        → (new ≡ mid) ⊎ ((any : List ℕ) × (new ≡ insert mid f.path any))
        → (new ≡ before) ⊎ ((any : List ℕ) × (new ≡ insert before f.path any))
    within before mid new f same (inl is) = inl (is ∙ same)
    within before mid new f same (inr is) = inr (is.0, is.1 ∙ ap (λ (m : Files). insert m f.path is.0) same)
stops_at files n f OutOfMemory es fs next p is =
    subst (λ (l : List Event). Writes (Err OutOfMemory) files (es ++ l)) (sym is) (
      n,
      f,
      record {
        is_next = next;
        wrote = wrote_both es (Wrote f.path f.bytes (Err OutOfMemory) ∷ [])
            ∙ ap (λ (l : List FileAt). l ++ f ∷ []) p.0.wrote;
      },
      λ old new run.
          let parts = run_parts es (Wrote f.path f.bytes (Err OutOfMemory) ∷ []) old new run in
          one_step (Wrote f.path f.bytes (Err OutOfMemory)) parts.0 new parts.2 ∙ p.1 old parts.0 parts.1,
    )

-- one more file of a list
pub put_more : (files : List FileAt) (i : ℕ) (f : FileAt) (a b c : List Event) (x y z : Option Files) → i < length files
    → f ≡ get_or files i f
    → AddsCalls a b x y (Writes (Ok tt) (take i files)) → AddsCalls b c y z (IsFor f)
    → AddsCalls a c x z (Writes (Ok tt) (take (i + 1) files))
put_more files i f a b c x y z within is p q =
    made_both (Writes (Ok tt) (take i files)) (IsFor f) (Writes (Ok tt) (take (i + 1) files)) a b c x y z
    (λ es fs written for.
    subst (λ (l : List FileAt). Writes (Ok tt) l (es ++ fs))
    (sym (take_more files i f within ∙ ap (λ (g : FileAt). take i files ++ g ∷ []) (sym is)))
    (written_too (take i files) f es fs written for)) p q

pub put_stops : (files : List FileAt) (i : ℕ) (f : FileAt) (fault : WriteFault) (a b c : List Event)
    (x y z : Option Files) → slice_get files i ≡ Some f
    → AddsCalls a b x y (Writes (Ok tt) (take i files)) → AddsCalls b c y z (FailsFor fault f)
    → AddsCalls a c x z (Writes (Err fault) files)
put_stops files i f fault a b c x y z next p q =
    made_both (Writes (Ok tt) (take i files)) (FailsFor fault f) (Writes (Err fault) files) a b c x y z
    (λ es fs. stops_at files i f fault es fs next) p q
