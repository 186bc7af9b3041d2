-- What is written of a class spells it and is read as it (JVMS 4.1).
use Rattle.std.proofs.Common.{◌≡◌, ℕ, List, Result, Ok, Err, refl, sym, subst, ◌∙◌}
use Rattle.class_model.specs.declared.class.Class.{Class}
use Rattle.class_model.specs.declared.limit.WriteLimit.{WriteLimit}
use Rattle.class_model.specs.ClassFile.{File}
use Rattle.class_model.specs.CanonicalClass.{pool_of, layout}
use Rattle.class_model.specs.WriteLimits.{limits, spelled_within, class_written}
use Rattle.class_laws.proofs.ClassLaw.{class_read-found, class_read-only, ok_class}
use Rattle.class_laws.specs.SpellingLaws.{WrittenIsSpelling, WrittenIsRead, ReadIsRewritten, ReadIsReadAgain}
use Rattle.class_write.proofs.SpelledFile.{layout_spells}
use Rattle.class_laws.proofs.FormedFile.{spelled_writable}

-- what is written within the limits is the layout
within : (r : Result (Unit {0}) WriteLimit) (c : Class) (bytes : List ℕ) → spelled_within r c ≡ Ok bytes
    → (r ≡ Ok tt) × (layout c ≡ bytes)
within (Ok u) c bytes h = (refl, cc)
within (Err e) c bytes h = absurd cc

pub written_spells : WrittenIsSpelling
unfolding class_written
written_spells c bytes w h = let p = within (limits (pool_of c) c) c bytes h in subst (λ (b : List ℕ). File b c) p.1
    (layout_spells c w p.0)

pub written_read : WrittenIsRead
written_read c bytes w h = class_read-only bytes c (written_spells c bytes w h)

pub read_rewritten : ReadIsRewritten
read_rewritten c d bytes w h read = subst (λ (x : Class). class_written x ≡ Ok bytes)
    (ok_class c d (sym (written_read c bytes w h) ∙ read)) h

pub read_again : ReadIsReadAgain
read_again bytes written c fits read none h = written_read c written
    (spelled_writable bytes c (class_read-found bytes c fits read) none) h
