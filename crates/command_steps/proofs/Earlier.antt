-- The earlier mapping that is read has a text.
use Rattle.std.proofs.Common.{◌≡◌, ℕ, List, [], Option, Some, None, Result, Ok, Err, refl, sym, subst, arith}
use Rattle.std.specs.Prelude.{IfSome}
use Rattle.jv_base.proofs.Results.{same_ok}
use Rattle.tree_io.specs.Files.{Files}
use Rattle.tree_io.specs.Runs.{Sees}
use Rattle.tree_io.specs.declared.event.Event.{Event}
use Rattle.tree_io.proofs.Runs.{made_none}
use Rattle.mapping_file.specs.KindNames.{map_kind_name}
use Rattle.mapping_file.specs.MapReading.{read_mapping}
use Rattle.mapping_file.specs.Mappings.{IsMapping as HasText}
use Rattle.mapping_file.specs.declared.mapping.MapFault.{MapFault}
use Rattle.mapping_file.specs.declared.mapping.Mapping.{Mapping}
use Rattle.mapping_file.proofs.MapLaw.{read_found, reading_is}
use Rattle.command_frame.proofs.OneStep.{both_gave, no_err}
use Rattle.command_frame.proofs.Steps.{had}
use Rattle.command_frame.specs.Refusal.{text_refused}
use Rattle.command_frame.specs.Steps.{Finds, IsFile, Seen, seen}
use Rattle.command_frame.specs.declared.refusal.Quantity.TheVariants as quantity
use Rattle.command_frame.specs.declared.stop.Stop.{Stop}
use Rattle.command_steps.specs.Texts.{AreEarlier, IsEarlier, IsEarlierAt, IsMapping, or_bad_mapping}

-- a mapping that is read has a text
pub read_has_text : (text : List ℕ) (m : Mapping) → IsMapping text (Ok m) → HasText m
read_has_text text m is = by (read_mapping text) refl is
  where
    by : (r : Result Mapping MapFault) → read_mapping text ≡ r → Ok m ≡ or_bad_mapping r → HasText m
    by (Ok n) read e =
        subst HasText (sym (same_ok m n e)) (reading_is text n (read_found text n read))
    by (Err f) read e = absurd (no_err m (text_refused f.line (map_kind_name f.kind)) e)

text_of_one : (bytes : List ℕ) (old : Option Mapping) → AreEarlier bytes (Ok old) → IfSome old HasText
text_of_one bytes old due =
    let h = both_gave (IsMapping bytes) (λ mapping due. due ≡ Ok (Some mapping)) old due in
    subst (λ (o : Option Mapping). IfSome o HasText) (sym (same_ok old (Some h.0) h.2)) (read_has_text bytes h.0 h.1)

-- so has one that is applied
pub earlier_has_text : (files : Files) (path : Option (List ℕ)) (old : Option Mapping) → IsEarlier files path (Ok old)
    → IfSome old HasText
earlier_has_text files None old due = subst (λ (o : Option Mapping). IfSome o HasText) (sym (same_ok old None due)) tt
earlier_has_text files (Some path) old due =
    let h = both_gave (IsFile files quantity.Mapping path) AreEarlier old due in
    text_of_one h.0 old h.2

-- ---- what is found

-- where no path is given none is applied, and nothing was asked
pub none_applied : (path : Option (List ℕ)) → path ≡ None → (files : Option Files) (faults : ℕ) (calls : List Event)
    → Finds (had {A = Option Mapping} None) (λ fs. IsEarlier fs path) (seen files faults calls) (seen files faults calls)
none_applied path is files faults calls =
    subst (λ (p : Option (List ℕ)). Finds (had {A = Option Mapping} None) (λ (fs : Files). IsEarlier fs p)
    (seen files faults calls) (seen files faults calls)) (sym is)
    (record {
      files = refl;
      later = omega arith;
      device = λ is. absurd cc;
      found = made_none (Sees (Some []) (λ (fs : Files). IsEarlier fs None (Ok None))) calls files
          (record { wrote = refl; missed = refl; had_memory = refl }, λ fs left run. refl);
    })

-- else that at the path
pub found_applied : (r : Result (Option Mapping) Stop) (path : Option (List ℕ)) (given : List ℕ) (before after : Seen)
    → path ≡ Some given → Finds r (λ fs. IsEarlierAt fs given) before after
    → Finds r (λ fs. IsEarlier fs path) before after
found_applied r path given before after is found =
    subst (λ (p : Option (List ℕ)). Finds r (λ (fs : Files). IsEarlier fs p) before after) (sym is) found
