-- On each sound code a pass finds acts.
use Rattle.std.proofs.Common.{ℕ, ◌++◌, ℤ, Bool, true, false, List, [], length, Option, None, refl}
use Rattle.std.specs.List.{flat_map}
use Rattle.class_model.specs.declared.code.Code.{Code}
use Rattle.code_edit.specs.declared.act.Act.{Act}
use Rattle.code_edit.specs.declared.act.Pass.TheVariants.{Reach, Const, Slots, Jumps}
use Rattle.code_edit.specs.ConstEdits.{AreConstActs, ByBound, IsConstEdits, Shut, folds_below, is_beyond}
use Rattle.code_edit.specs.ConstEdits.{runs}
use Rattle.code_edit.specs.Facts.{IsAllReached}
use Rattle.code_edit.specs.Passes.{IsJumpsEdits, IsReachEdits, aims_from, runs as drops, skips_from}
use Rattle.code_edit.specs.Passes.{slots_edits}
use Rattle.code_edit.specs.SoundCode.{IsSound}
use Rattle.found_laws.proofs.SomeEnds.{some_ends}
use Rattle.found_laws.proofs.SomeFacts.{some_largest}
use Rattle.found_laws.proofs.SomeReached.{some_reached}
use Rattle.found_laws.proofs.SomeSlots.{some_asked, some_taken}
use Rattle.found_laws.specs.Laws.{FoundActsAreSome}

module _ (code : Code) (sound : IsSound code) where
  some_reach : (acts : List Act) × IsReachEdits code acts
  some_reach = let r = some_reached code sound in (drops 0 None r.0, (r.0, r.1, refl))

  some_jumps : (acts : List Act) × IsJumpsEdits code acts
  some_jumps =
      let r = some_ends code sound in
      (aims_from r.0 0 code.ins ++ skips_from r.0 0 code.ins, (r.0, r.1, refl))

  module _ (reached : IsAllReached code) where
    abbrev known : ℕ → List (Option ℤ)
    known slot = (some_largest code slot sound reached).0

    listed_acts : (acts : List Act) × AreConstActs code acts
    listed_acts =
        let taken = some_taken code known in (
          flat_map (λ slot. runs slot 0 Shut (known slot)) taken.0 ++ folds_below known code (length code.ins),
          record {
            known = known;
            largest = λ slot asked. (some_largest code slot sound reached).1;
            taken = taken.0;
            taken_are = taken.1;
            is = refl;
          },
        )

    by_bound : (beyond : Bool) → (acts : List Act) × ByBound beyond code acts
    by_bound true = ([], refl)
    by_bound false = listed_acts

    some_const : (acts : List Act) × IsConstEdits code acts
    some_const =
        let asked = some_asked code in
        let r = by_bound (is_beyond (length asked.0) (length code.ins)) in
        (r.0, record { asked = asked.0; asked_are = asked.1; is = r.1 })

pub some_acts : FoundActsAreSome
some_acts Reach code sound reached = some_reach code sound
some_acts Const code sound reached = some_const code sound (reached refl)
some_acts Slots code sound reached = (slots_edits code, refl)
some_acts Jumps code sound reached = some_jumps code sound
