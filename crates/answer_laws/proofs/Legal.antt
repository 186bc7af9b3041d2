-- EditIllegal finds a place, or nothing: whether acts are legal on a sound code is settled.
use Rattle.std.proofs.Common.{inl, inr, ℕ, List, [], ◌∷◌, Option, Some, None, refl}
use Rattle.std.specs.Prelude.{IfSome}
use Rattle.jv_base.proofs.Lists.{all_at}
use Rattle.class_model.specs.declared.class.Class.{Class}
use Rattle.class_model.specs.declared.class.Method.{Method}
use Rattle.class_model.specs.declared.code.Code.{Code}
use Rattle.code_edit.specs.Applied.{applied}
use Rattle.code_edit.specs.Legal.{AreLegal}
use Rattle.code_edit.specs.SoundCode.{IsSound}
use Rattle.code_edit.specs.declared.act.Act.{Act}
use Rattle.code_edit.specs.declared.act.Pass.{Pass}
use Rattle.code_edit.specs.declared.act.Pass.TheVariants.{Reach, Const, Slots, Jumps}
use Rattle.code_edit.specs.declared.act.PassEdits.{PassEdits}
use Rattle.edit_legal.specs.Cuttable.{cuttable, may_cut}
use Rattle.edit_legal.specs.Dropped.{may_drop, needed}
use Rattle.edit_legal.specs.Fault.{IsFault, fault_after}
use Rattle.edit_legal.specs.Movable.{may_jump, skippable}
use Rattle.edit_legal.proofs.ConstFaults.{const_fault_some}
use Rattle.edit_legal.proofs.CutFaults.{cut_fault_is}
use Rattle.edit_legal.proofs.DropFaults.{drop_fault_is}
use Rattle.edit_legal.proofs.JumpFaults.{jump_fault_is}
use Rattle.edit_premises.proofs.EditedSound.{applied_sound}
use Rattle.witness_file.specs.declared.witness.MethodWitness.{MethodWitness}
use Rattle.witness_file.specs.declared.witness.Witness.{Witness}
use Rattle.pair_clauses.specs.Finding.{FindsUnless}
use Rattle.pair_clauses.specs.Places.{place_of_method}
use Rattle.pair_edits.specs.Edits.{AreLegalOn, AreLegalSteps, ClassEditIllegal, EditIllegal}
use Rattle.pair_edits.specs.Entries.{steps_of}
use Rattle.pair_edits.specs.Sound.{AreSound, HasSoundCode, HasSoundCodes}
use Rattle.answer_laws.proofs.Deciding.{Settled, settled_as}
use Rattle.answer_laws.proofs.Right.{legal_right}
use Rattle.answer_laws.proofs.Searching.{Searches, search_first, search_unless}
use Rattle.answer_laws.proofs.Telling.{aims_of, aims_told, first_of}

-- ---- one step

-- the acts of a step are legal, or one is the first that isn't
some_fault : (p : Pass) (acts : List Act) (code : Code) → IsSound code
    → (fault : Option ℕ) × IsFault p acts code fault
some_fault Reach acts code sound = (
  fault_after (may_drop (needed acts code)) 0 [] acts,
  drop_fault_is acts code (needed acts code) (fault_after (may_drop (needed acts code)) 0 [] acts) sound refl refl,
)
some_fault Slots acts code sound = (
  fault_after (may_cut (cuttable acts code)) 0 [] acts,
  cut_fault_is acts code (cuttable acts code) (fault_after (may_cut (cuttable acts code)) 0 [] acts) sound refl refl,
)
some_fault Jumps acts code sound =
    let aims = aims_of acts in (
      fault_after (may_jump code (skippable aims acts code)) 0 [] acts,
      jump_fault_is acts code code (skippable aims acts code) aims
          (fault_after (may_jump code (skippable aims acts code)) 0 [] acts) sound refl (aims_told acts) refl refl,
    )
some_fault Const acts code sound = let first = first_of 0 acts in const_fault_some acts code first.0 sound first.1

legal_settled : (p : Pass) (acts : List Act) (code : Code) → IsSound code → Settled (AreLegal p acts code)
legal_settled p acts code sound = by (some_fault p acts code sound)
  where
    by : (fault : Option ℕ) × IsFault p acts code fault → Settled (AreLegal p acts code)
    by (None, legal) = inl legal
    by (Some k, fault) = inr (λ legal. fault.3 (legal k fault.1 fault.2))

-- ---- the steps of a method

steps_settled : (steps : List PassEdits) (code : Code) → IsSound code → Settled (AreLegalSteps steps code)
steps_settled [] code sound = inl tt
steps_settled (s ∷ steps) code sound =
    by (legal_settled s.pass s.acts code sound) (λ next. steps_settled steps (applied s.pass s.acts code) next)
  where
    by : Settled (AreLegal s.pass s.acts code)
        → (IsSound (applied s.pass s.acts code) → Settled (AreLegalSteps steps (applied s.pass s.acts code)))
        → Settled (AreLegalSteps (s ∷ steps) code)
    by (inl legal) rest =
        settled_as (λ (behind : AreLegalSteps steps (applied s.pass s.acts code)).
        let all : AreLegalSteps (s ∷ steps) code = (legal, behind) in all)
        (λ (all : AreLegalSteps (s ∷ steps) code). all.1)
        (rest (applied_sound s.pass s.acts code (legal_right s.pass s.acts code legal) sound))
    by (inr never) rest = inr (λ all. never all.0)

method_settled : (steps : List PassEdits) (code : Option Code) → IfSome code IsSound → Settled (AreLegalOn steps code)
method_settled steps None sound = inl tt
method_settled steps (Some code) sound = steps_settled steps code sound

-- ---- the whole

class_searched : (entries : List MethodWitness) (c : Class) → HasSoundCodes c → Searches (ClassEditIllegal entries c)
class_searched entries c sound =
    search_first
    (λ (m : Method). FindsUnless (AreLegalOn (steps_of entries c m) m.code) (place_of_method c m)) c.methods
    (λ k m at. search_unless (AreLegalOn (steps_of entries c m) m.code) (place_of_method c m)
    (method_settled (steps_of entries c m) m.code (all_at HasSoundCode c.methods k m sound at)))

pub edits_searched : (witness : Witness) (input : List Class) → AreSound input → Searches (EditIllegal witness input)
edits_searched witness input sound =
    search_first (ClassEditIllegal witness.methods) input
    (λ n c at. class_searched witness.methods c (all_at HasSoundCodes input n c sound at))
