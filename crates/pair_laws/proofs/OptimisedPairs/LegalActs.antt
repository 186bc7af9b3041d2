-- Acts that are legal on a code are legal on it with other frames, and do the same: neither looks at frames.
use Rattle.std.proofs.Common.{◌≡◌, ◌⊎◌, ℕ, zero, suc, List, refl, sym, ◌∙◌, inl, inr}
use Rattle.jv_base.proofs.Lists.{all_from}
use Rattle.class_model.specs.declared.code.Code.{Code}
use Rattle.class_model.specs.declared.frame.FrameAt.{FrameAt}
use Rattle.class_model.specs.declared.op.Op.{Op}
use Rattle.class_model.specs.declared.op.Op.TheVariants as op
use Rattle.code_edit.specs.Applied.{applied, lives_of}
use Rattle.code_edit.specs.Constants.{IsLegalConst, IsPlace, OneFold, TwoFold}
use Rattle.code_edit.specs.Jumps.{IsLegalJump, Leads}
use Rattle.code_edit.specs.Legal.{AreLegal, AreRightActs, IsPastLast, IsRightAct, IsStillAimedAt, KeepsLast, branch, entry}
use Rattle.code_edit.specs.Legal.{is_dropped_by}
use Rattle.code_edit.specs.Reach.{IsLegalDrop, IsNeeded, entered, first, led_to}
use Rattle.code_edit.specs.Slots.{IsCutOp, IsLegalCut}
use Rattle.code_edit.specs.declared.act.Act.{Act}
use Rattle.code_edit.specs.declared.act.Act.TheVariants as act
use Rattle.code_edit.specs.declared.act.Pass.{Pass}
use Rattle.code_edit.specs.declared.act.Pass.TheVariants.{Reach, Const, Slots, Jumps}

-- a code with these frames
abbrev pub framed : Code → List FrameAt → Code
framed code frames = record code { frames = frames }

module _ (c : Code) (frames : List FrameAt) where
  abbrev d : Code
  d = framed c frames

  -- ---- acts that are right

  needed : (acts : List Act) (at : ℕ) → IsNeeded acts d at → IsNeeded acts c at
  needed acts at (first e) = first e
  needed acts at (led_to from k i left here next) = led_to from k i left here next
  needed acts at (entered k from h there low left covered e) = entered k from h there low left covered e

  drop_there : (acts : List Act) (a : Act) → IsLegalDrop acts c a → IsLegalDrop acts d a
  drop_there acts (act.Drop from to) h = (h.0, h.1, λ at low high need. h.2 at low high (needed acts at need))
  drop_there acts a h = absurd h

  cut_op : (acts : List Act) (o : Op) → IsCutOp acts c o → IsCutOp acts d o
  cut_op acts (op.Store k slot) h = h
  cut_op acts (op.Inc slot z) h = h
  cut_op acts o h = absurd h

  cut_there : (acts : List Act) (a : Act) → IsLegalCut acts c a → IsLegalCut acts d a
  cut_there acts (act.Cut at) h = (h.0, h.1, cut_op acts h.0.op h.2)
  cut_there acts a h = absurd h

  leads : (n from to : ℕ) → Leads c n from to → Leads d n from to
  leads zero from to h = h
  leads (suc n) from to h = (h.0, h.1, h.2, h.3, leads n h.1 to h.4)

  jump_there : (acts : List Act) (a : Act) → IsLegalJump acts c a → IsLegalJump acts d a
  jump_there acts (act.Aim at which to) h = (h.0, h.1, h.2, h.3, (h.4.0, leads (suc h.4.0) h.1 to h.4.1))
  jump_there acts (act.Skip at) h = h
  jump_there acts a h = absurd h

  fact_there : (acts : List Act) (slot at : ℕ) (value : _) → IsPlace acts c slot at value → IsPlace acts d slot at value
  fact_there acts slot at value h =
      record { below = h.below; inside = h.inside; handlers = h.handlers; supported = h.supported }

  fold_there : (acts : List Act) (at to : ℕ) → OneFold acts c at to ⊎ TwoFold acts c at to
      → OneFold acts d at to ⊎ TwoFold acts d at to
  fold_there acts at to (inl h) = inl (record {
    ins = h.ins;
    here = h.here;
    behind = h.behind;
    value = h.value;
    is = h.is;
    free = h.free;
    point = h.point;
    decides = h.decides;
    leads = h.leads;
  })
  fold_there acts at to (inr h) = inr (record {
    ins = h.ins;
    here = h.here;
    behind = h.behind;
    first = h.first;
    first_is = h.first_is;
    second = h.second;
    second_is = h.second_is;
    free = h.free;
    second_free = h.second_free;
    point = h.point;
    decides = h.decides;
    leads = h.leads;
  })

  const_there : (acts : List Act) (a : Act) → IsLegalConst acts c a → IsLegalConst acts d a
  const_there acts (act.Fact from to slot value) h =
      (h.0, λ at low high. fact_there acts slot at value (h.1 at low high))
  const_there acts (act.Fold at to) h = fold_there acts at to h
  const_there acts a h = absurd h

  right_there : (p : Pass) (acts : List Act) (a : Act) → IsRightAct p acts c a → IsRightAct p acts d a
  right_there Reach acts a h = drop_there acts a h
  right_there Const acts a h = const_there acts a h
  right_there Slots acts a h = cut_there acts a h
  right_there Jumps acts a h = jump_there acts a h

  -- ---- the last index

  dropped_same : (at : ℕ) (a : Act) → is_dropped_by d at a ≡ is_dropped_by c at a
  dropped_same at (act.Drop from to) = refl
  dropped_same at (act.Fact from to slot value) = refl
  dropped_same at (act.Fold place to) = refl
  dropped_same at (act.Cut place) = refl
  dropped_same at (act.Aim place which to) = refl
  dropped_same at (act.Skip place) = refl

  lives_same : (p : Pass) (acts : List Act) (at : ℕ) → lives_of p acts d at ≡ lives_of p acts c at
  lives_same Reach acts at = refl
  lives_same Const acts at = refl
  lives_same Slots acts at = refl
  lives_same Jumps acts at = refl

  still : (p : Pass) (acts : List Act) (at : ℕ) → IsStillAimedAt p acts d at → IsStillAimedAt p acts c at
  still Reach acts at (branch from which i lives here aims) = branch from which i lives here aims
  still Reach acts at (entry k from h there low lives covered e) = entry k from h there low lives covered e
  still Const acts at (branch from which i lives here aims) = branch from which i lives here aims
  still Const acts at (entry k from h there low lives covered e) = entry k from h there low lives covered e
  still Slots acts at (branch from which i lives here aims) = branch from which i lives here aims
  still Slots acts at (entry k from h there low lives covered e) = entry k from h there low lives covered e
  still Jumps acts at (branch from which i lives here aims) = branch from which i lives here aims
  still Jumps acts at (entry k from h there low lives covered e) = entry k from h there low lives covered e

  past : (p : Pass) (acts : List Act) (at : ℕ) → IsPastLast p acts d at → IsPastLast p acts c at
  past p acts at h k from low = sym (lives_same p acts k) ∙ h k from low

  keeps_there : (p : Pass) (acts : List Act) (a : Act) → KeepsLast p acts c a → KeepsLast p acts d a
  keeps_there p acts a h at dropped dead aimed behind =
      h at (sym (dropped_same at a) ∙ dropped) (sym (lives_same p acts at) ∙ dead) (still p acts at aimed)
      (past p acts at behind)

  -- ---- both

  pub legal_there : (p : Pass) (acts : List Act) → AreLegal p acts c → AreLegal p acts d
  legal_there p acts h k a at =
      let one = h k a at in (right_there p acts a one.0, one.1, keeps_there p acts a one.2)

  pub applied_there : (p : Pass) (acts : List Act) → applied p acts d ≡ framed (applied p acts c) (applied p acts d).frames
  applied_there Reach acts = refl
  applied_there Const acts = refl
  applied_there Slots acts = refl
  applied_there Jumps acts = refl

-- what is legal is right
pub legal_right : (p : Pass) (acts : List Act) (code : Code) → AreLegal p acts code → AreRightActs p acts code
legal_right p acts code h = all_from (IsRightAct p acts code) acts (λ k a at. (h k a at).0)
