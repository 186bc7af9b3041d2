-- The acts that a pass finds are of this pass, and their numbers have 32 bits.
use Rattle.std.proofs.Common.{◌≡◌, ◌⊎◌, ◌<◌, ◌≤◌, inl, inr, ℕ, zero, suc, ◌+◌, ◌^◌, not, Bool, true, false, cond, List, [], ◌∷◌}
use Rattle.std.proofs.Common.{length, map, Option, Some, None, slice_get, refl, sym, ap, subst, ◌∙◌, arith}
use Rattle.std.specs.Prelude.{ℤ, if◌then◌else◌}
use Rattle.std.specs.List.{AllByRecursion, Contains}
use Rattle.std.specs.Option.{unwrap_or}
use Rattle.std.proofs.lemmas.List.{length-map}
use Rattle.std.proofs.lemmas.List.Elements.{All-contains, All-from_recursion}
use Rattle.std.proofs.lemmas.Option.{slice_get_within}
use Rattle.jv_base.proofs.Lists.{all_at, all_from, all_weaker}
use Rattle.class_model.specs.declared.code.Code.{Code}
use Rattle.class_model.specs.declared.code.Ins.{Ins}
use Rattle.class_model.specs.declared.frame.FrameAt.{FrameAt}
use Rattle.class_model.specs.declared.op.Case.{Case}
use Rattle.class_model.specs.declared.op.Op.{Op}
use Rattle.class_model.specs.declared.op.Op.TheVariants as op
use Rattle.code_edit.specs.Acts.{pass_of}
use Rattle.code_edit.specs.Applied.{applied}
use Rattle.code_edit.specs.Constants as constants
use Rattle.code_edit.specs.Constants.{OneFold, TwoFold}
use Rattle.code_edit.specs.Deciding.{decided}
use Rattle.code_edit.specs.Facts.{IsAllReached}
use Rattle.code_edit.specs.Flow.{targets}
use Rattle.code_edit.specs.Jumps as jumps
use Rattle.code_edit.specs.Jumps.{Leads}
use Rattle.code_edit.specs.Legal.{AreLegal, IsRightAct}
use Rattle.code_edit.specs.Passes.{IsFound}
use Rattle.code_edit.specs.Reach as reach
use Rattle.code_edit.specs.Reach.{left_code}
use Rattle.code_edit.specs.Rewriting.{compacted, map_from, place, retargeted, rewritten, survivors, with_op}
use Rattle.code_edit.specs.Slots as slots
use Rattle.code_edit.specs.SoundCode.{IsSound}
use Rattle.code_edit.specs.declared.act.Act.{Act}
use Rattle.code_edit.specs.declared.act.Act.TheVariants as act
use Rattle.code_edit.specs.declared.act.Pass.{Pass}
use Rattle.code_edit.specs.declared.act.Pass.TheVariants.{Reach, Const, Slots, Jumps}
use Rattle.code_edit.specs.declared.act.PassEdits.{PassEdits}
use Rattle.edit_laws.specs.Holds.{IsOfNames}
use Rattle.edit_premises.proofs.Folds.{decided_in}
use Rattle.edit_premises.proofs.Reaching.{closed}
use Rattle.frame_rebuild.specs.Rebuilt.{rebuilt}
use Rattle.pass_driver.specs.Stepped.{AreFound, AreSteps, is_some_act, step_after}
use Rattle.pass_driver.proofs.LeftReached.{left_reached}
use Rattle.witness_file.specs.WitnessLines.{IsAct}
use Rattle.witness_file.specs.Witnesses.{HasActsOfPass}
use Rattle.pair_laws.proofs.OptimisedPairs.FactValues.{IsGoodFact, IsInRange, facts_good}
use Rattle.pair_laws.proofs.OptimisedPairs.HeldCodes.{Holds, step_holds}
use Rattle.pair_laws.proofs.OptimisedPairs.IdleSteps.{idle_stays}
use Rattle.pair_laws.proofs.OptimisedPairs.LegalActs.{framed, legal_right}
use Rattle.pair_laws.proofs.OptimisedPairs.SteppedCodes.{FindsLegal, step_legal, step_sound}
use Rattle.pair_laws.proofs.OptimisedPairs.WritableCodes.{held_ops}

-- ---- codes

-- an operation in range, with few targets
abbrev pub IsNumbered : Op → Type 0
IsNumbered o = (length (targets o) ≤ 2 ^ 16) × IsInRange o

as_long : {A B : Type 0} (f : ℕ → A → B) (k : ℕ) (xs : List A) → length (map_from f k xs) ≡ length xs
as_long f k [] = refl
as_long f k (x ∷ xs) = ap suc (as_long f (suc k) xs)

as_many : (f : ℕ → ℕ → ℕ) (o : Op) → length (targets (retargeted f o)) ≡ length (targets o)
as_many f (op.IfZero c to) = refl
as_many f (op.IfCmp c to) = refl
as_many f (op.IfRef eq to) = refl
as_many f (op.IfNull null to) = refl
as_many f (op.Goto to) = refl
as_many f (op.TableSwitch low other cases) = ap suc (as_long f 1 cases)
as_many f (op.LookupSwitch other cases) =
    ap suc (length-map (map_from (λ k (c : Case). record c { to = f k c.to }) 1 cases) (λ (c : Case). c.to)
    ∙ as_long (λ k (c : Case). record c { to = f k c.to }) 1 cases ∙ sym (length-map cases (λ (c : Case). c.to)))
as_many f o = refl

in_range_moves : (f : ℕ → ℕ → ℕ) (o : Op) → IsInRange o → IsInRange (retargeted f o)
in_range_moves f (op.IfZero c to) h = h
in_range_moves f (op.IfCmp c to) h = h
in_range_moves f (op.IfRef eq to) h = h
in_range_moves f (op.IfNull null to) h = h
in_range_moves f (op.Goto to) h = h
in_range_moves f (op.TableSwitch low other cases) h = h
in_range_moves f (op.LookupSwitch other cases) h =
    let moved = held_ops.moves f (op.LookupSwitch other cases) (h.0, h.1, tt) in (moved.0, moved.1)
in_range_moves f o h = h

numbered_ops : IsOfNames IsNumbered
numbered_ops = record {
  moves = λ f o h. (subst (λ n. n ≤ 2 ^ 16) (sym (as_many f o)) h.0, in_range_moves f o h.1);
  nop = (omega arith, (tt, tt));
  goto = λ to. (omega arith, (tt, tt));
  pop = (omega arith, (tt, tt));
  pop2 = (omega arith, (tt, tt));
}

-- a code with few instructions, each of them so
pub record AreNumbered (code : Code) : Type 0 where
  pub few : length code.ins < 2 ^ 32
  pub ops : Holds IsNumbered code

survive_few : {A : Type 0} (lives : ℕ → Bool) (i : ℕ) (xs : List A) → length (survivors lives i xs) ≤ length xs
survive_few lives i [] = omega arith
survive_few {A} lives i (x ∷ xs) = by (lives i) (survivors lives (suc i) xs) (survive_few lives (suc i) xs)
  where
    by : (b : Bool) (ys : List A) → length ys ≤ length xs → length (if b then x ∷ ys else ys) ≤ suc (length xs)
    by true ys low = omega (arith, low)
    by false ys low = omega (arith, low)

compacted_few : (lives : ℕ → Bool) (code : Code) → length (compacted lives code).ins ≤ length code.ins
compacted_few lives code =
    let many = length-map (survivors lives 0 code.ins) (with_op (retargeted (λ which to. place lives to))) in
    omega (arith, many, survive_few lives 0 code.ins)

rewritten_few : (f : ℕ → Op → Op) (code : Code) → length (rewritten f code).ins ≡ length code.ins
rewritten_few f code = as_long (λ at i. with_op (f at) i) 0 code.ins

applied_few : (p : Pass) (acts : List Act) (code : Code) → length (applied p acts code).ins ≤ length code.ins
applied_few Reach acts code = compacted_few (reach.is_left acts) code
applied_few Const acts code =
    let few = compacted_few (λ at. not (constants.goes acts code at)) (rewritten (constants.folded acts code) code) in
    omega (arith, few, rewritten_few (constants.folded acts code) code)
applied_few Slots acts code =
    let few = compacted_few (λ at. not (slots.goes acts code at)) (rewritten (slots.slotted acts code) code) in
    omega (arith, few, rewritten_few (slots.slotted acts code) code)
applied_few Jumps acts code =
    let few = compacted_few (jumps.stays acts code) (rewritten (jumps.jumped acts) code) in
    omega (arith, few, rewritten_few (jumps.jumped acts) code)

step_numbered : (s : PassEdits) (code : Code) → AreNumbered code → AreNumbered (step_after s code)
step_numbered s code h = record { few = by (is_some_act s.acts); ops = step_holds IsNumbered numbered_ops s code h.ops }
  where
    by : (b : Bool) → length (cond b (rebuilt s.pass s.acts code) code).ins < 2 ^ 32
    by true = omega (arith, applied_few s.pass s.acts code, h.few)
    by false = h.few

-- ---- acts

-- an act of a pass, its numbers of 32 bits
abbrev IsActOf : Pass → Act → Type 0
IsActOf p a = IsAct a × (pass_of a ≡ p)

module _ (code : Code) (sound : IsSound code) (h : AreNumbered code) where
  within : (at : ℕ) (i : Ins) → slice_get code.ins at ≡ Some i → at < 2 ^ 32
  within at i there = omega (arith, slice_get_within code.ins at i there, h.few)

  target_low : (at : ℕ) (i : Ins) → slice_get code.ins at ≡ Some i → (t : ℕ) → Contains (targets i.op) t
      → t < length code.ins
  target_low at i there t contains =
      All-contains (λ t. t < length code.ins) (targets i.op) t
      (All-from_recursion (λ t. t < length code.ins) (targets i.op) (sound.jump at i there)) contains

  drop_of : (acts : List Act) (a : Act) → IsRightAct Reach acts code a → IsActOf Reach a
  drop_of acts (act.Drop from to) r =
      ((omega (arith, r.0, r.1, h.few), omega (arith, r.1, h.few)), refl)
  drop_of acts a r = absurd r

  cut_of : (acts : List Act) (a : Act) → IsRightAct Slots acts code a → IsActOf Slots a
  cut_of acts (act.Cut at) r = (within at r.0 r.1, refl)
  cut_of acts a r = absurd r

  leads_low : (n from to : ℕ) → from < length code.ins → Leads code n from to → to < length code.ins
  leads_low zero from to low l = subst (λ n. n < length code.ins) l low
  leads_low (suc n) from to low l =
      let all = sound.jump from l.0 l.2 in
      let one : l.1 < length code.ins =
      (subst (λ (o : Op). AllByRecursion (λ t. t < length code.ins) (targets o)) l.3 all).0 in
      leads_low n l.1 to one l.4

  jump_of : (acts : List Act) (a : Act) → IsRightAct Jumps acts code a → IsActOf Jumps a
  jump_of acts (act.Aim at which to) r =
      let many : length (targets r.0.op) ≤ 2 ^ 16 =
      (all_at (λ (i : Ins). IsNumbered i.op) code.ins at r.0 h.ops r.2).0 in
      let number : which < length (targets r.0.op) = slice_get_within (targets r.0.op) which r.1 r.3 in
      let old : r.1 < length code.ins =
      all_at (λ t. t < length code.ins) (targets r.0.op) which r.1 (sound.jump at r.0 r.2) r.3 in
      let there : to < length code.ins = leads_low (suc r.4.0) r.1 to old r.4.1 in
      ((within at r.0 r.2, omega (arith, many, number), omega (arith, there, h.few)), refl)
  jump_of acts (act.Skip at) r = (within at r.0 r.2, refl)
  jump_of acts a r = absurd r

  point_low : (at to : ℕ) (i : Ins) (zs : List ℤ) → slice_get code.ins at ≡ Some i → (p : Option ℕ)
      → decided i.op zs ≡ Some p → unwrap_or p (at + 1) ≡ to → to < 2 ^ 32
  point_low at to i zs there None decides leads =
      omega (arith, slice_get_within code.ins at i there, h.few, leads)
  point_low at to i zs there (Some t) decides leads =
      omega (arith, target_low at i there t (decided_in i.op zs t decides), h.few, leads)

  fold_of : (acts : List Act) (at to : ℕ) → OneFold acts code at to ⊎ TwoFold acts code at to
      → IsActOf Const (act.Fold at to)
  fold_of acts at to (inl f) =
      ((within at f.ins f.here, point_low at to f.ins _ f.here f.point f.decides f.leads), refl)
  fold_of acts at to (inr f) =
      ((within at f.ins f.here, point_low at to f.ins _ f.here f.point f.decides f.leads), refl)

  const_of : (acts : List Act) (a : Act) → IsRightAct Const acts code a → IsGoodFact a → IsActOf Const a
  const_of acts (act.Fact from to slot value) r good =
      let last = (r.1 to r.0 (omega arith)).below in
      ((omega (arith, r.0, last, h.few), omega (arith, last, h.few), good.0, good.1), refl)
  const_of acts (act.Fold at to) r good = fold_of acts at to r
  const_of acts a r good = absurd r

  -- what a pass finds; const is asked where control may come to each instruction
  acts_of : (p : Pass) (acts : List Act) → AreLegal p acts code → (p ≡ Const → AllByRecursion IsGoodFact acts)
      → AllByRecursion (IsActOf p) acts
  acts_of Reach acts legal facts = all_weaker (IsRightAct Reach acts code) (IsActOf Reach) (drop_of acts) acts
      (legal_right Reach acts code legal)
  acts_of Slots acts legal facts = all_weaker (IsRightAct Slots acts code) (IsActOf Slots) (cut_of acts) acts
      (legal_right Slots acts code legal)
  acts_of Jumps acts legal facts = all_weaker (IsRightAct Jumps acts code) (IsActOf Jumps) (jump_of acts) acts
      (legal_right Jumps acts code legal)
  acts_of Const acts legal facts = all_from (IsActOf Const) acts (λ k a at.
      const_of acts a (legal k a at).0 (all_at IsGoodFact acts k a (facts refl) at))

in_range : (code : Code) → Holds IsNumbered code → Holds IsInRange code
in_range code h = all_weaker (λ (i : Ins). IsNumbered i.op) (λ (i : Ins). IsInRange i.op) (λ i n. n.1) code.ins h

-- ---- the six steps

-- where control may come doesn't hang on frames
reached_framed : (code : Code) (frames : List FrameAt) → IsAllReached code → IsAllReached (framed code frames)
reached_framed code frames reached at low set holds =
    reached at low set (record { first = holds.first; next = holds.next; handlers = holds.handlers })

reach_other : Reach ≡ Const → ⊥
reach_other e = cc

slots_other : Slots ≡ Const → ⊥
slots_other e = cc

jumps_other : Jumps ≡ Const → ⊥
jumps_other e = cc

module _ (legal : FindsLegal) where
  step_of : (p : Pass) (s : PassEdits) (code : Code) → s.pass ≡ p → IsFound p code s.acts → IsSound code
      → AreNumbered code → (p ≡ Const → IsAllReached code) → HasActsOfPass s
  step_of p s code is found sound h reached =
      acts_of code sound h s.pass s.acts (step_legal legal p s code is found sound)
      (λ const. facts_good code (in_range code h.ops) (reached (sym is ∙ const)) s.acts
      (subst (λ (q : Pass). IsFound q code s.acts) (sym is ∙ const) found))

  -- reach leaves no instruction to which control doesn't come
  left_all : (acts : List Act) (code : Code) → IsSound code → IsFound Reach code acts → IsAllReached (left_code acts code)
  left_all acts code sound found =
      left_reached acts code found.0 found.1 found.2
      (closed acts code (legal_right Reach acts code (legal Reach acts code found sound)))

  reached_by : (acts : List Act) (code : Code) → IsSound code → IsAllReached (left_code acts code)
      → IsAllReached (cond (is_some_act acts) (rebuilt Reach acts code) code)
  reached_by [] code sound reached =
      reached_framed (framed code []) code.frames (subst IsAllReached (idle_stays Reach code sound) reached)
  reached_by (a ∷ acts) code sound reached =
      reached_framed (left_code (a ∷ acts) code) (rebuilt Reach (a ∷ acts) code).frames reached

  after_reach : (s : PassEdits) (code : Code) → s.pass ≡ Reach → IsFound Reach code s.acts → IsSound code
      → IsAllReached (step_after s code)
  after_reach s code is found sound =
      subst (λ (p : Pass). IsAllReached (cond (is_some_act s.acts) (rebuilt p s.acts code) code)) (sym is)
      (reached_by s.acts code sound (left_all s.acts code sound found))

  next_sound : (p : Pass) (s : PassEdits) (code : Code) → s.pass ≡ p → IsFound p code s.acts → IsSound code
      → IsSound (step_after s code)
  next_sound p s code is found sound =
      step_sound s code (legal_right s.pass s.acts code (step_legal legal p s code is found sound)) sound

  others_of : (passes : List Pass) → AllByRecursion (λ (p : Pass). p ≡ Const → ⊥) passes → (steps : List PassEdits)
      (code : Code) → AreFound passes steps code → IsSound code → AreNumbered code
      → AllByRecursion HasActsOfPass steps
  others_of [] never [] code found sound h = tt
  others_of [] never (s ∷ steps) code found sound h = absurd found
  others_of (p ∷ passes) never [] code found sound h = absurd found
  others_of (p ∷ passes) never (s ∷ steps) code found sound h = (
    step_of p s code found.0 found.1 sound h (λ const. absurd (never.0 const)),
    others_of passes never.1 steps (step_after s code) found.2 (next_sound p s code found.0 found.1 sound)
        (step_numbered s code h),
  )

  pub all_of : (steps : List PassEdits) (code : Code) → AreSteps steps code → IsSound code → AreNumbered code
      → AllByRecursion HasActsOfPass steps
  all_of [] code found sound h = absurd found
  all_of (s ∷ []) code found sound h = absurd found.2
  all_of (s ∷ t ∷ steps) code found sound h =
      let next = next_sound Reach s code found.0 found.1 sound in
      let held = step_numbered s code h in (
        step_of Reach s code found.0 found.1 sound h (λ const. absurd (reach_other const)),
        (
          step_of Const t (step_after s code) found.2.0 found.2.1 next held
              (λ const. after_reach s code found.0 found.1 sound),
          others_of (Reach ∷ Slots ∷ Jumps ∷ Reach ∷ []) (reach_other, (slots_other, (jumps_other, (reach_other, tt))))
              steps (step_after t (step_after s code)) found.2.2
              (next_sound Const t (step_after s code) found.2.0 found.2.1 next)
              (step_numbered t (step_after s code) held),
        ),
      )
