-- Steps one after another.
use Rattle.std.proofs.Common.{◌≡◌, Bool, true, false, cond, ◌||◌, List, [], ◌∷◌, ◌++◌, refl, sym, ap, subst, ◌∙◌, Option}
use Rattle.std.proofs.Common.{Some, None}
use Rattle.std.specs.Prelude.{is_some}
use Rattle.std.specs.Option.{unwrap_or}
use Rattle.jv_base.proofs.Lists.{all_from}
use Rattle.class_model.specs.WellFormed.{IsGoodCode}
use Rattle.class_model.specs.declared.code.Code.{Code}
use Rattle.code_edit.specs.declared.act.Act.{Act}
use Rattle.code_edit.specs.declared.act.Pass.{Pass}
use Rattle.code_edit.specs.declared.act.Pass.TheVariants.{Reach, Const, Slots, Jumps}
use Rattle.code_edit.specs.declared.act.PassEdits.{PassEdits}
use Rattle.code_edit.specs.Applied.{applied}
use Rattle.code_edit.specs.Facts.{IsAllReached}
use Rattle.code_edit.specs.Legal.{AreLegal, AreRightActs, IsRightAct}
use Rattle.code_edit.specs.Passes.{IsFound, IsReachEdits}
use Rattle.code_edit.specs.Reach.{left_code}
use Rattle.code_edit.specs.SoundCode.{IsSound}
use Rattle.edit_premises.proofs.Reaching.{closed}
use Rattle.frame_rebuild.specs.Rebuilt.{rebuilt}
use Rattle.pass_driver.specs.Stepped.{AreFound, AreSteps, has_act, is_some_act, step_after, stepped}
use Rattle.pass_driver.specs.bodies.After.{IsAfter, IsNext, IsRight, code_of}
use Rattle.pass_driver.specs.declared.steps.After.{After}
use Rattle.pass_driver.proofs.LeftReached.{left_reached}
use Rattle.rebuild_laws.specs.Laws.{RebuiltCodesFollowFormat}

-- ---- one step

-- what a pass finds is legal
abbrev pub FoundIsLegal : Type 0
FoundIsLegal = (p : Pass) (acts : List Act) (code : Code) → IsFound p code acts → IsSound code → AreLegal p acts code

-- and so each act is right
pub found_right : FoundIsLegal → (p : Pass) (acts : List Act) (code : Code) → IsFound p code acts → IsSound code
    → AreRightActs p acts code
found_right legal p acts code found sound =
    all_from (IsRightAct p acts code) acts (λ k a at. (legal p acts code found sound k a at).0)

-- right acts leave a right code right
abbrev pub ActsKeepSound : Type 0
ActsKeepSound = (p : Pass) (acts : List Act) (code : Code) → AreRightActs p acts code → IsSound code
    → IsSound (applied p acts code)

rebuilt_right : RebuiltCodesFollowFormat → ActsKeepSound → (p : Pass) (acts : List Act) (code : Code)
    → AreRightActs p acts code → IsRight code → IsRight (rebuilt p acts code)
rebuilt_right follows keeps p acts code right h =
    let s = keeps p acts code right h.sound in
    record {
      good = follows p acts code right h.sound h.good;
      sound = record { some = s.some; jump = s.jump; handlers = s.handlers; last = s.last };
    }

module _ (own : Code) (old new : After) (s : PassEdits) (right : IsRight (code_of own old))
    (found : IsFound s.pass (code_of own old) s.acts) (steps : new.steps ≡ old.steps ++ s ∷ []) where
  -- a step with an act
  pub acted : RebuiltCodesFollowFormat → ActsKeepSound → AreRightActs s.pass s.acts (code_of own old)
      → (code : Code) → code ≡ rebuilt s.pass s.acts (code_of own old) → new.code ≡ Some code
      → is_some_act s.acts ≡ true → IsNext own s.pass old new
  acted follows keeps acts code is put some =
      let after : code_of own new ≡ rebuilt s.pass s.acts (code_of own old) =
      ap (λ (o : Option Code). unwrap_or o own) put ∙ is in
      record {
        step = s;
        is_pass = refl;
        found = found;
        steps = steps;
        code = after ∙ ap (λ b. cond b (rebuilt s.pass s.acts (code_of own old)) (code_of own old)) (sym some);
        some = ap (λ (o : Option Code). is_some o) put ∙ last (is_some old.code) (is_some_act s.acts) some;
        right = subst IsRight (sym after)
            (rebuilt_right follows keeps s.pass s.acts (code_of own old) acts right);
      }
    where
      last : (a b : Bool) → b ≡ true → true ≡ (a || b)
      last true b e = refl
      last false b e = sym e

  -- a step without one
  pub rested : new.code ≡ old.code → is_some_act s.acts ≡ false → IsNext own s.pass old new
  rested same none =
      let after : code_of own new ≡ code_of own old = ap (λ (o : Option Code). unwrap_or o own) same in
      record {
        step = s;
        is_pass = refl;
        found = found;
        steps = steps;
        code = after ∙ ap (λ b. cond b (rebuilt s.pass s.acts (code_of own old)) (code_of own old)) (sym none);
        some = ap (λ (o : Option Code). is_some o) same ∙ last (is_some old.code) (is_some_act s.acts) none;
        right = subst IsRight (sym after) right;
      }
    where
      last : (a b : Bool) → b ≡ false → a ≡ (a || b)
      last true b e = refl
      last false b e = sym e

-- ---- after reach

-- frames don't matter to what control reaches
reached_again : (acts : List Act) (code : Code) → IsAllReached (left_code acts code)
    → IsAllReached (rebuilt Reach acts code)
reached_again acts code all at lt set holds =
    all at lt set (record { first = holds.first; next = holds.next; handlers = holds.handlers })

pub reach_reaches : FoundIsLegal → ((code : Code) → IsReachEdits code [] → IsAllReached code) → (own : Code)
    (old new : After) → IsRight (code_of own old) → IsNext own Reach old new → IsAllReached (code_of own new)
reach_reaches legal none own old new right h =
    subst IsAllReached (sym h.code) (by h.step.acts refl h.found)
  where
    by : (acts : List Act) → h.step.acts ≡ acts → IsFound Reach (code_of own old) h.step.acts
        → IsAllReached (step_after h.step (code_of own old))
    by [] e found =
        subst (λ (xs : List Act). IsAllReached (cond (is_some_act xs) (rebuilt h.step.pass xs (code_of own old))
        (code_of own old))) (sym e)
        (none (code_of own old) (subst (IsReachEdits (code_of own old)) e found))
    by (a ∷ acts) e found =
        let some : is_some_act h.step.acts ≡ true = ap is_some_act e in
        let drops = found_right legal Reach h.step.acts (code_of own old) found right.sound in
        let left = left_reached h.step.acts (code_of own old) found.0 found.1 found.2
        (closed h.step.acts (code_of own old) drops) in
        subst (λ b. IsAllReached (cond b (rebuilt h.step.pass h.step.acts (code_of own old)) (code_of own old)))
        (sym some)
        (subst (λ (p : Pass). IsAllReached (rebuilt p h.step.acts (code_of own old))) (sym h.is_pass)
        (reached_again h.step.acts (code_of own old) left))

-- ---- six steps

-- one step, and others behind it
next_found : (own : Code) (p : Pass) (passes : List Pass) (old new : After) (h : IsNext own p old new)
    (code : Code) → code_of own old ≡ code → (others : List PassEdits) → AreFound passes others (code_of own new)
    → AreFound (p ∷ passes) (h.step ∷ others) code
next_found own p passes old new h code is others found = (
  h.is_pass,
  subst (λ (c : Code). IsFound p c h.step.acts) is h.found,
  subst (AreFound passes others) (h.code ∙ ap (step_after h.step) is) found,
)

or_chain : (a b c d e f : Bool)
    → ((((((false || a) || b) || c) || d) || e) || f) ≡ (a || (b || (c || (d || (e || (f || false))))))
or_chain true b c d e f = refl
or_chain false true c d e f = refl
or_chain false false true d e f = refl
or_chain false false false true e f = refl
or_chain false false false false true f = refl
or_chain false false false false false true = refl
or_chain false false false false false false = refl

pub six_are : (own : Code) (a b c d e f g : After) → a.code ≡ None → a.steps ≡ [] → IsNext own Reach a b
    → IsNext own Const b c → IsNext own Reach c d → IsNext own Slots d e → IsNext own Jumps e f
    → IsNext own Reach f g → IsAfter own g
six_are own a b c d e f g no_code no_steps one two three four five six =
    let start : code_of own a ≡ own = ap (λ (o : Option Code). unwrap_or o own) no_code in
    let all : List PassEdits =
    one.step ∷ two.step ∷ three.step ∷ four.step ∷ five.step ∷ six.step ∷ [] in
    let steps : g.steps ≡ all =
    six.steps ∙ ap (λ (l : List PassEdits). l ++ six.step ∷ []) (five.steps
    ∙ ap (λ (l : List PassEdits). l ++ five.step ∷ []) (four.steps
    ∙ ap (λ (l : List PassEdits). l ++ four.step ∷ []) (three.steps
    ∙ ap (λ (l : List PassEdits). l ++ three.step ∷ []) (two.steps
    ∙ ap (λ (l : List PassEdits). l ++ two.step ∷ []) (one.steps
    ∙ ap (λ (l : List PassEdits). l ++ one.step ∷ []) no_steps))))) in
    let found : AreSteps all own =
    next_found own Reach (Const ∷ Reach ∷ Slots ∷ Jumps ∷ Reach ∷ []) a b one own start
    (two.step ∷ three.step ∷ four.step ∷ five.step ∷ six.step ∷ [])
    (next_found own Const (Reach ∷ Slots ∷ Jumps ∷ Reach ∷ []) b c two (code_of own b) refl
    (three.step ∷ four.step ∷ five.step ∷ six.step ∷ [])
    (next_found own Reach (Slots ∷ Jumps ∷ Reach ∷ []) c d three (code_of own c) refl
    (four.step ∷ five.step ∷ six.step ∷ [])
    (next_found own Slots (Jumps ∷ Reach ∷ []) d e four (code_of own d) refl
    (five.step ∷ six.step ∷ [])
    (next_found own Jumps (Reach ∷ []) e f five (code_of own e) refl
    (six.step ∷ [])
    (next_found own Reach [] f g six (code_of own f) refl [] tt))))) in
    let code : code_of own g ≡ stepped all own =
    six.code ∙ ap (step_after six.step) (five.code ∙ ap (step_after five.step) (four.code
    ∙ ap (step_after four.step) (three.code ∙ ap (step_after three.step) (two.code
    ∙ ap (step_after two.step) (one.code ∙ ap (step_after one.step) start))))) in
    let none : is_some a.code ≡ false = ap (λ (o : Option Code). is_some o) no_code in
    record {
      steps = subst (λ (l : List PassEdits). AreSteps l own) (sym steps) found;
      code = code ∙ ap (λ (l : List PassEdits). stepped l own) (sym steps);
      some = six.some
          ∙ ap (λ x. x || is_some_act six.step.acts) (five.some
          ∙ ap (λ x. x || is_some_act five.step.acts) (four.some
          ∙ ap (λ x. x || is_some_act four.step.acts) (three.some
          ∙ ap (λ x. x || is_some_act three.step.acts) (two.some
          ∙ ap (λ x. x || is_some_act two.step.acts) (one.some
          ∙ ap (λ x. x || is_some_act one.step.acts) none)))))
          ∙ or_chain (is_some_act one.step.acts) (is_some_act two.step.acts) (is_some_act three.step.acts)
          (is_some_act four.step.acts) (is_some_act five.step.acts) (is_some_act six.step.acts)
          ∙ ap (λ (l : List PassEdits). has_act l) (sym steps);
    }
