-- The lines of a witness can be added one by one, and then it was read.
use Rattle.std.proofs.Common.{◌≡◌, ◌≢◌, ℕ, zero, suc, ◌+◌, ◌-◌, ◌<◌, ◌≤◌, Bool, true, false, not, cond, eqb, leb, ◌&&◌}
use Rattle.std.proofs.Common.{◌||◌, List, [], ◌∷◌, ◌++◌, map, length, take, drop, Option, Some, None, Result, Ok, Err}
use Rattle.std.proofs.Common.{refl, sym, ap, subst, ◌∙◌, append_assoc, arith, inl, inr}
use Rattle.std.specs.Prelude.{slice_get}
use Rattle.std.specs.List.{AllByRecursion, flat_map, list_any}
use Rattle.std.specs.Option.{option_map, option_to_list}
use Rattle.std.proofs.lemmas.List.{append-nil, drop_all, length-append, length-map, length-take, map-append}
use Rattle.jv_base.specs.Outcome.{◌>>=◌}
use Rattle.text_lines.proofs.ReadLines.{adds, bind_ok}
use Rattle.code_edit.specs.Acts.{is_pass, pass_of, step_passes}
use Rattle.code_edit.specs.declared.act.Act.{Act}
use Rattle.code_edit.specs.declared.act.MethodEdits.{MethodEdits}
use Rattle.code_edit.specs.declared.act.Pass.{Pass}
use Rattle.code_edit.specs.declared.act.PassEdits.{PassEdits}
use Rattle.witness_file.specs.WitnessLines.{IsAct}
use Rattle.witness_file.specs.WitnessReading.{with_line, all_methods, all_steps, awaits_act, awaits_more, awaits_step}
use Rattle.witness_file.specs.WitnessReading.{closed, empty_step, witness_at_end, is_too_early, method_begun, nothing}
use Rattle.witness_file.specs.WitnessReading.{padded}
use Rattle.witness_file.specs.Witnesses.{ActOr, AreApart, AreInOrder, HasAct, HasActsOfPass, IsMethodWitness, IsWitness}
use Rattle.witness_file.specs.Witnesses.{has_method, is_before, method_lines, step_lines, steps_lines, witness_lines}
use Rattle.witness_file.specs.declared.line.WitnessLine.{WitnessLine}
use Rattle.witness_file.specs.declared.line.WitnessLine.TheVariants as line
use Rattle.witness_file.specs.declared.reading.WitnessRead.{WitnessRead}
use Rattle.witness_file.specs.declared.steps.MethodRead.{MethodRead}
use Rattle.witness_file.specs.declared.witness.MethodWitness.{MethodWitness}
use Rattle.witness_file.specs.declared.witness.WitKind.{WitKind}
use Rattle.witness_file.specs.declared.witness.Witness.{Witness}
use Rattle.witness_file.proofs.StepLines.{drop_within, got_at, pass_same, passes_of, take_passes}
use Rattle.witness_file.proofs.Told.{before_one, order_at, step_after, with_act, with_step}

-- ---- lines one behind the other

pub adds_append : (xs ys : List WitnessLine) (r s : WitnessRead) → adds with_line xs r ≡ Ok s
    → adds with_line (xs ++ ys) r ≡ adds with_line ys s
adds_append [] ys r s h = let is : r ≡ s = cc in ap (adds with_line ys) is
adds_append (x ∷ xs) ys r s h =
    let b = bind_ok (with_line x r) (λ u. adds with_line xs u) s h in
    ap (λ (o : Result WitnessRead WitKind). o >>= (λ u. adds with_line (xs ++ ys) u)) b.1 ∙ adds_append xs ys b.0 s b.2

-- methods, and one that is read
abbrev pub reading : List MethodWitness → MethodRead → WitnessRead
reading before m = record { begun = true; before = before; last = Some m }

abbrev pub read_to : List MethodWitness → MethodRead → Result WitnessRead WitKind
read_to before m = Ok (reading before m)

-- ---- acts

pub act_adds : (before : List MethodWitness) (m : MethodRead) (s : PassEdits) (a : Act) → pass_of a ≡ s.pass
    → with_line (line.Act a) (reading before (with_step m s)) ≡ read_to before (with_step m (with_act s a))
act_adds before m s a h =
    let yes : is_pass (pass_of a) s.pass ≡ true = ap (λ (p : Pass). is_pass p s.pass) h ∙ pass_same s.pass in
    rw yes refl

acts_add : (before : List MethodWitness) (m : MethodRead) (s : PassEdits) (acts : List Act)
    → AllByRecursion (λ a. IsAct a × (pass_of a ≡ s.pass)) acts
    → adds with_line (map (λ a. line.Act a) acts) (reading before (with_step m s))
    ≡ read_to before (with_step m (record { pass = s.pass; acts = s.acts ++ acts }))
acts_add before m s [] h =
    ap (λ (l : List Act). read_to before (with_step m (record { pass = s.pass; acts = l }))) (sym (append-nil s.acts))
acts_add before m s (a ∷ acts) h =
    ap (λ (o : Result WitnessRead WitKind). o >>= (λ u. adds with_line (map (λ x. line.Act x) acts) u))
    (act_adds before m s a h.0.1)
    ∙ acts_add before m (with_act s a) acts h.1
    ∙ ap (λ (l : List Act). read_to before (with_step m (record { pass = s.pass; acts = l })))
    (append_assoc s.acts (a ∷ []) acts)

-- ---- steps

padded_more : (n : ℕ) (p : Pass) (steps : List PassEdits) → length steps ≤ n → n < 6 → slice_get step_passes n ≡ Some p
    → padded (n + 1) steps ≡ padded n steps ++ empty_step p ∷ []
padded_more n p steps h six at =
    let all : length step_passes ≡ 6 = refl in
    let long : length steps ≤ length (take n step_passes) = omega (arith, length-take n step_passes, all) in
    ap (λ (l : List Pass). steps ++ map empty_step (drop (length steps) l)) (take_passes n p six at)
    ∙ ap (λ (l : List Pass). steps ++ map empty_step l) (drop_within (length steps) (take n step_passes) (p ∷ []) long)
    ∙ ap (λ (l : List PassEdits). steps ++ l)
    (map-append empty_step (drop (length steps) (take n step_passes)) (p ∷ []))
    ∙ sym (append_assoc steps (map empty_step (drop (length steps) (take n step_passes))) (empty_step p ∷ []))

padded_full : (n : ℕ) (steps : List PassEdits) → length steps ≡ n → padded n steps ≡ steps
padded_full n steps e =
    let none : drop (length steps) (take n step_passes) ≡ [] =
    drop_all (length steps) (take n step_passes) (omega (arith, length-take n step_passes, e)) in
    ap (λ (l : List Pass). steps ++ map empty_step l) none ∙ append-nil steps

step_adds : (before : List MethodWitness) (st : MethodRead) (done : List PassEdits) (p : Pass)
    → awaits_act st.step ≡ false
    → length (all_steps st) ≤ length done → padded (length done) (all_steps st) ≡ done
    → slice_get step_passes (length done) ≡ Some p
    → with_line (line.Step (length done + 1)) (reading before st)
    ≡ read_to before (record { class = st.class; name = st.name; ty = st.ty; steps = done; step = Some (empty_step p) })
step_adds before st done p h few same at =
    let above : leb (length done + 1) (length (all_steps st)) ≡ false = grind (arith, few) in
    let n : (length done + 1) - 1 ≡ length done = omega arith in
    let one : with_line (line.Step (length done + 1)) (reading before st)
    ≡ read_to before (step_after (length done + 1) st (slice_get step_passes ((length done + 1) - 1))) =
    rw (h, above) refl in
    one ∙ ap (λ (i : ℕ). read_to before
    (record {
      class = st.class;
      name = st.name;
      ty = st.ty;
      steps = padded i (all_steps st);
      step = option_map empty_step (slice_get step_passes i);
    })) n
    ∙ ap (λ (l : List PassEdits). read_to before
    (record {
      class = st.class;
      name = st.name;
      ty = st.ty;
      steps = l;
      step = option_map empty_step (slice_get step_passes (length done));
    })) same
    ∙ ap (λ (o : Option Pass). read_to before
    (record { class = st.class; name = st.name; ty = st.ty; steps = done; step = option_map empty_step o })) at

-- lines that were added to a method that is read, up to these steps
record StepsAdded (before : List MethodWitness) (lines : List WitnessLine) (st : MethodRead)
    (whole rest : List PassEdits) : Type 0 where
  end : MethodRead
  added_all : adds with_line lines (reading before st) ≡ read_to before end
  class_same : end.class ≡ st.class
  name_same : end.name ≡ st.name
  ty_same : end.ty ≡ st.ty
  steps : padded (length whole) (all_steps end) ≡ whole
  few : length (all_steps end) ≤ length whole
  acts : awaits_act end.step ≡ false
  stays : awaits_step st.step ≡ false → awaits_step end.step ≡ false
  some : HasAct rest → awaits_step end.step ≡ false

steps_add : (before : List MethodWitness) (rest done : List PassEdits) (st : MethodRead) → awaits_act st.step ≡ false
    → length (all_steps st) ≤ length done → padded (length done) (all_steps st) ≡ done
    → passes_of (done ++ rest) ≡ step_passes
    → AllByRecursion HasActsOfPass rest → StepsAdded before (steps_lines (length done + 1) rest) st (done ++ rest) rest
steps_add before [] done st h few same passes acts =
    subst (λ (w : List PassEdits). StepsAdded before [] st w []) (sym (append-nil done)) (record {
      end = st;
      added_all = refl;
      class_same = refl;
      name_same = refl;
      ty_same = refl;
      steps = same;
      few = few;
      acts = h;
      stays = λ k. k;
      some = λ k. absurd k;
    })
steps_add before (s ∷ ss) done st h few same passes acts =
    by (λ z a f p. steps_add before ss (done ++ s ∷ []) z a f p next_passes acts.1) s.acts refl
  where
    whole : (done ++ s ∷ []) ++ ss ≡ done ++ s ∷ ss
    whole = append_assoc done (s ∷ []) ss

    long : length (done ++ s ∷ []) ≡ length done + 1
    long = omega (arith, length-append done (s ∷ []))

    total : length done + (1 + length ss) ≡ 6
    total = (let e = ap length passes in let six : length step_passes ≡ 6 = refl in
        omega (arith, e, six, length-map (done ++ s ∷ ss) (λ (x : PassEdits). x.pass), length-append done (s ∷ ss)))

    at : slice_get step_passes (length done) ≡ Some s.pass
    at = (let n : length (passes_of done) ≡ length done = length-map done (λ (x : PassEdits). x.pass) in
        ap (λ (l : List Pass). slice_get l (length done)) (sym passes ∙ map-append (λ x. x.pass) done (s ∷ ss))
        ∙ ap (λ (i : ℕ). slice_get (passes_of done ++ s.pass ∷ passes_of ss) i) (sym n)
        ∙ got_at (passes_of done) s.pass (passes_of ss))

    numbers : steps_lines (length (done ++ s ∷ []) + 1) ss ≡ steps_lines ((length done + 1) + 1) ss
    numbers = ap (λ (i : ℕ). steps_lines (i + 1) ss) long

    next_passes : passes_of ((done ++ s ∷ []) ++ ss) ≡ step_passes
    next_passes = ap passes_of whole ∙ passes

    by : ((z : MethodRead) → awaits_act z.step ≡ false → length (all_steps z) ≤ length (done ++ s ∷ [])
        → padded (length (done ++ s ∷ [])) (all_steps z) ≡ done ++ s ∷ []
        → StepsAdded before (steps_lines (length (done ++ s ∷ []) + 1) ss) z ((done ++ s ∷ []) ++ ss) ss)
        → (l : List Act) → s.acts ≡ l
        → StepsAdded before (steps_lines (length done + 1) (s ∷ ss)) st (done ++ s ∷ ss) (s ∷ ss)
    by go [] e =
        let is : empty_step s.pass ≡ s = (λ i. record { pass = s.pass; acts = sym e i }) in
        let padded_on : padded (length (done ++ s ∷ [])) (all_steps st) ≡ done ++ s ∷ []
        = ap (λ (i : ℕ). padded i (all_steps st)) long
        ∙ padded_more (length done) s.pass (all_steps st) few (omega (arith, total)) at
        ∙ ap (λ (l : List PassEdits). l ++ empty_step s.pass ∷ []) same ∙ ap (λ (x : PassEdits). done ++ x ∷ []) is in
        let more = go st h (omega (arith, long, few)) padded_on in
        let none : step_lines (length done + 1) s.acts ≡ [] = ap (step_lines (length done + 1)) e in
        record {
          end = more.end;
          added_all = ap
              (λ (l : List WitnessLine). adds with_line (l ++ steps_lines ((length done + 1) + 1) ss)
              (reading before st)) none
              ∙ ap (λ (l : List WitnessLine). adds with_line l (reading before st)) (sym numbers) ∙ more.added_all;
          class_same = more.class_same;
          name_same = more.name_same;
          ty_same = more.ty_same;
          steps = subst (λ (w : List PassEdits). padded (length w) (all_steps more.end) ≡ w) whole more.steps;
          few = subst (λ (w : List PassEdits). length (all_steps more.end) ≤ length w) whole more.few;
          acts = more.acts;
          stays = more.stays;
          some = λ k. more.some (subst (λ (l : List Act). ActOr l (HasAct ss)) e k);
        }
    by go (a ∷ more_acts) e =
        let middle : MethodRead =
        record { class = st.class; name = st.name; ty = st.ty; steps = done; step = Some s } in
        let begun = step_adds before st done s.pass h few same at in
        let acted = acts_add before
        (record { class = st.class; name = st.name; ty = st.ty; steps = done; step = Some (empty_step s.pass) })
        (empty_step s.pass) s.acts acts.0 in
        let lines : step_lines (length done + 1) s.acts ≡ line.Step (length done + 1) ∷ map (λ x. line.Act x) s.acts
        = ap (step_lines (length done + 1)) e
        ∙ ap (λ (l : List Act). line.Step (length done + 1) ∷ map (λ x. line.Act x) l) (sym e) in
        let first : adds with_line (step_lines (length done + 1) s.acts) (reading before st)
        ≡ read_to before (record { class = st.class; name = st.name; ty = st.ty; steps = done; step = Some s })
        = ap (λ (l : List WitnessLine). adds with_line l (reading before st)) lines
        ∙ ap (λ (o : Result WitnessRead WitKind). o >>= (λ u. adds with_line (map (λ x. line.Act x) s.acts) u)) begun
        ∙ acted in
        let some_acts : eqb (length s.acts) 0 ≡ false = ap (λ (l : List Act). eqb (length l) 0) e ∙ grind arith in
        let more = go (record { class = st.class; name = st.name; ty = st.ty; steps = done; step = Some s })
        some_acts (omega arith) (padded_full (length (done ++ s ∷ [])) (done ++ s ∷ []) refl) in
        record {
          end = more.end;
          added_all = adds_append (step_lines (length done + 1) s.acts) (steps_lines ((length done + 1) + 1) ss)
              (reading before st)
              (reading before
              (record { class = st.class; name = st.name; ty = st.ty; steps = done; step = Some s })) first
              ∙ ap (λ (l : List WitnessLine). adds with_line l
              (reading before
              (record { class = st.class; name = st.name; ty = st.ty; steps = done; step = Some s })))
              (sym numbers)
              ∙ more.added_all;
          class_same = more.class_same;
          name_same = more.name_same;
          ty_same = more.ty_same;
          steps = subst (λ (w : List PassEdits). padded (length w) (all_steps more.end) ≡ w) whole more.steps;
          few = subst (λ (w : List PassEdits). length (all_steps more.end) ≤ length w) whole more.few;
          acts = more.acts;
          stays = λ k. more.stays some_acts;
          some = λ k. more.stays some_acts;
        }

-- ---- methods

method_begins : (r : WitnessRead) (class name ty : List ℕ) → r.begun ≡ true → awaits_more r.last ≡ false
    → has_method (all_methods r) class name ty ≡ false → is_too_early r.last class ≡ false
    → with_line (line.Method class name ty) r ≡ read_to (all_methods r) (method_begun class name ty)
method_begins r class name ty b w h e = rw (b, w, h, e) refl

record MethodAdded (r : WitnessRead) (m : MethodWitness) : Type 0 where
  end : MethodRead
  added_all : adds with_line (method_lines m) r ≡ read_to (all_methods r) end
  kept : closed end ≡ m
  done : awaits_step end.step ≡ false

method_adds : (r : WitnessRead) (m : MethodWitness) → IsMethodWitness m → r.begun ≡ true → awaits_more r.last ≡ false
    → has_method (all_methods r) m.class m.name m.ty ≡ false → is_too_early r.last m.class ≡ false → MethodAdded r m
method_adds r m is b w h e =
    let six : length step_passes ≡ 6 = refl in
    let long : length m.edits.steps ≡ 6 = sym (length-map m.edits.steps (λ (x : PassEdits). x.pass))
    ∙ ap length is.passes in
    let steps = steps_add (all_methods r) m.edits.steps [] (method_begun m.class m.name m.ty) refl
    (omega arith) refl is.passes is.acts in
    record {
      end = steps.end;
      added_all = ap (λ (o : Result WitnessRead WitKind). o >>= (λ u. adds with_line (steps_lines 1 m.edits.steps) u))
          (method_begins r m.class m.name m.ty b w h e)
          ∙ steps.added_all;
      kept = λ i. record {
        class = steps.class_same i;
        name = steps.name_same i;
        ty = steps.ty_same i;
        edits = record { steps = (ap (λ (n : ℕ). padded n (all_steps steps.end)) (sym long) ∙ steps.steps) i };
      };
      done = steps.some is.some;
    }

-- the last method doesn't come behind one of the lines to come
abbrev IsLast : WitnessRead → Type 0
IsLast r = r.last ≡ None → r.before ≡ []

not_early : (before : List MethodWitness) (last : Option MethodRead) (m : MethodWitness) (ms : List MethodWitness)
    → AreInOrder ((before ++ map closed (option_to_list last)) ++ m ∷ ms) → is_too_early last m.class ≡ false
not_early before None m ms o = refl
not_early before (Some l) m ms o = order_at before (closed l) m ms o

record MethodsAdded (r : WitnessRead) (ms : List MethodWitness) : Type 0 where
  end : WitnessRead
  added_all : adds with_line (flat_map method_lines ms) r ≡ Ok end
  kept : all_methods end ≡ all_methods r ++ ms
  begun : end.begun ≡ true
  done : awaits_more end.last ≡ false

methods_add : (ms : List MethodWitness) (r : WitnessRead) → r.begun ≡ true → awaits_more r.last ≡ false
    → AllByRecursion IsMethodWitness ms → AreApart (all_methods r ++ ms) → AreInOrder (all_methods r ++ ms)
    → MethodsAdded r ms
methods_add [] r b w is a o =
    record { end = r; added_all = refl; kept = sym (append-nil (all_methods r)); begun = b; done = w }
methods_add (m ∷ ms) r b w is a o =
    let one = method_adds r m is.0 b w (before_one (all_methods r) m ms a) (not_early r.before r.last m ms o) in
    let kept : all_methods (reading (all_methods r) one.end) ≡ all_methods r ++ m ∷ [] =
    ap (λ (n : MethodWitness). all_methods r ++ n ∷ []) one.kept in
    let whole : all_methods (reading (all_methods r) one.end) ++ ms ≡ all_methods r ++ m ∷ ms
    = ap (λ (l : List MethodWitness). l ++ ms) kept ∙ append_assoc (all_methods r) (m ∷ []) ms in
    let more = methods_add ms (reading (all_methods r) one.end) refl one.done is.1 (subst AreApart (sym whole) a)
    (subst AreInOrder (sym whole) o) in
    record {
      end = more.end;
      added_all = adds_append (method_lines m) (flat_map method_lines ms) r
          (reading (all_methods r) one.end) one.added_all ∙ more.added_all;
      kept = more.kept ∙ whole;
      begun = more.begun;
      done = more.done;
    }

-- the lines of a witness are read as it
pub told_only : (w : Witness) → IsWitness w
    → (r : WitnessRead) × (adds with_line (witness_lines w) nothing ≡ Ok r) × (witness_at_end r ≡ Ok w)
told_only w is =
    let start : WitnessRead = record { begun = true; before = []; last = None } in
    let all = methods_add w.methods
    (record { begun = true; before = []; last = None }) refl refl is.methods is.apart is.ordered in (
      all.end,
      all.added_all,
      rw (all.begun, all.done)
          (ap (λ (ms : List MethodWitness). let R : Result Witness WitKind = Ok (record { methods = ms }) in
          R) all.kept),
    )
