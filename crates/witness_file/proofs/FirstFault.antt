-- The line that is told is the first at fault: whatever was read before can be gone on with to a witness.
use Rattle.std.proofs.Common.{◌≡◌, ℕ, ◌+◌, ◌<◌, ◌≤◌, ◌^◌, Bool, true, false, not, ◌||◌, eqb, leb, List, [], ◌∷◌, ◌++◌}
use Rattle.std.proofs.Common.{length, Option, Some, None, Result, Ok, Err, refl, sym, ap, subst, ◌∙◌, append_assoc}
use Rattle.std.proofs.Common.{arith, ◌⊎◌, inl, inr}
use Rattle.std.specs.List.{AllByRecursion, flat_map}
use Rattle.std.specs.Option.{option_to_list}
use Rattle.std.specs.Str.Lines.{lines}
use Rattle.std.proofs.lemmas.List.{append-nil, length-append}
use Rattle.jv_base.specs.Outcome.{◌>>=◌}
use Rattle.jv_base.proofs.Lists.{all_append}
use Rattle.text_lines.specs.Faults.{CanBegin, EndsTooSoon, IsFirstAtFault}
use Rattle.text_lines.specs.Lines.{AreSpelled, at_line, item_added, line_read, read_lines, saying}
use Rattle.text_lines.proofs.ReadLines.{adds, lines_found}
use Rattle.text_lines.proofs.Refused.{kind_at, lines_refused, refused_anyway, spelled_append}
use Rattle.text_lines.proofs.Written.{all_written}
use Rattle.code_edit.specs.Acts.{is_pass, pass_of}
use Rattle.code_edit.specs.declared.act.Act.{Act}
use Rattle.code_edit.specs.declared.act.Act.TheVariants as act
use Rattle.code_edit.specs.declared.act.Pass.{Pass}
use Rattle.code_edit.specs.declared.act.Pass.TheVariants.{Reach, Const, Slots, Jumps}
use Rattle.code_edit.specs.declared.act.PassEdits.{PassEdits}
use Rattle.witness_file.specs.LineReading.{line_said}
use Rattle.witness_file.specs.WitnessLines.{IsAct, IsLine, SpellsLine, line_text}
use Rattle.witness_file.specs.WitnessReading.{with_line, all_methods, all_steps, awaits_act, awaits_more, awaits_step}
use Rattle.witness_file.specs.WitnessReading.{empty_step, witness_at_end, fault, nothing, read_witness, step}
use Rattle.witness_file.specs.Witnesses.{StandFor, witness_lines}
use Rattle.witness_file.specs.declared.line.WitnessLine.{WitnessLine}
use Rattle.witness_file.specs.declared.line.WitnessLine.TheVariants as line
use Rattle.witness_file.specs.declared.reading.WitnessRead.{WitnessRead}
use Rattle.witness_file.specs.declared.steps.MethodRead.{MethodRead}
use Rattle.witness_file.specs.declared.witness.MethodWitness.{MethodWitness}
use Rattle.witness_file.specs.declared.witness.WitFault.{WitFault}
use Rattle.witness_file.specs.declared.witness.WitKind.{WitKind}
use Rattle.witness_file.specs.declared.witness.WitKind.TheVariants.{NotUtf8, BadLine}
use Rattle.witness_file.specs.declared.witness.Witness.{Witness}
use Rattle.witness_file.proofs.LineLaw.{line_says}
use Rattle.witness_file.proofs.Only.{act_adds, adds_append, read_to, reading}
use Rattle.witness_file.proofs.Told.{Fits, State, all_added, step_after, told_by, with_act, with_step}
use Rattle.witness_file.proofs.WitnessLaw.{all_valid, read_only, stand_only}
use Rattle.witness_file.proofs.WrittenLines.{IsTextLine, lines_written}

-- lines with which what was read becomes a witness
record CanEnd (r : WitnessRead) : Type 0 where
  more : List WitnessLine
  valid : AllByRecursion IsLine more
  texts : AllByRecursion IsTextLine more
  end : WitnessRead
  added_all : adds with_line more r ≡ Ok end
  witness : Witness
  done : witness_at_end end ≡ Ok witness

-- ---- the lines that are wanting

-- an act of a pass
act_for : Pass → Act
act_for Reach = act.Drop 0 0
act_for Const = act.Fold 0 0
act_for Slots = act.Cut 0
act_for Jumps = act.Skip 0

act_valid : (p : Pass) → IsAct (act_for p)
unfolding act_for
act_valid Reach = (omega arith, omega arith)
act_valid Const = (omega arith, omega arith)
act_valid Slots = omega arith
act_valid Jumps = omega arith

act_of_pass : (p : Pass) → pass_of (act_for p) ≡ p
unfolding act_for
act_of_pass Reach = refl
act_of_pass Const = refl
act_of_pass Slots = refl
act_of_pass Jumps = refl

-- behind a step an act
with_act_ends : (before : List MethodWitness) (m : MethodRead) (s : PassEdits) → CanEnd (reading before (with_step m s))
with_act_ends before m s =
    let some : eqb (length (s.acts ++ act_for s.pass ∷ [])) 0 ≡ false =
    grind (arith, length-append s.acts (act_for s.pass ∷ [])) in
    record {
      more = line.Act (act_for s.pass) ∷ [];
      valid = (act_valid s.pass, tt);
      texts = (tt, tt);
      end = reading before (with_step m (with_act s (act_for s.pass)));
      added_all = ap (λ (o : Result WitnessRead WitKind). o >>= (λ u. adds with_line [] u))
          (act_adds before m s (act_for s.pass) (act_of_pass s.pass));
      witness = record { methods = all_methods (reading before (with_step m (with_act s (act_for s.pass)))) };
      done = rw some refl;
    }

-- behind a method a step
with_step_ends : (before : List MethodWitness) (m : MethodRead) → m.step ≡ None → m.steps ≡ []
    → CanEnd (reading before m)
with_step_ends before m none fresh =
    let free : awaits_act m.step ≡ false = ap awaits_act none in
    let empty : all_steps m ≡ [] = ap (λ (o : Option PassEdits). m.steps ++ option_to_list o) none
    ∙ append-nil m.steps ∙ fresh in
    let first : leb 1 (length (all_steps m)) ≡ false = ap (λ (l : List PassEdits). leb 1 (length l)) empty in
    let begun : with_line (line.Step 1) (reading before m)
    ≡ read_to before (with_step (step_after 1 m None) (empty_step Reach)) = rw (free, first) refl in
    let more = with_act_ends before (step_after 1 m None) (empty_step Reach) in
    record {
      more = line.Step 1 ∷ more.more;
      valid = ((omega arith, omega arith), more.valid);
      texts = (tt, more.texts);
      end = more.end;
      added_all = ap (λ (o : Result WitnessRead WitKind). o >>= (λ u. adds with_line more.more u)) begun
          ∙ more.added_all;
      witness = more.witness;
      done = more.done;
    }

-- what was read can be gone on with
can_end : (xs : List WitnessLine) (r : WitnessRead) → State xs r → CanEnd r
can_end xs r (inl p) = subst CanEnd (sym p.1) (record {
  more = line.Head ∷ [];
  valid = (tt, tt);
  texts = (tt, tt);
  end = record { begun = true; before = []; last = None };
  added_all = refl;
  witness = record { methods = [] };
  done = refl;
})
can_end xs r (inr p) = by r.last refl
  where
    whole : (l : Option MethodRead) → r.last ≡ l → record { begun = true; before = r.before; last = l } ≡ r
    whole l e = λ i. record { begun = sym p.0 i; before = r.before; last = sym e i }

    by_step : (m : MethodRead) (o : Option PassEdits) → r.last ≡ Some m → m.step ≡ o → CanEnd (reading r.before m)
    by_step m None e s = with_step_ends r.before m s ((p.1.fits m e).fresh s)
    by_step m (Some t) e s =
        let same : with_step m t ≡ m =
        (λ i. record { class = m.class; name = m.name; ty = m.ty; steps = m.steps; step = sym s i }) in
        subst (λ (n : MethodRead). CanEnd (reading r.before n)) same (with_act_ends r.before m t)

    by : (l : Option MethodRead) → r.last ≡ l → CanEnd r
    by None e = subst CanEnd (whole None e) (record {
      more = [];
      valid = tt;
      texts = tt;
      end = record { begun = true; before = r.before; last = None };
      added_all = refl;
      witness = record { methods = all_methods (record { begun = true; before = r.before; last = None }) };
      done = refl;
    })
    by (Some m) e = subst CanEnd (whole (Some m) e) (by_step m m.step e refl)

-- a witness can begin with lines that were read
can_begin : (ls : List (List ℕ)) (r : WitnessRead) → read_lines step 1 ls nothing ≡ Ok r → CanBegin StandFor ls
can_begin ls r h =
    let found = lines_found fault NotUtf8 BadLine with_line line_says 1 ls nothing r h in
    let valid = all_valid (saying ls) found.0 found.1.spelled in
    let more = can_end found.0 r (all_added [] found.0 nothing r valid (inl (refl, refl)) found.2) in
    let read : adds with_line (found.0 ++ more.more) nothing ≡ Ok more.end =
    adds_append found.0 more.more nothing r found.2 ∙ more.added_all in
    let told = told_by (found.0 ++ more.more) more.end more.witness
    (all_append IsLine found.0 more.more valid more.valid) read more.done in
    let others = lines (flat_map (λ (x : WitnessLine). line_text x ++ 10 ∷ []) more.more) in
    let spelled = all_written SpellsLine line_text more.more (lines_written more.more more.valid more.texts) in (
      others,
      more.witness,
      record {
        witness = told.1;
        spelled = subst (AreSpelled SpellsLine (ls ++ others)) told.0
            (spelled_append SpellsLine ls others found.0 more.more found.1 spelled);
      },
    )

-- ---- the law

-- a line at fault
line_at_fault : (ls : List (List ℕ)) (f : WitFault) → read_lines step 1 ls nothing ≡ Err f
    → IsFirstAtFault StandFor ls f.line
line_at_fault ls f h =
    let p = lines_refused step 1 ls nothing f h in
    let kind = kind_at fault (1 + length p.before)
    (line_read NotUtf8 (λ l t. item_added BadLine with_line (line_said l) t) p.line p.state) f p.refused in
    let number : f.line ≡ 1 + length p.before = ap (λ (g : WitFault). g.line) kind.1 in
    record {
      before = p.before;
      line = p.line;
      behind = p.behind;
      parts = p.parts;
      numbered = omega (arith, number);
      begins = can_begin p.before p.state p.read;
      stops = λ more.
          let lines_are : (p.before ++ p.line ∷ []) ++ more.0 ≡ p.before ++ p.line ∷ more.0 =
          append_assoc p.before (p.line ∷ []) more.0 in
          let read = stand_only (p.before ++ p.line ∷ more.0) more.1
          (subst (λ (ks : List (List ℕ)). StandFor ks more.1) lines_are more.2) in
          let refused = refused_anyway step 1 p.before p.line more.0 nothing p.state f p.read p.refused in
          absurd cc;
    }

-- the end of a text
end_at_fault : (text : List ℕ) (f : WitFault) (r : WitnessRead) → read_witness text ≡ Err f
    → read_lines step 1 (lines text) nothing ≡ Ok r
    → at_line fault (length (lines text) + 1) (witness_at_end r) ≡ Err f → EndsTooSoon StandFor (lines text) f.line
end_at_fault text f r h read e =
    let kind = kind_at fault (length (lines text) + 1) (witness_at_end r) f e in
    record {
      numbered = ap (λ (g : WitFault). g.line) kind.1;
      begins = can_begin (lines text) r read;
      short = λ w k. let other = read_only text w k in absurd cc;
    }

-- a fault that was handed on
handed_on : (g f : WitFault) → (let R : Result Witness WitFault = Err g in R) ≡ Err f
    → (let R : Result WitnessRead WitFault = Err g in R) ≡ Err f
handed_on g f h = let same : g ≡ f = cc in ap (λ (x : WitFault). let R : Result WitnessRead WitFault = Err x in R) same

-- the line that is told is the first at fault
pub first_at_fault : (text : List ℕ) (f : WitFault) → read_witness text ≡ Err f
    → IsFirstAtFault StandFor (lines text) f.line ⊎ EndsTooSoon StandFor (lines text) f.line
unfolding read_witness
first_at_fault text f h = by (read_lines step 1 (lines text) nothing) refl h
  where
    by : (o : Result WitnessRead WitFault) → read_lines step 1 (lines text) nothing ≡ o
        → o >>= (λ r. at_line fault (length (lines text) + 1) (witness_at_end r)) ≡ Err f
        → IsFirstAtFault StandFor (lines text) f.line ⊎ EndsTooSoon StandFor (lines text) f.line
    by (Ok r) e k = inr (end_at_fault text f r h e k)
    by (Err g) e k = inl (line_at_fault (lines text) f (e ∙ handed_on g f k))
