-- What lines tell, added one by one, is the witness whose lines they are.
use Rattle.std.proofs.Common.{◌≡◌, ◌≢◌, ℕ, zero, suc, ◌+◌, ◌-◌, ◌<◌, ◌≤◌, Bool, true, false, not, cond, eqb, leb, ◌&&◌}
use Rattle.std.proofs.Common.{◌||◌, List, [], ◌∷◌, ◌++◌, map, length, take, drop, Option, Some, None, Result, Ok, Err}
use Rattle.std.proofs.Common.{refl, sym, ap, subst, ◌∙◌, append_assoc, arith, ◌⊎◌, inl, inr}
use Rattle.std.specs.Prelude.{slice_get}
use Rattle.std.specs.List.{AllByRecursion, flat_map, list_any}
use Rattle.std.specs.Option.{option_map, option_to_list}
use Rattle.std.proofs.lemmas.Bool.{and_parts, cases_Bool, leb-false, or_parts}
use Rattle.std.proofs.lemmas.List.{append-nil, length-append, map-append}
use Rattle.std.proofs.lemmas.List.Concat.{flat_map-append}
use Rattle.jv_base.specs.Names.{is_text}
use Rattle.jv_base.specs.Outcome.{◌>>=◌}
use Rattle.jv_base.proofs.Equality.{text_Decides, text_sym}
use Rattle.jv_base.proofs.Lists.{all_append, all_split, any_more}
use Rattle.text_lines.proofs.ReadLines.{adds, bind_ok}
use Rattle.code_edit.specs.Acts.{is_pass, pass_of, step_passes}
use Rattle.code_edit.specs.declared.act.Act.{Act}
use Rattle.code_edit.specs.declared.act.MethodEdits.{MethodEdits}
use Rattle.code_edit.specs.declared.act.Pass.{Pass}
use Rattle.code_edit.specs.declared.act.PassEdits.{PassEdits}
use Rattle.witness_file.specs.WitnessLines.{IsAct, IsLine, IsMethodLine}
use Rattle.witness_file.specs.WitnessReading.{act_added, with_line, added_behind, added_first, all_methods, all_steps}
use Rattle.witness_file.specs.WitnessReading.{awaits_act, awaits_more, awaits_step, closed, empty_step, witness_at_end}
use Rattle.witness_file.specs.WitnessReading.{in_last}
use Rattle.witness_file.specs.WitnessReading.{is_too_early, method_begun, nothing, padded, step_begun, with_method}
use Rattle.witness_file.specs.Witnesses.{AreApart, AreInOrder, HasAct, HasActsOfPass, IsMethodWitness, IsWitness}
use Rattle.witness_file.specs.Witnesses.{has_method, is_before, is_method, method_lines, step_lines, steps_lines}
use Rattle.witness_file.specs.Witnesses.{witness_lines}
use Rattle.witness_file.specs.declared.line.WitnessLine.{WitnessLine}
use Rattle.witness_file.specs.declared.line.WitnessLine.TheVariants as line
use Rattle.witness_file.specs.declared.reading.WitnessRead.{WitnessRead}
use Rattle.witness_file.specs.declared.steps.MethodRead.{MethodRead}
use Rattle.witness_file.specs.declared.witness.MethodWitness.{MethodWitness}
use Rattle.witness_file.specs.declared.witness.WitKind.{WitKind}
use Rattle.witness_file.specs.declared.witness.WitKind.TheVariants.{BadLine, BadOrder}
use Rattle.witness_file.specs.declared.witness.Witness.{Witness}
use Rattle.witness_file.proofs.StepLines.{ArePlaced, act_last, act_stays, drop_whole, drop_within, empty_lines, got_at}
use Rattle.witness_file.proofs.StepLines.{open_step, padded_acts, padded_length, padded_lines, padded_passes, pass_same}
use Rattle.witness_file.proofs.StepLines.{passes_at, passes_empty, passes_of, same_pass, steps_append, take_front}
use Rattle.witness_file.proofs.StepLines.{take_passes}

-- ---- the lines of what was read

-- the line of the step that is read, and those of its acts
abbrev pub open_lines : ℕ → Option PassEdits → List WitnessLine
open_lines k None = []
open_lines k (Some s) = line.Step k ∷ map (λ a. line.Act a) s.acts

-- the lines of a method that is read
abbrev pub read_lines_of : MethodRead → List WitnessLine
read_lines_of m = line.Method m.class m.name m.ty ∷ (steps_lines 1 m.steps ++ open_lines (length m.steps + 1) m.step)

abbrev pub last_lines : Option MethodRead → List WitnessLine
last_lines None = []
last_lines (Some m) = read_lines_of m

-- a step that is read, if there is one, has an act
pub steps_and_open : (m : MethodRead) → awaits_act m.step ≡ false
    → steps_lines 1 (all_steps m) ≡ steps_lines 1 m.steps ++ open_lines (length m.steps + 1) m.step
steps_and_open m h = by m.step h
  where
    by : (o : Option PassEdits) → awaits_act o ≡ false
        → steps_lines 1 (m.steps ++ option_to_list o) ≡ steps_lines 1 m.steps ++ open_lines (length m.steps + 1) o
    by None k = ap (λ (l : List PassEdits). steps_lines 1 l) (append-nil m.steps)
        ∙ sym (append-nil (steps_lines 1 m.steps))
    by (Some s) k =
        let n : 1 + length m.steps ≡ length m.steps + 1 = omega arith in
        steps_append 1 m.steps (s ∷ [])
        ∙ ap (λ (l : List WitnessLine). steps_lines 1 m.steps ++ l) (append-nil (step_lines (1 + length m.steps) s.acts)
        ∙ ap (λ (i : ℕ). step_lines i s.acts) n ∙ open_step (length m.steps + 1) s.acts k)

not_awaited : (o : Option PassEdits) → awaits_step o ≡ false → awaits_act o ≡ false
not_awaited None h = refl
not_awaited (Some s) h = h

-- a method that was read has the lines of what is kept of it
closed_lines : (m : MethodRead) → awaits_step m.step ≡ false → method_lines (closed m) ≡ read_lines_of m
closed_lines m h = ap (λ (l : List WitnessLine). line.Method m.class m.name m.ty ∷ l)
    (padded_lines 1 6 (all_steps m) ∙ steps_and_open m (not_awaited m.step h))

-- ---- names and order

is_apart : (x y : List ℕ) → is_text x y ≡ false → is_text y x ≡ false
is_apart x y h = by (is_text y x) refl
  where
    by : (b : Bool) → is_text y x ≡ b → b ≡ false
    by false e = refl
    by true e =
        let back : is_text x y ≡ true = (text_Decides x y).1 (sym ((text_Decides y x).0 e)) in
        let k : false ≡ true = sym h ∙ back in absurd cc

-- which of two methods is asked for makes no difference
method_same : (m n : MethodWitness) → is_method m.class m.name m.ty n ≡ is_method n.class n.name n.ty m
method_same m n = ap (λ (b : Bool). b && (is_text m.name n.name && is_text m.ty n.ty)) (text_sym m.class n.class)
    ∙ ap (λ (b : Bool). is_text n.class m.class && (b && is_text m.ty n.ty)) (text_sym m.name n.name)
    ∙ ap (λ (b : Bool). is_text n.class m.class && (is_text n.name m.name && b)) (text_sym m.ty n.ty)

neither : (a b : Bool) → a ≡ false → b ≡ false → a || b ≡ false
neither a b p q = rw (p, q) refl

-- one more method of another name
apart_more : (ms : List MethodWitness) (n : MethodWitness) → AreApart ms → has_method ms n.class n.name n.ty ≡ false
    → AreApart (ms ++ n ∷ [])
apart_more [] n a h = (refl, tt)
apart_more (m ∷ ms) n a h =
    let p = or_parts (is_method n.class n.name n.ty m) (list_any (is_method n.class n.name n.ty) ms) h in
    (any_more (is_method m.class m.name m.ty) ms n ∙ neither _ _ a.0 (method_same m n ∙ p.0), apart_more ms n a.1 p.1)

-- the last method with other acts
apart_last : (ms : List MethodWitness) (m n : MethodWitness) → n.class ≡ m.class → n.name ≡ m.name → n.ty ≡ m.ty
    → AreApart (ms ++ m ∷ []) → AreApart (ms ++ n ∷ [])
apart_last [] m n c s t a = (refl, tt)
apart_last (l ∷ ms) m n c s t a =
    let same : is_method l.class l.name l.ty n ≡ is_method l.class l.name l.ty m = rw (c, s, t) refl in (
      any_more (is_method l.class l.name l.ty) ms n
          ∙ ap (λ (b : Bool). list_any (is_method l.class l.name l.ty) ms || b) same
          ∙ sym (any_more (is_method l.class l.name l.ty) ms m) ∙ a.0,
      apart_last ms m n c s t a.1,
    )

-- methods before one are others
pub before_one : (ms : List MethodWitness) (n : MethodWitness) (ns : List MethodWitness) → AreApart (ms ++ n ∷ ns)
    → has_method ms n.class n.name n.ty ≡ false
before_one [] n ns a = refl
before_one (m ∷ ms) n ns a =
    neither _ _ (method_same n m ∙ middle (is_method m.class m.name m.ty) ms n ns a.0) (before_one ms n ns a.1)
  where
    middle : (t : MethodWitness → Bool) (xs : List MethodWitness) (y : MethodWitness) (ys : List MethodWitness)
        → list_any t (xs ++ y ∷ ys) ≡ false → t y ≡ false
    middle t [] y ys h = (or_parts (t y) (list_any t ys) h).0
    middle t (x ∷ xs) y ys h = middle t xs y ys (or_parts (t x) (list_any t (xs ++ y ∷ ys)) h).1

order_more : (ms : List MethodWitness) (m n : MethodWitness) → AreInOrder (ms ++ m ∷ [])
    → is_before n.class m.class ≡ false
    → AreInOrder ((ms ++ m ∷ []) ++ n ∷ [])
order_more [] m n o h = (h, tt)
order_more (l ∷ []) m n o h = (o.0, (h, tt))
order_more (l ∷ k ∷ ms) m n o h = (o.0, order_more (k ∷ ms) m n o.1 h)

order_last : (ms : List MethodWitness) (m n : MethodWitness) → n.class ≡ m.class → AreInOrder (ms ++ m ∷ [])
    → AreInOrder (ms ++ n ∷ [])
order_last [] m n c o = tt
order_last (l ∷ []) m n c o = (ap (λ (x : List ℕ). is_before x l.class) c ∙ o.0, tt)
order_last (l ∷ k ∷ ms) m n c o = (o.0, order_last (k ∷ ms) m n c o.1)

pub order_at : (ms : List MethodWitness) (m n : MethodWitness) (ns : List MethodWitness)
    → AreInOrder ((ms ++ m ∷ []) ++ n ∷ ns) → is_before n.class m.class ≡ false
order_at [] m n ns o = o.0
order_at (l ∷ []) m n ns o = o.1.0
order_at (l ∷ k ∷ ms) m n ns o = order_at (k ∷ ms) m n ns o.1

-- ---- what was read

-- a method that is read: names, the passes of its steps, and acts of these
pub record MethodFits (m : MethodRead) : Type 0 where
  pub named : IsMethodLine m.class m.name m.ty
  pub few : length (all_steps m) ≤ 6
  pub placed : ArePlaced (all_steps m)
  pub acts : AllByRecursion HasActsOfPass (all_steps m)
  pub fresh : m.step ≡ None → m.steps ≡ []

-- what is kept of it
closed_is : (m : MethodRead) → MethodFits m → awaits_step m.step ≡ false → IsMethodWitness (closed m)
closed_is m f h = record {
  named = f.named;
  passes = padded_passes 6 (all_steps m) f.few f.placed;
  acts = padded_acts 6 (all_steps m) f.acts;
  some = act_stays (all_steps m) _ (by m.step h);
}
  where
    by : (o : Option PassEdits) → awaits_step o ≡ false → HasAct (m.steps ++ option_to_list o)
    by None k = absurd cc
    by (Some s) k = act_last m.steps s k

-- what was read behind the first line fits the lines
pub record Fits (ls : List WitnessLine) (before : List MethodWitness) (last : Option MethodRead) : Type 0 where
  pub told : ls ≡ line.Head ∷ (flat_map method_lines before ++ last_lines last)
  pub methods : AllByRecursion IsMethodWitness before
  pub ordered : AreInOrder (before ++ map closed (option_to_list last))
  pub apart : AreApart (before ++ map closed (option_to_list last))
  pub first : last ≡ None → before ≡ []
  pub fits : (m : MethodRead) → last ≡ Some m → MethodFits m

-- ---- one more line

-- of a method
method_told : (ls : List WitnessLine) (before : List MethodWitness) (last : Option MethodRead)
    (class name ty : List ℕ) (s : WitnessRead)
    → IsMethodLine class name ty → Fits ls before last
    → with_method class name ty (record { begun = true; before = before; last = last }) ≡ Ok s
    → (s.begun ≡ true) × Fits (ls ++ line.Method class name ty ∷ []) s.before s.last
method_told ls before last class name ty s named f h =
    by (awaits_more last)
    (has_method (before ++ map closed (option_to_list last)) class name ty || is_too_early last class) refl refl h
  where
    new : MethodRead
    new = method_begun class name ty

    all : List MethodWitness
    all = before ++ map closed (option_to_list last)

    told : (l : Option MethodRead) → awaits_more l ≡ false
        → flat_map method_lines before ++ last_lines l ≡ flat_map method_lines (before ++ map closed (option_to_list l))
    told None k = sym (flat_map-append method_lines before [])
    told (Some m) k =
        ap (λ (t : List WitnessLine). flat_map method_lines before ++ t)
        (sym (closed_lines m k) ∙ sym (append-nil (method_lines (closed m))))
        ∙ sym (flat_map-append method_lines before (closed m ∷ []))

    methods : (l : Option MethodRead) → awaits_more l ≡ false → ((m : MethodRead) → l ≡ Some m → MethodFits m)
        → AllByRecursion IsMethodWitness (before ++ map closed (option_to_list l))
    methods None k g = all_append IsMethodWitness before [] f.methods tt
    methods (Some m) k g = all_append IsMethodWitness before (closed m ∷ []) f.methods (closed_is m (g m refl) k, tt)

    ordered : (l : Option MethodRead) → (l ≡ None → before ≡ []) → is_too_early l class ≡ false
        → AreInOrder (before ++ map closed (option_to_list l))
        → AreInOrder ((before ++ map closed (option_to_list l)) ++ closed (method_begun class name ty) ∷ [])
    ordered None g k o =
        subst (λ (b : List MethodWitness). AreInOrder ((b ++ []) ++ closed (method_begun class name ty) ∷ []))
        (sym (g refl)) tt
    ordered (Some m) g k o = order_more before (closed m) (closed (method_begun class name ty)) o k

    begun_fits : (m : MethodRead) → Some (method_begun class name ty) ≡ Some m → MethodFits m
    begun_fits m e = (let is : method_begun class name ty ≡ m = cc in
        subst MethodFits is (record { named = named; few = omega arith; placed = refl; acts = tt; fresh = λ e. refl }))

    by : (a b : Bool) → awaits_more last ≡ a
        → has_method (before ++ map closed (option_to_list last)) class name ty || is_too_early last class ≡ b
        → cond a (Err BadLine)
        (cond b (Err BadOrder)
        (Ok (record {
          begun = true;
          before = before ++ map closed (option_to_list last);
          last = Some (method_begun class name ty);
        }))) ≡ Ok s
        → (s.begun ≡ true) × Fits (ls ++ line.Method class name ty ∷ []) s.before s.last
    by true b p q k = absurd cc
    by false true p q k = absurd cc
    by false false p q k =
        let two = or_parts (has_method (before ++ map closed (option_to_list last)) class name ty)
        (is_too_early last class) q in
        let is : record {
          begun = true;
          before = before ++ map closed (option_to_list last);
          last = Some (method_begun class name ty);
        } ≡ s = cc in
        subst (λ (r : WitnessRead). (r.begun ≡ true) × Fits (ls ++ line.Method class name ty ∷ []) r.before r.last) is (
          refl,
          record {
            told = ap (λ (t : List WitnessLine). t ++ line.Method class name ty ∷ []) f.told
                ∙ ap (λ (t : List WitnessLine). line.Head ∷ (t ++ line.Method class name ty ∷ [])) (told last p);
            methods = methods last p f.fits;
            ordered = ordered last f.first two.1 f.ordered;
            apart = apart_more (before ++ map closed (option_to_list last))
                (closed (method_begun class name ty)) f.apart two.0;
            first = λ e. absurd cc;
            fits = begun_fits;
          },
        )

one_line : (ls F R S : List WitnessLine) (x : WitnessLine) → ls ≡ line.Head ∷ (F ++ R) → S ≡ R ++ x ∷ []
    → ls ++ x ∷ [] ≡ line.Head ∷ (F ++ S)
one_line ls F R S x h e = ap (λ (t : List WitnessLine). t ++ x ∷ []) h
    ∙ ap (λ (t : List WitnessLine). line.Head ∷ t)
    (append_assoc F R (x ∷ []) ∙ ap (λ (t : List WitnessLine). F ++ t) (sym e))

-- the last method with other steps
last_changed : (ls : List WitnessLine) (before : List MethodWitness) (m n : MethodRead) (x : WitnessLine)
    → n.class ≡ m.class
    → n.name ≡ m.name → n.ty ≡ m.ty → read_lines_of n ≡ read_lines_of m ++ x ∷ [] → MethodFits n
    → Fits ls before (Some m)
    → Fits (ls ++ x ∷ []) before (Some n)
last_changed ls before m n x c d t e g f = record {
  told = one_line ls (flat_map method_lines before) (read_lines_of m) (read_lines_of n) x f.told e;
  methods = f.methods;
  ordered = order_last before (closed m) (closed n) c f.ordered;
  apart = apart_last before (closed m) (closed n) c d t f.apart;
  first = λ k. absurd cc;
  fits = λ k is. (let same : n ≡ k = cc in subst MethodFits same g);
}

-- the step of a number, begun
abbrev pub step_after : ℕ → MethodRead → Option Pass → MethodRead
step_after k m p =
    record {
      class = m.class;
      name = m.name;
      ty = m.ty;
      steps = padded (k - 1) (all_steps m);
      step = option_map empty_step p;
    }

pub step_parts : (k : ℕ) (m n : MethodRead) → step_begun k m ≡ Ok n
    → (awaits_act m.step ≡ false) × (length (all_steps m) < k) × (step_after k m (slice_get step_passes (k - 1)) ≡ n)
step_parts k m n h = by (awaits_act m.step) (leb k (length (all_steps m))) refl refl h
  where
    by : (a b : Bool) → awaits_act m.step ≡ a → leb k (length (all_steps m)) ≡ b
        → cond a (Err BadLine) (cond b (Err BadOrder) (Ok (step_after k m (slice_get step_passes (k - 1))))) ≡ Ok n
        → (awaits_act m.step ≡ false) × (length (all_steps m) < k)
        × (step_after k m (slice_get step_passes (k - 1)) ≡ n)
    by true b p q e = absurd cc
    by false true p q e = absurd cc
    by false false p q e = (p, leb-false k (length (all_steps m)) q, cc)

begun_lines : (k : ℕ) (m : MethodRead) (p : Pass) → awaits_act m.step ≡ false
    → length (padded (k - 1) (all_steps m)) + 1 ≡ k
    → read_lines_of (step_after k m (Some p)) ≡ read_lines_of m ++ line.Step k ∷ []
begun_lines k m p h n =
    ap (λ (l : List WitnessLine). line.Method m.class m.name m.ty ∷ l)
    (ap (λ (l : List WitnessLine). l ++ line.Step (length (padded (k - 1) (all_steps m)) + 1) ∷ [])
    (padded_lines 1 (k - 1) (all_steps m) ∙ steps_and_open m h)
    ∙ ap (λ (i : ℕ). (steps_lines 1 m.steps ++ open_lines (length m.steps + 1) m.step) ++ line.Step i ∷ []) n)

begun_fits : (k : ℕ) (m : MethodRead) (p : Pass) → MethodFits m → length (padded (k - 1) (all_steps m)) + 1 ≡ k → k ≤ 6
    → length (all_steps m) ≤ k - 1 → take ((k - 1) + 1) step_passes ≡ take (k - 1) step_passes ++ p ∷ [] → 1 ≤ k
    → MethodFits (step_after k m (Some p))
begun_fits k m p f n high within up low =
    let long : length (padded (k - 1) (all_steps m) ++ empty_step p ∷ []) ≡ (k - 1) + 1
    = omega (arith, length-append (padded (k - 1) (all_steps m)) (empty_step p ∷ []), n) in record {
      named = f.named;
      few = omega (arith, long);
      placed = map-append (λ s. s.pass) (padded (k - 1) (all_steps m)) (empty_step p ∷ [])
          ∙ ap (λ (l : List Pass). l ++ p ∷ []) (padded_passes (k - 1) (all_steps m) within f.placed)
          ∙ sym up ∙ ap (λ (i : ℕ). take i step_passes) (sym long);
      acts = all_append HasActsOfPass (padded (k - 1) (all_steps m)) (empty_step p ∷ [])
          (padded_acts (k - 1) (all_steps m) f.acts) (tt, tt);
      fresh = λ e. absurd cc;
    }

step_told : (ls : List WitnessLine) (before : List MethodWitness) (m n : MethodRead) (k : ℕ) → IsLine (line.Step k)
    → Fits ls before (Some m) → step_begun k m ≡ Ok n → Fits (ls ++ line.Step k ∷ []) before (Some n)
step_told ls before m n k within f h =
    let parts = step_parts k m n h in
    let fits = f.fits m refl in
    let at = passes_at (k - 1) (omega (arith, within.0, within.1)) in
    let is : step_after k m (Some at.0) ≡ n = ap (step_after k m) (sym at.1) ∙ parts.2 in
    let few : length (all_steps m) ≤ k - 1 = omega (arith, parts.1) in
    let long : length (padded (k - 1) (all_steps m)) + 1 ≡ k =
    omega (arith, padded_length (k - 1) (all_steps m) few (omega (arith, within.1)), within.0) in
    subst (λ (x : MethodRead). Fits (ls ++ line.Step k ∷ []) before (Some x)) is
    (last_changed ls before m (step_after k m (Some at.0)) (line.Step k) refl refl refl
    (begun_lines k m at.0 parts.0 long)
    (begun_fits k m at.0 fits long within.1 few at.2 within.0) f)

-- a method whose last step is this one
abbrev pub with_step : MethodRead → PassEdits → MethodRead
with_step m s = record { class = m.class; name = m.name; ty = m.ty; steps = m.steps; step = Some s }

-- a step with one more act
abbrev pub with_act : PassEdits → Act → PassEdits
with_act s a = record { pass = s.pass; acts = s.acts ++ a ∷ [] }

acts_lines : (m : MethodRead) (s : PassEdits) (a : Act)
    → read_lines_of (with_step m (with_act s a)) ≡ read_lines_of (with_step m s) ++ line.Act a ∷ []
acts_lines m s a = ap (λ (l : List WitnessLine). line.Method m.class m.name m.ty ∷ l)
    (ap (λ (l : List WitnessLine). steps_lines 1 m.steps ++ line.Step (length m.steps + 1) ∷ l)
    (map-append (λ x. line.Act x) s.acts (a ∷ []))
    ∙ sym (append_assoc (steps_lines 1 m.steps) (line.Step (length m.steps + 1) ∷ map (λ x. line.Act x) s.acts)
    (line.Act a ∷ [])))

acts_fit : (m : MethodRead) (s : PassEdits) (a : Act) → IsAct a → pass_of a ≡ s.pass → MethodFits (with_step m s)
    → MethodFits (with_step m (with_act s a))
acts_fit m s a is same f =
    let long : length (m.steps ++ with_act s a ∷ []) ≡ length (m.steps ++ s ∷ [])
    = omega (arith, length-append m.steps (with_act s a ∷ []), length-append m.steps (s ∷ [])) in
    let parts = all_split HasActsOfPass m.steps (s ∷ []) f.acts in record {
      named = f.named;
      few = omega (arith, long, f.few);
      placed = map-append (λ x. x.pass) m.steps (with_act s a ∷ []) ∙ sym (map-append (λ x. x.pass) m.steps (s ∷ []))
          ∙ f.placed
          ∙ ap (λ (i : ℕ). take i step_passes) (sym long);
      acts = all_append HasActsOfPass m.steps (with_act s a ∷ []) parts.0
          (all_append (λ x. IsAct x × (pass_of x ≡ s.pass)) s.acts (a ∷ []) parts.1.0 ((is, same), tt), tt);
      fresh = λ e. absurd cc;
    }

act_told : (ls : List WitnessLine) (before : List MethodWitness) (m n : MethodRead) (step : Option PassEdits)
    (a : Act) → IsAct a
    → m.step ≡ step → Fits ls before (Some m)
    → act_added a step >>= (λ s. Ok (with_step m s)) ≡ Ok n → Fits (ls ++ line.Act a ∷ []) before (Some n)
act_told ls before m n None a is e f h = absurd cc
act_told ls before m n (Some s) a is e f h = by (is_pass (pass_of a) s.pass) refl h
  where
    whole : with_step m s ≡ m
    whole = λ i. record { class = m.class; name = m.name; ty = m.ty; steps = m.steps; step = sym e i }

    by : (b : Bool) → is_pass (pass_of a) s.pass ≡ b
        → cond b (Ok (with_act s a)) (Err BadLine) >>= (λ t. Ok (with_step m t)) ≡ Ok n
        → Fits (ls ++ line.Act a ∷ []) before (Some n)
    by false p k = absurd cc
    by true p k =
        let same : with_step m (with_act s a) ≡ n = cc in
        let before_fits = subst (λ (x : MethodRead). Fits ls before (Some x)) (sym whole) f in
        subst (λ (x : MethodRead). Fits (ls ++ line.Act a ∷ []) before (Some x)) same
        (last_changed ls before (with_step m s) (with_step m (with_act s a)) (line.Act a) refl refl refl
        (acts_lines m s a)
        (acts_fit m s a is (same_pass (pass_of a) s.pass p) (before_fits.fits (with_step m s) refl)) before_fits)

-- ---- states

-- nothing was read, or what was read behind the first line
abbrev pub State : List WitnessLine → WitnessRead → Type 0
State ls r = ((ls ≡ []) × (r ≡ nothing)) ⊎ ((r.begun ≡ true) × Fits ls r.before r.last)

first_fits : Fits (line.Head ∷ []) [] None
first_fits = record { told = refl; methods = tt; ordered = tt; apart = tt; first = λ e. refl; fits = λ m e. absurd cc }

pub in_last_ok : (last : Option MethodRead) (change : MethodRead → Result MethodRead WitKind) (r s : WitnessRead)
    → in_last last change >>= (λ m. Ok (record r { last = m })) ≡ Ok s
    → (m : MethodRead) × (n : MethodRead) × (last ≡ Some m) × (change m ≡ Ok n) × ((record r { last = Some n }) ≡ s)
in_last_ok None change r s h = absurd cc
in_last_ok (Some m) change r s h =
    let outer = bind_ok (in_last (Some m) change) (λ o. Ok (record r { last = o })) s h in
    let inner = bind_ok (change m) (λ n. Ok (Some n)) outer.0 outer.1 in
    let same : Some inner.0 ≡ outer.0 = cc in
    let is : (record r { last = outer.0 }) ≡ s = cc in (
      m,
      inner.0,
      refl,
      inner.1,
      ap (λ (o : Option MethodRead). let R : WitnessRead =
          record { begun = r.begun; before = r.before; last = o } in R) same ∙ is,
    )

behind_told : (ls : List WitnessLine) (x : WitnessLine) (r s : WitnessRead) → IsLine x → r.begun ≡ true
    → Fits ls r.before r.last
    → added_behind x r ≡ Ok s → (s.begun ≡ true) × Fits (ls ++ x ∷ []) s.before s.last
behind_told ls line.Head r s is b f h = absurd cc
behind_told ls (line.Method class name ty) r s is b f h =
    method_told ls r.before r.last class name ty s is f (whole r.begun b h)
  where
    whole : (begun : Bool) → begun ≡ true
        → with_method class name ty (record { begun = begun; before = r.before; last = r.last }) ≡ Ok s
        → with_method class name ty (record { begun = true; before = r.before; last = r.last }) ≡ Ok s
    whole true e k = k
    whole false e k = absurd cc
behind_told ls (line.Step k) r s is b f h =
    let p = in_last_ok r.last (step_begun k) r s h in
    let g = step_told ls r.before p.0 p.1 k is (subst (Fits ls r.before) p.2 f) p.3 in
    subst (λ (t : WitnessRead). (t.begun ≡ true) × Fits (ls ++ line.Step k ∷ []) t.before t.last) p.4 (b, g)
behind_told ls (line.Act a) r s is b f h =
    let p = in_last_ok r.last (λ m. act_added a m.step >>= (λ t. Ok (record m { step = Some t }))) r s h in
    let g = act_told ls r.before p.0 p.1 p.0.step a is refl (subst (Fits ls r.before) p.2 f) p.3 in
    subst (λ (t : WitnessRead). (t.begun ≡ true) × Fits (ls ++ line.Act a ∷ []) t.before t.last) p.4 (b, g)

begin_told : (x : WitnessLine) (s : WitnessRead) → added_first x nothing ≡ Ok s → State (x ∷ []) s
begin_told line.Head s h = let is : record { begun = true; before = []; last = None } ≡ s = cc in
    subst (State (line.Head ∷ [])) is (inr (refl, first_fits))
begin_told (line.Method class name ty) s h = absurd cc
begin_told (line.Step k) s h = absurd cc
begin_told (line.Act a) s h = absurd cc

one_added : (ls : List WitnessLine) (x : WitnessLine) (r s : WitnessRead) → IsLine x → State ls r → with_line x r ≡ Ok s
    → State (ls ++ x ∷ []) s
one_added ls x r s is (inl p) h =
    subst (λ (l : List WitnessLine). State (l ++ x ∷ []) s) (sym p.0)
    (begin_told x s (subst (λ (t : WitnessRead). with_line x t ≡ Ok s) p.1 h))
one_added ls x r s is (inr p) h = inr (behind_told ls x r s is p.0 p.1 (by r.begun p.0 h))
  where
    by : (b : Bool) → b ≡ true → cond b (added_behind x r) (added_first x r) ≡ Ok s → added_behind x r ≡ Ok s
    by true e k = k
    by false e k = absurd cc

pub all_added : (ls xs : List WitnessLine) (r s : WitnessRead) → AllByRecursion IsLine xs → State ls r
    → adds with_line xs r ≡ Ok s → State (ls ++ xs) s
all_added ls [] r s is t h =
    let same : r ≡ s = cc in subst (λ (l : List WitnessLine). State l s) (sym (append-nil ls)) (subst (State ls) same t)
all_added ls (x ∷ xs) r s is t h =
    let b = bind_ok (with_line x r) (λ u. adds with_line xs u) s h in
    subst (λ (l : List WitnessLine). State l s) (append_assoc ls (x ∷ []) xs)
    (all_added (ls ++ x ∷ []) xs b.0 s is.1 (one_added ls x r b.0 is.0 t b.1) b.2)

ended_is : (xs : List WitnessLine) (r : WitnessRead) (w : Witness) → State xs r → witness_at_end r ≡ Ok w
    → (xs ≡ witness_lines w) × IsWitness w
ended_is xs r w (inl p) h = absurd (by r p.1 h)
  where
    by : (t : WitnessRead) → t ≡ nothing → witness_at_end t ≡ Ok w → ⊥
    by t e k = (let none : witness_at_end nothing ≡ Ok w =
        subst (λ (u : WitnessRead). witness_at_end u ≡ Ok w) e k in absurd cc)
ended_is xs r w (inr p) h = by (not r.begun || awaits_more r.last) refl h
  where
    lines_are : (last : Option MethodRead) → awaits_more last ≡ false
        → flat_map method_lines r.before ++ last_lines last
        ≡ flat_map method_lines (r.before ++ map closed (option_to_list last))
    lines_are None k = sym (flat_map-append method_lines r.before [])
    lines_are (Some m) k =
        ap (λ (t : List WitnessLine). flat_map method_lines r.before ++ t)
        (sym (closed_lines m k) ∙ sym (append-nil (method_lines (closed m))))
        ∙ sym (flat_map-append method_lines r.before (closed m ∷ []))

    methods_are : (last : Option MethodRead) → awaits_more last ≡ false
        → ((m : MethodRead) → last ≡ Some m → MethodFits m)
        → AllByRecursion IsMethodWitness (r.before ++ map closed (option_to_list last))
    methods_are None k g = all_append IsMethodWitness r.before [] p.1.methods tt
    methods_are (Some m) k g =
        all_append IsMethodWitness r.before (closed m ∷ []) p.1.methods (closed_is m (g m refl) k, tt)

    by : (b : Bool) → not r.begun || awaits_more r.last ≡ b
        → cond b (Err BadLine) (Ok (record { methods = all_methods r })) ≡ Ok w
        → (xs ≡ witness_lines w) × IsWitness w
    by true e k = absurd cc
    by false e k =
        let done = (or_parts (not r.begun) (awaits_more r.last) e).1 in
        let is : record { methods = all_methods r } ≡ w = cc in
        subst (λ (v : Witness). (xs ≡ witness_lines v) × IsWitness v) is (
          p.1.told ∙ ap (λ (t : List WitnessLine). line.Head ∷ t) (lines_are r.last done),
          record { methods = methods_are r.last done p.1.fits; ordered = p.1.ordered; apart = p.1.apart },
        )

-- lines that were added one by one are those of the witness that was read
pub told_by : (xs : List WitnessLine) (r : WitnessRead) (w : Witness) → AllByRecursion IsLine xs
    → adds with_line xs nothing ≡ Ok r
    → witness_at_end r ≡ Ok w → (xs ≡ witness_lines w) × IsWitness w
told_by xs r w is h e = ended_is xs r w (all_added [] xs nothing r is (inl (refl, refl)) h) e
