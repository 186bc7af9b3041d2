-- A code after steps of right acts follows the format where it did.
use Rattle.std.proofs.Common.{◌≡◌, ◌<◌, ℕ, suc, ◌+◌, Bool, true, false, List, [], ◌∷◌, Option, length, map, refl, sym, ap}
use Rattle.std.proofs.Common.{subst, arith}
use Rattle.std.specs.Prelude.{◌^◌, not, ℤ, pos, ◌+ℤ◌, ◌<ℤ◌, AllPairs, IfSome, get_or, if◌then◌else◌}
use Rattle.std.specs.List.{AllByRecursion}
use Rattle.jv_base.proofs.Lists.{all_at, all_both, all_from, all_weaker}
use Rattle.class_model.specs.WellFormed.{Ascend, IsClassName, IsGoodCode, IsGoodFrame, IsGoodHandler, IsGoodOp}
use Rattle.class_model.specs.WellFormed.{LinesGoOn}
use Rattle.class_model.specs.declared.code.Code.{Code}
use Rattle.class_model.specs.declared.code.Handler.{Handler}
use Rattle.class_model.specs.declared.code.Ins.{Ins}
use Rattle.class_model.specs.declared.frame.FrameAt.{FrameAt}
use Rattle.class_model.specs.declared.op.Case.{Case}
use Rattle.class_model.specs.declared.op.Op.{Op}
use Rattle.class_model.specs.declared.op.Op.TheVariants as op
use Rattle.class_laws.proofs.FormedPlaces.{pairs_more}
use Rattle.code_edit.specs.Applied.{applied, edited}
use Rattle.code_edit.specs.Flow.{targets}
use Rattle.code_edit.specs.Legal.{AreRightSteps}
use Rattle.code_edit.specs.Rewriting.{compacted, map_from, retargeted, rewritten, survivors, with_op}
use Rattle.code_edit.specs.SoundCode.{IsPlaced, IsSound}
use Rattle.code_edit.specs.declared.act.Act.{Act}
use Rattle.code_edit.specs.declared.act.Pass.{Pass}
use Rattle.code_edit.specs.declared.act.Pass.TheVariants.{Reach, Const, Slots, Jumps}
use Rattle.code_edit.specs.declared.act.PassEdits.{PassEdits}
use Rattle.code_edit.specs.Constants as constants
use Rattle.code_edit.specs.Jumps as jumps
use Rattle.code_edit.specs.Reach as reach
use Rattle.code_edit.specs.Slots as slots
use Rattle.edit_premises.proofs.EditedSound.{edited_sound}
use Rattle.edit_laws.specs.Holds.{HoldsOf, IsOfNames}
use Rattle.edit_laws.proofs.Named.{edited_holds}

-- ---- each element and those behind it

abbrev Each : {A : Type 0} → (A → A → Type 0) → List A → Type 0
Each R [] = Unit {0}
Each R (x ∷ xs) = AllByRecursion (R x) xs × Each R xs

each_of : {A : Type 0} (R : A → A → Type 0) (xs : List A) → AllPairs R xs → Each R xs
each_of R [] h = tt
each_of {A} R (x ∷ xs) h = (
  first xs (λ j d low. h 0 (suc j) d (omega arith) (omega (arith, low))),
  each_of R xs (λ i j d lt within. h (suc i) (suc j) d (omega (arith, lt)) (omega (arith, within))),
)
  where
    first : (ys : List A) → ((j : ℕ) (d : A) → j < length ys → R x (get_or ys j d)) → AllByRecursion (R x) ys
    first [] k = tt
    first (y ∷ ys) k = (k 0 y (omega arith), first ys (λ j d low. k (suc j) d (omega (arith, low))))

pairs_of : {A : Type 0} (R : A → A → Type 0) (xs : List A) → Each R xs → AllPairs R xs
pairs_of R [] h = λ i j d lt within. absurd (omega (arith, within))
pairs_of R (x ∷ xs) h = pairs_more R x xs h.0 (pairs_of R xs h.1)

-- ---- what survives, and what becomes of each item

all_survive : {A : Type 0} (P : A → Type 0) (lives : ℕ → Bool) (i : ℕ) (xs : List A) → AllByRecursion P xs
    → AllByRecursion P (survivors lives i xs)
all_survive P lives i [] h = tt
all_survive {A} P lives i (x ∷ xs) h = by (lives i) (survivors lives (suc i) xs) (all_survive P lives (suc i) xs h.1)
  where
    by : (b : Bool) (ys : List A) → AllByRecursion P ys → AllByRecursion P (if b then x ∷ ys else ys)
    by true ys k = (h.0, k)
    by false ys k = k

each_survives : {A : Type 0} (R : A → A → Type 0) (lives : ℕ → Bool) (i : ℕ) (xs : List A) → Each R xs
    → Each R (survivors lives i xs)
each_survives R lives i [] h = tt
each_survives {A} R lives i (x ∷ xs) h =
    by (lives i) (survivors lives (suc i) xs) (all_survive (R x) lives (suc i) xs h.0)
    (each_survives R lives (suc i) xs h.1)
  where
    by : (b : Bool) (ys : List A) → AllByRecursion (R x) ys → Each R ys → Each R (if b then x ∷ ys else ys)
    by true ys a k = (a, k)
    by false ys a k = k

module _ {A B : Type 0} (R : A → A → Type 0) (S : B → B → Type 0) (g : ℕ → A → B)
    (keeps : (i j : ℕ) (x y : A) → R x y → S (g i x) (g j y)) where
  all_become : (i k : ℕ) (x : A) (xs : List A) → AllByRecursion (R x) xs → AllByRecursion (S (g i x)) (map_from g k xs)
  all_become i k x [] h = tt
  all_become i k x (y ∷ ys) h = (keeps i k x y h.0, all_become i (suc k) x ys h.1)

  each_becomes : (k : ℕ) (xs : List A) → Each R xs → Each S (map_from g k xs)
  each_becomes k [] h = tt
  each_becomes k (x ∷ xs) h = (all_become k (suc k) x xs h.0, each_becomes (suc k) xs h.1)

module _ (f : Op → Op) where
  all_lined : (i : Ins) (ins : List Ins) → AllByRecursion (LinesGoOn i) ins
      → AllByRecursion (LinesGoOn (with_op f i)) (map (with_op f) ins)
  all_lined i [] h = tt
  all_lined i (j ∷ ins) h = (h.0, all_lined i ins h.1)

  each_lined : (ins : List Ins) → Each LinesGoOn ins → Each LinesGoOn (map (with_op f) ins)
  each_lined [] h = tt
  each_lined (i ∷ ins) h = (all_lined i ins h.0, each_lined ins h.1)

-- ---- lines

compacted_lines : (lives : ℕ → Bool) (code : Code) → Each LinesGoOn code.ins → Each LinesGoOn (compacted lives code).ins
compacted_lines lives code h =
    each_lined _ (survivors lives 0 code.ins) (each_survives LinesGoOn lives 0 code.ins h)

rewritten_lines : (f : ℕ → Op → Op) (code : Code) → Each LinesGoOn code.ins → Each LinesGoOn (rewritten f code).ins
rewritten_lines f code h = each_becomes LinesGoOn LinesGoOn (λ at i. with_op (f at) i) (λ i j x y r. r) 0 code.ins h

applied_lines : (p : Pass) (acts : List Act) (code : Code) → Each LinesGoOn code.ins
    → Each LinesGoOn (applied p acts code).ins
applied_lines Reach acts code h = compacted_lines (reach.is_left acts) code h
applied_lines Slots acts code h =
    compacted_lines (λ at. not (slots.goes acts code at)) (rewritten (slots.slotted acts code) code)
    (rewritten_lines (slots.slotted acts code) code h)
applied_lines Jumps acts code h =
    compacted_lines (jumps.stays acts code) (rewritten (jumps.jumped acts) code)
    (rewritten_lines (jumps.jumped acts) code h)
applied_lines Const acts code h =
    compacted_lines (λ at. not (constants.goes acts code at)) (rewritten (constants.folded acts code) code)
    (rewritten_lines (constants.folded acts code) code h)

edited_lines : (steps : List PassEdits) (code : Code) → Each LinesGoOn code.ins → Each LinesGoOn (edited steps code).ins
edited_lines [] code h = h
edited_lines (s ∷ steps) code h = edited_lines steps (applied s.pass s.acts code) (applied_lines s.pass s.acts code h)

-- ---- instructions, their targets aside

-- keys ascend
abbrev Ascending : Case → Case → Type 0
Ascending one next = one.key <ℤ next.key

-- what the format asks of an instruction but of its targets (JVMS 4.9.1, 6.5)
abbrev IsFit : Op → Type 0
IsFit (op.IfZero c to) = Unit {0}
IsFit (op.IfCmp c to) = Unit {0}
IsFit (op.IfRef eq to) = Unit {0}
IsFit (op.IfNull null to) = Unit {0}
IsFit (op.Goto to) = Unit {0}
IsFit (op.TableSwitch low other cases) =
    (0 < length cases) × ((low +ℤ pos (length cases)) <ℤ pos (2 ^ 31 + 1))
IsFit (op.LookupSwitch other cases) = Each Ascending cases
IsFit o = IsGoodOp 0 o

fit_of : (n : ℕ) (o : Op) → IsGoodOp n o → IsFit o
fit_of n (op.IfZero c to) h = tt
fit_of n (op.IfCmp c to) h = tt
fit_of n (op.IfRef eq to) h = tt
fit_of n (op.IfNull null to) h = tt
fit_of n (op.Goto to) h = tt
fit_of n (op.TableSwitch low other cases) h = (h.least, h.most)
fit_of n (op.LookupSwitch other cases) h = each_of Ascending cases h.ascending
fit_of n o h = h

good_of : (n : ℕ) (o : Op) → IsFit o → AllByRecursion (λ t. t < n) (targets o) → IsGoodOp n o
good_of n (op.IfZero c to) fit low = low.0
good_of n (op.IfCmp c to) fit low = low.0
good_of n (op.IfRef eq to) fit low = low.0
good_of n (op.IfNull null to) fit low = low.0
good_of n (op.Goto to) fit low = low.0
good_of n (op.TableSwitch low other cases) fit within =
    record { other_target = within.0; targets = within.1; least = fit.0; most = fit.1 }
good_of n (op.LookupSwitch other cases) fit low =
    record { other_target = low.0; targets = back cases low.1; ascending = pairs_of Ascending cases fit }
  where
    back : (cs : List Case) → AllByRecursion (λ t. t < n) (map (λ (c : Case). c.to) cs)
        → AllByRecursion (λ (c : Case). c.to < n) cs
    back [] h = tt
    back (c ∷ cs) h = (h.0, back cs h.1)
good_of n o fit low = fit

long_from : {A B : Type 0} (f : ℕ → A → B) (k : ℕ) (xs : List A) → length (map_from f k xs) ≡ length xs
long_from f k [] = refl
long_from f k (x ∷ xs) = ap suc (long_from f (suc k) xs)

moves : (f : ℕ → ℕ → ℕ) (o : Op) → IsFit o → IsFit (retargeted f o)
moves f (op.IfZero c to) h = tt
moves f (op.IfCmp c to) h = tt
moves f (op.IfRef eq to) h = tt
moves f (op.IfNull null to) h = tt
moves f (op.Goto to) h = tt
moves f (op.TableSwitch low other cases) h =
    subst (λ n. (0 < n) × ((low +ℤ pos n) <ℤ pos (2 ^ 31 + 1))) (sym (long_from f 1 cases)) h
moves f (op.LookupSwitch other cases) h =
    each_becomes Ascending Ascending (λ k (c : Case). record c { to = f k c.to }) (λ i j x y r. r) 1 cases h
moves f o h = h

is_of_names : IsOfNames IsFit
is_of_names = record { moves = moves; nop = tt; pop = tt; pop2 = tt; goto = λ to. tt }

-- ---- codes

abbrev IsCaught : Option (List ℕ) → Type 0
IsCaught caught = IfSome caught IsClassName

-- a code that isn't empty of steps has no frames, and without steps it is the code
pub frames_of : (s : PassEdits) (steps : List PassEdits) (code : Code) → (edited (s ∷ steps) code).frames ≡ []
frames_of s [] code = none s.pass
  where
    none : (p : Pass) → (applied p s.acts code).frames ≡ []
    none Reach = refl
    none Slots = refl
    none Jumps = refl
    none Const = refl
frames_of s (t ∷ steps) code = frames_of t steps (applied s.pass s.acts code)

pub edited_good : (steps : List PassEdits) (code : Code) → AreRightSteps steps code → IsSound code → IsGoodCode code
    → IsGoodCode (edited steps code)
edited_good [] code right sound good = good
edited_good (s ∷ steps) code right sound good =
    let new : Code = edited (s ∷ steps) code in
    let after : IsSound new = edited_sound (s ∷ steps) code right sound in
    let holds : HoldsOf IsFit IsCaught code = record {
      ins = all_weaker (λ (i : Ins). IsGoodOp (length code.ins) i.op) (λ (i : Ins). IsFit i.op)
          (λ i h. fit_of (length code.ins) i.op h) code.ins good.instructions;
      handlers = all_weaker (IsGoodHandler (length code.ins)) (λ (h : Handler). IsCaught h.caught) (λ h g. g.caught)
          code.handlers good.handlers;
    } in
    let held = edited_holds IsFit is_of_names IsCaught (s ∷ steps) code holds in
    let none : new.frames ≡ [] = frames_of s steps code in
    record {
      some = after.some;
      instructions = all_from (λ (i : Ins). IsGoodOp (length new.ins) i.op) new.ins
          (λ k i at. good_of (length new.ins) i.op
          (all_at (λ (x : Ins). IsFit x.op) new.ins k i held.ins at) (after.jump k i at));
      lines = pairs_of LinesGoOn new.ins (edited_lines (s ∷ steps) code (each_of LinesGoOn code.ins good.lines));
      handlers = all_weaker (λ (h : Handler). IsPlaced (length new.ins) h × IsCaught h.caught)
          (IsGoodHandler (length new.ins))
          (λ h p. record { range = p.0.0; to = p.0.1; entry = p.0.2; caught = p.1 }) new.handlers
          (all_both (IsPlaced (length new.ins)) (λ (h : Handler). IsCaught h.caught) new.handlers after.handlers
          held.handlers);
      frames = subst (λ (fs : List FrameAt). AllByRecursion (IsGoodFrame new) fs) (sym none) tt;
      ascending = subst (λ (fs : List FrameAt). AllPairs Ascend fs) (sym none)
          (λ i j d lt within. absurd (omega (arith, within)));
    }
