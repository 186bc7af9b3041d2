-- A step without acts leaves the instructions and the handlers of a sound code as they are.
use Rattle.std.proofs.Common.{◌≡◌, ℕ, zero, suc, Bool, true, List, [], ◌∷◌, map, refl, ap, ◌∙◌}
use Rattle.std.specs.Prelude.{if◌then◌else◌, not}
use Rattle.std.specs.List.{AllByRecursion, filter}
use Rattle.std.proofs.lemmas.Bool.{lt-ltb}
use Rattle.class_model.specs.declared.code.Code.{Code}
use Rattle.class_model.specs.declared.code.Handler.{Handler}
use Rattle.class_model.specs.declared.code.Ins.{Ins}
use Rattle.class_model.specs.declared.op.Case.{Case}
use Rattle.class_model.specs.declared.op.Op.{Op}
use Rattle.class_model.specs.declared.op.Op.TheVariants as op
use Rattle.code_edit.specs.Applied.{applied}
use Rattle.code_edit.specs.Constants as constants
use Rattle.code_edit.specs.Jumps as jumps
use Rattle.code_edit.specs.Reach as reach
use Rattle.code_edit.specs.Rewriting.{compacted, is_open, living, map_from, moved_handler, place, retargeted, rewritten}
use Rattle.code_edit.specs.Rewriting.{survivors, with_op}
use Rattle.code_edit.specs.Slots as slots
use Rattle.code_edit.specs.SoundCode.{IsPlaced, IsSound}
use Rattle.code_edit.specs.declared.act.Pass.{Pass}
use Rattle.code_edit.specs.declared.act.Pass.TheVariants.{Reach, Const, Slots, Jumps}
use Rattle.pair_laws.proofs.OptimisedPairs.LegalActs.{framed}

-- ---- lists

all_stay : {A : Type 0} (g : ℕ → A → A) → ((k : ℕ) (x : A) → g k x ≡ x) → (k : ℕ) (xs : List A) → map_from g k xs ≡ xs
all_stay g same k [] = refl
all_stay g same k (x ∷ xs) = λ i. same k x i ∷ all_stay g same (suc k) xs i

-- ---- targets

op_stays : (f : ℕ → ℕ → ℕ) → ((k to : ℕ) → f k to ≡ to) → (o : Op) → retargeted f o ≡ o
op_stays f same (op.IfZero c to) = ap (λ t. op.IfZero c t) (same 0 to)
op_stays f same (op.IfCmp c to) = ap (λ t. op.IfCmp c t) (same 0 to)
op_stays f same (op.IfRef eq to) = ap (λ t. op.IfRef eq t) (same 0 to)
op_stays f same (op.IfNull null to) = ap (λ t. op.IfNull null t) (same 0 to)
op_stays f same (op.Goto to) = ap (λ t. op.Goto t) (same 0 to)
op_stays f same (op.TableSwitch low other cases) =
    λ i. op.TableSwitch low (same 0 other i) (all_stay f same 1 cases i)
op_stays f same (op.LookupSwitch other cases) =
    λ i. op.LookupSwitch (same 0 other i)
    (all_stay (λ k (c : Case). record c { to = f k c.to }) (λ k c. ap (λ t. record c { to = t }) (same k c.to)) 1 cases i)
op_stays f same o = refl

-- ---- where all indices live

module _ (lives : ℕ → Bool) (all : (at : ℕ) → lives at ≡ true) where
  living_all : (i n : ℕ) → living lives i n ≡ n
  living_all i zero = refl
  living_all i (suc n) =
      ap (λ (b : Bool). if b then suc (living lives (suc i) n) else living lives (suc i) n) (all i)
      ∙ ap suc (living_all (suc i) n)

  place_stays : (to : ℕ) → place lives to ≡ to
  place_stays to = living_all 0 to

  all_survive : {A : Type 0} (i : ℕ) (xs : List A) → survivors lives i xs ≡ xs
  all_survive i [] = refl
  all_survive {A} i (x ∷ xs) =
      ap (λ (b : Bool). if b then x ∷ survivors lives (suc i) xs else survivors lives (suc i) xs) (all i)
      ∙ ap (λ (ys : List A). x ∷ ys) (all_survive (suc i) xs)

  ins_stay : (ins : List Ins) → map (with_op (retargeted (λ which to. place lives to))) ins ≡ ins
  ins_stay [] = refl
  ins_stay (x ∷ ins) =
      λ i. record x { op = op_stays (λ which to. place lives to) (λ k to. place_stays to) x.op i } ∷ ins_stay ins i

  moved_stay : (handlers : List Handler) → map (moved_handler (place lives)) handlers ≡ handlers
  moved_stay [] = refl
  moved_stay (h ∷ handlers) =
      λ i. record h { from = place_stays h.from i; to = place_stays h.to i; entry = place_stays h.entry i }
      ∷ moved_stay handlers i

  open_stay : (n : ℕ) (handlers : List Handler) → AllByRecursion (IsPlaced n) handlers
      → filter is_open handlers ≡ handlers
  open_stay n [] placed = refl
  open_stay n (h ∷ handlers) placed =
      ap (λ (b : Bool). if b then h ∷ filter is_open handlers else filter is_open handlers)
      (lt-ltb h.from h.to placed.0.0)
      ∙ ap (λ (hs : List Handler). h ∷ hs) (open_stay n handlers placed.1)

  pub compacted_stays : (code : Code) → IsSound code → compacted lives code ≡ framed code []
  compacted_stays code sound =
      let ins = ap (map (with_op (retargeted (λ which to. place lives to)))) (all_survive 0 code.ins)
      ∙ ins_stay code.ins in
      let handlers = ap (filter is_open) (moved_stay code.handlers)
      ∙ open_stay _ code.handlers sound.handlers in
      λ i. record code { ins = ins i; handlers = handlers i; frames = [] }

-- ---- where no operation changes

rewritten_stays : (f : ℕ → Op → Op) → ((at : ℕ) (o : Op) → f at o ≡ o) → (code : Code)
    → rewritten f code ≡ framed code []
rewritten_stays f same code =
    λ i. record code {
      ins = all_stay (λ at x. with_op (f at) x) (λ at x. ap (λ (o : Op). record x { op = o }) (same at x.op)) 0 code.ins i;
      frames = [];
    }

bare_sound : (code : Code) → IsSound code → IsSound (framed code [])
bare_sound code s = record { some = s.some; jump = s.jump; handlers = s.handlers; last = s.last }

pub idle_stays : (p : Pass) (code : Code) → IsSound code → applied p [] code ≡ framed code []
idle_stays Reach code sound = compacted_stays (reach.is_left []) (λ at. refl) code sound
idle_stays Const code sound =
    ap (compacted (λ at. not (constants.goes [] code at)))
    (rewritten_stays (constants.folded [] code) (λ at o. refl) code)
    ∙ compacted_stays (λ at. not (constants.goes [] code at)) (λ at. refl) (framed code []) (bare_sound code sound)
idle_stays Slots code sound =
    ap (compacted (λ at. not (slots.goes [] code at))) (rewritten_stays (slots.slotted [] code) (λ at o. refl) code)
    ∙ compacted_stays (λ at. not (slots.goes [] code at)) (λ at. refl) (framed code []) (bare_sound code sound)
idle_stays Jumps code sound =
    ap (compacted (jumps.stays [] code))
    (rewritten_stays (jumps.jumped []) (λ at o. op_stays (jumps.aim [] at) (λ k to. refl) o) code)
    ∙ compacted_stays (jumps.stays [] code) (λ at. refl) (framed code []) (bare_sound code sound)
