-- What holds of the names of a code holds after each step.
use Rattle.std.proofs.Common.{ℕ, suc, ◌+◌, List, [], ◌∷◌, Option, Some, None, Bool, true, false}
use Rattle.std.specs.Prelude.{map, not, ◌==◌, if◌then◌else◌}
use Rattle.std.specs.List.{AllByRecursion, filter}
use Rattle.class_model.specs.declared.code.Code.{Code}
use Rattle.class_model.specs.declared.code.Handler.{Handler}
use Rattle.class_model.specs.declared.code.Ins.{Ins}
use Rattle.class_model.specs.declared.op.Kind.TheVariants as kind
use Rattle.class_model.specs.declared.op.Op.{Op}
use Rattle.class_model.specs.declared.op.Op.TheVariants as op
use Rattle.code_edit.specs.declared.act.Act.{Act}
use Rattle.code_edit.specs.declared.act.Pass.{Pass}
use Rattle.code_edit.specs.declared.act.Pass.TheVariants.{Reach, Const, Slots, Jumps}
use Rattle.code_edit.specs.declared.act.PassEdits.{PassEdits}
use Rattle.code_edit.specs.Rewriting.{compacted, is_open, map_from, moved_handler, place}
use Rattle.code_edit.specs.Rewriting.{retargeted, rewritten, survivors, with_op}
use Rattle.code_edit.specs.Constants as constants
use Rattle.code_edit.specs.Jumps as jumps
use Rattle.code_edit.specs.Reach as reach
use Rattle.code_edit.specs.Slots as slots
use Rattle.code_edit.specs.Applied.{applied, edited}
use Rattle.edit_laws.specs.Holds.{HoldsOf, IsOfNames}

all_survivors : {A : Type 0} (P : A → Type 0) (lives : ℕ → Bool) (i : ℕ) (xs : List A)
    → AllByRecursion P xs → AllByRecursion P (survivors lives i xs)
all_survivors P lives i [] h = tt
all_survivors {A} P lives i (x ∷ xs) h =
    by (lives i) (survivors lives (suc i) xs) (all_survivors P lives (suc i) xs h.1)
  where
    by : (b : Bool) (ys : List A) → AllByRecursion P ys
        → AllByRecursion P (if b then x ∷ ys else ys)
    by true ys k = (h.0, k)
    by false ys k = k

all_map : {A B : Type 0} (P : A → Type 0) (Q : B → Type 0) (f : A → B) → ((x : A) → P x → Q (f x))
    → (xs : List A) → AllByRecursion P xs
    → AllByRecursion Q (map f xs)
all_map P Q f t [] h = tt
all_map P Q f t (x ∷ xs) h = (t x h.0, all_map P Q f t xs h.1)

all_map_from : {A B : Type 0} (P : A → Type 0) (Q : B → Type 0) (f : ℕ → A → B)
    → ((i : ℕ) (x : A) → P x → Q (f i x)) → (i : ℕ) (xs : List A)
    → AllByRecursion P xs → AllByRecursion Q (map_from f i xs)
all_map_from P Q f t i [] h = tt
all_map_from P Q f t i (x ∷ xs) h = (t i x h.0, all_map_from P Q f t (suc i) xs h.1)

all_filter : {A : Type 0} (P : A → Type 0) (test : A → Bool) (xs : List A) → AllByRecursion P xs
    → AllByRecursion P (filter test xs)
all_filter P test [] h = tt
all_filter {A} P test (x ∷ xs) h = by (test x) (filter test xs) (all_filter P test xs h.1)
  where
    by : (b : Bool) (ys : List A) → AllByRecursion P ys
        → AllByRecursion P (if b then x ∷ ys else ys)
    by true ys k = (h.0, k)
    by false ys k = k

module _ (Good : Op → Type 0) (is : IsOfNames Good) (Caught : Option (List ℕ) → Type 0) where
  abbrev GoodIns : Ins → Type 0
  GoodIns i = Good i.op

  abbrev GoodHandler : Handler → Type 0
  GoodHandler h = Caught h.caught

  compacted_holds : (lives : ℕ → Bool) (code : Code) → HoldsOf Good Caught code
      → HoldsOf Good Caught (compacted lives code)
  compacted_holds lives code h = record {
    ins = all_map GoodIns GoodIns (with_op (retargeted (λ which to. place lives to)))
        (λ i g. is.moves (λ which to. place lives to) i.op g)
        (survivors lives 0 code.ins) (all_survivors GoodIns lives 0 code.ins h.ins);
    handlers = all_filter GoodHandler is_open (map (moved_handler (place lives)) code.handlers)
        (all_map GoodHandler GoodHandler (moved_handler (place lives))
        (λ x g. g) code.handlers h.handlers);
  }

  rewritten_holds : (f : ℕ → Op → Op) → ((at : ℕ) (o : Op) → Good o → Good (f at o)) → (code : Code)
      → HoldsOf Good Caught code
      → HoldsOf Good Caught (rewritten f code)
  rewritten_holds f t code h = record {
    ins =
        all_map_from GoodIns GoodIns (λ at i. with_op (f at) i)
        (λ at i g. t at i.op g) 0 code.ins h.ins;
    handlers = h.handlers;
  }

  skipped_good : (o : Op) → Good o → Good (jumps.skipped o)
  skipped_good (op.Goto t) g = is.nop
  skipped_good (op.IfZero c t) g = is.pop
  skipped_good (op.IfNull c t) g = is.pop
  skipped_good (op.IfCmp c t) g = is.pop2
  skipped_good (op.IfRef c t) g = is.pop2
  skipped_good o g = g

  jumped_good : (acts : List Act) (at : ℕ) (o : Op) → Good o → Good (jumps.jumped acts at o)
  jumped_good acts at o g = by (jumps.is_skipped acts at)
    where
      by : (b : Bool) → Good (if b then jumps.skipped o else retargeted (jumps.aim acts at) o)
      by true = skipped_good o g
      by false = is.moves (jumps.aim acts at) o g

  popped_good : (o : Op) → Good o → Good (slots.popped o)
  popped_good (op.Store kind.Int slot) g = is.pop
  popped_good (op.Store kind.Long slot) g = is.pop2
  popped_good (op.Store kind.Ref slot) g = is.pop
  popped_good o g = g

  slotted_good : (acts : List Act) (code : Code) (at : ℕ) (o : Op) → Good o
      → Good (slots.slotted acts code at o)
  slotted_good acts code at o g = by (slots.goes acts code at) (slots.is_cut acts at)
    where
      by : (b c : Bool) → Good (if b then op.Nop else if c then slots.popped o else o)
      by true c = is.nop
      by false true = popped_good o g
      by false false = g

  landed_good : (at : ℕ) (o : Op) (f : Option ℕ) → Good o → Good (constants.landed at o f)
  landed_good at o None g = g
  landed_good at o (Some to) g = by (to == at + 1)
    where
      by : (b : Bool) → Good (if b then op.Nop else op.Goto to)
      by true = is.nop
      by false = is.goto to

  folded_good : (acts : List Act) (code : Code) (at : ℕ) (o : Op) → Good o
      → Good (constants.folded acts code at o)
  folded_good acts code at o g = by (constants.is_operand acts code at)
    where
      by : (b : Bool) → Good (constants.new_op b (constants.fold_to acts at) at o)
      by true = is.nop
      by false = landed_good at o (constants.fold_to acts at) g

  applied_holds : (p : Pass) (acts : List Act) (code : Code) → HoldsOf Good Caught code
      → HoldsOf Good Caught (applied p acts code)
  applied_holds Reach acts code h = compacted_holds (reach.is_left acts) code h
  applied_holds Slots acts code h =
      compacted_holds (λ at. not (slots.goes acts code at))
      (rewritten (slots.slotted acts code) code)
      (rewritten_holds (slots.slotted acts code) (slotted_good acts code) code h)
  applied_holds Jumps acts code h =
      compacted_holds (jumps.stays acts code) (rewritten (jumps.jumped acts) code)
      (rewritten_holds (jumps.jumped acts) (jumped_good acts) code h)
  applied_holds Const acts code h =
      compacted_holds (λ at. not (constants.goes acts code at))
      (rewritten (constants.folded acts code) code)
      (rewritten_holds (constants.folded acts code) (folded_good acts code) code h)

  -- what holds of the names of a code holds of the code after any steps
  pub edited_holds : (steps : List PassEdits) (code : Code) → HoldsOf Good Caught code
      → HoldsOf Good Caught (edited steps code)
  edited_holds [] code h = h
  edited_holds (s ∷ steps) code h =
      edited_holds steps (applied s.pass s.acts code) (applied_holds s.pass s.acts code h)
