-- What instructions leave of the locals and of the flag.
use Rattle.std.proofs.Common.{◌≡◌, ℕ, ◌+◌, ◌-◌, ◌==◌, Bool, true, false, cond, not, ◌&&◌, nat_le, IsTrue, List, [], ◌∷◌}
use Rattle.std.proofs.Common.{length, take, drop, Option, Some, None, Ok, Err, refl, sym, ap, subst, ◌∙◌, arith, set}
use Rattle.std.proofs.Common.{slice_get}
use Rattle.std.specs.Option.{option_map, option_map_or}
use Rattle.std.proofs.lemmas.List.{drop-set-lt, length-set, take-set-le}
use Rattle.jv_base.specs.Outcome.{◌>>=◌}
use Rattle.jv_base.specs.declared.types.FieldType.{FieldType}
use Rattle.class_model.specs.Frames.{vtype_of, words_of_type}
use Rattle.class_model.specs.declared.class.Class.{Class}
use Rattle.class_model.specs.declared.frame.VType.{VType}
use Rattle.class_model.specs.declared.frame.VType.TheVariants as vtype
use Rattle.class_model.specs.declared.op.ConvOp.{ConvOp}
use Rattle.class_model.specs.declared.op.ConvOp.TheVariants as conv
use Rattle.class_model.specs.declared.op.Elem.{Elem}
use Rattle.class_model.specs.declared.op.Elem.TheVariants as elem
use Rattle.class_model.specs.declared.op.Kind.{Kind}
use Rattle.class_model.specs.declared.op.Op.{Op}
use Rattle.class_model.specs.declared.op.Op.TheVariants as op
use Rattle.type_verifier.specs.declared.changed.Changed.{Changed}
use Rattle.type_verifier.specs.declared.fault.TypeKind.{TypeKind}
use Rattle.type_verifier.specs.declared.fault.TypeKind.TheVariants.{Local, Operand, Uninit}
use Rattle.type_verifier.specs.declared.frame.TypeFrame.{TypeFrame}
use Rattle.type_verifier.specs.Effects.{Checked, acted, all_popped, counted_from, cut_before, doubled, dropped, element}
use Rattle.type_verifier.specs.Effects.{gives, has_room, if_ruled, constructor_returned, given_words, guarded_use}
use Rattle.type_verifier.specs.Effects.{is_returned_by, loaded_from, or_operand, popped, popped_from, put_local, pushed}
use Rattle.type_verifier.specs.Effects.{read_from, result_taken, stepped, stored_from, swapped, taken_words, top_behind}
use Rattle.type_verifier.specs.Effects.{used_from, with_stack, words_of_kind}
use Rattle.type_verifier.specs.Environment.{Environment, goes_elsewhere, in_constructor}
use Rattle.type_verifier.specs.Rules.{Rule, Takes, Loads, Stores, Counts, Drops, Doubles, Swaps, ReadsReference, Makes}
use Rattle.type_verifier.specs.Rules.{Returns, Uses, Initialises, Wanted, Assignable, array_load, array_wanted}
use Rattle.type_verifier.specs.Rules.{conversion, field_type, meets, method_type, moved, field_read, field_write}
use Rattle.type_verifier.specs.Rules.{object_call, rule_of, static_call, static_read, static_write}
use Rattle.type_verifier.specs.Walk.{at_instruction, flow_after, satisfies_handlers}
use Rattle.type_verifier.specs.bodies.Changes.{flow}
use Rattle.type_verifier.specs.bodies.Since.{Agrees, AgreesBy, IsSame, IsSince, around, changed_by, nothing}
use Rattle.type_verifier.specs.bodies.Since.{since_after, since_there}
use Rattle.type_verifier.proofs.TypedLaw.{bound, was_passed}

-- ---- frames with the same locals and flag

is_same : (f : TypeFrame) → IsSame f f
is_same f = (refl, refl)

then_same : (f g h : TypeFrame) → IsSame f g → IsSame g h → IsSame f h
then_same f g h a b = (b.0 ∙ a.0, b.1 ∙ a.1)

-- an answer that is a frame
told : (f x g : TypeFrame) → IsSame f x → (let R : Checked = Ok x in R) ≡ Ok g → IsSame f g
told f x g s h =
    let e : x ≡ g = cc in
    (sym (ap (λ (y : TypeFrame). y.locals) e) ∙ s.0, sym (ap (λ (y : TypeFrame). y.marked) e) ∙ s.1)

-- an answer that is one where a test is passed
told_if : (b : Bool) (kind : TypeKind) (f x g : TypeFrame) → IsSame f x
    → (let R : Checked = cond b (Ok x) (Err kind) in R) ≡ Ok g → IsSame f g
told_if true kind f x g s h = told f x g s h
told_if false kind f x g s h = absurd cc

told_unless : (b : Bool) (kind : TypeKind) (f x g : TypeFrame) → IsSame f x
    → (let R : Checked = cond b (Err kind) (Ok x) in R) ≡ Ok g → IsSame f g
told_unless true kind f x g s h = absurd cc
told_unless false kind f x g s h = told f x g s h

given_same : (given : Option VType) (f x g : TypeFrame) → IsSame f x
    → (let R : Checked = Ok (gives given x) in R) ≡ Ok g
    → IsSame f g
given_same None f x g s h = told f x g s h
given_same (Some ty) f x g s h = told f (pushed ty x) g s h

module _ (classes : List Class) where
  popped_same : (wanted : Wanted) (f : TypeFrame) (stack : List VType) (g : TypeFrame)
      → popped_from classes wanted f stack ≡ Ok g → IsSame f g
  popped_same wanted f [] g h = absurd cc
  popped_same wanted f (ty ∷ stack) g h =
      told_if (meets classes wanted ty) Operand f (with_stack f stack) g (is_same f) h

  all_same : (wanted : List Wanted) (f g : TypeFrame) → all_popped classes wanted f ≡ Ok g → IsSame f g
  all_same [] f g h = told f f g (is_same f) h
  all_same (w ∷ ws) f g h =
      let b = bound (popped classes w f) (all_popped classes ws) g h in
      then_same f b.0 g (popped_same w f f.stack b.0 b.1) (all_same ws b.0 g b.2)

  loaded_same : (wanted : Wanted) (f : TypeFrame) (o : Option VType) (g : TypeFrame)
      → loaded_from classes wanted f o ≡ Ok g
      → IsSame f g
  loaded_same wanted f None g h = absurd cc
  loaded_same wanted f (Some ty) g h = told_if (meets classes wanted ty) Local f (pushed ty f) g (is_same f) h

  counted_same : (f : TypeFrame) (o : Option VType) (g : TypeFrame) → counted_from classes f o ≡ Ok g → IsSame f g
  counted_same f None g h = absurd cc
  counted_same f (Some ty) g h = told_if (meets classes (Assignable vtype.Int) ty) Local f f g (is_same f) h

  read_same : (f : TypeFrame) (stack : List VType) (g : TypeFrame) → read_from classes f stack ≡ Ok g → IsSame f g
  read_same f [] g h = absurd cc
  read_same f (ty ∷ stack) g h =
      told_if (meets classes (array_wanted elem.Ref) ty) Operand f (with_stack f (element ty ∷ stack)) g (is_same f) h

operand_same : (f : TypeFrame) (o : Option (List VType)) (g : TypeFrame) → or_operand f o ≡ Ok g → IsSame f g
operand_same f None g h = absurd cc
operand_same f (Some stack) g h = told f (with_stack f stack) g (is_same f) h

module _ (env : Environment) where
  used_same : (receiver : Wanted) (guarded : Bool) (f : TypeFrame) (stack : List VType) (g : TypeFrame)
      → used_from env receiver guarded f stack ≡ Ok g → IsSame f g
  used_same receiver guarded f [] g h = absurd cc
  used_same receiver guarded f (ty ∷ stack) g h = met (meets env.classes receiver ty) h
    where
      met : (b : Bool)
          → (let R : Checked = cond b (guarded_use env guarded ty >>= (λ u. Ok (with_stack f stack))) (Err Operand) in
          R)
          ≡ Ok g → IsSame f g
      met true e =
          let b = bound (guarded_use env guarded ty) (λ u. let R : Checked = Ok (with_stack f stack) in R) g e in
          told f (with_stack f stack) g (is_same f) b.2
      met false e = absurd cc

  result_same : (k : Option Kind) (ty : Option FieldType) (f g : TypeFrame) → result_taken env k ty f ≡ Ok g
      → IsSame f g
  result_same None None f g h = told f f g (is_same f) h
  result_same (Some k) (Some ty) f g h = returned (is_returned_by k (vtype_of ty)) h
    where
      returned : (b : Bool)
          → (let R : Checked = cond b (popped env.classes (Assignable (vtype_of ty)) f) (Err Operand) in R)
          ≡ Ok g → IsSame f g
      returned true e = popped_same env.classes (Assignable (vtype_of ty)) f f.stack g e
      returned false e = absurd cc
  result_same None (Some ty) f g h = absurd cc
  result_same (Some k) None f g h = absurd cc

  -- ---- rules that change no local

  IsPlain : Rule → Type 0
  IsPlain (Stores k slot) = ⊥
  IsPlain Makes = ⊥
  IsPlain (Initialises wanted class guarded) = ⊥
  IsPlain _ = Unit {0}

  acts_same : (at : ℕ) (rule : Rule) (f g : TypeFrame) → IsPlain rule → acted env at rule f ≡ Ok g → IsSame f g
  unfolding IsPlain
  acts_same at (Takes wanted given) f g p h =
      let b = bound (all_popped env.classes wanted f) (λ x. let R : Checked = Ok (gives given x) in R) g h in
      given_same given f b.0 g (all_same env.classes wanted f b.0 b.1) b.2
  acts_same at (Loads k slot) f g p h = loaded_same env.classes (moved k) f (slice_get f.locals slot) g h
  acts_same at (Stores k slot) f g p h = absurd p
  acts_same at (Counts slot) f g p h = counted_same env.classes f (slice_get f.locals slot) g h
  acts_same at (Drops n) f g p h = operand_same f (dropped n f.stack) g h
  acts_same at (Doubles copied under) f g p h = operand_same f (doubled copied under f.stack) g h
  acts_same at Swaps f g p h = operand_same f (swapped f.stack) g h
  acts_same at ReadsReference f g p h =
      let b = bound (popped env.classes (Assignable vtype.Int) f) (λ x. read_from env.classes x x.stack) g h in
      then_same f b.0 g (popped_same env.classes (Assignable vtype.Int) f f.stack b.0 b.1)
      (read_same env.classes b.0 b.0.stack g b.2)
  acts_same at Makes f g p h = absurd p
  acts_same at (Returns k) f g p h =
      let b = bound (result_taken env k env.method.ty.ret f) (constructor_returned env) g h in
      then_same f b.0 g (result_same k env.method.ty.ret f b.0 b.1)
      (told_unless (in_constructor env && b.0.marked) Uninit b.0 b.0 g (is_same b.0) b.2)
  acts_same at (Uses wanted receiver guarded given) f g p h =
      let a = bound (all_popped env.classes wanted f)
      (λ x. used_from env receiver guarded x x.stack >>= λ y. let R : Checked = Ok (gives given y) in R) g h in
      let b = bound (used_from env receiver guarded a.0 a.0.stack)
      (λ y. let R : Checked = Ok (gives given y) in R) g a.2 in
      given_same given f b.0 g (then_same f a.0 b.0 (all_same env.classes wanted f a.0 a.1)
      (used_same receiver guarded a.0 a.0.stack b.0 b.1)) b.2
  acts_same at (Initialises wanted class guarded) f g p h = absurd p

  IsPlainIf : Option Rule → Type 0
  IsPlainIf None = Unit {0}
  IsPlainIf (Some rule) = IsPlain rule

  steps_same : (at : ℕ) (o : Option Rule) (f g : TypeFrame) → IsPlainIf o → if_ruled env at o f ≡ Ok g → IsSame f g
  unfolding IsPlainIf
  steps_same at None f g p h = absurd cc
  steps_same at (Some rule) f g p h =
      let b = bound (has_room env.code.max_stack env.code.max_locals (taken_words rule) (given_words rule) f)
      (λ u. acted env at rule f) g h in
      acts_same at rule f g p b.2

  -- ---- instructions that change no local

  IsPlainOp : Op → Type 0
  IsPlainOp (op.Store k slot) = ⊥
  IsPlainOp (op.New name) = ⊥
  IsPlainOp (op.InvokeSpecial r) = ⊥
  IsPlainOp _ = Unit {0}

  plain_mapped : {X : Type 0} (f : X → Rule) → ((x : X) → IsPlain (f x)) → (o : Option X) → IsPlainIf (option_map f o)
  unfolding IsPlainIf
  plain_mapped f p None = tt
  plain_mapped f p (Some x) = p x

  plain_load : (e : Elem) → IsPlain (array_load e)
  unfolding IsPlain
  plain_load elem.Ref = tt
  plain_load e = tt

  plain_conversion : (c : ConvOp) → IsPlain (conversion c)
  unfolding IsPlain
  plain_conversion conv.I2l = tt
  plain_conversion conv.L2i = tt
  plain_conversion c = tt

  plain_rule : (o : Op) → IsPlainOp o → IsPlainIf (rule_of env o)
  unfolding IsPlain IsPlainIf IsPlainOp rule_of
  plain_rule (op.Store k slot) p = absurd p
  plain_rule (op.New name) p = absurd p
  plain_rule (op.InvokeSpecial r) p = absurd p
  plain_rule (op.ALoad e) p = plain_load e
  plain_rule (op.Conv c) p = plain_conversion c
  plain_rule (op.GetStatic r) p = plain_mapped static_read (λ ty. tt) (field_type r)
  plain_rule (op.PutStatic r) p = plain_mapped static_write (λ ty. tt) (field_type r)
  plain_rule (op.GetField r) p = plain_mapped (field_read env r) (λ ty. tt) (field_type r)
  plain_rule (op.PutField r) p = plain_mapped (field_write env r) (λ ty. tt) (field_type r)
  plain_rule (op.InvokeVirtual r) p = plain_mapped (object_call env r) (λ ty. tt) (method_type r)
  plain_rule (op.InvokeStatic r) p = plain_mapped static_call (λ ty. tt) (method_type r)
  plain_rule (op.InvokeInterface r) p = plain_mapped (object_call env r) (λ ty. tt) (method_type r)
  plain_rule o p = tt

-- ---- stores

-- words before a store, and how many there are
cut_long : (slot : ℕ) (locals : List VType) → length (cut_before slot locals) ≡ length locals
cut_long slot locals =
    cut (not (slot == 0) && option_map_or (λ ty. words_of_type ty == 2) (slice_get locals (slot - 1)) false)
  where
    cut : (b : Bool)
        → length (let R : List VType = cond b (set locals (slot - 1) vtype.Top) locals in R) ≡ length locals
    cut true = length-set locals (slot - 1) vtype.Top
    cut false = refl

cut_front : (slot : ℕ) (locals : List VType) → take (slot - 1) (cut_before slot locals) ≡ take (slot - 1) locals
cut_front slot locals =
    cut (not (slot == 0) && option_map_or (λ ty. words_of_type ty == 2) (slice_get locals (slot - 1)) false)
  where
    cut : (b : Bool) → take (slot - 1) (let R : List VType = cond b (set locals (slot - 1) vtype.Top) locals in R)
        ≡ take (slot - 1) locals
    cut true = take-set-le (slot - 1) locals (slot - 1) vtype.Top (omega arith)
    cut false = refl

cut_rest : (slot : ℕ) (locals : List VType) → drop (slot + 2) (cut_before slot locals) ≡ drop (slot + 2) locals
cut_rest slot locals =
    cut (not (slot == 0) && option_map_or (λ ty. words_of_type ty == 2) (slice_get locals (slot - 1)) false)
  where
    cut : (b : Bool) → drop (slot + 2) (let R : List VType = cond b (set locals (slot - 1) vtype.Top) locals in R)
        ≡ drop (slot + 2) locals
    cut true = drop-set-lt (slot + 2) locals (slot - 1) vtype.Top (omega arith)
    cut false = refl

top_long : (slot : ℕ) (ty : VType) (locals : List VType) → length (top_behind slot ty locals) ≡ length locals
top_long slot ty locals = cut (words_of_type ty == 2)
  where
    cut : (b : Bool)
        → length (let R : List VType = cond b (set locals (slot + 1) vtype.Top) locals in R) ≡ length locals
    cut true = length-set locals (slot + 1) vtype.Top
    cut false = refl

top_front : (slot : ℕ) (ty : VType) (locals : List VType)
    → take (slot - 1) (top_behind slot ty locals) ≡ take (slot - 1) locals
top_front slot ty locals = cut (words_of_type ty == 2)
  where
    cut : (b : Bool) → take (slot - 1) (let R : List VType = cond b (set locals (slot + 1) vtype.Top) locals in R)
        ≡ take (slot - 1) locals
    cut true = take-set-le (slot - 1) locals (slot + 1) vtype.Top (omega arith)
    cut false = refl

top_rest : (slot : ℕ) (ty : VType) (locals : List VType)
    → drop (slot + 2) (top_behind slot ty locals) ≡ drop (slot + 2) locals
top_rest slot ty locals = cut (words_of_type ty == 2)
  where
    cut : (b : Bool) → drop (slot + 2) (let R : List VType = cond b (set locals (slot + 1) vtype.Top) locals in R)
        ≡ drop (slot + 2) locals
    cut true = drop-set-lt (slot + 2) locals (slot + 1) vtype.Top (omega arith)
    cut false = refl

put_agrees : (slot : ℕ) (ty : VType) (f : TypeFrame) (stack : List VType)
    → Agrees (around slot) f (record { locals = put_local slot ty f.locals; stack = stack; marked = f.marked })
put_agrees slot ty f stack =
    let cut : List VType = cut_before slot f.locals in
    let put : List VType = set cut slot ty in
    record {
      ordered = omega arith;
      long = top_long slot ty put ∙ length-set cut slot ty ∙ cut_long slot f.locals;
      front = top_front slot ty put ∙ take-set-le (slot - 1) cut slot ty (omega arith) ∙ cut_front slot f.locals;
      rest = top_rest slot ty put ∙ drop-set-lt (slot + 2) cut slot ty (omega arith) ∙ cut_rest slot f.locals;
      marked = refl;
    }

told_agrees : (c : Changed) (f x g : TypeFrame) → Agrees c f x → (let R : Checked = Ok x in R) ≡ Ok g → Agrees c f g
told_agrees c f x g a h = let e : x ≡ g = cc in subst (λ (y : TypeFrame). Agrees c f y) e a

module _ (env : Environment) where
  stored_agrees : (wanted : Wanted) (slot : ℕ) (f : TypeFrame) (stack : List VType) (g : TypeFrame)
      → stored_from env.classes wanted slot f stack ≡ Ok g → Agrees (around slot) f g
  stored_agrees wanted slot f [] g h = absurd cc
  stored_agrees wanted slot f (ty ∷ stack) g h = met (meets env.classes wanted ty) h
    where
      met : (b : Bool)
          → (let R : Checked =
          cond b (Ok (record { locals = put_local slot ty f.locals; stack = stack; marked = f.marked }))
          (Err Operand) in R)
          ≡ Ok g → Agrees (around slot) f g
      met true e =
          told_agrees (around slot) f
          (record { locals = put_local slot ty f.locals; stack = stack; marked = f.marked }) g
          (put_agrees slot ty f stack) e
      met false e = absurd cc

  stores_agree : (at : ℕ) (k : Kind) (slot : ℕ) (f g : TypeFrame) → if_ruled env at (Some (Stores k slot)) f ≡ Ok g
      → Agrees (around slot) f g
  stores_agree at k slot f g h =
      let b = bound (has_room env.code.max_stack env.code.max_locals (words_of_kind k) 0 f)
      (λ u. acted env at (Stores k slot) f) g h in
      within (nat_le (slot + words_of_kind k) (length f.locals)) b.2
    where
      within : (b : Bool)
          → (let R : Checked = cond b (stored_from env.classes (moved k) slot f f.stack) (Err Local) in R)
          ≡ Ok g → Agrees (around slot) f g
      within true e = stored_agrees (moved k) slot f f.stack g e
      within false e = absurd cc

  -- ---- all instructions

  same_agrees : (f g : TypeFrame) → IsSame f g → Agrees nothing f g
  same_agrees f g s = record {
    ordered = omega arith;
    long = ap length s.0;
    front = ap (take 0) s.0;
    rest = ap (drop 0) s.0;
    marked = s.1;
  }

  step_agrees : (at : ℕ) (o : Op) (f g : TypeFrame) → stepped env at o f ≡ Ok g → AgreesBy (changed_by o) f g
  unfolding IsPlainOp rule_of
  step_agrees at (op.Store k slot) f g h = stores_agree at k slot f g h
  step_agrees at (op.New name) f g h = tt
  step_agrees at (op.InvokeSpecial r) f g h = tt
  step_agrees at o f g h = same_agrees f g (steps_same env at (rule_of env o) f g (plain_rule env o tt) h)

  flows_on : (o : Op) (after g : TypeFrame) → flow_after o after ≡ Some g → after ≡ g
  flows_on o after g h = on (goes_elsewhere o) h
    where
      on : (b : Bool) → (let R : Option TypeFrame = cond b None (Some after) in R) ≡ Some g → after ≡ g
      on true e = absurd cc
      on false e = cc

  since_by : (at : ℕ) (c : Option Changed) (before after g : TypeFrame) → IsTrue (satisfies_handlers env at before)
      → AgreesBy c before after → after ≡ g → IsSince env (at + 1) c g
  since_by at None before after g s a e = tt
  since_by at (Some c) before after g s a e =
      let n : at + 1 - 1 ≡ at = omega arith in (
        omega arith,
        before,
        subst (λ (k : ℕ). IsTrue (satisfies_handlers env k before)) (sym n) s,
        subst (λ (x : TypeFrame). Agrees c before x) e a,
      )

  -- an instruction that is passed tells what it may have changed of a frame that satisfies its handlers
  pub since_more : (at : ℕ) (o : Op) (old : Option TypeFrame) (flows : Bool) (g : TypeFrame)
      → at_instruction env at o old ≡ Ok (flow flows g) → IsSince env (at + 1) (since_after flows o) g
  since_more at o old false g h = tt
  since_more at o old true g h =
      let p = was_passed env at o old (Some g) h in
      since_by at (changed_by o) p.0 p.2 g p.5 (step_agrees at o p.0 p.2 p.3) (flows_on o p.2 g p.6)

-- a frame that is the one that flows in
pub since_same : (env : Environment) (at : ℕ) (since : Option Changed) (same : Bool) (f g : TypeFrame)
    → IsSince env at since f → (IsTrue same → IsSame f g) → IsSince env at (since_there same since) g
since_same env at since false f g s is = tt
since_same env at None true f g s is = tt
since_same env at (Some c) true f g s is =
    let e = is refl in (
      s.0,
      s.1,
      s.2,
      record {
        ordered = s.3.ordered;
        long = ap length e.0 ∙ s.3.long;
        front = ap (take c.from) e.0 ∙ s.3.front;
        rest = ap (drop c.to) e.0 ∙ s.3.rest;
        marked = e.1 ∙ s.3.marked;
      },
    )
