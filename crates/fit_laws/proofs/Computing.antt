-- The instructions that ask nothing but what is known, from the instruction on: constants, numbers, jumps, slots, words
-- and athrow (JVMS 6.5).
use Rattle.std.proofs.Common.{ℕ, ℤ, pos, negsuc, List, [], ◌∷◌, Option, Some, None, Bool, true}
use Rattle.std.proofs.Common.{false, ◌≡◌, refl, sym, ap, ◌∙◌, subst, nat_eq, ◌||◌, arith}
use Rattle.std.specs.Prelude.{map, ◌-ℤ◌, Ok, cond, option_map}
use Rattle.std.specs.List.{find, list_any}
use Rattle.std.specs.Option.{unwrap_or}
use Rattle.std.specs.Ordering.{int_eq}
use Rattle.jv_base.proofs.Lists.{any_at, got_mapped}
use Rattle.class_model.specs.declared.class.Class.{Class}
use Rattle.class_model.specs.declared.frame.VType.{VType}
use Rattle.class_model.specs.declared.frame.VType.TheVariants as vtype
use Rattle.class_model.specs.declared.op.ArithOp.TheVariants as arithmetic_op
use Rattle.class_model.specs.declared.op.Case.{Case}
use Rattle.class_model.specs.declared.op.Kind.{Kind}
use Rattle.class_model.specs.declared.op.Kind.TheVariants as kind
use Rattle.class_model.specs.declared.op.Num.{Num}
use Rattle.class_model.specs.declared.op.Num.TheVariants as num
use Rattle.class_model.specs.declared.op.Op.{Op}
use Rattle.class_model.specs.declared.op.Op.TheVariants as op
use Rattle.class_model.specs.declared.op.ArithOp.{ArithOp}
use Rattle.class_model.specs.declared.op.Cond.{Cond}
use Rattle.class_model.specs.declared.op.ConvOp.{ConvOp}
use Rattle.class_model.specs.declared.op.ConvOp.TheVariants as conv
use Rattle.class_model.specs.declared.op.LogicOp.{LogicOp}
use Rattle.class_model.specs.declared.op.ShiftOp.{ShiftOp}
use Rattle.jvm_model.specs.Exceptions.{Arithmetic}
use Rattle.jvm_model.specs.Instructions.{Asks, Known, Raise, Request, computes, divides}
use Rattle.jvm_model.specs.Local.{goes_on}
use Rattle.jvm_model.specs.Requests.{answer}
use Rattle.set_view.specs.ViewOf.{shape_of}
use Rattle.type_verifier.specs.Effects.{Checked}
use Rattle.fit_laws.specs.Answered.{FitsAnswer}
use Rattle.fit_laws.specs.Values.{FitsKnown, FitsWorld}
use Rattle.fit_laws.proofs.Fields.{given_same}
use Rattle.fit_laws.proofs.Sorts.{asks_fit, moves_to, taken_of}
use Rattle.jvm_model.specs.Heap.{Object, World, string}
use Rattle.jvm_model.specs.Instructions.{case_target, jump_if, pushes, sort_of, table_target}
use Rattle.jvm_model.specs.Local.{by_sort}
use Rattle.jvm_model.specs.Numbers.{as_number, number}
use Rattle.jvm_model.specs.Stack.{Reader, one, two, with}
use Rattle.jvm_model.specs.State.{Body}
use Rattle.jvm_model.specs.Value.{Key, Value, Int, Long, Null, Ref, Lit, as_int, as_kind, as_long}
use Rattle.type_verifier.specs.declared.frame.TypeFrame.{TypeFrame}
use Rattle.type_verifier.specs.Assignable.{class_type}
use Rattle.type_verifier.specs.Effects.{stepped}
use Rattle.type_verifier.specs.Environment.{Environment, goes_elsewhere, targets}
use Rattle.type_verifier.specs.Rules.{Assignable, Reference, Wanted, rule_of}
use Rattle.type_verifier.specs.Rules as rules
use Rattle.fit_laws.specs.Answered.{FitsLocal}
use Rattle.fit_laws.specs.Frames.{Environs, FitsBody}
use Rattle.fit_laws.specs.Held.{is_held}
use Rattle.fit_laws.specs.Values.{FitsValue, throwable as thrown_type}
use Rattle.fit_laws.proofs.Assigning.{assign_value}
use Rattle.fit_laws.proofs.Slots.{doubles_fit, drops_fit, incs_fit, loads_fit, reference_value, stores_fit, swaps_fit}
use Rattle.fit_laws.proofs.Slots.{throws_fit}
use Rattle.fit_laws.proofs.Held.{IsHierarchy}
use Rattle.fit_laws.proofs.Lists.{found_in}
use Rattle.fit_laws.proofs.Sorts.{Goes, LeadsOn, acted_of, jumps_fit, pushes_fit}
use Rattle.fit_laws.proofs.Taking.{Reads, TakesOne, int_taken, one_reads, two_reads, with_reads}

module _ (env : Environment) (heap : List Object) (hierarchy : IsHierarchy env.classes) where
  long_of : (v : Value) → FitsValue env heap vtype.Long v → (x : ℤ) × (as_long v ≡ Some x)
      × Unit {0}
  long_of (Long z) x = (z, refl, tt)
  long_of (Int z) x = absurd cc
  long_of Null x = absurd cc
  long_of (Ref n) x = absurd cc
  long_of (Lit units) x = absurd cc

  long_taken : TakesOne env heap (Assignable vtype.Long) as_long (λ z. Unit {0})
  long_taken t v m x = long_of v (assign_value env heap hierarchy t vtype.Long m v x)

  number_taken : (n : Num)
      → TakesOne env heap (Assignable (rules.number n)) (as_number n) (λ z. Unit {0})
  number_taken num.Int = int_taken env heap hierarchy
  number_taken num.Long = long_taken

  number_fits : (n : Num) (z : ℤ) → FitsValue env heap (rules.number n) (number n z)
  number_fits num.Int z = (z, refl)
  number_fits num.Long z = (z, refl)

  reference_taken : TakesOne env heap Reference (as_kind kind.Ref) (λ v. Unit {0})
  reference_taken t v m x = (v, reference_value env heap hierarchy t v m x, tt)

  int_reads : {X : Type 0} (fn : ℤ → X) (Q : X → Type 0) → ((z : ℤ) → Q (fn z))
      → Reads env heap (Assignable vtype.Int ∷ []) (one as_int fn) Q
  int_reads fn Q q = one_reads env heap (Assignable vtype.Int) as_int (λ z. Unit {0})
      (int_taken env heap hierarchy) fn Q (λ z u. q z)

  numbers_read : (n : Num) (fn : ℤ → ℤ → Value) (Q : Value → Type 0) → ((y z : ℤ) → Q (fn y z))
      → Reads env heap (Assignable (rules.number n) ∷ Assignable (rules.number n) ∷ [])
      (two (as_number n) (as_number n) fn) Q
  numbers_read n fn Q q =
      two_reads env heap (Assignable (rules.number n)) (Assignable (rules.number n)) (as_number n)
      (as_number n)
      (λ z. Unit {0}) (λ z. Unit {0}) (number_taken n) (number_taken n) fn Q (λ y z u v. q y z)

module _ (classes : List Class) (w : World) (world : FitsWorld classes w) (k : Key) (env : Environment)
    (is : Environs classes k env)
    (hierarchy : IsHierarchy env.classes) (b : Body) (f : TypeFrame) (x : FitsBody env w.heap f b)
  where
    abbrev Does : Op → Type 0
    Does o = FitsLocal classes w k env is.frames b (by_sort b (sort_of o))

    abbrev On : Op → TypeFrame → Type 0
    On o after = LeadsOn classes w k env is hierarchy b f x o after

    abbrev Jump : Op → Option ℕ → Type 0
    Jump o to = Goes classes w k env is hierarchy b f x o to

    gives_value : (wanted : List Wanted) (given : VType) (o : Op) (read : Reader Value)
        (after : TypeFrame)
        → rule_of env o ≡ Some (rules.Takes wanted (Some given)) → stepped env b.at o f ≡ Ok after
        → goes_elsewhere o ≡ false
        → On o after → Reads env w.heap wanted read (FitsValue env w.heap given)
        → FitsLocal classes w k env is.frames b (by_sort b (pushes read))
    gives_value wanted given o read after r h e l q =
        pushes_fit classes w k env is hierarchy b f x wanted given read after q
        (acted_of env b.at o _ f after r h) (l.0 e)

    same : (n : ℕ) → nat_eq n n ≡ true
    same n = search (arith)

    one_target : (n : ℕ) → list_any (nat_eq n) (n ∷ []) ≡ true
    one_target n = search (arith)

    -- one of two ways
    either : (o : Op) (to : ℕ) (t : Bool) → targets o ≡ to ∷ [] → goes_elsewhere o ≡ false
        → Jump o (jump_if t to)
    either o to true e g = subst (λ (ts : List ℕ). list_any (nat_eq to) ts ≡ true) (sym e)
        (one_target to)
    either o to false e g = g

    first_of : (n : ℕ) (ns : List ℕ) → list_any (nat_eq n) (n ∷ ns) ≡ true
    first_of n ns = ap (λ (t : Bool). t || list_any (nat_eq n) ns) (same n)

    later_of : (n m : ℕ) (ns : List ℕ) → list_any (nat_eq n) ns ≡ true
        → list_any (nat_eq n) (m ∷ ns) ≡ true
    later_of n m ns h = or_right (nat_eq n m) _ h where
      or_right : (p q : Bool) → q ≡ true → (p || q) ≡ true
      or_right true q e = refl
      or_right false q e = e

    table_goes : (other : ℕ) (cases : List ℕ) (t : Option ℕ)
        → ((to : ℕ) → t ≡ Some to → list_any (nat_eq to) cases ≡ true)
        → list_any (nat_eq (unwrap_or t other)) (other ∷ cases) ≡ true
    table_goes other cases None q = first_of other cases
    table_goes other cases (Some to) q = later_of to other cases (q to refl)

    in_table : (cases : List ℕ) (z : ℤ) (to : ℕ) → table_target cases z ≡ Some to
        → list_any (nat_eq to) cases ≡ true
    in_table cases (pos n) to e = any_at (nat_eq to) cases n to e (same to)
    in_table cases (negsuc n) to e = absurd cc

    in_cases : (cases : List Case) (z : ℤ) (to : ℕ) → case_target cases z ≡ Some to
        → list_any (nat_eq to) (map (λ (c : Case). c.to) cases) ≡ true
    in_cases cases z to e = by (find (λ (c : Case). int_eq c.key z) cases) refl e where
      by : (o : Option Case) → find (λ (c : Case). int_eq c.key z) cases ≡ o
          → option_map (λ (c : Case). c.to) o ≡ Some to
          → list_any (nat_eq to) (map (λ (c : Case). c.to) cases) ≡ true
      by None h e = absurd cc
      by (Some c) h e = let p = found_in (λ (d : Case). int_eq d.key z) cases c h in
          any_at (nat_eq to) (map (λ (d : Case). d.to) cases) p.0 to
          (got_mapped (λ (d : Case). d.to) cases p.0 c p.1 ∙ e) (same to)

    -- of a rule that takes and gives, and a request that is known
    asks_known : (wanted : List Wanted) (given : Option VType) (o : Op) (read : Reader Request)
        (after : TypeFrame) → rule_of env o ≡ Some (rules.Takes wanted given)
        → stepped env b.at o f ≡ Ok after → goes_elsewhere o ≡ false → On o after
        → Reads env w.heap wanted read
        (λ r. FitsAnswer classes env w given (answer (shape_of classes) k.class w r))
        → FitsLocal classes w k env is.frames b (by_sort b (Asks read))
    asks_known wanted given o read after r h e l q =
        asks_fit classes w k env is hierarchy b f x wanted given read after q
        (acted_of env b.at o _ f after r h) (l.0 e)

    -- ---- constants

    pub does_nothing : (after : TypeFrame) → stepped env b.at op.Nop f ≡ Ok after → On op.Nop after
        → Does op.Nop
    unfolding rule_of
    does_nothing after h l =
        let t = taken_of env [] None f after b.at (acted_of env b.at op.Nop _ f after refl h) in
        moves_to classes w k env is hierarchy b f x after (goes_on b b.stack) (l.0 refl)
        (subst (λ (g : TypeFrame). FitsBody env w.heap g (goes_on b b.stack)) (same t.0 t.1 ∙ t.2)
        (record { locals = x.locals; stack = x.stack }))
      where
        same : (g : TypeFrame) → (let R : Checked = Ok f in R) ≡ Ok g → f ≡ g
        same g h = cc

    pub push_null : (after : TypeFrame) → stepped env b.at op.PushNull f ≡ Ok after → On op.PushNull after
        → Does op.PushNull
    unfolding rule_of
    push_null after h l = gives_value [] vtype.Null op.PushNull _ after refl h refl l
        (with_reads env w.heap (FitsValue env w.heap vtype.Null) Null refl)

    pub push_int : (n : ℤ) (after : TypeFrame) → stepped env b.at (op.PushInt n) f ≡ Ok after
        → On (op.PushInt n) after → Does (op.PushInt n)
    unfolding rule_of
    push_int n after h l = gives_value [] vtype.Int (op.PushInt n) _ after refl h refl l
        (with_reads env w.heap (FitsValue env w.heap vtype.Int) (Int n) (n, refl))

    pub push_long : (n : ℤ) (after : TypeFrame) → stepped env b.at (op.PushLong n) f ≡ Ok after
        → On (op.PushLong n) after → Does (op.PushLong n)
    unfolding rule_of
    push_long n after h l = gives_value [] vtype.Long (op.PushLong n) _ after refl h refl l
        (with_reads env w.heap (FitsValue env w.heap vtype.Long) (Long n) (n, refl))

    pub push_text : (units : List ℕ) (after : TypeFrame) → stepped env b.at (op.PushText units) f ≡ Ok after
        → On (op.PushText units) after → Does (op.PushText units)
    unfolding rule_of
    push_text units after h l = gives_value [] rules.string (op.PushText units) _ after refl h refl l
        (with_reads env w.heap (FitsValue env w.heap rules.string) (Lit units)
        (hierarchy.itself (class_type string) hierarchy.string_there))

    -- ---- numbers

    computed : (o : Op) (n : Num) (fn : ℤ → ℤ → ℤ) (after : TypeFrame)
        → rule_of env o ≡ Some (rules.binary (rules.number n)) → stepped env b.at o f ≡ Ok after
        → goes_elsewhere o ≡ false → On o after
        → FitsLocal classes w k env is.frames b (by_sort b (computes n fn))
    computed o n fn after r h e l = gives_value _ (rules.number n) o _ after r h e l
        (numbers_read env w.heap hierarchy n _ _ (λ y z. number_fits env w.heap hierarchy n _))

    -- a division gives a number or throws
    quotient : (n : Num) (fn : ℤ → ℤ → ℤ) (y z : ℤ)
        → FitsAnswer classes env w (Some (rules.number n)) (answer (shape_of classes) k.class w
        (cond (int_eq z (pos 0)) (Raise Arithmetic) (Known (number n (fn y z)))))
    quotient n fn y z = by (int_eq z (pos 0)) where
      known : (m : Num) (i : ℤ) → FitsKnown classes w.heap (rules.number m) (number m i)
      known num.Int i = (i, refl)
      known num.Long i = (i, refl)

      by : (t : Bool) → FitsAnswer classes env w (Some (rules.number n)) (answer (shape_of classes) k.class w
          (cond t (Raise Arithmetic) (Known (number n (fn y z)))))
      by true = tt
      by false = given_same classes w world env is.classes_are (rules.number n) (number n (fn y z)) (known n (fn y z))

    divided : (o : Op) (n : Num) (fn : ℤ → ℤ → ℤ) (after : TypeFrame)
        → rule_of env o ≡ Some (rules.binary (rules.number n)) → stepped env b.at o f ≡ Ok after
        → goes_elsewhere o ≡ false → On o after
        → FitsLocal classes w k env is.frames b (by_sort b (divides n fn))
    divided o n fn after r h e l = asks_known _ (Some (rules.number n)) o _ after r h e l
        (two_reads env w.heap (Assignable (rules.number n)) (Assignable (rules.number n)) (as_number n) (as_number n)
        (λ z. Unit {0}) (λ z. Unit {0}) (number_taken env w.heap hierarchy n) (number_taken env w.heap hierarchy n) _ _
        (λ y z u v. quotient n fn y z))

    pub arithmetic_fits : (a : ArithOp) (n : Num) (after : TypeFrame) → stepped env b.at (op.Arith a n) f ≡ Ok after
        → On (op.Arith a n) after → Does (op.Arith a n)
    unfolding rule_of
    arithmetic_fits arithmetic_op.Add n after h l = computed (op.Arith arithmetic_op.Add n) n _ after refl h refl l
    arithmetic_fits arithmetic_op.Sub n after h l = computed (op.Arith arithmetic_op.Sub n) n _ after refl h refl l
    arithmetic_fits arithmetic_op.Mul n after h l = computed (op.Arith arithmetic_op.Mul n) n _ after refl h refl l
    arithmetic_fits arithmetic_op.Div n after h l = divided (op.Arith arithmetic_op.Div n) n _ after refl h refl l
    arithmetic_fits arithmetic_op.Rem n after h l = divided (op.Arith arithmetic_op.Rem n) n _ after refl h refl l

    pub logic_fits : (o : LogicOp) (n : Num) (after : TypeFrame) → stepped env b.at (op.Logic o n) f ≡ Ok after
        → On (op.Logic o n) after → Does (op.Logic o n)
    unfolding rule_of
    logic_fits o n after h l = computed (op.Logic o n) n _ after refl h refl l

    pub negated : (n : Num) (after : TypeFrame) → stepped env b.at (op.Neg n) f ≡ Ok after
        → On (op.Neg n) after → Does (op.Neg n)
    unfolding rule_of
    negated n after h l = gives_value _ (rules.number n) (op.Neg n) _ after refl h refl l
        (one_reads env w.heap (Assignable (rules.number n)) (as_number n) (λ z. Unit {0})
        (number_taken env w.heap hierarchy n) _ _
        (λ z u. number_fits env w.heap hierarchy n _))

    pub shifts : (o : ShiftOp) (n : Num) (after : TypeFrame) → stepped env b.at (op.Shift o n) f ≡ Ok after
        → On (op.Shift o n) after → Does (op.Shift o n)
    unfolding rule_of
    shifts o n after h l = gives_value _ (rules.number n) (op.Shift o n) _ after refl h refl l
        (two_reads env w.heap (Assignable (rules.number n)) (Assignable vtype.Int) (as_number n) as_int
        (λ z. Unit {0}) (λ z. Unit {0}) (number_taken env w.heap hierarchy n) (int_taken env w.heap hierarchy) _ _
        (λ y z u v. number_fits env w.heap hierarchy n _))

    pub converts : (c : ConvOp) (after : TypeFrame) → stepped env b.at (op.Conv c) f ≡ Ok after
        → On (op.Conv c) after → Does (op.Conv c)
    unfolding rule_of
    converts conv.I2l after h l = gives_value _ vtype.Long (op.Conv conv.I2l) _ after refl h refl l
        (int_reads env w.heap hierarchy _ _ (λ z. (z, refl)))
    converts conv.L2i after h l = gives_value _ vtype.Int (op.Conv conv.L2i) _ after refl h refl l
        (one_reads env w.heap (Assignable vtype.Long) as_long (λ z. Unit {0}) (long_taken env w.heap hierarchy) _ _
        (λ z u. (_, refl)))
    converts conv.I2b after h l = gives_value _ vtype.Int (op.Conv conv.I2b) _ after refl h refl l
        (int_reads env w.heap hierarchy _ _ (λ z. (_, refl)))
    converts conv.I2c after h l = gives_value _ vtype.Int (op.Conv conv.I2c) _ after refl h refl l
        (int_reads env w.heap hierarchy _ _ (λ z. (_, refl)))
    converts conv.I2s after h l = gives_value _ vtype.Int (op.Conv conv.I2s) _ after refl h refl l
        (int_reads env w.heap hierarchy _ _ (λ z. (_, refl)))

    pub compares : (after : TypeFrame) → stepped env b.at op.LCmp f ≡ Ok after → On op.LCmp after
        → Does op.LCmp
    unfolding rule_of
    compares after h l = gives_value _ vtype.Int op.LCmp _ after refl h refl l
        (two_reads env w.heap (Assignable vtype.Long) (Assignable vtype.Long) as_long as_long
        (λ z. Unit {0}) (λ z. Unit {0})
        (long_taken env w.heap hierarchy) (long_taken env w.heap hierarchy) _ _
        (λ y z u v. (_, refl)))

    -- ---- jumps

    pub if_zero : (c : Cond) (to : ℕ) (after : TypeFrame) → stepped env b.at (op.IfZero c to) f ≡ Ok after
        → On (op.IfZero c to) after → Does (op.IfZero c to)
    unfolding rule_of
    if_zero c to after h l = jumps_fit classes w k env is hierarchy b f x (op.IfZero c to) (Assignable vtype.Int ∷ []) _
        after (int_reads env w.heap hierarchy _ (Jump (op.IfZero c to)) (λ z. either (op.IfZero c to) to _ refl refl))
        (acted_of env b.at (op.IfZero c to) _ f after refl h) l

    pub if_compared : (c : Cond) (to : ℕ) (after : TypeFrame) → stepped env b.at (op.IfCmp c to) f ≡ Ok after
        → On (op.IfCmp c to) after → Does (op.IfCmp c to)
    unfolding rule_of
    if_compared c to after h l = jumps_fit classes w k env is hierarchy b f x (op.IfCmp c to)
        (Assignable vtype.Int ∷ Assignable vtype.Int ∷ []) _ after
        (two_reads env w.heap (Assignable vtype.Int) (Assignable vtype.Int) as_int as_int (λ z. Unit {0})
        (λ z. Unit {0})
        (int_taken env w.heap hierarchy) (int_taken env w.heap hierarchy) _ (Jump (op.IfCmp c to))
        (λ y z u v. either (op.IfCmp c to) to _ refl refl))
        (acted_of env b.at (op.IfCmp c to) _ f after refl h) l

    pub if_same : (c : Bool) (to : ℕ) (after : TypeFrame) → stepped env b.at (op.IfRef c to) f ≡ Ok after
        → On (op.IfRef c to) after → Does (op.IfRef c to)
    unfolding rule_of
    if_same c to after h l = jumps_fit classes w k env is hierarchy b f x (op.IfRef c to) (Reference ∷ Reference ∷ []) _
        after
        (two_reads env w.heap Reference Reference (as_kind kind.Ref) (as_kind kind.Ref) (λ v. Unit {0}) (λ v. Unit {0})
        (reference_taken env w.heap hierarchy) (reference_taken env w.heap hierarchy) _ (Jump (op.IfRef c to))
        (λ y z u v. either (op.IfRef c to) to _ refl refl))
        (acted_of env b.at (op.IfRef c to) _ f after refl h) l

    pub if_null : (c : Bool) (to : ℕ) (after : TypeFrame)
        → stepped env b.at (op.IfNull c to) f ≡ Ok after
        → On (op.IfNull c to) after → Does (op.IfNull c to)
    unfolding rule_of
    if_null c to after h l = jumps_fit classes w k env is hierarchy b f x (op.IfNull c to)
        (Reference ∷ []) _ after
        (one_reads env w.heap Reference (as_kind kind.Ref) (λ v. Unit {0})
        (reference_taken env w.heap hierarchy) _ (Jump (op.IfNull c to))
        (λ v u. either (op.IfNull c to) to _ refl refl))
        (acted_of env b.at (op.IfNull c to) _ f after refl h) l

    pub goes_to : (to : ℕ) (after : TypeFrame) → stepped env b.at (op.Goto to) f ≡ Ok after
        → On (op.Goto to) after → Does (op.Goto to)
    unfolding rule_of
    goes_to to after h l = jumps_fit classes w k env is hierarchy b f x (op.Goto to) []
        (with (Some to)) after
        (with_reads env w.heap (Jump (op.Goto to)) (Some to) (one_target to))
        (acted_of env b.at (op.Goto to) _ f after refl h) l

    pub table : (low : ℤ) (other : ℕ) (cases : List ℕ) (after : TypeFrame)
        → stepped env b.at (op.TableSwitch low other cases) f ≡ Ok after
        → On (op.TableSwitch low other cases) after → Does (op.TableSwitch low other cases)
    unfolding rule_of
    table low other cases after h l =
        jumps_fit classes w k env is hierarchy b f x (op.TableSwitch low other cases)
        (Assignable vtype.Int ∷ []) _ after
        (int_reads env w.heap hierarchy _ (Jump (op.TableSwitch low other cases))
        (λ z. table_goes other cases (table_target cases (z -ℤ low)) (in_table cases (z -ℤ low))))
        (acted_of env b.at (op.TableSwitch low other cases) _ f after refl h) l

    pub lookup : (other : ℕ) (cases : List Case) (after : TypeFrame)
        → stepped env b.at (op.LookupSwitch other cases) f ≡ Ok after
        → On (op.LookupSwitch other cases) after → Does (op.LookupSwitch other cases)
    unfolding rule_of
    lookup other cases after h l =
        jumps_fit classes w k env is hierarchy b f x (op.LookupSwitch other cases)
        (Assignable vtype.Int ∷ []) _ after
        (int_reads env w.heap hierarchy _ (Jump (op.LookupSwitch other cases))
        (λ z. table_goes other (map (λ (c : Case). c.to) cases) (case_target cases z)
        (in_cases cases z)))
        (acted_of env b.at (op.LookupSwitch other cases) _ f after refl h) l

    -- ---- words and slots

    pub pop : (after : TypeFrame) → stepped env b.at op.Pop f ≡ Ok after → On op.Pop after → Does op.Pop
    unfolding rule_of
    pop after h l = drops_fit classes w k env is hierarchy b f x 1 after
        (acted_of env b.at op.Pop _ f after refl h) (l.0 refl)

    pub pop2 : (after : TypeFrame) → stepped env b.at op.Pop2 f ≡ Ok after → On op.Pop2 after → Does op.Pop2
    unfolding rule_of
    pop2 after h l = drops_fit classes w k env is hierarchy b f x 2 after
        (acted_of env b.at op.Pop2 _ f after refl h) (l.0 refl)

    pub dup : (after : TypeFrame) → stepped env b.at op.Dup f ≡ Ok after → On op.Dup after → Does op.Dup
    unfolding rule_of
    dup after h l = doubles_fit classes w k env is hierarchy b f x 1 0 after
        (acted_of env b.at op.Dup _ f after refl h) (l.0 refl)

    pub dup_x1 : (after : TypeFrame) → stepped env b.at op.DupX1 f ≡ Ok after → On op.DupX1 after → Does op.DupX1
    unfolding rule_of
    dup_x1 after h l = doubles_fit classes w k env is hierarchy b f x 1 1 after
        (acted_of env b.at op.DupX1 _ f after refl h) (l.0 refl)

    pub dup_x2 : (after : TypeFrame) → stepped env b.at op.DupX2 f ≡ Ok after → On op.DupX2 after → Does op.DupX2
    unfolding rule_of
    dup_x2 after h l = doubles_fit classes w k env is hierarchy b f x 1 2 after
        (acted_of env b.at op.DupX2 _ f after refl h) (l.0 refl)

    pub dup2 : (after : TypeFrame) → stepped env b.at op.Dup2 f ≡ Ok after → On op.Dup2 after → Does op.Dup2
    unfolding rule_of
    dup2 after h l = doubles_fit classes w k env is hierarchy b f x 2 0 after
        (acted_of env b.at op.Dup2 _ f after refl h) (l.0 refl)

    pub dup2_x1 : (after : TypeFrame) → stepped env b.at op.Dup2X1 f ≡ Ok after → On op.Dup2X1 after → Does op.Dup2X1
    unfolding rule_of
    dup2_x1 after h l = doubles_fit classes w k env is hierarchy b f x 2 1 after
        (acted_of env b.at op.Dup2X1 _ f after refl h) (l.0 refl)

    pub dup2_x2 : (after : TypeFrame) → stepped env b.at op.Dup2X2 f ≡ Ok after → On op.Dup2X2 after → Does op.Dup2X2
    unfolding rule_of
    dup2_x2 after h l = doubles_fit classes w k env is hierarchy b f x 2 2 after
        (acted_of env b.at op.Dup2X2 _ f after refl h) (l.0 refl)

    pub swap : (after : TypeFrame) → stepped env b.at op.Swap f ≡ Ok after → On op.Swap after → Does op.Swap
    unfolding rule_of
    swap after h l = swaps_fit classes w k env is hierarchy b f x after
        (acted_of env b.at op.Swap _ f after refl h) (l.0 refl)

    pub load : (kd : Kind) (slot : ℕ) (after : TypeFrame)
        → stepped env b.at (op.Load kd slot) f ≡ Ok after → On (op.Load kd slot) after
        → Does (op.Load kd slot)
    unfolding rule_of
    load kd slot after h l = loads_fit classes w k env is hierarchy b f x kd slot after
        (acted_of env b.at (op.Load kd slot) _ f after refl h) (l.0 refl)

    pub store : (kd : Kind) (slot : ℕ) (after : TypeFrame)
        → stepped env b.at (op.Store kd slot) f ≡ Ok after
        → On (op.Store kd slot) after → Does (op.Store kd slot)
    unfolding rule_of
    store kd slot after h l = stores_fit classes w k env is hierarchy b f x kd slot after
        (acted_of env b.at (op.Store kd slot) _ f after refl h) (l.0 refl)

    pub count : (slot : ℕ) (n : ℤ) (after : TypeFrame)
        → stepped env b.at (op.Inc slot n) f ≡ Ok after → On (op.Inc slot n) after
        → Does (op.Inc slot n)
    unfolding rule_of
    count slot n after h l = incs_fit classes w k env is hierarchy b f x slot n after
        (acted_of env b.at (op.Inc slot n) _ f after refl h) (l.0 refl)

    pub throw : (after : TypeFrame)
        → is_held env.classes (class_type string) thrown_type ≡ false
        → stepped env b.at op.Throw f ≡ Ok after → Does op.Throw
    unfolding rule_of
    throw after never h =
        throws_fit classes w k env is hierarchy b f x after never
        (acted_of env b.at op.Throw _ f after refl h)
