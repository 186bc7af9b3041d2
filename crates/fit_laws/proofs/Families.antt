-- What each of the 49 families of instructions does fits, where its rule applies and its names mean something: which
-- instruction is of which sort is said by `sort_of` of the machine, and what each needs by `rule_of` of the type
-- checker.
use Rattle.std.proofs.Common.{ℕ, ◌+◌, List, Some, Bool, true, false, ◌≡◌, refl, sym, subst, slice_get, nat_eq}
use Rattle.std.specs.Prelude.{Ok}
use Rattle.std.specs.List.{list_any}
use Rattle.class_model.specs.Flags.{is_init}
use Rattle.class_model.specs.declared.class.Class.{Class}
use Rattle.class_model.specs.declared.code.Ins.{Ins}
use Rattle.class_model.specs.declared.op.MemberRef.{MemberRef}
use Rattle.class_model.specs.declared.op.Op.{Op}
use Rattle.class_model.specs.declared.op.Op.TheVariants as op
use Rattle.jvm_model.specs.Heap.{World, string}
use Rattle.jvm_model.specs.Instructions.{sort_of}
use Rattle.jvm_model.specs.Local.{by_sort}
use Rattle.jvm_model.specs.State.{Body}
use Rattle.jvm_model.specs.Value.{Key}
use Rattle.type_verifier.specs.declared.frame.TypeFrame.{TypeFrame}
use Rattle.type_verifier.specs.Assignable.{class_type}
use Rattle.type_verifier.specs.Effects.{stepped}
use Rattle.type_verifier.specs.Environment.{Environment, goes_elsewhere, targets}
use Rattle.fit_laws.specs.Answered.{FitsLocal}
use Rattle.fit_laws.specs.Frames.{Environs, FitsBody, Leads}
use Rattle.fit_laws.specs.Held.{is_held}
use Rattle.fit_laws.specs.Laws.{InstructionsFit}
use Rattle.fit_laws.specs.Meaning.{CallsSpecialBy, IsMeant}
use Rattle.fit_laws.specs.Sound.{IsSound}
use Rattle.fit_laws.specs.Values.{FitsWorld, throwable}
use Rattle.fit_laws.proofs.ArrayAsking.{casts, loads_array, makes_many, makes_numbers, makes_objects, measures}
use Rattle.fit_laws.proofs.ArrayAsking.{stores_array, tests}
use Rattle.fit_laws.proofs.Calling.{calls_init, calls_interface, calls_special, calls_static, calls_virtual}
use Rattle.fit_laws.proofs.Computing.{arithmetic_fits, compares, converts, count, does_nothing, dup, dup2, dup2_x1}
use Rattle.fit_laws.proofs.Computing.{dup2_x2, dup_x1, dup_x2, goes_to, if_compared, if_null, if_same, if_zero, load}
use Rattle.fit_laws.proofs.Computing.{logic_fits, lookup, negated, pop, pop2, push_int, push_long, push_null, push_text}
use Rattle.fit_laws.proofs.Computing.{shifts, store, swap, table, throw}
use Rattle.fit_laws.proofs.Fields.{gets_field, gets_static, makes, puts_field, puts_static}
use Rattle.fit_laws.proofs.Going.{hierarchy_of}
use Rattle.fit_laws.proofs.Held.{IsHierarchy}
use Rattle.fit_laws.proofs.Joining.{locals_fit}
use Rattle.fit_laws.proofs.Leaving.{leaves_fit}

module _ (classes : List Class) (sound : IsSound classes) (w : World) (world : FitsWorld classes w) (k : Key)
    (env : Environment) (is : Environs classes k env) (b : Body) (f : TypeFrame) (x : FitsBody env w.heap f b) where
  hierarchy : IsHierarchy env.classes
  hierarchy = hierarchy_of classes sound k env is

  abbrev LeadsOn : Op → TypeFrame → Type 0
  LeadsOn o after = (goes_elsewhere o ≡ false → Leads env.classes is.frames (b.at + 1) after)
      × ((to : ℕ) → list_any (nat_eq to) (targets o) ≡ true → Leads env.classes is.frames to after)

  abbrev Does : Op → Type 0
  Does o = FitsLocal classes w k env is.frames b (by_sort b (sort_of o))

  never : is_held env.classes (class_type string) throwable ≡ false
  never = subst (λ (c : List Class). is_held c (class_type string) throwable ≡ false) (sym is.classes_are)
      sound.library.exceptions.no_string

  special : (r : MemberRef) (init : Bool) → is_init r.name ≡ init
      → CallsSpecialBy classes init k.class env.class.name r → (after : TypeFrame)
      → stepped env b.at (op.InvokeSpecial r) f ≡ Ok after → Leads env.classes is.frames (b.at + 1) after
      → Does (op.InvokeSpecial r)
  special r true e m after h l = calls_init classes sound w world k env is b f x r e m after h l
  special r false e m after h l = calls_special classes sound w world k env is b f x r e m after h l

  each : (i : Ins) → slice_get env.code.ins b.at ≡ Some i → (o : Op) → i.op ≡ o → IsMeant classes k env o
      → (after : TypeFrame) → stepped env b.at o f ≡ Ok after → LeadsOn o after → Does o
  each i there op.Nop e m after h l = does_nothing classes w world k env is hierarchy b f x after h l
  each i there op.PushNull e m after h l = push_null classes w world k env is hierarchy b f x after h l
  each i there (op.PushInt n) e m after h l = push_int classes w world k env is hierarchy b f x n after h l
  each i there (op.PushLong n) e m after h l = push_long classes w world k env is hierarchy b f x n after h l
  each i there (op.PushText units) e m after h l = push_text classes w world k env is hierarchy b f x units after h l
  each i there (op.Load d slot) e m after h l = load classes w world k env is hierarchy b f x d slot after h l
  each i there (op.Store d slot) e m after h l = store classes w world k env is hierarchy b f x d slot after h l
  each i there (op.ALoad elem) e m after h l = loads_array classes sound w world k env is b f x elem after h (l.0 refl)
  each i there (op.AStore elem) e m after h l = stores_array classes sound w world k env is b f x elem after h
      (l.0 refl)
  each i there op.Pop e m after h l = pop classes w world k env is hierarchy b f x after h l
  each i there op.Pop2 e m after h l = pop2 classes w world k env is hierarchy b f x after h l
  each i there op.Dup e m after h l = dup classes w world k env is hierarchy b f x after h l
  each i there op.DupX1 e m after h l = dup_x1 classes w world k env is hierarchy b f x after h l
  each i there op.DupX2 e m after h l = dup_x2 classes w world k env is hierarchy b f x after h l
  each i there op.Dup2 e m after h l = dup2 classes w world k env is hierarchy b f x after h l
  each i there op.Dup2X1 e m after h l = dup2_x1 classes w world k env is hierarchy b f x after h l
  each i there op.Dup2X2 e m after h l = dup2_x2 classes w world k env is hierarchy b f x after h l
  each i there op.Swap e m after h l = swap classes w world k env is hierarchy b f x after h l
  each i there (op.Arith a n) e m after h l = arithmetic_fits classes w world k env is hierarchy b f x a n after h l
  each i there (op.Neg n) e m after h l = negated classes w world k env is hierarchy b f x n after h l
  each i there (op.Shift o n) e m after h l = shifts classes w world k env is hierarchy b f x o n after h l
  each i there (op.Logic o n) e m after h l = logic_fits classes w world k env is hierarchy b f x o n after h l
  each i there (op.Inc slot z) e m after h l = count classes w world k env is hierarchy b f x slot z after h l
  each i there (op.Conv c) e m after h l = converts classes w world k env is hierarchy b f x c after h l
  each i there op.LCmp e m after h l = compares classes w world k env is hierarchy b f x after h l
  each i there (op.IfZero c to) e m after h l = if_zero classes w world k env is hierarchy b f x c to after h l
  each i there (op.IfCmp c to) e m after h l = if_compared classes w world k env is hierarchy b f x c to after h l
  each i there (op.IfRef c to) e m after h l = if_same classes w world k env is hierarchy b f x c to after h l
  each i there (op.IfNull c to) e m after h l = if_null classes w world k env is hierarchy b f x c to after h l
  each i there (op.Goto to) e m after h l = goes_to classes w world k env is hierarchy b f x to after h l
  each i there (op.TableSwitch low other cases) e m after h l =
      table classes w world k env is hierarchy b f x low other cases after h l
  each i there (op.LookupSwitch other cases) e m after h l =
      lookup classes w world k env is hierarchy b f x other cases after h l
  each i there (op.Return d) e m after h l = leaves_fit classes w k env is hierarchy b f x d after h
  each i there op.Throw e m after h l = throw classes w world k env is hierarchy b f x after never h
  each i there (op.GetStatic r) e m after h l = gets_static classes sound w world k env is b f x r m after h (l.0 refl)
  each i there (op.PutStatic r) e m after h l = puts_static classes sound w world k env is b f x r m after h (l.0 refl)
  each i there (op.GetField r) e m after h l = gets_field classes sound w world k env is b f x r m after h (l.0 refl)
  each i there (op.PutField r) e m after h l = puts_field classes sound w world k env is b f x r m after h (l.0 refl)
  each i there (op.InvokeVirtual r) e m after h l = calls_virtual classes sound w world k env is b f x r m after h
      (l.0 refl)
  each i there (op.InvokeSpecial r) e m after h l = special r (is_init r.name) refl m after h (l.0 refl)
  each i there (op.InvokeStatic r) e m after h l = calls_static classes sound w world k env is b f x r m after h
      (l.0 refl)
  each i there (op.InvokeInterface r) e m after h l = calls_interface classes sound w world k env is b f x r m after h
      (l.0 refl)
  each i there (op.New class) e m after h l = makes classes sound w world k env is b f x class m i there e after h
      (l.0 refl)
  each i there (op.NewArray c) e m after h l = makes_numbers classes sound w world k env is b f x c m after h (l.0 refl)
  each i there (op.ANewArray ty) e m after h l = makes_objects classes sound w world k env is b f x ty m after h
      (l.0 refl)
  each i there op.ArrayLength e m after h l = measures classes sound w world k env is b f x after h (l.0 refl)
  each i there (op.CheckCast ty) e m after h l = casts classes sound w world k env is b f x ty after h (l.0 refl)
  each i there (op.InstanceOf ty) e m after h l = tests classes sound w world k env is b f x ty after h (l.0 refl)
  each i there (op.MultiNewArray ty n) e m after h l = makes_many classes sound w world k env is b f x ty n m.0 m.1
      m.2 after h (l.0 refl)

-- what each frame that fits does fits
pub instructions_fit : InstructionsFit
instructions_fit classes sound = locals_fit classes
    (λ w world k env is b f x i there after h l. each classes sound w world k env is b f x i there i.op refl
    (sound.meaning k env is b.at i there) after h l)
