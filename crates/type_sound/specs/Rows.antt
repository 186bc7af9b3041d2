-- A set that isn't typed, whose run goes wrong, and one that is taken and typed, whose run doesn't (the project's own:
-- definitions are tried on programs).
use Rattle.std.specs.Prelude.{◌≡◌, ◌≢◌, ℕ, pos, List, [], ◌∷◌, Some, None, codes, map}
use Rattle.class_model.specs.declared.class.Class.{Class}
use Rattle.class_model.specs.declared.class.Method.{Method}
use Rattle.class_model.specs.declared.code.Code.{Code}
use Rattle.class_model.specs.declared.code.Handler.{Handler}
use Rattle.class_model.specs.declared.frame.FrameAt.{FrameAt}
use Rattle.class_model.specs.declared.frame.VType.TheVariants as vtype
use Rattle.class_model.specs.declared.op.ArithOp.TheVariants as arith
use Rattle.class_model.specs.declared.op.Kind.TheVariants as kind
use Rattle.class_model.specs.declared.op.Num.TheVariants as num
use Rattle.class_model.specs.declared.op.Op.{Op}
use Rattle.class_model.specs.declared.op.Op.TheVariants as op
use Rattle.class_pool.specs.rows.LinkRows.{object}
use Rattle.link_check.specs.rows.ProfileRows.{instruction, made_method, no_result, of_class}
use Rattle.jvm_model.specs.State.{WentWrong, status}
use Rattle.jvm_model.specs.Types.{class_type}
use Rattle.set_view.specs.Examples.{after, class, int}
use Rattle.type_verifier.specs.Verified.{AreTyped}
use Rattle.image_laws.specs.TakenSet.TakenSet.{IsTaken}

-- ---- static int w() of demo.W returns a local that nothing was stored to

-- the code
abbrev pub unset_code : Code
unset_code = record {
  max_stack = 1;
  max_locals = 1;
  ins = map instruction (op.Load kind.Int 0 ∷ op.Return (Some kind.Int) ∷ []);
  handlers = [];
  frames = [];
}

-- the set
abbrev pub unset : List Class
unset = class (codes "demo/W") object
    (made_method 0x0009 (codes "w") [] (Some int) [] (Some unset_code) ∷ []) ∷ []

-- it isn't typed (JVMS 4.10.1.9.iload)
abbrev pub NotTyped : Type 0
NotTyped = AreTyped unset → ⊥

-- and its run goes wrong
abbrev pub GoesWrong : Type 0
GoesWrong = status (after unset (codes "demo/W") (codes "w") (codes "()I") [] 5) ≡ WentWrong

-- ---- the initialisation of demo.E divides by zero; demo.G calls its f twice, and catches what the first call throws

-- a code without locals
abbrev pub plain_code : ℕ → List Op → List Handler → List FrameAt → Code
plain_code stack ops handlers frames =
    record { max_stack = stack; max_locals = 0; ins = map instruction ops; handlers = handlers; frames = frames }

-- a method without parameters and without a result
abbrev pub plain : ℕ → List ℕ → Code → Method
plain flags name code = made_method flags name [] None [] (Some code)

-- the codes
abbrev pub dividing_ops : List Op
dividing_ops = op.PushInt (pos 1) ∷ op.PushInt (pos 0) ∷ op.Arith arith.Div num.Int ∷ op.Pop ∷ op.Return None ∷ []

abbrev pub dividing : Code
dividing = plain_code 2 dividing_ops [] []

abbrev pub empty_ops : List Op
empty_ops = op.Return None ∷ []

abbrev pub empty : Code
empty = plain_code 0 empty_ops [] []

abbrev pub call_f : Op
call_f = op.InvokeStatic (of_class (codes "demo/E") (codes "f") no_result)

abbrev pub throwable : List ℕ
throwable = codes "java/lang/Throwable"

abbrev pub catches : Handler
catches = record { from = 0; to = 1; entry = 2; caught = Some throwable }

abbrev pub caught : FrameAt
caught = record { index = 2; frame = record { locals = []; stack = vtype.Object (class_type throwable) ∷ [] } }

abbrev pub calling_ops : List Op
calling_ops = call_f ∷ op.Return None ∷ op.Pop ∷ call_f ∷ op.Return None ∷ []

abbrev pub calling : Code
calling = plain_code 1 calling_ops (catches ∷ []) (caught ∷ [])

-- the classes
abbrev pub class_e : Class
class_e = class (codes "demo/E") object
    (plain 0x0008 (codes "<clinit>") dividing ∷ plain 0x0009 (codes "f") empty ∷ [])

abbrev pub class_g : Class
class_g = class (codes "demo/G") object (plain 0x0009 (codes "g") calling ∷ [])

abbrev pub failing : List Class
failing = class_e ∷ class_g ∷ []

-- the set is taken and typed
abbrev pub FailingTaken : Type 0
FailingTaken = IsTaken failing

abbrev pub FailingTyped : Type 0
FailingTyped = AreTyped failing

-- so no number of steps makes the run of g go wrong
abbrev pub FailingNeverWrong : Type 0
FailingNeverWrong = (n : ℕ) → status (after failing (codes "demo/G") (codes "g") no_result [] n) ≢ WentWrong
