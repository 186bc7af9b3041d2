-- What a few runs have come to, which is computed (the project's own: definitions are tried on programs).
use Rattle.std.specs.Prelude.{◌≡◌, ℕ, pos, List, [], ◌∷◌, Some, None, codes}
use Rattle.jv_base.specs.declared.types.Base.TheVariants as base
use Rattle.jv_base.specs.declared.types.FieldType.{FieldType}
use Rattle.class_model.specs.declared.class.Class.{Class}
use Rattle.class_model.specs.declared.op.ArithOp.TheVariants as arith
use Rattle.class_model.specs.declared.op.Cond.TheVariants as cond
use Rattle.class_model.specs.declared.op.Elem.TheVariants as elem
use Rattle.class_model.specs.declared.op.Kind.TheVariants as kind
use Rattle.class_model.specs.declared.op.Num.TheVariants as num
use Rattle.class_model.specs.declared.op.Op.TheVariants as op
use Rattle.class_pool.specs.rows.LinkRows.{object}
use Rattle.link_check.specs.rows.ProfileRows.{of_class}
use Rattle.class_run.specs.Ended.{ended_after}
use Rattle.class_run.specs.declared.ended.Arg.TheVariants as arg
use Rattle.class_run.specs.declared.ended.Back.TheVariants as back
use Rattle.class_run.specs.declared.ended.End.{End}
use Rattle.class_run.specs.declared.ended.End.TheVariants as end
use Rattle.class_run.specs.declared.ended.Ended.{Ended}
use Rattle.jvm_model.specs.Value.{Key}
use Rattle.set_view.specs.Examples.{class, initialiser, int, static_method}

-- a method by its parts
abbrev pub key : List ℕ → List ℕ → List ℕ → Key
key class name descriptor = record { class = class; name = name; descriptor = descriptor }

-- nothing was printed
abbrev pub silent : End → Ended
silent how = record { printed = []; how = how }

-- ---- static int f() of demo.T, which goes from 1 to 4

-- the class
abbrev pub branching : List Class
branching = class (codes "demo/T") object
    (static_method (codes "f") [] (Some int)
    (op.PushInt (pos 0) ∷ op.IfZero cond.Eq 4 ∷ op.PushInt (pos 5) ∷ op.Return (Some kind.Int) ∷ op.PushInt (pos 2)
    ∷ op.Return (Some kind.Int) ∷ []) [] ∷ []) ∷ []

-- after no step it is running, and after 100 it has returned 2
abbrev pub Returning : Type 0
Returning = (ended_after branching (key (codes "demo/T") (codes "f") (codes "()I")) [] 0 ≡ silent end.Running)
    × (ended_after branching (key (codes "demo/T") (codes "f") (codes "()I")) [] 100
    ≡ silent (end.Returned (back.Int (pos 2))))

-- ---- demo.E, whose initialisation divides by zero

-- the class
abbrev pub failing : List Class
failing = class (codes "demo/E") object
    (initialiser (op.PushInt (pos 1) ∷ op.PushInt (pos 0) ∷ op.Arith arith.Div num.Int ∷ op.Pop ∷ op.Return None ∷ [])
    ∷ static_method (codes "f") [] None (op.Return None ∷ []) [] ∷ []) ∷ []

-- the ArithmeticException is object 1
abbrev pub Throwing : Type 0
Throwing = ended_after failing (key (codes "demo/E") (codes "f") (codes "()V")) [] 100
    ≡ silent (end.Threw (codes "java/lang/ExceptionInInitializerError") 2)

-- ---- static int f(int n, String[] texts, String text) { return texts[n].length() + text.length(); }

-- String, or arrays of it
abbrev pub string_type : ℕ → FieldType
string_type dims = record { dims = dims; base = base.Class (codes "java/lang/String") }

-- the class
abbrev pub counts : List Class
counts = class (codes "demo/A") object
    (static_method (codes "f") (int ∷ string_type 1 ∷ string_type 0 ∷ []) (Some int)
    (op.Load kind.Ref 1 ∷ op.Load kind.Int 0 ∷ op.ALoad elem.Ref
    ∷ op.InvokeVirtual (of_class (codes "java/lang/String") (codes "length") (codes "()I"))
    ∷ op.Load kind.Ref 2 ∷ op.InvokeVirtual (of_class (codes "java/lang/String") (codes "length") (codes "()I"))
    ∷ op.Arith arith.Add num.Int ∷ op.Return (Some kind.Int) ∷ []) [] ∷ []) ∷ []

-- with 1, the texts "a" and "bcd", and "xy" it returns 5
abbrev pub Starting : Type 0
Starting = ended_after counts (key (codes "demo/A") (codes "f") (codes "(I[Ljava/lang/String;Ljava/lang/String;)I"))
    (arg.Int (pos 1) ∷ arg.Texts (codes "a" ∷ codes "bcd" ∷ []) ∷ arg.Text (codes "xy") ∷ []) 100
    ≡ silent (end.Returned (back.Int (pos 5)))
