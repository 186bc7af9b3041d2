-- A small set of classes, what the passes make of it, and what both do (the project's own: what is promised of an
-- optimised set is tried on a set of which it says something). The set is demo.C { static int x; static {
-- System.out.println(7); } } and demo.T { static void f() { int y = C.x; } }, of which nothing loads y. The store goes,
-- and the initialisation of demo.C, which prints, stays.
use Rattle.std.specs.Prelude.{◌≡◌, ℕ, pos, true, Bool, List, [], ◌∷◌, ◌++◌, map, None, Some, codes}
use Rattle.class_model.specs.declared.class.Class.{Class}
use Rattle.class_model.specs.declared.code.Code.{Code}
use Rattle.class_model.specs.declared.op.Kind.TheVariants as kind
use Rattle.class_model.specs.declared.op.MemberRef.{MemberRef}
use Rattle.class_model.specs.declared.op.Op.{Op}
use Rattle.class_model.specs.declared.op.Op.TheVariants as op
use Rattle.class_pool.specs.rows.LinkRows.{int_field, object, plain_class}
use Rattle.class_run.specs.Ended.{ended_after}
use Rattle.class_run.specs.declared.ended.Back.TheVariants as back
use Rattle.class_run.specs.declared.ended.End.TheVariants as end
use Rattle.class_run.specs.declared.ended.Ended.{Ended}
use Rattle.code_edit.specs.declared.act.Act.{Act}
use Rattle.code_edit.specs.declared.act.Act.TheVariants as act
use Rattle.code_edit.specs.declared.act.Pass.{Pass}
use Rattle.code_edit.specs.declared.act.Pass.TheVariants.{Reach, Const, Slots, Jumps}
use Rattle.code_edit.specs.declared.act.PassEdits.{PassEdits}
use Rattle.jvm_model.specs.Value.{Key}
use Rattle.link_check.specs.rows.ProfileRows.{instruction, made_method, no_result, of_class, system_out}
use Rattle.pass_driver.specs.Optimised.{IsOptimised, with_codes}
use Rattle.pass_driver.specs.declared.optimising.Optimised.{Optimised}

-- ---- the set

-- a code without branches and handlers
abbrev pub code_of : ℕ → ℕ → List Op → Code
code_of stack locals ops =
    record { max_stack = stack; max_locals = locals; ins = map instruction ops; handlers = []; frames = [] }

-- demo.C.x
abbrev pub x : MemberRef
x = of_class (codes "demo/C") (codes "x") (codes "I")

-- prints 7 in a line
abbrev pub printing : Code
printing = code_of 2 0
    (op.GetStatic system_out ∷ op.PushInt (pos 7)
    ∷ op.InvokeVirtual (of_class (codes "java/io/PrintStream") (codes "println") (codes "(I)V")) ∷ op.Return None ∷ [])

-- stores what nothing loads
abbrev pub storing : Code
storing = code_of 1 4 (op.GetStatic x ∷ op.Store kind.Int 3 ∷ op.Return None ∷ [])

-- demo.C, whose initialisation prints
abbrev pub class_c : Class
class_c = plain_class 0x0021 (codes "demo/C") object [] (int_field 0x0009 (codes "x") ∷ [])
    (made_method 0x0008 (codes "<clinit>") [] None [] (Some printing) ∷ [])

-- demo.T, whose f has this code
abbrev pub class_t : Code → Class
class_t code = plain_class 0x0021 (codes "demo/T") object [] []
    (made_method 0x0009 (codes "f") [] None [] (Some code) ∷ [])

abbrev pub set : List Class
set = class_c ∷ class_t storing ∷ []

-- ---- what becomes of it

-- demo.C with x and its initialisation, and demo.T with f
abbrev pub marks : List Bool
marks = true ∷ true ∷ true ∷ true ∷ true ∷ []

-- the code of f without the store
abbrev pub popping : Code
popping = code_of 1 4 (op.GetStatic x ∷ op.Pop ∷ op.Return None ∷ [])

-- a step without an act
abbrev pub no_act : Pass → PassEdits
no_act pass = record { pass = pass; acts = [] }

-- the six steps of a code on which slots alone finds acts
abbrev pub steps_with : List Act → List PassEdits
steps_with acts = no_act Reach ∷ no_act Const ∷ no_act Reach ∷ record { pass = Slots; acts = acts } ∷ no_act Jumps
    ∷ no_act Reach ∷ []

-- those of f: slots cuts the store
abbrev pub steps : List PassEdits
steps = steps_with (act.Cut 1 ∷ [])

-- f has this code, and the witness tells of it
abbrev pub optimised : Optimised
optimised = record {
  codes = record { class = 1; method = 0; code = popping } ∷ [];
  witness = record {
    methods = record {
      class = codes "demo/T";
      name = codes "f";
      ty = no_result;
      edits = record { steps = steps };
    } ∷ [];
  };
  fallback = 0;
}

-- this becomes of the set, and no other code changes
abbrev pub OptimisedRow : Type 0
OptimisedRow = IsOptimised marks set optimised × (with_codes optimised.codes set ≡ class_c ∷ class_t popping ∷ [])

-- ---- what they do

-- demo.T.f
abbrev pub entry : Key
entry = record { class = codes "demo/T"; name = codes "f"; descriptor = no_result }

-- a line is printed, and the entry returns
abbrev pub seven : Ended
seven = record { printed = codes "7" ++ 10 ∷ []; how = end.Returned back.Nothing }

-- so it is of the set and of the set with the new code, after as many steps
abbrev pub PrintsRow : Type 0
PrintsRow = (ended_after set entry [] 40 ≡ seven) × (ended_after (with_codes optimised.codes set) entry [] 40 ≡ seven)
