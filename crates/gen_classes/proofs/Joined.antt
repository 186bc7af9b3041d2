-- The instructions of the method that calls others, put together one after the other.
use Rattle.std.proofs.Common.{◌≡◌, ℕ, ◌+◌, ◌*◌, Bool, true, false, cond, List, [], ◌∷◌, ◌++◌, map, refl}
use Rattle.std.specs.Prelude.{None, Some, nat_lt}
use Rattle.std.specs.List.{flat_map}
use Rattle.class_model.specs.declared.code.Ins.{Ins}
use Rattle.class_model.specs.declared.op.Op.TheVariants as op
use Rattle.class_model.specs.declared.op.Kind.TheVariants as kind
use Rattle.gen_classes.specs.Generated.{begins, called, caller_name, calls, calls_v, without_lines}

-- what is called where a class with this number is there
abbrev pub called_if : Bool → ℕ → List Ins
called_if there j = cond there (without_lines (calls (caller_name j))) []

abbrev pub ending : List Ins
ending = (record { op = op.Return (Some kind.Int); line = None }) ∷ []

pub joined : (n i : ℕ)
    → ((((([] ++ without_lines begins) ++ without_lines (calls_v (caller_name i)))
    ++ called_if (nat_lt (2 * i + 1) n) (2 * i + 1)) ++ called_if (nat_lt (2 * i + 2) n) (2 * i + 2)) ++ ending)
    ≡ without_lines (begins ++ (calls_v (caller_name i) ++ (flat_map calls (map caller_name (called n i))
    ++ op.Return (Some kind.Int) ∷ [])))
joined n i = on (nat_lt (2 * i + 1) n) (nat_lt (2 * i + 2) n)
  where
    on : (x y : Bool)
        → ((((([] ++ without_lines begins) ++ without_lines (calls_v (caller_name i))) ++ called_if x (2 * i + 1))
        ++ called_if y (2 * i + 2)) ++ ending)
        ≡ without_lines (begins ++ (calls_v (caller_name i)
        ++ (flat_map calls (map caller_name (cond x ((2 * i + 1) ∷ cond y ((2 * i + 2) ∷ []) []) (cond y ((2 * i + 2) ∷ []) [])))
        ++ op.Return (Some kind.Int) ∷ [])))
    on true true = refl
    on true false = refl
    on false true = refl
    on false false = refl
