-- What becomes of the codes of a set (the project's own).
use Rattle.std.specs.Prelude.{◌≡◌, ℕ, suc, ◌+◌, ◌&&◌, Bool, true, false, List, [], ◌∷◌, ◌++◌, is_some, Some}
use Rattle.std.specs.Prelude.{slice_get}
use Rattle.std.specs.Prelude.{if◌then◌else◌, length}
use Rattle.jv_base.specs.Types.{method_text}
use Rattle.class_model.specs.declared.class.Class.{Class}
use Rattle.class_model.specs.declared.class.Method.{Method}
use Rattle.class_model.specs.declared.code.Code.{Code}
use Rattle.class_pool.specs.Count.{items_of}
use Rattle.member_shrink.specs.Shrunk.{is_marked}
use Rattle.pass_driver.specs.Outcomes.{IsOutcome}
use Rattle.pass_driver.specs.declared.optimising.NewCode.{NewCode}
use Rattle.pass_driver.specs.declared.optimising.Optimised.{Optimised}
use Rattle.pass_driver.specs.declared.judging.Outcome.{Outcome}
use Rattle.pass_driver.specs.declared.judging.Outcome.TheVariants.{Own, Edited, Fallback}
use Rattle.pass_driver.specs.declared.spots.Spot.{Spot}
use Rattle.type_verifier.specs.WithCode.{set_with_code}
use Rattle.witness_file.specs.declared.witness.MethodWitness.{MethodWitness}

-- ---- which methods

-- Items are marked.
module _ (marks : List Bool) where
  -- of methods whose items and numbers follow one another from these on, those that are marked and have a code
  abbrev pub method_spots : ℕ → ℕ → ℕ → List Method → List Spot
  method_spots own item number [] = []
  method_spots own item number (m ∷ methods) =
      (if is_marked marks item && is_some m.code then record { class = own; method = number } ∷ [] else [])
      ++ method_spots own (suc item) (suc number) methods

  -- so of classes from a number and an item on: each is followed by its fields and its methods
  abbrev pub class_spots : ℕ → ℕ → List Class → List Spot
  class_spots own item [] = []
  class_spots own item (c ∷ classes) =
      method_spots own (item + 1 + length c.fields) 0 c.methods ++ class_spots (suc own) (item + items_of c) classes

-- the kept methods of a set that have a code, in its order
abbrev pub spots : List Bool → List Class → List Spot
spots marks classes = class_spots marks 0 0 classes

-- ---- what becomes of them

-- the method of a spot, with its class and its code
pub record IsAt (classes : List Class) (s : Spot) (c : Class) (m : Method) (code : Code) : Type 0 where
  pub in_set : slice_get classes s.class ≡ Some c
  pub in_class : slice_get c.methods s.method ≡ Some m
  pub has : m.code ≡ Some code

-- the new code of a spot, if it has one
abbrev pub code_for : Spot → Outcome → List NewCode
code_for s (Edited code edits) = record { class = s.class; method = s.method; code = code } ∷ []
code_for s outcome = []

-- the entry of the witness for a method of a class, if it has one
abbrev pub entry_for : Class → Method → Outcome → List MethodWitness
entry_for c m (Edited code edits) =
    record { class = c.name; name = m.name; ty = method_text m.ty; edits = edits } ∷ []
entry_for c m outcome = []

-- whether it keeps its own code in place of an edited one
abbrev pub fallback_for : Outcome → ℕ
fallback_for Fallback = 1
fallback_for outcome = 0

-- new codes, entries and the number of fallbacks, spot after spot
abbrev pub AreDone : List Class → List Spot → List NewCode → List MethodWitness → ℕ → Type 0
AreDone classes [] codes entries fallbacks = (codes ≡ []) × (entries ≡ []) × (fallbacks ≡ 0)
AreDone classes (s ∷ spots) codes entries fallbacks =
    (c : Class) × (m : Method) × (code : Code) × IsAt classes s c m code
    × (outcome : Outcome) × IsOutcome classes s.class s.method code outcome
    × (others : List NewCode) × (behind : List MethodWitness) × (rest : ℕ)
    × (codes ≡ code_for s outcome ++ others) × (entries ≡ entry_for c m outcome ++ behind)
    × (fallbacks ≡ fallback_for outcome + rest) × AreDone classes spots others behind rest

-- what becomes of the kept methods of a set
abbrev pub IsOptimised : List Bool → List Class → Optimised → Type 0
IsOptimised marks classes o =
    AreDone classes (spots marks classes) o.codes o.witness.methods o.fallback

-- ---- the set with the new codes

-- a set with new codes, put in place one after another
abbrev pub with_codes : List NewCode → List Class → List Class
with_codes [] classes = classes
with_codes (x ∷ codes) classes = with_codes codes (set_with_code classes x.class x.method x.code)

-- ---- by the rules

-- nothing becomes of a set that isn't optimised
abbrev pub as_it_is : Optimised
as_it_is = record { codes = []; witness = record { methods = [] }; fallback = 0 }

-- what becomes of the kept methods of a set, where it is to be optimised (ProGuard manual, "-dontoptimize")
abbrev pub IsOptimisedIf : Bool → List Bool → List Class → Optimised → Type 0
IsOptimisedIf true marks classes o = IsOptimised marks classes o
IsOptimisedIf false marks classes o = o ≡ as_it_is
