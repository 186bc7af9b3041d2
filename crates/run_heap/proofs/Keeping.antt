-- Static fields by their names.
use Rattle.std.proofs.Common.{◌≡◌, ◌∙◌, Bool, true, false, List, [], ◌∷◌, Some, None, ap, refl, map}
use Rattle.std.specs.Prelude.{cond, if◌then◌else◌}
use Rattle.std.specs.Map.{lookup}
use Rattle.indexmap.specs.IndexMap.{insert_entry}
use Rattle.jvm_model.specs.Value.{Value, set_key}
use Rattle.jvm_model.specs.Fields.{blank}
use Rattle.run_heap.specs.Held.{held, held_at, key_of, replaced, same_names}
use Rattle.run_heap.specs.declared.fields.Held.{Held}
use Rattle.run_heap.specs.declared.key.MemberNames.{MemberNames}
use Rattle.run_heap.proofs.Replacing.{replaced_is_set}

-- one more field that is set, or another value of one
pub inserted : (es : List (MemberNames × Value)) (n : MemberNames) (v : Value)
    → map held_at (insert_entry same_names es n v) ≡ replaced (key_of n) v (map held_at es)
inserted [] n v = refl
inserted (e ∷ es) n v = by (same_names n e.0) (inserted es n v)
  where
    by : (b : Bool) → map held_at (insert_entry same_names es n v) ≡ replaced (key_of n) v (map held_at es)
        → map held_at (if b then (e.0, v) ∷ es else e ∷ insert_entry same_names es n v)
        ≡ (if b then record (held_at e) { value = v } ∷ map held_at es
        else held_at e ∷ replaced (key_of n) v (map held_at es))
    by true more = refl
    by false more = ap (λ (hs : List Held). held_at e ∷ hs) more

pub inserted_is_set : (es : List (MemberNames × Value)) (n : MemberNames) (v : Value)
    → held (map held_at (insert_entry same_names es n v)) ≡ set_key (held (map held_at es)) (key_of n) v
inserted_is_set es n v = ap held (inserted es n v) ∙ replaced_is_set (map held_at es) (key_of n) v

-- a field that was set has its value
pub looked_up : (es : List (MemberNames × Value)) (n : MemberNames) (v : Value) → Some v ≡ lookup (same_names n) es
    → held (map held_at es) (key_of n) ≡ v
looked_up [] n v e = absurd cc
looked_up (x ∷ es) n v e = by (same_names n x.0) e (looked_up es n v)
  where
    by : (b : Bool) → Some v ≡ cond b (Some x.1) (lookup (same_names n) es)
        → (Some v ≡ lookup (same_names n) es → held (map held_at es) (key_of n) ≡ v)
        → (if b then x.1 else held (map held_at es) (key_of n)) ≡ v
    by true f more = cc
    by false f more = more f

-- any other one has its default value
pub looked_for : (es : List (MemberNames × Value)) (n : MemberNames) → None ≡ lookup (same_names n) es
    → held (map held_at es) (key_of n) ≡ blank (key_of n)
looked_for [] n e = refl
looked_for (x ∷ es) n e = by (same_names n x.0) e (looked_for es n)
  where
    by : (b : Bool) → None ≡ cond b (Some x.1) (lookup (same_names n) es)
        → (None ≡ lookup (same_names n) es → held (map held_at es) (key_of n) ≡ blank (key_of n))
        → (if b then x.1 else held (map held_at es) (key_of n)) ≡ blank (key_of n)
    by true f more = absurd cc
    by false f more = more f
