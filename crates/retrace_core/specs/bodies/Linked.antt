-- Methods by their new names, each of which leads to the next (only the proofs of the code need it).
use Rattle.std.specs.Prelude.{◌≡◌, ◌≤◌, ◌+◌, ◌-◌, ℕ, Bool, true, List, length, drop, slice_get, Option, Some, IfSome}
use Rattle.std.specs.Borrow.{Bor}
use Rattle.std.specs.BTreeMap.{BTreeMap}
use Rattle.std.specs.Cmp.Lexicographic.{slice_cmp}
use Rattle.std.specs.Map.{lookup}
use Rattle.std.specs.Option.{unwrap_or}
use Rattle.std.specs.Ordering.{is_eq, nat_cmp}
use Rattle.jv_base.specs.Names.{is_text}
use Rattle.mapping_file.specs.declared.mapping.MapMethod.{MapMethod}
use Rattle.retrace_core.specs.OldNames.{candidates}

-- a text is the key
abbrev pub is_key : List ℕ → List ℕ → Bool
is_key text key = is_eq (slice_cmp nat_cmp text key)

-- what a tree of entries keeps of a text
abbrev pub kept_in : {K V : Type 0} → (K → List ℕ) → List (K × V) → List ℕ → Option V
kept_in see entries name = lookup (λ k. is_key name (see k)) entries

-- ---- methods, each of which leads to the next with its new name

-- behind a place, the methods with a name stand from another place on, where one stands or all end
pub record Leads (methods : List MapMethod) (name : List ℕ) (from place : ℕ) : Type 0 where
  pub behind : from ≤ place
  pub within : place ≤ length methods
  pub same : candidates (drop from methods) name ≡ candidates (drop place methods) name
  pub here : IfSome (slice_get methods place) (λ m. is_text name m.new ≡ true)

-- the place that a tree of first places has for a name, else the end
abbrev pub first_in : {K : Type 0} → (K → List ℕ) → List (K × ℕ) → List ℕ → ℕ → ℕ
first_in see entries name end = unwrap_or (kept_in see entries name) end

-- from a place on, all names are led to their first methods, and each method to the next; the places of those stand
-- from that of the last method on
pub record AreLinked (methods : List MapMethod) (from : ℕ) (firsts : BTreeMap (Bor (List ℕ)) ℕ)
    (nexts : List ℕ) : Type 0 where
  pub first : (name : List ℕ) → Leads methods name from (first_in (λ k. k.now) firsts.entries name (length methods))
  pub next : (k place : ℕ) (m : MapMethod) → slice_get methods k ≡ Some m → from ≤ k
      → slice_get nexts (length methods - 1 - k) ≡ Some place → Leads methods m.new (k + 1) place
  pub count : length nexts + from ≡ length methods
