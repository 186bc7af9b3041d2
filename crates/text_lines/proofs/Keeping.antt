-- Tables of values: what is found is told by the text, and what is put keeps it so.
use Rattle.std.proofs.Common.{◌≡◌, ℕ, cond, List, [], ◌∷◌, Option, Some, None, Bor, refl, sym, subst}
use Rattle.std.specs.BTreeMap.{insert_entry}
use Rattle.std.specs.Cmp.Lexicographic.{slice_cmp}
use Rattle.std.specs.List.{All, AllByRecursion}
use Rattle.std.specs.Map.{lookup}
use Rattle.std.specs.Option.{IfSome, option_copied}
use Rattle.std.specs.Ordering.{is_eq, match_ordering, nat_cmp, ordering_then}
use Rattle.std.specs.declared.cmp.Ordering.{Ordering}
use Rattle.std.specs.declared.cmp.Ordering.TheVariants.{Less, Equal, Greater}
use Rattle.std.proofs.lemmas.List.Elements.{All-from_recursion, recursion_from_All}
use Rattle.std.proofs.lemmas.Map.Lookups.{exact_bytes}

-- a mark and a text
abbrev pub Key : Type 0
Key = ℕ × Bor (List ℕ)

abbrev pub key_order : Key → Key → Ordering
key_order a b = ordering_then (nat_cmp a.0 b.0) (slice_cmp nat_cmp a.1.now b.1.now)

-- keys that the order doesn't tell apart have one text
one_text : (a b : Key) → key_order a b ≡ Equal → a.1.now ≡ b.1.now
one_text a b = by (nat_cmp a.0 b.0)
  where
    by : (o : Ordering) → ordering_then o (slice_cmp nat_cmp a.1.now b.1.now) ≡ Equal → a.1.now ≡ b.1.now
    by Less is = absurd cc
    by Equal is = exact_bytes a.1.now b.1.now is
    by Greater is = absurd cc

found_in : {V : Type 0} (P : List ℕ → V → Type 0) (key : Key) (es : List (Key × V))
    → AllByRecursion (λ e. P e.0.1.now e.1) es
    → IfSome (lookup (λ k. is_eq (key_order key k)) es) (P key.1.now)
found_in P key [] h = tt
found_in {V} P key (e ∷ es) h = by (key_order key e.0) refl (found_in P key es h.1)
  where
    by : (o : Ordering) → key_order key e.0 ≡ o → IfSome (lookup (λ k. is_eq (key_order key k)) es) (P key.1.now)
        → IfSome (cond (is_eq o) (Some e.1) (lookup (λ k. is_eq (key_order key k)) es)) (P key.1.now)
    by Less is more = more
    by Equal is more = subst (λ (t : List ℕ). P t e.1) (sym (one_text key e.0 is)) h.0
    by Greater is more = more

-- what a look-up in a tree finds
pub found_told : {V : Type 0} (P : List ℕ → V → Type 0) (key : Key) (es : List (Key × V))
    → All (λ e. P e.0.1.now e.1) es
    → IfSome (lookup (λ k. is_eq (key_order key k)) es) (P key.1.now)
found_told P key es h = found_in P key es (recursion_from_All (λ e. P e.0.1.now e.1) es h)

-- the same of what was lent
pub lent_told : {V : Type 0} (P : V → Type 0) (r : Option (Bor V)) (o : Option V) → option_copied r ≡ o → IfSome o P
    → IfSome r (λ x. P x.now)
lent_told P None o is h = tt
lent_told {V} P (Some x) o is h = subst (λ (p : Option V). IfSome p P) (sym is) h

put_in : {V : Type 0} (P : List ℕ → V → Type 0) (key : Key) (v : V) (es : List (Key × V)) → P key.1.now v
    → AllByRecursion (λ e. P e.0.1.now e.1) es → AllByRecursion (λ e. P e.0.1.now e.1) (insert_entry key_order es key v)
put_in P key v [] p h = (p, tt)
put_in {V} P key v (e ∷ es) p h = by (key_order key e.0) refl (put_in P key v es p h.1)
  where
    by : (o : Ordering) → key_order key e.0 ≡ o
        → AllByRecursion (λ (x : Key × V). P x.0.1.now x.1) (insert_entry key_order es key v)
        → AllByRecursion (λ (x : Key × V). P x.0.1.now x.1)
        (match_ordering o ((key, v) ∷ e ∷ es) ((e.0, v) ∷ es) (e ∷ insert_entry key_order es key v))
    by Less is more = (p, h)
    by Equal is more = (subst (λ (t : List ℕ). P t v) (one_text key e.0 is) p, h.1)
    by Greater is more = (h.0, more)

-- a value that is put for a text that tells it
pub put_told : {V : Type 0} (P : List ℕ → V → Type 0) (key : Key) (v : V) (es : List (Key × V)) → P key.1.now v
    → All (λ e. P e.0.1.now e.1) es → All (λ e. P e.0.1.now e.1) (insert_entry key_order es key v)
put_told P key v es p h = All-from_recursion (λ e. P e.0.1.now e.1) (insert_entry key_order es key v)
    (put_in P key v es p (recursion_from_All (λ e. P e.0.1.now e.1) es h))
