-- Counts within their limits.
use Rattle.std.proofs.Common.{◌≡◌, ◌⊎◌, inl, inr, ℕ, ◌<◌, ◌≤◌, Bool, true, false, cond, Result, Ok, Err, refl, sym}
use Rattle.std.proofs.Common.{ap, ◌∙◌}
use Rattle.std.specs.Prelude.{nat_lt}
use Rattle.std.proofs.lemmas.Bool.{cases_lt, lt-ltb}
use Rattle.jv_base.specs.Outcome.{FaultIs}
use Rattle.jv_base.specs.declared.outcome.Or.{Or}
use Rattle.jv_base.specs.declared.outcome.Or.TheVariants.{Fault, OutOfMemory}
use Rattle.std.proofs.Common.{List, length, subst}
use Rattle.mark_core.specs.declared.system.Pair.{Pair}
use Rattle.mark_core.specs.declared.system.System.{System}
use Rattle.require_sys.specs.Limits.{counted_limit, limited, limited_lists, need_count, within_limit}
use Rattle.require_sys.specs.declared.limits.Counted.TheVariants as counted
use Rattle.require_sys.specs.declared.limits.Counted.{Counted}
use Rattle.require_sys.specs.declared.limits.TooMany.{TooMany}

module _ {X Z : Type 0} (what : Counted) (n : ℕ) where
  -- the fault is the same whatever comes behind
  fault_on : (x : X) (f : TooMany) (r : Result Z TooMany) → within_limit what n (Ok x) ≡ Err f
      → within_limit what n r ≡ Err f
  fault_on x f r = by (nat_lt (counted_limit what) n)
    where
      by : (b : Bool) → ◌≡◌ {A = Result X TooMany} (cond b (Err (record { what = what; count = n })) (Ok x)) (Err f)
          → ◌≡◌ {A = Result Z TooMany} (cond b (Err (record { what = what; count = n })) r) (Err f)
      by true e = let same : (record { what = what; count = n }) ≡ f = cc in ap Err same
      by false e = absurd cc

  pub fault_due : (x : X) (e : Or TooMany) (r : Result Z TooMany) → FaultIs e (within_limit what n (Ok x))
      → FaultIs e (within_limit what n r)
  fault_due x (Fault f) r h = fault_on x f r h
  fault_due x OutOfMemory r h = tt

  -- what is within its limit goes on
  pub passes : (x y : X) (r : Result Z TooMany) → within_limit what n (Ok x) ≡ Ok y
      → (within_limit what n r ≡ r) × (y ≡ x)
  passes x y r = by (nat_lt (counted_limit what) n)
    where
      by : (b : Bool) → ◌≡◌ {A = Result X TooMany} (cond b (Err (record { what = what; count = n })) (Ok x)) (Ok y)
          → (◌≡◌ {A = Result Z TooMany} (cond b (Err (record { what = what; count = n })) r) r) × (y ≡ x)
      by true e = absurd cc
      by false e = (refl, cc)

pub fits : {X : Type 0} (what : Counted) (n : ℕ) (x y : X) → within_limit what n (Ok x) ≡ Ok y
    → n ≤ counted_limit what
fits {X = X} what n x y h = by (cases_lt (counted_limit what) n)
  where
    by : (counted_limit what < n) ⊎ (n ≤ counted_limit what) → n ≤ counted_limit what
    by (inr le) = le
    by (inl lt) = absurd
        (let q : ◌≡◌ {A = Result X TooMany} (Err (record { what = what; count = n })) (Ok y) =
        sym (ap (λ (b : Bool). cond b (Err (record { what = what; count = n })) (Ok x)) (lt-ltb
        (counted_limit what) n lt))
        ∙ h in cc)

-- ---- the system

module _ (sys : System) (needs : List (List ℕ)) where
  pub needs_fault : (e : Or TooMany) → FaultIs e (within_limit counted.Needs (need_count sys) (Ok sys.needs))
      → FaultIs e (limited_lists sys)
  needs_fault e h =
      fault_due counted.Needs (need_count sys) sys.needs e (within_limit counted.Pairs (length sys.pairs) (Ok sys)) h

  pub pairs_fault : (e : Or TooMany) → within_limit counted.Needs (need_count sys) (Ok sys.needs) ≡ Ok needs
      → FaultIs e (within_limit counted.Pairs (length sys.pairs) (Ok sys.pairs)) → FaultIs e (limited_lists sys)
  pairs_fault e first h =
      subst (λ (r : Result System TooMany). FaultIs e r)
      (sym (passes counted.Needs (need_count sys) sys.needs needs
      (within_limit counted.Pairs (length sys.pairs) (Ok sys)) first).0)
      (fault_due counted.Pairs (length sys.pairs) sys.pairs e (Ok sys) h)

  pub system_is : (n : ℕ) (seeds : List ℕ) (pairs : List Pair) → n ≡ sys.n → seeds ≡ sys.seeds
      → within_limit counted.Needs (need_count sys) (Ok sys.needs) ≡ Ok needs
      → within_limit counted.Pairs (length sys.pairs) (Ok sys.pairs) ≡ Ok pairs
      → limited_lists sys ≡ Ok (record { n = n; seeds = seeds; needs = needs; pairs = pairs })
  system_is n seeds pairs count first second third =
      let one = passes counted.Needs (need_count sys) sys.needs needs
      (within_limit counted.Pairs (length sys.pairs) (Ok sys)) second in
      let two = passes {Z = System} counted.Pairs (length sys.pairs) sys.pairs pairs (Ok sys) third in
      one.0 ∙ two.0
      ∙ (λ i. Ok (record { n = sym count i; seeds = sym first i; needs = sym one.1 i; pairs = sym two.1 i }))

pub limited_is : (s sys : System) → limited s ≡ Ok sys → sys ≡ s
limited_is s sys h =
    inner (nat_lt (counted_limit counted.Items) s.n) (nat_lt (counted_limit counted.Needs) (need_count s))
    (nat_lt (counted_limit counted.Pairs) (length s.pairs)) h
  where
    inner : (a b c : Bool) → ◌≡◌ {A = Result System TooMany}
        (cond a (Err (record { what = counted.Items; count = s.n }))
        (cond b (Err (record { what = counted.Needs; count = need_count s }))
        (cond c (Err (record { what = counted.Pairs; count = length s.pairs })) (Ok s)))) (Ok sys) → sys ≡ s
    inner false false false e = cc
    inner true b c e = absurd cc
    inner false true c e = absurd cc
    inner false false true e = absurd cc

pub lists_on : {X : Type 0} (sys : System) (u v : X) → within_limit counted.Items sys.n (Ok u) ≡ Ok v
    → limited sys ≡ limited_lists sys
lists_on sys u v h = (passes counted.Items sys.n u v (limited_lists sys) h).0

-- ---- what was counted

module _ {X : Type 0} (what : Counted) (n count : ℕ) (same : count ≡ n) where
  pub past : {Y : Type 0} (u : X) (y : Y) (e : Or TooMany) → FaultIs e (within_limit what count (Ok u))
      → FaultIs e (within_limit what n (Ok y))
  past u y e h = fault_due what n u e (Ok y) (subst (λ (k : ℕ). FaultIs e (within_limit what k (Ok u))) same h)

  pub within : {Y : Type 0} (u v : X) (y given : Y) → (count ≤ counted_limit what → given ≡ y)
      → within_limit what count (Ok u) ≡ Ok v → within_limit what n (Ok y) ≡ Ok given
  within {Y = Y} u v y given made h =
      let low : within_limit what n (Ok u) ≡ Ok v =
      subst (λ (k : ℕ). within_limit what k (Ok u) ≡ Ok v) same h in
      (passes {Z = Y} what n u v (Ok y) low).0 ∙ ap Ok (sym (made (fits what count u v h)))
