-- What a walk says of a language.
use Rattle.std.proofs.Common.{◌≡◌, ℕ, ◌+◌, ◌<◌, List, [], ◌∷◌, ◌++◌, take, length, Option, Some, None, ◌⊎◌, inl, inr}
use Rattle.std.proofs.Common.{Result, Ok, Err, refl, sym, ap, subst, ◌∙◌, append_assoc, arith}
use Rattle.std.proofs.lemmas.List.{take_at, append-nil, length-append}
use Rattle.jv_base.specs.Longest.{GoesOn, IsLongest}
use Rattle.jv_base.specs.Walk.{walk, walk_from, or_fault}

-- a beginning that goes on with a byte goes on
pub goes_on_before : {V : Type 0} (spells : List ℕ → V → Type 0) (t : List ℕ) (b : ℕ) → GoesOn spells (t ++ b ∷ [])
    → GoesOn spells t
goes_on_before spells t b h = (b ∷ h.0, h.1, subst (λ (u : List ℕ). spells u h.1) (append_assoc t (b ∷ []) h.0) h.2)

pub nothing_more : {V : Type 0} (spells : List ℕ → V → Type 0) (t : List ℕ) (v : V) → spells t v → GoesOn spells t
nothing_more spells t v h = ([], v, subst (λ (u : List ℕ). spells u v) (sym (append-nil t)) h)

or_fault_ok : {A : Type 0} (at : ℕ) (o : Option A) (v : A) → or_fault at o ≡ Ok v → o ≡ Some v
or_fault_ok at (Some x) v h = ap Some cc
or_fault_ok at None v h = absurd cc

or_fault_err : {A : Type 0} (at n : ℕ) (o : Option A) → or_fault at o ≡ Err n → (o ≡ None) × (n ≡ at)
or_fault_err at n (Some x) h = absurd cc
or_fault_err at n None h = (refl, cc)

walk_from_ok : {S V : Type 0} (at : ℕ) (o : Option S) (more : S → Result V ℕ) (v : V) → walk_from at o more ≡ Ok v
    → (t : S) × (o ≡ Some t) × (more t ≡ Ok v)
walk_from_ok at (Some t) more v h = (t, refl, h)
walk_from_ok at None more v h = absurd cc

walk_from_err : {S V : Type 0} (at n : ℕ) (o : Option S) (more : S → Result V ℕ) → walk_from at o more ≡ Err n
    → ((t : S) × (o ≡ Some t) × (more t ≡ Err n)) ⊎ ((o ≡ None) × (n ≡ at))
walk_from_err at n (Some t) more h = inl (t, refl, h)
walk_from_err at n None more h = inr (refl, cc)

module _ {S V : Type 0} (step : S → ℕ → Option S) (end : S → Option V) where
  -- the bytes end where no value ends, or the next one leads nowhere
  abbrev pub Stuck : S → List ℕ → Type 0
  Stuck s [] = end s ≡ None
  Stuck s (b ∷ bs) = step s b ≡ None

  -- where a walk stops
  pub record StopsIn (from : S) (at : ℕ) (bytes : List ℕ) (n : ℕ) : Type 0 where
    pub front : List ℕ
    pub rest : List ℕ
    pub last : S
    pub parts : bytes ≡ front ++ rest
    pub place : n ≡ at + length front
    pub leads : (more : List ℕ) → walk step end from at (front ++ more) ≡ walk step end last n more
    pub stuck : Stuck last rest

  -- what stands in a state, where the bytes so far are these
  module _ (Inv : S → List ℕ → Type 0) (spells : List ℕ → V → Type 0)
      (keeps : (s t : S) (b : ℕ) (so_far : List ℕ) → Inv s so_far → step s b ≡ Some t → Inv t (so_far ++ b ∷ [])) where
    pub walk_found : ((s : S) (v : V) (so_far : List ℕ) → Inv s so_far → end s ≡ Some v → spells so_far v)
        → (bytes : List ℕ) (s : S) (at : ℕ) (v : V) (so_far : List ℕ) → Inv s so_far → walk step end s at bytes ≡ Ok v
        → spells (so_far ++ bytes) v
    unfolding walk
    walk_found ends [] s at v so_far i h =
        subst (λ (u : List ℕ). spells u v) (sym (append-nil so_far)) (ends s v so_far i (or_fault_ok at (end s) v h))
    walk_found ends (b ∷ bs) s at v so_far i h =
        let o = walk_from_ok at (step s b) (λ t. walk step end t (at + 1) bs) v h in
        subst (λ (u : List ℕ). spells u v) (append_assoc so_far (b ∷ []) bs)
        (walk_found ends bs o.0 (at + 1) v (so_far ++ b ∷ []) (keeps s o.0 b so_far i o.1) o.2)

    pub walk_stops : (bytes : List ℕ) (s : S) (at n : ℕ) (so_far : List ℕ) → Inv s so_far
        → walk step end s at bytes ≡ Err n
        → (w : StopsIn s at bytes n) × Inv w.last (so_far ++ w.front)
    unfolding walk
    walk_stops [] s at n so_far i h =
        let o = or_fault_err at n (end s) h in (
          record {
            front = [];
            rest = [];
            last = s;
            parts = refl;
            place = o.1
                ∙ omega arith;
            leads = λ more. ap (λ (k : ℕ). walk step end s k more) (sym o.1);
            stuck = o.0;
          },
          subst
              (λ (u : List ℕ). Inv s u) (sym (append-nil so_far)) i,
        )
    walk_stops (b ∷ bs) s at n so_far i h =
        elim (walk_from_err at n (step s b) (λ t. walk step end t (at + 1) bs) h) [
          | inl o ↦
              let deep = walk_stops bs o.0 (at + 1) n (so_far ++ b ∷ []) (keeps s o.0 b so_far i o.1) o.2 in
              let w = deep.0 in (
                record {
                  front = b ∷ w.front;
                  rest = w.rest;
                  last = w.last;
                  parts = ap (λ (u : List ℕ). b ∷ u) w.parts;
                  place = w.place ∙ omega arith;
                  leads = λ more. ap (λ (x : Option S). walk_from at x
                      (λ t. walk step end t (at + 1) (w.front ++ more))) o.1 ∙ w.leads more;
                  stuck = w.stuck;
                },
                subst (λ (u : List ℕ). Inv w.last u) (append_assoc so_far (b ∷ []) w.front) deep.1,
              )
          | inr o ↦ (
            record {
              front = [];
              rest = b ∷ bs;
              last = s;
              parts = refl;
              place = o.1
                  ∙ omega arith;
              leads = λ more. ap (λ (k : ℕ). walk step end s k more) (sym o.1);
              stuck = o.0;
            },
            subst
                (λ (u : List ℕ). Inv s u) (sym (append-nil so_far)) i,
          )
        ]

    stuck_here : (s : S) (n : ℕ) (b : ℕ) (rest more : List ℕ) (v : V) → step s b ≡ None
        → walk step end s n (b ∷ more) ≡ Ok v → ⊥
    unfolding walk
    stuck_here s n b rest more v none h =
        let e : walk_from n (step s b) (λ t. walk step end t (n + 1) more)
        ≡ Err n = ap (λ (x : Option S). walk_from n x (λ t. walk step end t (n + 1) more)) none in
        cc

    -- where the rest begins with a byte that leads nowhere, no spelling goes on past it
    stuck_past : (s last : S) (n : ℕ) (front rest : List ℕ) → length front ≡ n → Stuck last rest
        → ((more : List ℕ) → walk step end s 0 (front ++ more) ≡ walk step end last n more)
        → ((text : List ℕ) (v : V) → spells text v → walk step end s 0 text ≡ Ok v)
        → n < length (front ++ rest) → ¬ (GoesOn spells (take (n + 1) (front ++ rest)))
    stuck_past s last n front [] size stuck leads only lt h = absurd
        (let e : length (front ++ []) ≡ length front = ap length (append-nil front) in omega arith)
    stuck_past s last n front (b ∷ bs) size stuck leads only lt h =
        let parts : front ++ b ∷ bs ≡ (front ++ b ∷ []) ++ bs = sym (append_assoc front (b ∷ []) bs) in
        let size' : length (front ++ b ∷ []) ≡ n + 1 = length-append front (b ∷ []) ∙ omega arith in
        let cut : take (n + 1) (front ++ b ∷ bs) ≡ front ++ b ∷ [] = ap (take (n + 1)) parts
        ∙ take_at (front ++ b ∷ []) bs (n + 1) size' in
        let whole : take (n + 1) (front ++ b ∷ bs) ++ h.0 ≡ front ++ (b ∷ h.0) = ap (λ (u : List ℕ). u ++ h.0) cut
        ∙ append_assoc front (b ∷ []) h.0 in
        stuck_here last n b bs h.0 h.1 stuck
        (sym (leads (b ∷ h.0)) ∙ only (front ++ (b ∷ h.0)) h.1 (subst (λ (u : List ℕ). spells u h.1) whole h.2))

    pub walk_longest : (start : S) → Inv start [] → ((s : S) (so_far : List ℕ) → Inv s so_far → GoesOn spells so_far)
        → ((text : List ℕ) (v : V) → spells text v → walk step end start 0 text ≡ Ok v)
        → (text : List ℕ) (n : ℕ) → walk step end start 0 text ≡ Err n → IsLongest spells text n
    walk_longest start i live only text n h =
        let stopped = walk_stops text start 0 n [] i h in
        let w = stopped.0 in
        let place : n ≡ 0 + length w.front = w.place in
        let size : length w.front ≡ n = omega arith in
        record {
          within = let e = ap length w.parts ∙ length-append w.front w.rest in omega arith;
          prefix = subst (λ (u : List ℕ). GoesOn spells u) (sym (ap (take n) w.parts ∙ take_at w.front w.rest n size))
              (live w.last w.front stopped.1);
          longest = λ lt. subst (λ (u : List ℕ). n < length u → ¬ (GoesOn spells (take (n + 1) u))) (sym w.parts)
              (stuck_past start w.last n w.front w.rest size w.stuck w.leads only) lt;
          wrong = λ v s. let e = only text v s in cc;
        }
