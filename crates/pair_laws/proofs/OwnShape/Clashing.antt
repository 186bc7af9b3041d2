-- Names that are told apart don't clash.
use Rattle.std.proofs.Common.{◌≡◌, ◌||◌, not, Bool, true, false, cond, List, [], ◌∷◌, map, Option, Some}
use Rattle.std.proofs.Common.{refl, sym, ap, ◌∙◌}
use Rattle.std.specs.List.{AllByRecursion}
use Rattle.std.specs.Map.{lookup}
use Rattle.pair_clauses.specs.Shape.{clashes, is_other}
use Rattle.pair_laws.proofs.PairSame.Tables.{IsTest}

-- new ones of a kind, no two of which come to one
pub record TellsApart {K : Type 0} (Known : K → Type 0) (new : K → K) : Type 0 where
  pub one : (a b : K) → Known a → Known b → new a ≡ new b → a ≡ b

-- one of the kind with its new one
abbrev pub IsPair : {K : Type 0} → (K → Type 0) → (K → K) → K × K → Type 0
IsPair Known new p = Known p.0 × (p.1 ≡ new p.0)

module _ {K : Type 0} (same : K → K → Bool) (test : IsTest same) (Known : K → Type 0) (new : K → K) where
  abbrev Pairs : List (K × K) → Type 0
  Pairs names = AllByRecursion (IsPair Known new) names

  are_same : (a b : K) → a ≡ b → same a b ≡ true
  are_same a b is = ap (same a) (sym is) ∙ test.itself a

  -- an old name has no other new one
  old_fits : (names : List (K × K)) → Pairs names → (old : K)
      → is_other same (lookup (λ name. same name old) names) (new old) ≡ false
  old_fits [] all old = refl
  old_fits (p ∷ names) all old = by (same p.0 old) refl (old_fits names all.1 old)
    where
      by : (b : Bool) → same p.0 old ≡ b
          → is_other same (lookup (λ name. same name old) names) (new old) ≡ false
          → is_other same (cond b (Some p.1) (lookup (λ name. same name old) names)) (new old) ≡ false
      by true e rest = ap not (are_same p.1 (new old) (all.0.1 ∙ ap new (test.one p.0 old e)))
      by false e rest = rest

  -- nor has a new name another old one
  new_fits : TellsApart Known new → (names : List (K × K)) → Pairs names → (old : K) → Known old
      → is_other same (lookup (λ name. same name (new old)) (map (λ (p : K × K). (p.1, p.0)) names)) old ≡ false
  new_fits tells [] all old known = refl
  new_fits tells (p ∷ names) all old known =
      by (same p.1 (new old)) refl (new_fits tells names all.1 old known)
    where
      behind : Option K
      behind = lookup (λ name. same name (new old)) (map (λ (p : K × K). (p.1, p.0)) names)

      by : (b : Bool) → same p.1 (new old) ≡ b → is_other same behind old ≡ false
          → is_other same (cond b (Some p.0) behind) old ≡ false
      by true e rest =
          ap not (are_same p.0 old (tells.one p.0 old all.0.0 known (sym all.0.1 ∙ test.one p.1 (new old) e)))
      by false e rest = rest

  pub no_clash : TellsApart Known new → (names : List (K × K)) → Pairs names → (old : K) → Known old
      → clashes same names old (new old) ≡ false
  no_clash tells names all old known = λ i. old_fits names all old i || new_fits tells names all old known i
