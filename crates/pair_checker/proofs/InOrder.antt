-- The first clause that holds, in the order of all of them.
use Rattle.std.proofs.Common.{◌≡◌, ◌<◌, ℕ, zero, suc, List, [], ◌∷◌, take, slice_get, Option, Some, None, Result, Ok}
use Rattle.std.proofs.Common.{Err, ◌≤◌, ◌-◌, drop, get_or, length, inl, inr, refl, subst, arith}
use Rattle.std.proofs.lemmas.List.{take_all}
use Rattle.std.specs.List.{AllByRecursion}
use Rattle.std.proofs.lemmas.Option.{same_Some}
use Rattle.jv_base.specs.declared.outcome.Or.{Or}
use Rattle.jv_base.specs.declared.outcome.Or.TheVariants as or
use Rattle.class_model.specs.declared.class.Class.{Class}
use Rattle.keep_rules.specs.declared.rules.Rules.{Rules}
use Rattle.mapping_file.specs.declared.mapping.Mapping.{Mapping}
use Rattle.witness_file.specs.declared.witness.Witness.{Witness}
use Rattle.pair_checker.specs.Clauses.{Finds, number}
use Rattle.pair_checker.specs.bodies.Matching.{FirstAmong, Matches, Tests, no_at, tested_clauses}
use Rattle.pair_checker.specs.declared.answer.Clause.{Clause}
use Rattle.pair_clauses.specs.declared.place.Place.{Place}
use Rattle.pair_checker.specs.declared.answer.Clause.TheVariants as clause
use Rattle.pair_checker.specs.declared.answer.No.{No}

-- ---- the order

-- all clauses, in their order
abbrev pub order : List Clause
order = clause.OutputFormat ∷ (clause.OutputProfile ∷ tested_clauses)

pub stands_at : (c : Clause) → slice_get order (number c) ≡ Some c
stands_at clause.OutputFormat = refl
stands_at clause.OutputProfile = refl
stands_at clause.MapShape = refl
stands_at clause.FixedName = refl
stands_at clause.Package = refl
stands_at clause.SeedLost = refl
stands_at clause.NotClosed = refl
stands_at clause.MemberDiffers = refl
stands_at clause.WitnessStray = refl
stands_at clause.EditIllegal = refl
stands_at clause.CodeDiffers = refl
stands_at clause.LineRange = refl

-- what holds of a front holds of each of its elements
front_holds : {A : Type 0} (P : A → Type 0) (xs : List A) (n i : ℕ) (x : A) → AllByRecursion P (take n xs) → i < n
    → slice_get xs i ≡ Some x → P x
front_holds P [] n i x h low at = absurd cc
front_holds P (y ∷ ys) zero i x h low at = absurd omega (arith, low)
front_holds P (y ∷ ys) (suc n) zero x h low at = subst P (same_Some y x at) h.0
front_holds P (y ∷ ys) (suc n) (suc i) x h low at = front_holds P ys n i x h.1 (omega (arith, low)) at

module _ (input output : List Class) (mapping : Mapping) (rules : Rules) (witness : Witness) where
  -- a clause finds nothing
  abbrev Passes : Clause → Type 0
  Passes c = Finds input output mapping rules witness c None

  -- the clauses before another one pass
  before_all : (c : Clause) → AllByRecursion Passes (take (number c) order) → (earlier : Clause)
      → number earlier < number c → Passes earlier
  before_all c h earlier low = front_holds Passes order (number c) (number earlier) earlier h low (stands_at earlier)

  -- ---- no clause holds

  none_holds : AllByRecursion Passes tested_clauses → (c : Clause) → Passes c
  none_holds h clause.OutputFormat = refl
  none_holds h clause.OutputProfile = refl
  none_holds h clause.MapShape = h.0
  none_holds h clause.FixedName = h.1.0
  none_holds h clause.Package = h.1.1.0
  none_holds h clause.SeedLost = h.1.1.1.0
  none_holds h clause.NotClosed = h.1.1.1.1.0
  none_holds h clause.MemberDiffers = h.1.1.1.1.1.0
  none_holds h clause.WitnessStray = h.1.1.1.1.1.1.0
  none_holds h clause.EditIllegal = h.1.1.1.1.1.1.1.0
  none_holds h clause.CodeDiffers = h.1.1.1.1.1.1.1.1.0
  none_holds h clause.LineRange = h.1.1.1.1.1.1.1.1.1.0

  -- ---- one holds

  -- the clause that is found, behind those that pass
  found_at : (answer : No) (c : Clause) → AllByRecursion Passes (take (number c) order)
      → ((place : Place) × Finds input output mapping rules witness c (Some place) × (answer ≡ no_at c place))
      → Matches input output mapping rules witness (Err (or.Fault answer))
  found_at answer c passed f = (c, f.0, record { holds = f.1; before = before_all c passed }, f.2)

  first_holds : (answer : No) → FirstAmong input output mapping rules witness tested_clauses answer
      → Matches input output mapping rules witness (Err (or.Fault answer))
  first_holds answer (inl f) = found_at answer clause.MapShape (refl, (refl, tt)) f
  first_holds answer (inr (a, inl f)) = found_at answer clause.FixedName (refl, (refl, (a, tt))) f
  first_holds answer (inr (a, inr (b, inl f))) = found_at answer clause.Package (refl, (refl, (a, (b, tt)))) f
  first_holds answer (inr (a, inr (b, inr (d, inl f)))) =
      found_at answer clause.SeedLost (refl, (refl, (a, (b, (d, tt))))) f
  first_holds answer (inr (a, inr (b, inr (d, inr (e, inl f))))) =
      found_at answer clause.NotClosed (refl, (refl, (a, (b, (d, (e, tt)))))) f
  first_holds answer (inr (a, inr (b, inr (d, inr (e, inr (g, inl f)))))) =
      found_at answer clause.MemberDiffers (refl, (refl, (a, (b, (d, (e, (g, tt))))))) f
  first_holds answer (inr (a, inr (b, inr (d, inr (e, inr (g, inr (h, inl f))))))) =
      found_at answer clause.WitnessStray (refl, (refl, (a, (b, (d, (e, (g, (h, tt)))))))) f
  first_holds answer (inr (a, inr (b, inr (d, inr (e, inr (g, inr (h, inr (k, inl f)))))))) =
      found_at answer clause.EditIllegal (refl, (refl, (a, (b, (d, (e, (g, (h, (k, tt))))))))) f
  first_holds answer (inr (a, inr (b, inr (d, inr (e, inr (g, inr (h, inr (k, inr (l, inl f))))))))) =
      found_at answer clause.CodeDiffers (refl, (refl, (a, (b, (d, (e, (g, (h, (k, (l, tt)))))))))) f
  first_holds answer (inr (a, inr (b, inr (d, inr (e, inr (g, inr (h, inr (k, inr (l, inr (m, inl f)))))))))) =
      found_at answer clause.LineRange (refl, (refl, (a, (b, (d, (e, (g, (h, (k, (l, (m, tt))))))))))) f
  first_holds answer (inr (a, inr (b, inr (d, inr (e, inr (g, inr (h, inr (k, inr (l, inr (m, inr (n, f))))))))))) =
      absurd f

  pub matches_by : (r : Result (Unit {0}) (Or No)) → Tests input output mapping rules witness tested_clauses r
      → Matches input output mapping rules witness r
  matches_by (Ok done) h = none_holds h
  matches_by (Err (or.Fault answer)) h = first_holds answer h
  matches_by (Err or.OutOfMemory) h = tt

  -- ---- clause by clause

  tests_on : (c : Clause) (clauses : List Clause) (r : Result (Unit {0}) (Or No)) → Passes c
      → Tests input output mapping rules witness clauses r → Tests input output mapping rules witness (c ∷ clauses) r
  tests_on c clauses (Ok done) p h = (p, h)
  tests_on c clauses (Err (or.Fault answer)) p h = inr (p, h)
  tests_on c clauses (Err or.OutOfMemory) p h = tt

  -- the first of some clauses passes, and what comes of the others
  pub tests_next : (clauses : List Clause) (found : Option Place) (r : Result (Unit {0}) (Or No)) → 1 ≤ length clauses
      → found ≡ None → Finds input output mapping rules witness (get_or clauses 0 clause.OutputFormat) found
      → Tests input output mapping rules witness (take (length clauses - 1) (drop 1 clauses)) r
      → Tests input output mapping rules witness clauses r
  tests_next [] found r long none h k = absurd omega (arith, long)
  tests_next (c ∷ clauses) found r long none h k =
      let rest : take (length (c ∷ clauses) - 1) clauses ≡ clauses = take_all _ clauses (omega arith) in
      tests_on c clauses r (subst (λ (o : Option Place). Finds input output mapping rules witness c o) none h)
      (subst (λ (l : List Clause). Tests input output mapping rules witness l r) rest k)
