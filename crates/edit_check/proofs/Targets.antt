-- Targets that move to the same places, and that move twice.
use Rattle.std.proofs.Common.{ℕ, zero, suc, ◌+◌, List, [], ◌∷◌, Some, ◌≡◌, refl, sym, ap, ◌∙◌}
use Rattle.std.proofs.Common.{subst, arith}
use Rattle.std.specs.Prelude.{map, slice_get}
use Rattle.class_model.specs.declared.op.Case.{Case}
use Rattle.class_model.specs.declared.op.Op.{Op}
use Rattle.class_model.specs.declared.op.Op.TheVariants as op
use Rattle.code_edit.specs.Flow.{targets}
use Rattle.code_edit.specs.Rewriting.{map_from, retargeted}

module _ (f g : ℕ → ℕ → ℕ) where
  table_same : (k : ℕ) (ts : List ℕ)
      → ((j t : ℕ) → slice_get ts j ≡ Some t → f (k + j) t ≡ g (k + j) t)
      → map_from f k ts ≡ map_from g k ts
  table_same k [] h = refl
  table_same k (t ∷ ts) h =
      let e : k + 0 ≡ k = omega arith in
      let here : f k t ≡ g k t = subst (λ q. f q t ≡ g q t) e (h 0 t refl) in
      let rest = table_same (suc k) ts
      (λ j u x. let n : k + suc j ≡ suc k + j = omega arith in
      subst (λ q. f q u ≡ g q u) n (h (suc j) u x)) in
      λ i. here i ∷ rest i

  abbrev case_by : (ℕ → ℕ → ℕ) → ℕ → Case → Case
  case_by m j c = record c { to = m j c.to }

  cases_same : (k : ℕ) (cs : List Case)
      → ((j t : ℕ) → slice_get (map (λ (c : Case). c.to) cs) j ≡ Some t → f (k + j) t ≡ g (k + j) t)
      → map_from (case_by f) k cs ≡ map_from (case_by g) k cs
  cases_same k [] h = refl
  cases_same k (c ∷ cs) h =
      let e : k + 0 ≡ k = omega arith in
      let here : f k c.to ≡ g k c.to = subst (λ q. f q c.to ≡ g q c.to) e (h 0 c.to refl) in
      let rest = cases_same (suc k) cs
      (λ j u x. let n : k + suc j ≡ suc k + j = omega arith in
      subst (λ q. f q u ≡ g q u) n (h (suc j) u x)) in
      λ i. (record c { to = here i }) ∷ rest i

  -- each target of the operation moves to one place
  pub retargeted_same : (o : Op)
      → ((which t : ℕ) → slice_get (targets o) which ≡ Some t → f which t ≡ g which t)
      → retargeted f o ≡ retargeted g o
  retargeted_same (op.IfZero c t) h = ap (op.IfZero c) (h 0 t refl)
  retargeted_same (op.IfCmp c t) h = ap (op.IfCmp c) (h 0 t refl)
  retargeted_same (op.IfRef eq t) h = ap (op.IfRef eq) (h 0 t refl)
  retargeted_same (op.IfNull null t) h = ap (op.IfNull null) (h 0 t refl)
  retargeted_same (op.Goto t) h = ap op.Goto (h 0 t refl)
  retargeted_same (op.TableSwitch low t ts) h =
      let here = h 0 t refl in
      let rest = table_same 1 ts (λ j u x. let n : suc j ≡ 1 + j = omega arith in
      subst (λ q. f q u ≡ g q u) n (h (suc j) u x)) in
      λ i. op.TableSwitch low (here i) (rest i)
  retargeted_same (op.LookupSwitch t cs) h =
      let here = h 0 t refl in
      let rest = cases_same 1 cs (λ j u x. let n : suc j ≡ 1 + j = omega arith in
      subst (λ q. f q u ≡ g q u) n (h (suc j) u x)) in
      λ i. op.LookupSwitch (here i) (rest i)
  retargeted_same o h = refl

  abbrev both : ℕ → ℕ → ℕ
  both which to = g which (f which to)

  table_twice : (k : ℕ) (ts : List ℕ) → map_from g k (map_from f k ts) ≡ map_from both k ts
  table_twice k [] = refl
  table_twice k (t ∷ ts) = ap (λ xs. both k t ∷ xs) (table_twice (suc k) ts)

  cases_twice : (k : ℕ) (cs : List Case)
      → map_from (case_by g) k (map_from (case_by f) k cs) ≡ map_from (case_by both) k cs
  cases_twice k [] = refl
  cases_twice k (c ∷ cs) = ap (λ xs. (record c { to = both k c.to }) ∷ xs) (cases_twice (suc k) cs)

  -- first by the one function, then by the other
  pub retargeted_twice : (o : Op) → retargeted g (retargeted f o) ≡ retargeted both o
  retargeted_twice (op.IfZero c t) = refl
  retargeted_twice (op.IfCmp c t) = refl
  retargeted_twice (op.IfRef eq t) = refl
  retargeted_twice (op.IfNull null t) = refl
  retargeted_twice (op.Goto t) = refl
  retargeted_twice (op.TableSwitch low t ts) = ap (op.TableSwitch low (both 0 t)) (table_twice 1 ts)
  retargeted_twice (op.LookupSwitch t cs) = ap (op.LookupSwitch (both 0 t)) (cases_twice 1 cs)
  retargeted_twice o = refl
