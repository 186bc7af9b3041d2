-- Targets that are moved one by one, over all families; and what a rewritten code has.
use Rattle.std.proofs.Common.{ℕ, suc, ◌+◌, List, [], ◌∷◌, Some, true, false, ◌≡◌, refl, subst}
use Rattle.std.proofs.Common.{arith}
use Rattle.std.specs.Prelude.{map, slice_get}
use Rattle.std.specs.List.{AllByRecursion, AllZip}
use Rattle.class_model.specs.declared.code.Code.{Code}
use Rattle.class_model.specs.declared.op.Case.{Case}
use Rattle.class_model.specs.declared.op.Op.{Op}
use Rattle.class_model.specs.declared.op.Op.TheVariants as op
use Rattle.edit_premises.specs.Aims.{CaseAims, OpAims}
use Rattle.edit_premises.specs.Compacts.{IsClosed}
use Rattle.code_edit.specs.Rewriting.{map_from, retargeted}
use Rattle.code_edit.specs.Flow.{goes_elsewhere, targets}

module _ (T : ℕ → ℕ → Type 0) (N : Type 0) (f : ℕ → ℕ → ℕ) where
  table_aims : (k : ℕ) (ts : List ℕ) → ((j t : ℕ) → slice_get ts j ≡ Some t → T t (f (k + j) t))
      → AllZip T ts (map_from f k ts)
  table_aims k [] h = tt
  table_aims k (t ∷ ts) h = (
    (let e : k + 0 ≡ k = omega arith in subst (λ q. T t (f q t)) e (h 0 t refl)),
    table_aims (suc k) ts (λ j u x. let e : k + suc j ≡ suc k + j = omega arith in
        subst (λ q. T u (f q u)) e (h (suc j) u x)),
  )

  case_aims : (k : ℕ) (cs : List Case)
      → ((j t : ℕ) → slice_get (map (λ (c : Case). c.to) cs) j ≡ Some t → T t (f (k + j) t))
      → AllZip (CaseAims T N) cs (map_from (λ j (c : Case). record c { to = f j c.to }) k cs)
  case_aims k [] h = tt
  case_aims k (c ∷ cs) h = (
    (refl, (let e : k + 0 ≡ k = omega arith in subst (λ q. T c.to (f q c.to)) e (h 0 c.to refl))),
    case_aims (suc k) cs (λ j u x. let e : k + suc j ≡ suc k + j = omega arith in
        subst (λ q. T u (f q u)) e (h (suc j) u x)),
  )

  more : (t : ℕ) (ts : List ℕ)
      → ((which u : ℕ) → slice_get (t ∷ ts) which ≡ Some u → T u (f which u)) → (j u : ℕ)
      → slice_get ts j ≡ Some u → T u (f (1 + j) u)
  more t ts h j u x = let e : suc j ≡ 1 + j = omega arith in
      subst (λ q. T u (f q u)) e (h (suc j) u x)

  pub retargeted_aims : (o : Op)
      → ((which t : ℕ) → slice_get (targets o) which ≡ Some t → T t (f which t))
      → (goes_elsewhere o ≡ false → N) → OpAims T N o (retargeted f o)
  retargeted_aims (op.IfZero x t) h n = (_, refl, h 0 t refl, n refl)
  retargeted_aims (op.IfCmp x t) h n = (_, refl, h 0 t refl, n refl)
  retargeted_aims (op.IfRef x t) h n = (_, refl, h 0 t refl, n refl)
  retargeted_aims (op.IfNull x t) h n = (_, refl, h 0 t refl, n refl)
  retargeted_aims (op.Goto t) h n = (_, refl, h 0 t refl)
  retargeted_aims (op.TableSwitch low t ts) h n =
      (_, _, refl, h 0 t refl, table_aims 1 ts (more t ts h))
  retargeted_aims (op.LookupSwitch t cs) h n =
      (_, _, refl, h 0 t refl, case_aims 1 cs (more t (map (λ (c : Case). c.to) cs) h))
  retargeted_aims (op.Return x) h n = refl
  retargeted_aims op.Throw h n = refl
  retargeted_aims o h n = (refl, n refl)

-- all indices are closed
all_true : {A : Type 0} (xs : List A) → AllByRecursion (λ x. true ≡ true) xs
all_true [] = tt
all_true (x ∷ xs) = (refl, all_true xs)

all_entries : {A : Type 0} (P : A → Type 0) → ((x : A) → P x) → (xs : List A) → AllByRecursion P xs
all_entries P h [] = tt
all_entries P h (x ∷ xs) = (h x, all_entries P h xs)

pub all_closed : (code : Code) → IsClosed code (λ at. true)
all_closed code = record {
  first = refl;
  next = λ at i r e g lt. refl;
  jump = λ at i r e. all_true (targets i.op);
  entry = all_entries _ (λ h at lt r c. refl) code.handlers;
}
