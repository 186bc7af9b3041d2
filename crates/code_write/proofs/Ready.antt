-- What the passes over a code find: places of two bytes, and targets among them.
use Rattle.std.proofs.Common.{◌≡◌, ℕ, ◌^◌, ◌≤◌, ◌<◌, Bool, true, false, cond, List, [], ◌∷◌, length, Result, Ok, Err}
use Rattle.std.proofs.Common.{refl, sym, ap, subst, ◌∙◌, arith}
use Rattle.std.specs.Prelude.{All, nat_lt}
use Rattle.std.specs.List.{AllByRecursion}
use Rattle.std.proofs.lemmas.Bool.{ltb-true, lt-ltb, le-ltb}
use Rattle.std.proofs.lemmas.List.Elements.{All-weaker}
use Rattle.jv_base.specs.Outcome.{◌>>=◌}
use Rattle.class_model.specs.declared.limit.WriteLimit.{WriteLimit}
use Rattle.class_model.specs.declared.limit.WriteLimit.TheVariants.{CodeTooLong}
use Rattle.class_model.specs.declared.constant.PoolConstant.{PoolConstant}
use Rattle.class_model.specs.declared.op.Case.{Case}
use Rattle.class_model.specs.declared.op.Op.{Op}
use Rattle.class_model.specs.declared.op.Op.TheVariants as op
use Rattle.class_model.specs.declared.code.Ins.{Ins}
use Rattle.class_model.specs.CanonicalCode.{places, code_bytes}
use Rattle.class_model.specs.WellFormed.{IsGoodOp}
use Rattle.code_write.specs.Coded.{placed}

-- the same with what is tested, the length and the places as variables
abbrev pub fit : Bool → ℕ → Result (Unit {0}) WriteLimit
fit b n = cond b (Ok tt) (Err (CodeTooLong n))

abbrev tested : Bool → ℕ → List ℕ → Result (List ℕ) WriteLimit
tested b n all = fit b n >>= (λ short. Ok all)

tested_ok : (b : Bool) (n : ℕ) (places all : List ℕ) → tested b n places ≡ Ok all → (b ≡ true) × (all ≡ places)
tested_ok true n places all h = (refl, let e : places ≡ all = cc in sym e)
tested_ok false n places all h = absurd cc

tested_short : (b : Bool) (n : ℕ) (all : List ℕ) → b ≡ true → tested b n all ≡ Ok all
tested_short b n all e = rw e refl

tested_long : (b : Bool) (n : ℕ) (all : List ℕ) → b ≡ false → tested b n all ≡ Err (CodeTooLong n)
tested_long b n all e = rw e refl

module _ (pool : List PoolConstant) (ins : List Ins) where
  abbrev code_length : ℕ
  code_length = length (code_bytes pool (places pool ins) ins)

  -- what was placed isn't too long
  pub placed_is : (all : List ℕ) → placed pool ins ≡ Ok all
      → (all ≡ places pool ins) × (length (code_bytes pool all ins) < 2 ^ 16)
  unfolding placed
  placed_is all is =
      let r = tested_ok (nat_lt code_length (2 ^ 16)) code_length (places pool ins) all is in
      (r.1, subst (λ (xs : List ℕ). length (code_bytes pool xs ins) < 2 ^ 16) (sym r.1) (ltb-true _ _ r.0))

  pub placed_short : (end : ℕ) (all : List ℕ) → code_length ≡ end → end < 2 ^ 16 → all ≡ places pool ins
      → placed pool ins ≡ Ok all
  unfolding placed
  placed_short end all e lt is = rw is
      (tested_short (nat_lt code_length (2 ^ 16)) code_length (places pool ins) (rw e (lt-ltb _ _ lt)))

  pub placed_long : (end : ℕ) → code_length ≡ end → 2 ^ 16 ≤ end → placed pool ins ≡ Err (CodeTooLong end)
  unfolding placed
  placed_long end e le =
      tested_long (nat_lt code_length (2 ^ 16)) code_length (places pool ins) (rw e (le-ltb _ _ le))
      ∙ ap (λ n. let R : Result (List ℕ) WriteLimit = Err (CodeTooLong n) in R) e

-- ---- targets

module _ (n m : ℕ) (le : n ≤ m) where
  targets_more : (cases : List ℕ) → AllByRecursion (λ to. to < n) cases → AllByRecursion (λ to. to < m) cases
  targets_more [] h = tt
  targets_more (x ∷ cases) h = (omega (arith, h.0, le), targets_more cases h.1)

  cases_more : (cases : List Case) → AllByRecursion (λ (c : Case). c.to < n) cases
      → AllByRecursion (λ (c : Case). c.to < m) cases
  cases_more [] h = tt
  cases_more (x ∷ cases) h = (omega (arith, h.0, le), cases_more cases h.1)

  -- a target is one of more instructions too
  good_more : (o : Op) → IsGoodOp n o → IsGoodOp m o
  good_more (op.IfZero c to) h = omega (arith, h, le)
  good_more (op.IfCmp c to) h = omega (arith, h, le)
  good_more (op.IfRef eq to) h = omega (arith, h, le)
  good_more (op.IfNull null to) h = omega (arith, h, le)
  good_more (op.Goto to) h = omega (arith, h, le)
  good_more (op.TableSwitch low other cases) h =
      record {
        other_target = omega
            (arith, h.other_target, le);
        targets = targets_more cases h.targets;
        least = h.least;
        most = h.most;
      }
  good_more (op.LookupSwitch other cases) h =
      record {
        other_target = omega
            (arith, h.other_target, le);
        targets = cases_more cases h.targets;
        ascending = h.ascending;
      }
  good_more _ h = h

  pub all_good : (ins : List Ins) → All (λ (i : Ins). IsGoodOp n i.op) ins → All (λ (i : Ins). IsGoodOp m i.op) ins
  all_good ins h = All-weaker (λ (i : Ins). IsGoodOp n i.op) (λ (i : Ins). IsGoodOp m i.op) (λ i. good_more i.op) ins h
