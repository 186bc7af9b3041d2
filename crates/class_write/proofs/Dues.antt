-- What is due of a class, limit by limit.
use Rattle.std.proofs.Common.{◌≡◌, List, Result, Ok, Err, refl, sym, ap, ◌∙◌}
use Rattle.jv_base.specs.declared.outcome.Or.{Or}
use Rattle.jv_base.specs.declared.outcome.Or.TheVariants.{Fault, OutOfMemory}
use Rattle.jv_base.specs.Outcome.{◌>>=◌, FaultIs}
use Rattle.std.proofs.Common.{ℕ, ◌+◌, length}
use Rattle.class_model.specs.declared.limit.WriteLimit.{WriteLimit}
use Rattle.class_model.specs.declared.limit.WriteLimit.TheVariants.{PoolFull}
use Rattle.class_model.specs.declared.class.Method.{Method}
use Rattle.class_model.specs.declared.class.Class.{Class}
use Rattle.class_model.specs.declared.constant.PoolConstant.{PoolConstant}
use Rattle.class_model.specs.ClassFile.{class_file}
use Rattle.class_model.specs.CanonicalClass.{pool_of, class_raw, layout}
use Rattle.class_model.specs.WriteLimits.{fits_u2, first_of, text_fits, code_fits, tables_fit, body_fits, limits}
use Rattle.class_model.specs.WriteLimits.{spelled_within, class_written}
use Rattle.class_write.specs.bodies.Placing.{placed_bodies, bodies_due}
use Rattle.constant_table.specs.Limits.{pool_fits}
use Rattle.class_write.specs.bodies.Writing.{Puts}

abbrev Limited : Type 0
Limited = Result (Unit {0}) WriteLimit

-- ---- a value that is bound to a limit

module _ {A : Type 0} (value : A) where
  abbrev bound : Limited → Result A WriteLimit
  bound limited = limited >>= (λ fits. Ok value)

  pub bound_ok : (limited : Limited) (came : A) → bound limited ≡ Ok came → (limited ≡ Ok tt) × (came ≡ value)
  bound_ok (Ok tt) came h = (refl, let e : value ≡ came = cc in sym e)
  bound_ok (Err e) came h = absurd cc

  pub bound_err : (limited : Limited) (limit : WriteLimit) → bound limited ≡ Err limit → limited ≡ Err limit
  bound_err (Ok done) limit h = absurd cc
  bound_err (Err e) limit h = cc

-- ---- five limits in a row

abbrev all_of : Limited → Limited → Limited → Limited → Limited → Limited
all_of a b s t m = a >>= (λ entries. b >>= (λ texts. s >>= (λ codes. t >>= (λ tables. m))))

fault_ab : (a b s t m : Limited) (l : WriteLimit) → (a >>= (λ entries. b)) ≡ Err l → all_of a b s t m ≡ Err l
fault_ab (Err e) b s t m l h = h
fault_ab (Ok done) (Err e) s t m l h = h
fault_ab (Ok done) (Ok more) s t m l h = absurd cc

good_ab : (a b s t m : Limited) → (a >>= (λ entries. b)) ≡ Ok tt
    → all_of a b s t m ≡ (s >>= (λ codes. t >>= (λ tables. m)))
good_ab (Err e) b s t m h = absurd cc
good_ab (Ok done) (Err e) s t m h = absurd cc
good_ab (Ok done) (Ok more) s t m h = refl

module _ (c : Class) (pool : List PoolConstant) (is : pool ≡ pool_of c) where
  abbrev codes : Limited
  codes = first_of (λ (m : Method). code_fits pool m.code) c.methods

  abbrev bodies : Limited
  bodies = first_of (body_fits pool c.name) c.methods

  written : (r : Limited) → limits pool c ≡ r → class_written c ≡ spelled_within r c
  unfolding class_written
  written r h = ap (λ (ks : List PoolConstant). spelled_within (limits ks c) c) (sym is)
      ∙ ap (λ (r : Limited). spelled_within r c) h

  pub pool_fault : (l : WriteLimit) → pool_fits pool ≡ Err l → class_written c ≡ Err l
  unfolding limits
  pool_fault l h = written (Err l)
      (fault_ab (fits_u2 (λ n. PoolFull n) (length pool + 1)) (first_of text_fits pool) codes (tables_fit c) bodies l h)

  module _ (fits : pool_fits pool ≡ Ok tt) where
    behind : limits pool c ≡ (codes >>= (λ coded. tables_fit c >>= (λ tables. bodies)))
    unfolding limits
    behind = good_ab (fits_u2 (λ n. PoolFull n) (length pool + 1)) (first_of text_fits pool) codes
        (tables_fit c) bodies fits

    pub codes_fault : (l : WriteLimit) → codes ≡ Err l → class_written c ≡ Err l
    codes_fault l h = written (Err l)
        (behind ∙ ap (λ (r : Limited). r >>= (λ coded. tables_fit c >>= (λ tables. bodies))) h)

    module _ (coded : codes ≡ Ok tt) where
      behind_codes : limits pool c ≡ (tables_fit c >>= (λ tables. bodies))
      behind_codes = behind ∙ ap (λ (r : Limited). r >>= (λ coded. tables_fit c >>= (λ tables. bodies))) coded

      pub tables_fault : (l : WriteLimit) → tables_fit c ≡ Err l → class_written c ≡ Err l
      tables_fault l h = written (Err l) (behind_codes ∙ ap (λ (r : Limited). r >>= (λ tables. bodies)) h)

      pub bodies_fault : (l : WriteLimit) → tables_fit c ≡ Ok tt → bodies ≡ Err l → class_written c ≡ Err l
      bodies_fault l t h = written (Err l) (behind_codes ∙ (ap (λ (r : Limited). r >>= (λ tables. bodies)) t ∙ h))

      pub bytes_due : (bytes : List ℕ) → tables_fit c ≡ Ok tt → bodies ≡ Ok tt → bytes ≡ class_file (class_raw pool c)
          → class_written c ≡ Ok bytes
      unfolding layout
      bytes_due bytes t h e =
          written (Ok tt) (behind_codes ∙ (ap (λ (r : Limited). r >>= (λ tables. bodies)) t ∙ h))
          ∙ ap (λ (text : List ℕ). let R : Result (List ℕ) WriteLimit = Ok text in R)
          (sym (e ∙ ap (λ (ks : List PoolConstant). class_file (class_raw ks c)) is))

  -- ---- the same of faults beside want of memory

  pub pool_fault_due : (e : Or WriteLimit) → FaultIs e (pool_fits pool) → FaultIs e (class_written c)
  pool_fault_due (Fault l) h = pool_fault l h
  pool_fault_due OutOfMemory h = tt

  pub codes_fault_due : pool_fits pool ≡ Ok tt → (e : Or WriteLimit) → FaultIs e (bodies_due pool c.methods)
      → FaultIs e (class_written c)
  codes_fault_due fits (Fault l) h = codes_fault fits l (bound_err (placed_bodies pool c.methods) codes l h)
  codes_fault_due fits OutOfMemory h = tt

  pub bodies_fault_due : pool_fits pool ≡ Ok tt → codes ≡ Ok tt → tables_fit c ≡ Ok tt
      → (e : Or WriteLimit) (old new text : List ℕ)
      → Puts (Err e) old new text bodies → FaultIs e (class_written c)
  bodies_fault_due fits coded tables (Fault l) old new text h = bodies_fault fits coded l tables h
  bodies_fault_due fits coded tables OutOfMemory old new text h = tt
