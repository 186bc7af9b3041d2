-- What well-formed classes have, and what it says that no limit is passed.
use Rattle.std.proofs.Common.{◌≡◌, ℕ, ◌+◌, ◌^◌, ◌<◌, Bool, true, false, cond, List, [], ◌∷◌, length, Option, Some, None}
use Rattle.std.proofs.Common.{Result, Ok, Err, refl}
use Rattle.std.specs.Prelude.{IfSome, nat_lt}
use Rattle.std.specs.List.{AllByRecursion}
use Rattle.std.proofs.lemmas.Bool.{ltb-true}
use Rattle.jv_base.specs.Outcome.{◌>>=◌}
use Rattle.class_model.specs.declared.limit.WriteLimit.{WriteLimit}
use Rattle.class_model.specs.declared.limit.WriteLimit.TheVariants.{PoolFull, CodeTooLong, AttributeFull}
use Rattle.class_model.specs.declared.code.Code.{Code}
use Rattle.class_model.specs.declared.code.Ins.{Ins}
use Rattle.class_model.specs.declared.frame.VType.{VType}
use Rattle.class_model.specs.declared.class.Method.{Method}
use Rattle.class_model.specs.declared.class.Class.{Class}
use Rattle.class_model.specs.declared.constant.PoolConstant.{PoolConstant}
use Rattle.class_model.specs.CanonicalCode.{places, code_bytes}
use Rattle.class_model.specs.CanonicalClass.{line_rows, first_locals}
use Rattle.class_model.specs.WellFormed.{IsGoodCode, IsGoodMethod, HasFewWords}
use Rattle.class_model.specs.WriteLimits.{fits_u2, first_of, text_fits, branches_fit, code_fits, frames_fit}
use Rattle.class_model.specs.WriteLimits.{body_tables_fit, method_tables_fit, table_fits, tables_fit}
use Rattle.class_write.specs.bodies.Placing.{IsWritable, HasWritable}
use Rattle.class_write.specs.bodies.Writing.{FitsTables, HasFitting}
use Rattle.constant_table.specs.Limits.{pool_fits}

abbrev Limited : Type 0
Limited = Result (Unit {0}) WriteLimit

-- ---- limits that aren't passed

-- where one after the other passes none, neither does
pub both_ok : (one other : Limited) → (one >>= (λ done. other)) ≡ Ok tt → (one ≡ Ok tt) × (other ≡ Ok tt)
both_ok (Ok tt) other h = (refl, h)
both_ok (Err e) other h = absurd cc

abbrev fit : Bool → WriteLimit → Limited
fit b limit = cond b (Ok tt) (Err limit)

fit_ok : (b : Bool) (limit : WriteLimit) → fit b limit ≡ Ok tt → b ≡ true
fit_ok true limit h = refl
fit_ok false limit h = absurd cc

pub count_ok : (limit : ℕ → WriteLimit) (n : ℕ) → fits_u2 limit n ≡ Ok tt → n < 2 ^ 16
count_ok limit n h = ltb-true n (2 ^ 16) (fit_ok (nat_lt n (2 ^ 16)) (limit n) h)

module _ (pool : List PoolConstant) where
  -- a pool that passes no limit is counted by two bytes, and so is each of its texts
  pub pool_ok : pool_fits pool ≡ Ok tt → (length pool + 1 < 2 ^ 16) × (first_of text_fits pool ≡ Ok tt)
  pool_ok h =
      let both = both_ok (fits_u2 (λ n. PoolFull n) (length pool + 1)) (first_of text_fits pool) h in
      (count_ok (λ n. PoolFull n) (length pool + 1) both.0, both.1)

  fitting_body : (first : List VType) (o : Option Code) → IfSome o IsWritable → code_fits pool o ≡ Ok tt
      → body_tables_fit first o ≡ Ok tt → IfSome o (FitsTables pool)
  fitting_body first None writable code tables = tt
  fitting_body first (Some code) writable short tables =
      let size = length (code_bytes pool (places pool code.ins) code.ins) in
      let rows = length (line_rows None [] code.ins) in
      let coded = both_ok (fits_u2 (λ n. CodeTooLong n) size) (branches_fit (places pool code.ins) 0 code.ins) short in
      let one = both_ok (table_fits (length code.handlers))
      (table_fits rows >>=
      (λ lines. table_fits (length code.frames) >>= (λ frames. frames_fit first code.frames))) tables in
      let two = both_ok (table_fits rows)
      (table_fits (length code.frames) >>= (λ frames. frames_fit first code.frames)) one.1 in
      let three = both_ok (table_fits (length code.frames)) (frames_fit first code.frames) two.1 in
      record {
        writable = writable;
        code_length = count_ok (λ n. CodeTooLong n) size coded.0;
        handlers = count_ok (λ n. AttributeFull n) (length code.handlers) one.0;
        lines = count_ok (λ n. AttributeFull n) rows two.0;
        frames = count_ok (λ n. AttributeFull n) (length code.frames) three.0;
      }

  -- methods whose codes and tables pass no limit can be written
  pub fitting : (class : List ℕ) (methods : List Method) → AllByRecursion HasWritable methods
      → first_of (λ (m : Method). code_fits pool m.code) methods ≡ Ok tt
      → first_of (method_tables_fit class) methods ≡ Ok tt → AllByRecursion (HasFitting pool) methods
  fitting class [] writable codes tables = tt
  fitting class (m ∷ methods) writable codes tables =
      let code = both_ok (code_fits pool m.code) (first_of (λ (m : Method). code_fits pool m.code) methods) codes in
      let table = both_ok (method_tables_fit class m) (first_of (method_tables_fit class) methods) tables in
      let throws = both_ok (body_tables_fit (first_locals class m) m.code) (table_fits (length m.throws)) table.0 in (
        record {
          body = fitting_body (first_locals class m) m.code writable.0 code.0 throws.0;
          throws = count_ok
              (λ n. AttributeFull n) (length m.throws) throws.1;
        },
        fitting class methods writable.1 code.1 table.1,
      )

-- the counts of a class that passes no limit of its tables
pub record AreFew (c : Class) : Type 0 where
  pub interfaces : length c.interfaces < 2 ^ 16
  pub fields : length c.fields < 2 ^ 16
  pub methods : length c.methods < 2 ^ 16
  pub in_methods : first_of (method_tables_fit c.name) c.methods ≡ Ok tt

pub tables_ok : (c : Class) → tables_fit c ≡ Ok tt → AreFew c
tables_ok c h =
    let rest = first_of (method_tables_fit c.name) c.methods in
    let one = both_ok (table_fits (length c.interfaces))
    (table_fits (length c.fields) >>= (λ fields. table_fits (length c.methods) >>= (λ methods. rest))) h in
    let two = both_ok (table_fits (length c.fields)) (table_fits (length c.methods) >>= (λ methods. rest)) one.1 in
    let three = both_ok (table_fits (length c.methods)) rest two.1 in
    record {
      interfaces = count_ok (λ n. AttributeFull n) (length c.interfaces) one.0;
      fields = count_ok (λ n. AttributeFull n) (length c.fields) two.0;
      methods = count_ok (λ n. AttributeFull n) (length c.methods) three.0;
      in_methods = three.1;
    }

-- ---- well-formed methods

module _ (in_interface : Bool) where
  writable_body : (o : Option Code) → IfSome o IsGoodCode
      → IfSome o (λ (code : Code). AllByRecursion (λ (i : Ins). HasFewWords i.op) code.ins)
      → IfSome o (λ (code : Code). length code.ins < 4294967295) → IfSome o IsWritable
  writable_body None good words count = tt
  writable_body (Some code) good words count = record { good = good; few_words = words; count = count }

  pub writables : (methods : List Method) → AllByRecursion (IsGoodMethod in_interface) methods
      → AllByRecursion (λ (m : Method). IfSome m.code (λ (code : Code). AllByRecursion
      (λ (i : Ins). HasFewWords i.op) code.ins)) methods
      → AllByRecursion (λ (m : Method). IfSome m.code (λ (code : Code). length code.ins < 4294967295)) methods
      → AllByRecursion HasWritable methods
  writables [] good words counts = tt
  writables (m ∷ methods) good words counts =
      (writable_body m.code good.0.code words.0 counts.0, writables methods good.1 words.1 counts.1)

  pub good_codes : (methods : List Method) → AllByRecursion (IsGoodMethod in_interface) methods
      → AllByRecursion (λ (m : Method). IfSome m.code IsGoodCode) methods
  good_codes [] good = tt
  good_codes (m ∷ methods) good = (good.0.code, good_codes methods good.1)
