-- All instructions of a well-formed code are read back from its canonical bytes.
use Rattle.std.proofs.Common.{◌≡◌, ℕ, suc, ◌+◌, ◌^◌, ◌<◌, Bool, true, false, List, [], ◌∷◌, length, map, get_or, Option}
use Rattle.std.proofs.Common.{Some, None, Result, Ok, Err, ℤ, pos, negsuc, ◌-ℤ◌, ◌<ℤ◌, ◌≤ℤ◌, refl, sym, ap, subst, ◌∙◌}
use Rattle.std.proofs.Common.{arith, SFits}
use Rattle.std.specs.Prelude.{slice_index, IfSome}
use Rattle.std.specs.Int.{w16, w32}
use Rattle.std.specs.List.{AllByRecursion, flat_map}
use Rattle.std.proofs.lemmas.Int.{ints}
use Rattle.std.proofs.lemmas.List.{length-append}
use Rattle.jv_base.specs.Outcome.{◌>>=◌}
use Rattle.format_reading.specs.Spelling.{AllStand}
use Rattle.format_reading.specs.declared.fault.FormatKind.{FormatKind}
use Rattle.class_model.specs.declared.pool.Entry.{Entry}
use Rattle.class_model.specs.declared.constant.PoolConstant.{PoolConstant}
use Rattle.class_model.specs.declared.limit.WriteLimit.{WriteLimit}
use Rattle.class_model.specs.declared.limit.WriteLimit.TheVariants.{BranchTooFar}
use Rattle.class_model.specs.declared.code.Ins.{Ins}
use Rattle.class_model.specs.declared.op.Op.{Op}
use Rattle.class_model.specs.Between.{int_between}
use Rattle.class_model.specs.InstructionStructure.{Info, info_bytes, starts_of}
use Rattle.class_model.specs.InstructionMeaning.{aim_at}
use Rattle.class_model.specs.CanonicalCode.{op_info, size_of, places, infos_from, code_bytes}
use Rattle.class_model.specs.WriteLimits.{branch_to, branch_fits, branches_fit, distance_fits}
use Rattle.class_model.specs.WellFormed.{IsGoodOp, HasFewWords}
use Rattle.class_model.specs.OpValues.{IsOpValue}
use Rattle.class_model.specs.Says.{AreSaid}
use Rattle.class_model.specs.WritableCode.{IsWritableCode}
use Rattle.class_model.proofs.BackNumbers.{short_fits}
use Rattle.class_model.proofs.BackPlain.{IsBack}
use Rattle.class_model.proofs.BackOps.{IsWritable, op_back}
use Rattle.class_model.proofs.BackSizes.{size_is, few_is}
use Rattle.class_model.proofs.BackPlaces.{begins, begins_are, place_is, within, aim_back}

-- ---- distances

fits_within : (z : ℤ) → z <ℤ pos (2 ^ 16) → negsuc (2 ^ 16) ≤ℤ z → SFits w32 z
fits_within (pos n) lt le = record { sfits = omega (arith, ints) }
fits_within (negsuc n) lt le = record { sfits = omega (arith, ints) }

near_fits : (a b : ℕ) → a < 2 ^ 16 → b < 2 ^ 16 → SFits w32 (pos a -ℤ pos b)
near_fits a b one two = fits_within (pos a -ℤ pos b) (omega (arith, ints)) (omega (arith, ints))

-- a step before others that all passed
pub both_passed : (one other : Result (Unit {0}) WriteLimit) → (one >>= (λ u. other)) ≡ Ok tt
    → (one ≡ Ok tt) × (other ≡ Ok tt)
both_passed (Ok u) other h = (refl, h)
both_passed (Err e) other h = absurd cc

-- a distance that passes is one of two bytes
distance_passed : (b : Bool) (n : ℕ) (d : ℤ) → int_between (negsuc 32767) (pos 32767) d ≡ b → distance_fits n d ≡ Ok tt
    → SFits w16 d
distance_passed true n d e h = short_fits d e
distance_passed false n d e h = absurd
    (let f : distance_fits n d
    ≡ Err (BranchTooFar n d) = rw e refl in let g : (let R : Result (Unit {0}) WriteLimit = Err (BranchTooFar n d) in R)
    ≡ Ok tt = sym f ∙ h in cc)

branch_passed : (all : List ℕ) (n at : ℕ) (o : Option ℕ) → slice_index all n ≡ at → branch_fits all n o ≡ Ok tt
    → IfSome o (λ to. SFits w16 (pos (slice_index all to) -ℤ pos at))
branch_passed all n at None e h = tt
branch_passed all n at (Some to) e h =
    subst (λ (k : ℕ). SFits w16 (pos (slice_index all to) -ℤ pos k)) e
    (distance_passed _ n (pos (slice_index all to) -ℤ pos (slice_index all n)) refl h)

-- ---- one after the other

-- the operation of an instruction
abbrev pub op_in : Ins → Op
op_in i = i.op

module _ (n : ℕ) (aim : ℤ → Result ℕ FormatKind) (entries : List Entry) (pool : List PoolConstant) (all : List ℕ)
    (found : (to : ℕ) → to < n → aim (pos (slice_index all to)) ≡ Ok to)
    (low : (to : ℕ) → to < n → slice_index all to < 2 ^ 16) where
  -- the instructions from number k on, the first at an offset
  stand : (ins : List Ins) (k at : ℕ) → AllByRecursion (λ (i : Ins). IsWritable n entries pool i.op) ins
      → ((j : ℕ) → j < length ins → slice_index all (k + j) ≡ get_or (begins pool ins at) j 0)
      → branches_fit all k ins ≡ Ok tt → at + length (flat_map info_bytes (infos_from pool all at ins)) < 2 ^ 16
      → AllStand info_bytes (IsBack aim entries) at (infos_from pool all at ins) (map op_in ins)
  stand [] k at each places branches short = tt
  stand (i ∷ ins) k at each places branches short =
      let info = op_info pool (slice_index all) at i.op in
      let next = at + size_of pool at i.op in
      let size : length (info_bytes info) ≡ size_of pool at i.op = size_is pool (slice_index all) at i.op in
      let two = both_passed (branch_fits all k (branch_to i.op)) (branches_fit all (k + 1) ins) branches in
      let here : slice_index all k ≡ at = ap (slice_index all) (omega arith) ∙ places 0 (omega arith) in
      let long = length-append (info_bytes info) (flat_map info_bytes (infos_from pool all next ins)) in
      let one : IsBack aim entries at info i.op = op_back n aim entries pool (slice_index all) at i.op each.0 (record {
        found = found;
        near = λ to lt. near_fits (slice_index all to) at (low to lt) (omega (arith, short));
        branch = branch_passed all k at (branch_to i.op) here two.0;
        few = few_is pool (slice_index all) at i.op (omega (arith, short, long));
      }) in (
        one,
        subst (λ (m : ℕ). AllStand info_bytes (IsBack aim entries) (at + m) (infos_from pool all next ins)
            (map op_in ins)) (sym size)
            (stand ins (k + 1) next each.1
            (λ j lt. ap (slice_index all) (omega arith) ∙ places (suc j) (omega arith)) two.1
            (omega (arith, short, long, size))),
      )

-- of each instruction what is told of all
each_is : (n : ℕ) (entries : List Entry) (pool : List PoolConstant) (ins : List Ins)
    → AllByRecursion (λ (i : Ins). IsGoodOp n i.op) ins → AllByRecursion (λ (i : Ins). HasFewWords i.op) ins
    → AllByRecursion (λ (i : Ins). IsOpValue i.op) ins → AreSaid entries pool ins
    → AllByRecursion (λ (i : Ins). IsWritable n entries pool i.op) ins
each_is n entries pool [] good words values said = tt
each_is n entries pool (i ∷ ins) good words values said = (
  record { good = good.0; words = words.0; value = values.0; said = said.0 },
  each_is n entries pool ins good.1 words.1 values.1 said.1,
)

-- the instructions as they are written
abbrev pub infos : List PoolConstant → List Ins → List Info
infos pool ins = infos_from pool (places pool ins) 0 ins

-- each of them is read, and means what it was
pub all_back : (entries : List Entry) (pool : List PoolConstant) (ins : List Ins) → IsWritableCode entries pool ins
    → AllStand info_bytes (IsBack (aim_at (starts_of (infos pool ins))) entries) 0 (infos pool ins) (map op_in ins)
unfolding places code_bytes
all_back entries pool ins h =
    let all = places pool ins in
    let starts : starts_of (infos pool ins) ≡ begins pool ins 0 = begins_are pool all ins 0 in
    let place : (to : ℕ) → to < length ins
    → slice_index all to ≡ get_or (begins pool ins 0) to 0 = λ to lt. place_is pool ins 0 to lt in
    let found : (to : ℕ) → to < length ins → aim_at (begins pool ins 0) (pos (slice_index all to)) ≡ Ok to =
    λ to lt. ap (λ (m : ℕ). aim_at (begins pool ins 0) (pos m)) (place to lt) ∙ aim_back pool ins 0 to lt in
    let low : (to : ℕ) → to < length ins
    → slice_index all to < 2 ^ 16 = λ to lt. omega (arith, place to lt, within pool all ins 0 to lt, h.short) in
    subst (λ (s : List ℕ). AllStand info_bytes (IsBack (aim_at s) entries) 0 (infos pool ins) (map op_in ins))
    (sym starts)
    (stand (length ins) (aim_at (begins pool ins 0)) entries pool all found low ins 0 0
    (each_is (length ins) entries pool ins h.good h.few_words h.values h.said)
    (λ j lt. ap (slice_index all) (omega arith) ∙ place j lt) h.near (omega (arith, h.short)))
