-- Where instructions begin, and that the number of the one that begins at an offset is found.
use Rattle.std.proofs.Common.{◌≡◌, ℕ, zero, suc, ◌+◌, ◌<◌, ◌≤◌, false, List, [], ◌∷◌, length, get_or, Some, Ok, pos}
use Rattle.std.proofs.Common.{refl, ap, ◌∙◌, arith, ne_eqb}
use Rattle.std.specs.Prelude.{nat_eq, slice_index}
use Rattle.std.specs.List.{flat_map, position_from}
use Rattle.std.proofs.lemmas.Bool.{eq-eqb}
use Rattle.std.proofs.lemmas.List.{length-append}
use Rattle.std.proofs.lemmas.Iterator.Adapters.{position_from-zero}
use Rattle.format_reading.specs.declared.fault.FormatKind.TheVariants as bad
use Rattle.class_model.specs.declared.constant.PoolConstant.{PoolConstant}
use Rattle.class_model.specs.declared.code.Ins.{Ins}
use Rattle.class_model.specs.Lookups.{due}
use Rattle.class_model.specs.InstructionStructure.{info_bytes, starts_from}
use Rattle.class_model.specs.InstructionMeaning.{aim_at}
use Rattle.class_model.specs.CanonicalCode.{op_info, size_of, places_from, infos_from}
use Rattle.class_model.proofs.BackSizes.{info_is_there, size_is}

module _ (pool : List PoolConstant) where
  -- where each instruction begins
  abbrev pub begins : List Ins → ℕ → List ℕ
  begins [] at = []
  begins (i ∷ ins) at = at ∷ begins ins (at + size_of pool at i.op)

  -- as the structure tells it
  pub begins_are : (all : List ℕ) (ins : List Ins) (at : ℕ)
      → starts_from at (infos_from pool all at ins) ≡ begins ins at
  begins_are all [] at = refl
  begins_are all (i ∷ ins) at =
      let here : length (info_bytes (op_info pool (slice_index all) at i.op))
      ≡ size_of pool at i.op = size_is pool (slice_index all) at i.op in
      ap (λ (k : ℕ). at ∷ starts_from (at + k) (infos_from pool all (at + size_of pool at i.op) ins)) here
      ∙ ap (λ (t : List ℕ). at ∷ t) (begins_are all ins (at + size_of pool at i.op))

  -- the places are these, and one more
  pub place_is : (ins : List Ins) (at k : ℕ) → k < length ins
      → get_or (places_from pool at ins) k 0 ≡ get_or (begins ins at) k 0
  place_is [] at k lt = absurd (omega arith)
  place_is (i ∷ ins) at zero lt = refl
  place_is (i ∷ ins) at (suc k) lt = place_is ins (at + size_of pool at i.op) k (omega arith)

  pub begins_long : (ins : List Ins) (at : ℕ) → length (begins ins at) ≡ length ins
  begins_long [] at = refl
  begins_long (i ∷ ins) at = ap suc (begins_long ins (at + size_of pool at i.op))

  -- none begins before the first
  later : (ins : List Ins) (at k : ℕ) → k < length ins → at ≤ get_or (begins ins at) k 0
  later [] at k lt = absurd (omega arith)
  later (i ∷ ins) at zero lt = omega arith
  later (i ∷ ins) at (suc k) lt = let h = later ins (at + size_of pool at i.op) k (omega arith) in omega arith

  -- each begins before the end
  pub within : (all : List ℕ) (ins : List Ins) (at k : ℕ) → k < length ins
      → get_or (begins ins at) k 0 < at + length (flat_map info_bytes (infos_from pool all at ins))
  within all [] at k lt = absurd (omega arith)
  within all (i ∷ ins) at zero lt =
      let info = op_info pool (slice_index all) at i.op in
      omega (
        arith,
        info_is_there info,
        length-append (info_bytes info)
            (flat_map info_bytes (infos_from pool all (at + size_of pool at i.op) ins)),
      )
  within all (i ∷ ins) at (suc k) lt =
      let info = op_info pool (slice_index all) at i.op in
      let next = at + size_of pool at i.op in
      let h = within all ins next k (omega arith) in
      omega (
        arith,
        h,
        size_is pool (slice_index all) at i.op,
        length-append (info_bytes info)
            (flat_map info_bytes (infos_from pool all next ins)),
      )

  -- the number is found
  number_found : (ins : List Ins) (at k j : ℕ) → k < length ins
      → position_from (nat_eq (get_or (begins ins at) k 0)) j (begins ins at) ≡ Some (j + k)
  number_found [] at k j lt = absurd (omega arith)
  number_found (i ∷ ins) at zero j lt = rw (eq-eqb at at refl) (ap (λ (n : ℕ). Some n) (omega arith))
  number_found (i ∷ ins) at (suc k) j lt =
      let next = at + size_of pool at i.op in
      let some : 0 < size_of pool at i.op = info_is_there (op_info pool (λ to. 0) at i.op) in
      let far : next ≤ get_or (begins ins next) k 0 = later ins next k (omega arith) in
      let other : nat_eq (get_or (begins ins next) k 0) at ≡ false = ne_eqb _ _ (λ e. omega arith) in
      rw other (number_found ins next k (j + 1) (omega arith) ∙ ap (λ (n : ℕ). Some n) (omega arith))

  pub aim_back : (ins : List Ins) (at k : ℕ) → k < length ins
      → aim_at (begins ins at) (pos (get_or (begins ins at) k 0)) ≡ Ok k
  aim_back ins at k lt =
      ap (due bad.BadTarget) (position_from-zero (nat_eq (get_or (begins ins at) k 0)) (begins ins at)
      ∙ number_found ins at k 0 lt ∙ ap (λ (n : ℕ). Some n) (omega arith))
