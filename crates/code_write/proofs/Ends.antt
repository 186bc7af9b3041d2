-- Where a code ends, and where its instructions begin.
use Rattle.std.proofs.Common.{◌≡◌, ℕ, suc, ◌+◌, ◌≤◌, ◌<◌, List, [], ◌∷◌, ◌++◌, length, drop, get_or, refl, sym, ap, ◌∙◌}
use Rattle.std.proofs.Common.{append_assoc, arith, drop-cons}
use Rattle.std.specs.Prelude.{slice_index}
use Rattle.std.specs.List.{flat_map, AllByRecursion}
use Rattle.std.proofs.lemmas.List.{length-append, drop_all}
use Rattle.class_model.specs.declared.constant.PoolConstant.{PoolConstant}
use Rattle.class_model.specs.declared.code.Ins.{Ins}
use Rattle.class_model.specs.InstructionStructure.{info_bytes}
use Rattle.class_model.specs.CanonicalCode.{op_info, size_of, places_from, places, infos_from, code_bytes}
use Rattle.code_write.proofs.Lengths.{same_size}

module _ (pool : List PoolConstant) where
  -- where instructions end, the first of which begins at an offset
  abbrev pub end_from : ℕ → List Ins → ℕ
  end_from at [] = at
  end_from at (i ∷ ins) = end_from (at + size_of pool at i.op) ins

  -- the bytes of instructions whose targets are at these places
  abbrev pub bytes_from : List ℕ → ℕ → List Ins → List ℕ
  bytes_from all at ins = flat_map info_bytes (infos_from pool all at ins)

  -- they end behind their bytes
  pub bytes_end : (all : List ℕ) (at : ℕ) (ins : List Ins) → at + length (bytes_from all at ins) ≡ end_from at ins
  bytes_end all at [] = omega arith
  bytes_end all at (i ∷ ins) =
      let size = same_size pool (slice_index all) (λ to. 0) at i.op in
      let more = length-append (info_bytes (op_info pool (slice_index all) at i.op))
      (bytes_from all (at + size_of pool at i.op) ins) in
      let rest = bytes_end all (at + size_of pool at i.op) ins in
      omega (arith, size, more, rest)

  -- the length of a code is where it ends
  pub code_end : (all : List ℕ) (ins : List Ins) → length (code_bytes pool all ins) ≡ end_from 0 ins
  unfolding code_bytes
  code_end all ins = omega (arith, bytes_end all 0 ins)

  -- no instruction begins behind the end
  pub begins_before : (at : ℕ) (ins : List Ins) → at ≤ end_from at ins
  begins_before at [] = omega arith
  begins_before at (i ∷ ins) = omega (arith, begins_before (at + size_of pool at i.op) ins)

  all_short : (n at : ℕ) (ins : List Ins) → end_from at ins < n
      → AllByRecursion (λ place. place < n) (places_from pool at ins)
  all_short n at [] lt = (lt, tt)
  all_short n at (i ∷ ins) lt =
      let before : at ≤ end_from (at + size_of pool at i.op) ins = begins_before at (i ∷ ins) in
      (omega (arith, before, lt), all_short n (at + size_of pool at i.op) ins lt)

  -- the places of a code that isn't too long are numbers of two bytes
  pub places_short : (n : ℕ) (all : List ℕ) (ins : List Ins) → length (code_bytes pool all ins) < n
      → AllByRecursion (λ place. place < n) (places pool ins)
  unfolding places
  places_short n all ins lt = all_short n 0 ins (omega (arith, code_end all ins, lt))

  -- there is one place more than there are instructions
  count_from : (at : ℕ) (ins : List Ins) → length (places_from pool at ins) ≡ suc (length ins)
  count_from at [] = refl
  count_from at (i ∷ ins) = ap suc (count_from (at + size_of pool at i.op) ins)

  pub places_count : (ins : List Ins) → length (places pool ins) ≡ suc (length ins)
  unfolding places
  places_count ins = count_from 0 ins

  -- ---- one instruction after the other

  pub next_is : (ins : List Ins) (n : ℕ) (d : Ins) → n < length ins → drop n ins ≡ get_or ins n d ∷ drop (n + 1) ins
  next_is ins n d lt =
      let e : drop (suc n) ins ≡ drop (n + 1) ins = ap (λ k. drop k ins) (let k : suc n ≡ n + 1 = omega arith in k) in
      drop-cons ins n d lt ∙ ap (λ (rest : List Ins). get_or ins n d ∷ rest) e

  -- the end stays where it is
  pub end_next : (ins : List Ins) (n at after : ℕ) (d : Ins) (end : ℕ) → n < length ins
      → after ≡ at + size_of pool at (get_or ins n d).op
      → end_from at (drop n ins) ≡ end → end_from after (drop (n + 1) ins) ≡ end
  end_next ins n at after d end lt e so_far =
      ap (λ k. end_from k (drop (n + 1) ins)) e ∙ sym (ap (end_from at) (next_is ins n d lt)) ∙ so_far

  -- a place is noted
  pub places_next : (ins : List Ins) (n at after : ℕ) (d : Ins) (front noted total : List ℕ) → n < length ins
      → after ≡ at + size_of pool at (get_or ins n d).op → noted ≡ front ++ at ∷ []
      → front ++ places_from pool at (drop n ins) ≡ total → noted ++ places_from pool after (drop (n + 1) ins) ≡ total
  places_next ins n at after d front noted total lt e is so_far =
      let one : places_from pool at (drop n ins) ≡ at ∷ places_from pool after (drop (n + 1) ins) =
      ap (places_from pool at) (next_is ins n d lt) ∙ ap (λ k. at ∷ places_from pool k (drop (n + 1) ins)) (sym e) in
      ap (λ (xs : List ℕ). xs ++ places_from pool after (drop (n + 1) ins)) is
      ∙ append_assoc front (at ∷ []) (places_from pool after (drop (n + 1) ins))
      ∙ ap (λ (xs : List ℕ). front ++ xs) (sym one) ∙ so_far

  -- all are noted
  pub places_done : (ins : List Ins) (n at : ℕ) (front noted total : List ℕ) → length ins ≤ n → noted ≡ front ++ at ∷ []
      → front ++ places_from pool at (drop n ins) ≡ total → noted ≡ total
  places_done ins n at front noted total le is so_far =
      is ∙ sym (ap (λ (is : List Ins). front ++ places_from pool at is) (drop_all n ins le)) ∙ so_far

  pub end_done : (ins : List Ins) (n at end : ℕ) → length ins ≤ n → end_from at (drop n ins) ≡ end → at ≡ end
  end_done ins n at end le so_far = sym (ap (end_from at) (drop_all n ins le)) ∙ so_far
