-- The bytes of a code, one instruction behind the other.
use Rattle.std.proofs.Common.{◌≡◌, ℕ, zero, suc, ◌+◌, ◌^◌, ◌≤◌, ◌<◌, List, [], ◌∷◌, ◌++◌, length, drop, get_or, Ok, sym}
use Rattle.std.proofs.Common.{ap, subst, ◌∙◌, append_assoc, arith}
use Rattle.std.specs.Prelude.{slice_index}
use Rattle.std.proofs.lemmas.List.{length-append, append-nil, drop_all}
use Rattle.class_model.specs.declared.constant.PoolConstant.{PoolConstant}
use Rattle.class_model.specs.declared.code.Ins.{Ins}
use Rattle.class_model.specs.declared.op.Op.{Op}
use Rattle.class_model.specs.InstructionStructure.{info_bytes}
use Rattle.class_model.specs.CanonicalCode.{distance, op_info, size_of, places_from}
use Rattle.code_write.proofs.Lengths.{same_size}
use Rattle.class_model.specs.WriteLimits.{branch_to, branches_fit}
use Rattle.code_write.specs.Coded.{IsNear}
use Rattle.code_write.proofs.Branches.{branch_fits_here, is_near}
use Rattle.code_write.proofs.Ends.{bytes_from, next_is}

-- the first of what is left
tail_is : (n : ℕ) (xs : List ℕ) (x : ℕ) (ys : List ℕ) → drop n xs ≡ x ∷ ys
    → (drop (suc n) xs ≡ ys) × (slice_index xs n ≡ x)
tail_is zero [] x ys h = absurd cc
tail_is zero (z ∷ xs) x ys h = (cc, cc)
tail_is (suc n) [] x ys h = absurd cc
tail_is (suc n) (z ∷ xs) x ys h = tail_is n xs x ys h

module _ (pool : List PoolConstant) (all : List ℕ) (ins : List Ins) (n : ℕ) (d : Ins) (front : List ℕ)
    (lt : n < length ins) where
  abbrev this_op : Op
  this_op = (get_or ins n d).op

  abbrev these : List ℕ
  these = info_bytes (op_info pool (slice_index all) (length front) this_op)

  abbrev after : ℕ
  after = length front + size_of pool (length front) this_op

  behind_is : (new : List ℕ) → new ≡ front ++ these → length new ≡ after
  behind_is new is = ap length is ∙ length-append front these
      ∙ ap (λ k. length front + k) (same_size pool (slice_index all) (λ to. 0) (length front) this_op)

  bytes_here : bytes_from pool all (length front) (drop n ins) ≡ these ++ bytes_from pool all after (drop (n + 1) ins)
  bytes_here = ap (bytes_from pool all (length front)) (next_is pool ins n d lt)

  -- with one more
  pub bytes_next : (new total : List ℕ) → new ≡ front ++ these
      → front ++ bytes_from pool all (length front) (drop n ins) ≡ total
      → new ++ bytes_from pool all (length new) (drop (n + 1) ins) ≡ total
  bytes_next new total is so_far =
      ap (λ k. new ++ bytes_from pool all k (drop (n + 1) ins)) (behind_is new is)
      ∙ ap (λ (xs : List ℕ). xs ++ bytes_from pool all after (drop (n + 1) ins)) is
      ∙ append_assoc front these (bytes_from pool all after (drop (n + 1) ins))
      ∙ ap (λ (xs : List ℕ). front ++ xs) (sym bytes_here) ∙ so_far

  -- there is room for what is in front and for the instruction
  pub bytes_room : (total : List ℕ) → length total < 2 ^ 16
      → front ++ bytes_from pool all (length front) (drop n ins) ≡ total
      → (length front < 2 ^ 16) × (length these < 2 ^ 16)
  bytes_room total short so_far =
      let rest = bytes_from pool all after (drop (n + 1) ins) in
      let e : length total ≡ length front + (length these + length rest) =
      sym (ap length so_far) ∙ length-append front (bytes_from pool all (length front) (drop n ins))
      ∙ ap (λ (xs : List ℕ). length front + length xs) bytes_here
      ∙ ap (λ k. length front + k) (length-append these rest) in
      (omega (arith, e, short), omega (arith, e, short))

  -- the place of the instruction is how many bytes are in front
  places_here : drop n all ≡ places_from pool (length front) (drop n ins)
      → drop n all ≡ length front ∷ places_from pool after (drop (n + 1) ins)
  places_here so_far = so_far ∙ ap (places_from pool (length front)) (next_is pool ins n d lt)

  pub place_is : drop n all ≡ places_from pool (length front) (drop n ins) → slice_index all n ≡ length front
  place_is so_far = (tail_is n all (length front) (places_from pool after (drop (n + 1) ins)) (places_here so_far)).1

  pub place_next : (new : List ℕ) → new ≡ front ++ these → drop n all ≡ places_from pool (length front) (drop n ins)
      → drop (n + 1) all ≡ places_from pool (length new) (drop (n + 1) ins)
  place_next new is so_far =
      ap (λ k. drop k all) (let e : n + 1 ≡ suc n = omega arith in e)
      ∙ (tail_is n all (length front) (places_from pool after (drop (n + 1) ins)) (places_here so_far)).0
      ∙ ap (λ k. places_from pool k (drop (n + 1) ins)) (sym (behind_is new is))

-- all of them
pub bytes_done : (pool : List PoolConstant) (all : List ℕ) (ins : List Ins) (n : ℕ) (front total : List ℕ)
    → length ins ≤ n → front ++ bytes_from pool all (length front) (drop n ins) ≡ total → front ≡ total
bytes_done pool all ins n front total le so_far =
    sym (append-nil front) ∙ sym (ap (λ (is : List Ins). front ++ bytes_from pool all (length front) is)
    (drop_all n ins le)) ∙ so_far

-- what is kept from instruction to instruction: the bytes so far, the place of the next, and that its branches fit
abbrev pub Goes : List PoolConstant → List ℕ → List Ins → ℕ → List ℕ → List ℕ → Type 0
Goes pool all ins n front total =
    (front ++ bytes_from pool all (length front) (drop n ins) ≡ total)
    × (drop n all ≡ places_from pool (length front) (drop n ins))
    × (branches_fit all n (drop n ins) ≡ Ok tt)

-- with one more
pub goes_on : (pool : List PoolConstant) (all : List ℕ) (ins : List Ins) (n : ℕ) (front new total : List ℕ) (d i : Ins)
    (at : ℕ) → n < length ins → i ≡ get_or ins n d → at ≡ length front
    → new ≡ front ++ info_bytes (op_info pool (slice_index all) at i.op) → Goes pool all ins n front total
    → Goes pool all ins (n + 1) new total
goes_on pool all ins n front new total d i at lt same here is so_far =
    let e : new ≡ front ++ info_bytes (op_info pool (slice_index all) (length front) (get_or ins n d).op) =
    subst (λ k. new ≡ front ++ info_bytes (op_info pool (slice_index all) k (get_or ins n d).op)) here
    (subst (λ (j : Ins). new ≡ front ++ info_bytes (op_info pool (slice_index all) at j.op)) same is) in (
      bytes_next pool all ins n d front lt new total e so_far.0,
      place_next pool all ins n d front lt new e so_far.1,
      (branch_fits_here all ins n d lt so_far.2).1,
    )

-- the branch is near
pub goes_near : (pool : List PoolConstant) (all : List ℕ) (ins : List Ins) (n : ℕ) (front total : List ℕ) (d i : Ins)
    (at : ℕ) → n < length ins → i ≡ get_or ins n d → at ≡ length front
    → Goes pool all ins n front total → IsNear (distance [] (slice_index all) at) (branch_to i.op)
goes_near pool all ins n front total d i at lt same here so_far =
    let near : IsNear (distance [] (slice_index all) (length front)) (branch_to (get_or ins n d).op) =
    is_near all n (length front) (branch_to (get_or ins n d).op) (place_is pool all ins n d front lt so_far.1)
    (branch_fits_here all ins n d lt so_far.2).0 in
    subst (λ (j : Ins). IsNear (distance [] (slice_index all) at) (branch_to j.op)) (sym same)
    (subst (λ k. IsNear (distance [] (slice_index all) k) (branch_to (get_or ins n d).op)) (sym here) near)

-- there is room
pub goes_short : (pool : List PoolConstant) (all : List ℕ) (ins : List Ins) (n : ℕ) (front total : List ℕ) (d i : Ins)
    (at : ℕ) → n < length ins → i ≡ get_or ins n d → at ≡ length front
    → length total < 2 ^ 16 → Goes pool all ins n front total
    → (at < 2 ^ 16) × (length (info_bytes (op_info pool (slice_index all) at i.op)) < 2 ^ 16)
goes_short pool all ins n front total d i at lt same here short so_far =
    let room = bytes_room pool all ins n d front lt total short so_far.0 in (
      subst (λ k. k < 2 ^ 16) (sym here) room.0,
      subst (λ (j : Ins). length (info_bytes (op_info pool (slice_index all) at j.op)) < 2 ^ 16) (sym same)
          (subst (λ k. length (info_bytes (op_info pool (slice_index all) k (get_or ins n d).op)) < 2 ^ 16)
          (sym here) room.1),
    )
