-- Arrays of several dimensions, level by level.
use Rattle.std.proofs.Common.{◌≡◌, ◌∙◌, ◌+◌, ◌*◌, ◌++◌, ℕ, true, false, List, [], ◌∷◌, append_assoc, ap, length, map}
use Rattle.std.proofs.Common.{arith, replicate, sym, ◌<◌, suc, zero, ℤ, pos, drop, get_or}
use Rattle.std.proofs.lemmas.List.{append-nil, drop_more, length-append, length-map, map-append}
use Rattle.std.proofs.lemmas.List.FromFn.{length-map-range_with_len, map-range_with_len_more}
use Rattle.std.specs.Int.RustNames.{unsigned_abs}
use Rattle.std.specs.Prelude.{nat_lt}
use Rattle.std.specs.List.{range_with_len}
use Rattle.jv_base.specs.declared.types.FieldType.{FieldType}
use Rattle.jvm_model.specs.Arrays.{arrays_from, blank_array, references_from}
use Rattle.jvm_model.specs.Heap.{Array, Object}
use Rattle.jvm_model.specs.Types.{component_of}
use Rattle.run_heap.specs.bodies.Levels.{are_more}

-- the last one
pub last_level : (old new : List Object) (n first count others size : ℕ) (ty other : FieldType) (ns : List ℕ)
    → are_more ns ≡ false → new ≡ old ++ replicate count (blank_array (component_of ty) size)
    → new ++ arrays_from n others other ns ≡ old ++ arrays_from first count ty (size ∷ ns)
last_level old new n first count others size ty other [] e h = append-nil new ∙ h
last_level old new n first count others size ty other (m ∷ ns) e h = let f : true ≡ false = e in absurd cc

-- any other one
pub next_level : (old new : List Object) (n first count next size : ℕ) (ty component : FieldType) (ns : List ℕ)
    → are_more ns ≡ true → n ≡ first + count → next ≡ count * size → component ≡ component_of ty
    → new ≡ old ++ map (λ i. Array component (references_from (first + count + i * size) size)) (range_with_len 0 count)
    → new ++ arrays_from n next component ns ≡ old ++ arrays_from first count ty (size ∷ ns)
next_level old new n first count next size ty component [] e long times is h = let f : false ≡ true = e in absurd cc
next_level old new n first count next size ty component (m ∷ ns) e long times is h =
    rw (h, long, times, is) (append_assoc old _ _)

-- where the components of the next array begin
pub next_first : (a n s f m : ℕ) → f ≡ a + n * s → m ≡ f + s → m ≡ a + (n + 1) * s
next_first a n s f m e h = grind arith

-- so many objects were appended
pub appended_long : {A B : Type 0} (g : A → B) (f : ℕ → B) (old new : List A) (n : ℕ)
    → map g new ≡ map g old ++ map f (range_with_len 0 n) → length new ≡ length old + n
appended_long g f old new n e = sym (length-map new g)
    ∙ ap length e ∙ length-append (map g old) (map f (range_with_len 0 n))
    ∙ ap (λ (k : ℕ). k + length (map f (range_with_len 0 n))) (length-map old g)
    ∙ ap (λ (k : ℕ). length old + k) (length-map-range_with_len f 0 n)

-- one more array
pub one_array : {A B : Type 0} (g : A → B) (f : ℕ → B) (old now new : List A) (x : A) (n : ℕ) → new ≡ now ++ x ∷ []
    → map g now ≡ map g old ++ map f (range_with_len 0 n) → g x ≡ f n
    → map g new ≡ map g old ++ map f (range_with_len 0 (n + 1))
one_array {A} {B} g f old now new x n e h i = ap (map g) e ∙ map-append g now (x ∷ [])
    ∙ ap (λ (l : List B). l ++ g x ∷ []) h ∙ append_assoc (map g old) (map f (range_with_len 0 n)) (g x ∷ [])
    ∙ ap (λ (l : List B). map g old ++ l) (ap (λ (b : B). map f (range_with_len 0 n) ++ b ∷ []) i
    ∙ sym (map-range_with_len_more f 0 n n (omega arith)))

-- whether there are further sizes
pub are_more_is : (zs : List ℤ) (k : ℕ) → are_more (map unsigned_abs (drop k zs)) ≡ nat_lt k (length zs)
are_more_is [] zero = grind arith
are_more_is [] (suc k) = grind arith
are_more_is (z ∷ zs) zero = grind arith
are_more_is (z ∷ zs) (suc k) = are_more_is zs k ∙ grind arith

-- the sizes from one on
pub abs_opened : (zs : List ℤ) (i n : ℕ) → i < length zs → n ≡ unsigned_abs (get_or zs i (pos 0))
    → n ∷ map unsigned_abs (drop (i + 1) zs) ≡ map unsigned_abs (drop i zs)
abs_opened zs i n lt e = sym (ap (map unsigned_abs) (drop_more zs i (pos 0) lt)
    ∙ ap (λ (k : ℕ). k ∷ map unsigned_abs (drop (i + 1) zs)) (sym e))
