-- Arrays that are made fit (JVMS 6.5.newarray, 6.5.anewarray, 6.5.multianewarray).
use Rattle.std.proofs.Common.{ℕ, ℤ, pos, negsuc, zero, suc, ◌+◌, ◌*◌, ◌++◌, ◌<◌, ◌≤◌, List, [], ◌∷◌, Some}
use Rattle.std.proofs.Common.{Bool, true, false, ◌≡◌, ◌⊎◌, inl, inr, ⊎_elim, refl, sym, ap, ◌∙◌, subst, arith}
use Rattle.std.proofs.Common.{slice_get}
use Rattle.std.proofs.Common.{length}
use Rattle.std.specs.Prelude.{◌-◌, ◌==◌, cond, int_lt, map, replicate}
use Rattle.std.specs.Int.RustNames.{unsigned_abs}
use Rattle.std.specs.List.{AllByRecursion, list_any, range_with_len}
use Rattle.std.proofs.lemmas.Bool.{eqb-true}
use Rattle.std.proofs.lemmas.List.{length-map}
use Rattle.std.proofs.lemmas.List.FromFn.{length-range_with_len}
use Rattle.std.proofs.lemmas.Nat.{mul-add-lt}
use Rattle.jv_base.proofs.Lists.{got_in_front, got_mapped, got_right, mapped_from}
use Rattle.jv_base.specs.declared.types.FieldType.{FieldType}
use Rattle.class_model.specs.Frames.{base_vtype, vtype_of}
use Rattle.class_model.specs.declared.class.Class.{Class}
use Rattle.class_model.specs.declared.frame.VType.{VType}
use Rattle.class_model.specs.declared.frame.VType.TheVariants as vtype
use Rattle.jvm_model.specs.Answers.{Gives, Raises}
use Rattle.jvm_model.specs.Arrays.{arrays_from, blank_array, new_array, new_arrays, references_from}
use Rattle.jvm_model.specs.Exceptions.{NegativeSize}
use Rattle.jvm_model.specs.Heap.{Array, Object, World, newest, type_of}
use Rattle.jvm_model.specs.Types.{array_of, component_of, default_of, field_type, kind_of}
use Rattle.jvm_model.specs.Value.{Ref, Value}
use Rattle.type_verifier.specs.Environment.{Environment}
use Rattle.fit_laws.specs.Answered.{FitsAnswer, FitsResult}
use Rattle.fit_laws.specs.Growth.{Grows}
use Rattle.fit_laws.specs.Held.{is_held, is_there}
use Rattle.fit_laws.specs.Sound.{IsSound}
use Rattle.fit_laws.specs.Values.{FitsKnown, FitsReference, FitsType, FitsWithin, FitsWorld, is_whole}
use Rattle.fit_laws.proofs.Going.{hierarchy}
use Rattle.fit_laws.proofs.Heaps.{blank_type, grown_key, grown_within, grows_new, known_value, newest_at, world_new}
use Rattle.fit_laws.proofs.Lists.{some_same}

-- ---- lists

got_replicated : {A : Type 0} (n k : ℕ) (y x : A) → slice_get (replicate n y) k ≡ Some x → y ≡ x
got_replicated zero k y x e = absurd cc
got_replicated (suc n) zero y x e = some_same y x e
got_replicated (suc n) (suc k) y x e = got_replicated n k y x e

replicated_at : {A : Type 0} (n k : ℕ) (y : A) → k < n → slice_get (replicate n y) k ≡ Some y
replicated_at zero k y low = absurd (omega (arith, low))
replicated_at (suc n) zero y low = refl
replicated_at (suc n) (suc k) y low = replicated_at n k y (omega (arith, low))

all_replicated : {A : Type 0} (P : A → Type 0) (n : ℕ) (y : A) → P y → AllByRecursion P (replicate n y)
all_replicated P zero y p = tt
all_replicated P (suc n) y p = (p, all_replicated P n y p)

pub range_at : (s n k : ℕ) → k < n → slice_get (range_with_len s n) k ≡ Some (s + k)
range_at s zero k low = absurd (omega (arith, low))
range_at s (suc n) zero low = let e : s ≡ s + 0 = omega arith in ap (λ (m : ℕ). Some m) e
range_at s (suc n) (suc k) low =
    let e : s + 1 + k ≡ s + suc k = omega arith in
    range_at (s + 1) n k (omega (arith, low)) ∙ ap (λ (m : ℕ). Some m) e

got_range : (s n k m : ℕ) → slice_get (range_with_len s n) k ≡ Some m → (k < n) × (m ≡ s + k)
got_range s zero k m e = absurd cc
got_range s (suc n) zero m e = (omega arith, sym (some_same s m e) ∙ (let q : s ≡ s + 0 = omega arith in q))
got_range s (suc n) (suc k) m e =
    let r = got_range (s + 1) n k m e in
    let low = r.0 in
    let is = r.1 in
    (omega (arith, low), omega (arith, is))

all_ranged : (P : ℕ → Type 0) (s n : ℕ) → ((k : ℕ) → k < n → P (s + k)) → AllByRecursion P (range_with_len s n)
all_ranged P s zero f = tt
all_ranged P s (suc n) f = (
  subst P (let e : s + 0 ≡ s = omega arith in e) (f 0 (omega arith)),
  all_ranged P (s + 1) n (λ k low.
      subst P (let e : s + suc k ≡ s + 1 + k = omega arith in e) (f (suc k) (omega (arith, low)))),
)

all_mapped : {A B : Type 0} (P : B → Type 0) (f : A → B) (xs : List A) → AllByRecursion (λ x. P (f x)) xs
    → AllByRecursion P (map f xs)
all_mapped P f [] h = tt
all_mapped P f (x ∷ xs) h = (h.0, all_mapped P f xs h.1)

-- what stands in a list with others behind it stood there before, or is one of those
got_either : {A : Type 0} (xs ys : List A) (k : ℕ) (x : A) → slice_get (xs ++ ys) k ≡ Some x
    → (slice_get xs k ≡ Some x) ⊎ ((j : ℕ) × (k ≡ length xs + j) × (slice_get ys j ≡ Some x))
got_either [] ys k x e = inr (k, omega arith, e)
got_either (z ∷ xs) ys zero x e = inl e
got_either (z ∷ xs) ys (suc k) x e = ⊎_elim (λ p. inl p)
    (λ p. inr (p.0, (let q = p.1 in omega (arith, q)), p.2)) (got_either xs ys k x e)

-- a place in one of several rows
place_below : (i j n count : ℕ) → i < count → j < n → i * n + j < count * n
place_below i j n count low within = let p = mul-add-lt i n j count low within in omega (arith, p)

-- ---- heaps with more objects

grows_more : (h os : List Object) → Grows h (h ++ os)
grows_more h os n o e = (o, got_in_front h os n o e, record { type = refl; whole = refl })

-- a heap has these objects from a number on
abbrev Holds : List Object → ℕ → List Object → Type 0
Holds N first os = (k : ℕ) (o : Object) → slice_get os k ≡ Some o → slice_get N (first + k) ≡ Some o

holds_left : (N : List Object) (first : ℕ) (os ps : List Object) → Holds N first (os ++ ps) → Holds N first os
holds_left N first os ps h k o e = h k o (got_in_front os ps k o e)

holds_right : (N : List Object) (first count : ℕ) (os ps : List Object) → length os ≡ count
    → Holds N first (os ++ ps) → Holds N (first + count) ps
holds_right N first count os ps long h k o e =
    let same : first + count + k ≡ first + (length os + k) = omega (arith, long) in
    ap (slice_get N) same ∙ h (length os + k) o (got_right os ps k ∙ e)

-- an array type is that of arrays of its components
array_again : (ty : FieldType) → 0 < ty.dims → array_of (component_of ty) ≡ ty
array_again ty some =
    let e : ty.dims - 1 + 1 ≡ ty.dims = omega (arith, some) in λ i. record { dims = e i; base = ty.base }

of_dims : (ty : FieldType) → 0 < ty.dims → vtype_of ty ≡ vtype.Object ty
of_dims ty some = by (ty.dims == 0) refl where
  by : (t : Bool) → (ty.dims == 0) ≡ t → cond t (base_vtype ty ty.base) (vtype.Object ty) ≡ vtype.Object ty
  by true e = absurd (let none = eqb-true ty.dims 0 e in omega (arith, some, none))
  by false e = refl

-- ---- arrays of several dimensions

-- the objects of one dimension, when more follow
abbrev row_of : ℕ → ℕ → FieldType → ℕ → List Object
row_of first count ty n =
    map (λ i. Array (component_of ty) (references_from (first + count + i * n) n)) (range_with_len 0 count)

module _ (classes : List Class) (itself : (ty : FieldType) → is_there classes ty ≡ true → is_held classes ty ty ≡ true)
    (N : List Object) where
  -- the number is one of an object of the type
  pub record IsAt (ty : FieldType) (n : ℕ) : Type 0 where
    pub object : Object
    pub there : slice_get N n ≡ Some object
    pub type : type_of object ≡ ty
    pub whole : is_whole object ≡ true

  rows_long : (first count : ℕ) (ty : FieldType) (n : ℕ) → length (row_of first count ty n) ≡ count
  rows_long first count ty n =
      length-map (range_with_len 0 count) (λ i. Array (component_of ty) (references_from (first + count + i * n) n))
      ∙ length-range_with_len 0 count

  -- the first of them are of the type
  first_at : (first count : ℕ) (ty : FieldType) (n : ℕ) (ns : List ℕ) → 0 < ty.dims
      → Holds N first (arrays_from first count ty (n ∷ ns)) → (i : ℕ) → i < count → IsAt ty (first + i)
  first_at first count ty n [] some h i low = record {
    object = blank_array (component_of ty) n;
    there = h i (blank_array (component_of ty) n) (replicated_at count i (blank_array (component_of ty) n) low);
    type = array_again ty some;
    whole = refl;
  }
  first_at first count ty n (m ∷ ns) some h i low = record {
    object = Array (component_of ty) (references_from (first + count + (0 + i) * n) n);
    there = h i _ (got_in_front (row_of first count ty n) _ i _
        (got_mapped (λ j. Array (component_of ty) (references_from (first + count + j * n) n))
        (range_with_len 0 count) i
        (0 + i) (range_at 0 count i low)));
    type = array_again ty some;
    whole = refl;
  }

  reference_at : (ty : FieldType) → is_there classes ty ≡ true → (n : ℕ) → IsAt ty n
      → FitsReference classes N ty (Ref n)
  reference_at ty there n a = (
    a.object,
    a.there,
    record {
      whole = a.whole;
      there = subst (λ (t : FieldType). is_there classes t ≡ true) (sym a.type) there;
      held = subst (λ (t : FieldType). is_held classes t ty ≡ true) (sym a.type) (itself ty there);
    },
  )

  -- each of them holds what fits
  within : (first count : ℕ) (ty : FieldType) (n : ℕ) (ns : List ℕ) → is_there classes ty ≡ true
      → length ns + 1 ≤ ty.dims → Holds N first (arrays_from first count ty (n ∷ ns)) → (k : ℕ) (o : Object)
      → slice_get (arrays_from first count ty (n ∷ ns)) k ≡ Some o → FitsWithin classes N o
  within first count ty n [] there deep h k o e =
      subst (λ (p : Object). FitsWithin classes N p)
      (got_replicated count k (blank_array (component_of ty) n) o e)
      (all_replicated (FitsType classes N (component_of ty)) n (default_of (kind_of (component_of ty)))
      (blank_type classes N (component_of ty)))
  within first count ty n (m ∷ ns) there deep h k o e = ⊎_elim own
      (λ p. within (first + count) (count * n) (component_of ty) m ns there (omega (arith, deep)) lower p.0 o p.2)
      (got_either (row_of first count ty n) (arrays_from (first + count) (count * n) (component_of ty) (m ∷ ns)) k o e)
    where
      lower : Holds N (first + count) (arrays_from (first + count) (count * n) (component_of ty) (m ∷ ns))
      lower = holds_right N first count (row_of first count ty n)
          (arrays_from (first + count) (count * n) (component_of ty) (m ∷ ns)) (rows_long first count ty n) h

      some : 0 < (component_of ty).dims
      some = omega (arith, deep)

      each : (i : ℕ) → i < count → (j : ℕ) → j < n
          → FitsType classes N (component_of ty) (Ref (first + count + i * n + j))
      each i low j under = subst (λ (t : VType). FitsKnown classes N t (Ref (first + count + i * n + j)))
          (sym (of_dims (component_of ty) some))
          (subst (λ (p : ℕ). FitsReference classes N (component_of ty) (Ref p)) (same i j)
          (reference_at (component_of ty) there (first + count + (i * n + j))
          (first_at (first + count) (count * n) (component_of ty) m ns some lower (i * n + j)
          (place_below i j n count low under))))
        where
          same : (i j : ℕ) → first + count + (i * n + j) ≡ first + count + i * n + j
          same i j = omega arith

      own : slice_get (row_of first count ty n) k ≡ Some o → FitsWithin classes N o
      own e =
          let p = mapped_from (λ i. Array (component_of ty) (references_from (first + count + i * n) n))
          (range_with_len 0 count) k o e in
          let q = got_range 0 count k p.0 p.1 in
          subst (λ (z : Object). FitsWithin classes N z) (sym p.2)
          (all_mapped (FitsType classes N (component_of ty)) Ref (range_with_len (first + count + p.0 * n) n)
          (all_ranged (λ (z : ℕ). FitsType classes N (component_of ty) (Ref z)) (first + count + p.0 * n) n
          (λ j under. each p.0 (let low = q.0 in let is = q.1 in omega (arith, low, is)) j under)))

-- ---- what is answered

module _ (classes : List Class) (sound : IsSound classes) (w : World) (x : FitsWorld classes w) (env : Environment)
    (same : env.classes ≡ classes) where
  result_known : (h : List Object) (t : VType) (v : Value) → FitsKnown classes h t v
      → FitsResult env h (Some t) (Some v)
  result_known h t v y = known_value env h t v (subst (λ (c : List Class). FitsKnown c h t v) (sym same) y)

  -- one array
  pub one_fits : (c : FieldType) → is_there classes c ≡ true → (z : ℤ)
      → FitsAnswer classes env w (Some (vtype.Object (array_of c))) (new_array w c z)
  one_fits c there (pos n) = (
    grows_new w.heap o,
    world_new classes w o x (all_replicated (FitsType classes (w.heap ++ o ∷ []) c) n (default_of (kind_of c))
        (blank_type classes (w.heap ++ o ∷ []) c)),
    result_known (w.heap ++ o ∷ []) (vtype.Object (array_of c)) (newest w) (
      o,
      newest_at w.heap o,
      record { whole = refl; there = there; held = (hierarchy classes sound).itself (array_of c) there },
    ),
  )
    where
      o : Object
      o = blank_array c n
  one_fits c there (negsuc n) = tt

  -- a world with more objects
  world_more : (os : List Object)
      → ((k : ℕ) (o : Object) → slice_get os k ≡ Some o → FitsWithin classes (w.heap ++ os) o)
      → FitsWorld classes (record w { heap = w.heap ++ os })
  world_more os f = record {
    objects = λ n o e. ⊎_elim
        (λ q. grown_within classes w.heap (w.heap ++ os) (grows_more w.heap os) o (x.objects n o q))
        (λ q. f q.0 o q.2)
        (got_either w.heap os n o e);
    statics = λ k. grown_key classes w.heap (w.heap ++ os) (grows_more w.heap os) (field_type k.descriptor)
        (w.statics k) (x.statics k);
  }

  made : (ty : FieldType) → is_there classes ty ≡ true → (n : ℕ) (ns : List ℕ) → length ns + 1 ≤ ty.dims
      → FitsAnswer classes env w (Some (vtype.Object ty)) (Gives (Some (newest w))
      (record w { heap = w.heap ++ arrays_from (length w.heap) 1 ty (n ∷ ns) }))
  made ty there n ns deep = (
    grows_more w.heap os,
    world_more os (within classes (hierarchy classes sound).itself (w.heap ++ os) (length w.heap) 1 ty n ns there deep
        holds),
    result_known (w.heap ++ os) (vtype.Object ty) (newest w)
        (subst (λ (m : ℕ). FitsReference classes (w.heap ++ os) ty (Ref m)) plain
        (reference_at classes (hierarchy classes sound).itself (w.heap ++ os) ty there (length w.heap + 0)
        (first_at classes (hierarchy classes sound).itself (w.heap ++ os) (length w.heap) 1 ty n ns
        (omega (arith, deep)) holds 0 (omega arith)))),
  )
    where
      os : List Object
      os = arrays_from (length w.heap) 1 ty (n ∷ ns)

      holds : Holds (w.heap ++ os) (length w.heap) os
      holds k o e = got_right w.heap os k ∙ e

      plain : length w.heap + 0 ≡ length w.heap
      plain = omega arith

  -- arrays of several dimensions
  pub many_fit : (ty : FieldType) → is_there classes ty ≡ true → (zs : List ℤ) → 0 < length zs
      → length zs ≤ ty.dims → FitsAnswer classes env w (Some (vtype.Object ty)) (new_arrays w ty zs)
  many_fit ty there [] some deep = absurd (omega (arith, some))
  many_fit ty there (z ∷ zs) some deep = by (list_any (λ y. int_lt y (pos 0)) (z ∷ zs)) where
    long : length (map unsigned_abs zs) ≡ length zs
    long = length-map zs unsigned_abs

    deep_too : length (map unsigned_abs zs) + 1 ≤ ty.dims
    deep_too = omega (arith, long, deep)

    by : (t : Bool) → FitsAnswer classes env w (Some (vtype.Object ty)) (cond t (Raises NegativeSize)
        (Gives (Some (newest w)) (record w {
          heap = w.heap
              ++ arrays_from (length w.heap) 1 ty (unsigned_abs z ∷ map unsigned_abs zs);
        })))
    by true = tt
    by false = made ty there (unsigned_abs z) (map unsigned_abs zs) deep_too
