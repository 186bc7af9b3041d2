-- Another value of a field.
use Rattle.std.proofs.Common.{◌≡◌, ℕ, zero, suc, arith, ◌+◌, ◌<◌, Bool, true, false, List, [], ◌∷◌, ◌++◌}
use Rattle.std.proofs.Common.{length, take, drop, get_or, refl, sym, ap, ◌∙◌, append_assoc, add-one, Some, None}
use Rattle.std.specs.Prelude.{slice_set, if◌then◌else◌}
use Rattle.std.proofs.lemmas.List.{drop_more, set_split, take_more}
use Rattle.jvm_model.specs.Value.{Key, Value, same_key, set_key}
use Rattle.jvm_model.specs.Fields.{blank}
use Rattle.jvm_model.proofs.Keys.{key_Decides}
use Rattle.run_heap.specs.Held.{found_in, held, replaced}
use Rattle.run_heap.specs.declared.fields.Held.{Held}

-- a key that is the first of two, by its tests
hit : (b : Bool) (v x y : Value) → (if b then v else x) ≡ (if b then v else (if b then y else x))
hit true v x y = refl
hit false v x y = refl

missed : (a b : Bool) (v x y : Value) → (a ≡ true → b ≡ true → ⊥)
    → (if a then y else (if b then v else x)) ≡ (if b then v else (if a then y else x))
missed true true v x y both = absurd (both refl refl)
missed true false v x y both = refl
missed false true v x y both = refl
missed false false v x y both = refl

at_front : (hs : List Held) (h : Held) (key k : Key) (v : Value) (b : Bool) → same_key key h.key ≡ b
    → held (replaced key v hs) k ≡ set_key (held hs) key v k
    → held (if b then record h { value = v } ∷ hs else h ∷ replaced key v hs) k
    ≡ set_key (held (h ∷ hs)) key v k
at_front hs h key k v true e more =
    let same : key ≡ h.key = (key_Decides key h.key).0 e in
    hit (same_key k h.key) v (held hs k) h.value
    ∙ ap (λ (c : Key). if same_key k c then v else (if same_key k h.key then h.value else held hs k)) (sym same)
at_front hs h key k v false e more =
    ap (λ (x : Value). if same_key k h.key then h.value else x) more
    ∙ missed (same_key k h.key) (same_key k key) v (held hs k) h.value
    (λ p q. let one : key ≡ h.key = sym ((key_Decides k key).0 q) ∙ (key_Decides k h.key).0 p in
    let t : same_key key h.key ≡ true = (key_Decides key h.key).1 one in
    let f : true ≡ false = sym t ∙ e in cc)

held_replaced : (hs : List Held) (key k : Key) (v : Value) → held (replaced key v hs) k ≡ set_key (held hs) key v k
held_replaced [] key k v = refl
held_replaced (h ∷ hs) key k v = at_front hs h key k v (same_key key h.key) refl (held_replaced hs key k v)

-- the fields as a function, with another value of one
pub replaced_is_set : (hs : List Held) (key : Key) (v : Value) → held (replaced key v hs) ≡ set_key (held hs) key v
replaced_is_set hs key v = λ i k. held_replaced hs key k v i

opened : (hs : List Held) (n : ℕ) (h : Held) → n < length hs → h ≡ get_or hs n h → drop n hs ≡ h ∷ drop (n + 1) hs
opened hs n h lt e = drop_more hs n h lt ∙ ap (λ (x : Held). x ∷ drop (n + 1) hs) (sym e)

-- one more field is another one
pub passed : (hs : List Held) (key : Key) (n : ℕ) (h : Held) (v : Value) → n < length hs → h ≡ get_or hs n h
    → same_key key h.key ≡ false
    → take n hs ++ replaced key v (drop n hs) ≡ take (n + 1) hs ++ replaced key v (drop (n + 1) hs)
passed hs key n h v lt e other =
    ap (λ (s : List Held). take n hs ++ replaced key v s) (opened hs n h lt e)
    ∙ ap (λ (b : Bool). take n hs
    ++ (if b then record h { value = v } ∷ drop (n + 1) hs else h ∷ replaced key v (drop (n + 1) hs))) other
    ∙ sym (append_assoc (take n hs) (h ∷ []) (replaced key v (drop (n + 1) hs)))
    ∙ ap (λ (s : List Held). s ++ replaced key v (drop (n + 1) hs))
    (ap (λ (x : Held). take n hs ++ x ∷ []) e ∙ sym (take_more hs n h lt))

-- this is the field
pub reached : (hs : List Held) (key : Key) (n : ℕ) (h : Held) (v : Value) → n < length hs → h ≡ get_or hs n h
    → same_key key h.key ≡ true
    → take n hs ++ replaced key v (drop n hs) ≡ slice_set hs n (record h { value = v })
reached hs key n h v lt e same =
    ap (λ (s : List Held). take n hs ++ replaced key v s) (opened hs n h lt e)
    ∙ ap (λ (b : Bool). take n hs
    ++ (if b then record h { value = v } ∷ drop (n + 1) hs else h ∷ replaced key v (drop (n + 1) hs))) same
    ∙ ap (λ (k : ℕ). take n hs ++ record h { value = v } ∷ drop k hs) (add-one n)
    ∙ sym (set_split hs n (record h { value = v }) lt)

-- a field that was set has its value
pub found_held : (hs : List Held) (key : Key) (v : Value) → found_in key hs ≡ Some v → held hs key ≡ v
found_held [] key v e = absurd cc
found_held (h ∷ hs) key v e = by (same_key key h.key) e (found_held hs key v)
  where
    by : (b : Bool) → (if b then Some h.value else found_in key hs) ≡ Some v
        → (found_in key hs ≡ Some v → held hs key ≡ v)
        → (if b then h.value else held hs key) ≡ v
    by true f more = cc
    by false f more = more f

-- any other field has its default value
pub missing_held : (hs : List Held) (key : Key) → found_in key hs ≡ None → held hs key ≡ blank key
missing_held [] key e = refl
missing_held (h ∷ hs) key e = by (same_key key h.key) e (missing_held hs key)
  where
    by : (b : Bool) → (if b then Some h.value else found_in key hs) ≡ None
        → (found_in key hs ≡ None → held hs key ≡ blank key)
        → (if b then h.value else held hs key) ≡ blank key
    by true f more = absurd cc
    by false f more = more f

-- an item of a list has one value
pub one_item : (hs : List Held) (n : ℕ) (g h : Held) → n < length hs → g ≡ get_or hs n g → h ≡ get_or hs n h → g ≡ h
one_item [] n g h lt e f = grind arith
one_item (x ∷ hs) zero g h lt e f = e ∙ sym f
one_item (x ∷ hs) (suc n) g h lt e f = one_item hs n g h (omega (arith, lt)) e f
