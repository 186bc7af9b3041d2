-- A field of an object of the heap gets a value.
use Rattle.std.proofs.Common.{◌≡◌, ℕ, zero, suc, true, false, List, [], ◌∷◌, map, Some, None, refl, sym, ap, ◌∙◌}
use Rattle.std.specs.Option.{option_map}
use Rattle.std.specs.Prelude.{slice_get, slice_set}
use Rattle.std.proofs.lemmas.Option.{slice_get-map}
use Rattle.jvm_model.specs.Answers.{Answer, Gives, NoAnswer, of_some}
use Rattle.jvm_model.specs.Arrays.{on_array}
use Rattle.jvm_model.specs.Fields.{put_field, put_into, stored_in}
use Rattle.jvm_model.specs.Heap.{Array, Builder, Instance, Object as Thing, Str, World as Whole}
use Rattle.jvm_model.specs.Value.{Key, Ref, Value}
use Rattle.run_heap.specs.bodies.Puts.{is_instance, with_field}
use Rattle.run_heap.specs.Worlds.{object_of}
use Rattle.run_heap.specs.declared.world.Object.{Object}

-- another object in place of one
pub map_set : (hs : List Object) (n : ℕ) (o : Object)
    → map object_of (slice_set hs n o) ≡ slice_set (map object_of hs) n (object_of o)
map_set [] n o = refl
map_set (h ∷ hs) zero o = refl
map_set (h ∷ hs) (suc n) o = ap (λ (ts : List Thing). object_of h ∷ ts) (map_set hs n o)

-- the same object in its place
pub set_same : (ts : List Thing) (n : ℕ) (t : Thing) → slice_get ts n ≡ Some t → slice_set ts n t ≡ ts
set_same [] n t e = refl
set_same (h ∷ ts) zero t e = let f : t ≡ h = cc in ap (λ (x : Thing). x ∷ ts) f
set_same (h ∷ ts) (suc n) t e = ap (λ (xs : List Thing). h ∷ xs) (set_same ts n t e)

pub found : (hs : List Object) (n : ℕ) (o : Object) → slice_get hs n ≡ Some o
    → slice_get (map object_of hs) n ≡ Some (object_of o)
found hs n o e = rw (slice_get-map object_of hs n, e) refl

of_instance : (w : Whole) (n : ℕ) (v : Value) (key : Key) (t : Thing) → is_instance t ≡ true
    → put_into w n v key t ≡ Gives None (record w { heap = slice_set w.heap n (with_field t key (stored_in key v)) })
of_instance w n v key (Instance class fields message cause) e = refl
of_instance w n v key (Array component values) e = let f : false ≡ true = e in absurd cc
of_instance w n v key (Str units) e = let f : false ≡ true = e in absurd cc
of_instance w n v key (Builder units) e = let f : false ≡ true = e in absurd cc

of_other : (w : Whole) (n : ℕ) (v : Value) (key : Key) (t : Thing) → is_instance t ≡ false
    → put_into w n v key t ≡ NoAnswer
of_other w n v key (Instance class fields message cause) e = let f : true ≡ false = e in absurd cc
of_other w n v key (Array component values) e = refl
of_other w n v key (Str units) e = refl
of_other w n v key (Builder units) e = refl

as_it_was : (t : Thing) (key : Key) (v : Value) → is_instance t ≡ false → with_field t key v ≡ t
as_it_was (Instance class fields message cause) key v e = let f : true ≡ false = e in absurd cc
as_it_was (Array component values) key v e = refl
as_it_was (Str units) key v e = refl
as_it_was (Builder units) key v e = refl

-- of an instance
pub field_set : (w : Whole) (n : ℕ) (hs : List Object) (o after : Object) (v kept : Value) (key : Key)
    → w.heap ≡ map object_of hs → slice_get hs n ≡ Some o → is_instance (object_of o) ≡ true
    → kept ≡ stored_in key v → object_of after ≡ with_field (object_of o) key kept
    → Gives None (record w { heap = map object_of (slice_set hs n after) }) ≡ put_field w (Ref n) v key
field_set w n hs o after v kept key is at one k e =
    ap (λ (ts : List Thing). Gives None (record w { heap = ts }))
    (map_set hs n after ∙ ap (λ (t : Thing). slice_set (map object_of hs) n t)
    (e ∙ ap (λ (x : Value). with_field (object_of o) key x) k)
    ∙ ap (λ (ts : List Thing). slice_set ts n (with_field (object_of o) key (stored_in key v))) (sym is))
    ∙ sym (of_instance w n v key (object_of o) one)
    ∙ ap (of_some (put_into w n v key)) (sym (ap (λ (ts : List Thing). slice_get ts n) is ∙ found hs n o at))

-- of any other object
pub field_not_set : (w : Whole) (n : ℕ) (hs : List Object) (o : Object) (v : Value) (key : Key)
    → w.heap ≡ map object_of hs → slice_get hs n ≡ Some o → is_instance (object_of o) ≡ false
    → NoAnswer ≡ put_field w (Ref n) v key
field_not_set w n hs o v key is at one = sym (of_other w n v key (object_of o) one)
    ∙ ap (of_some (put_into w n v key)) (sym (ap (λ (ts : List Thing). slice_get ts n) is ∙ found hs n o at))

-- then the heap is as it was
pub heap_same : (n : ℕ) (hs : List Object) (o after : Object) (kept : Value) (key : Key) → slice_get hs n ≡ Some o
    → is_instance (object_of o) ≡ false → object_of after ≡ with_field (object_of o) key kept
    → map object_of (slice_set hs n after) ≡ map object_of hs
heap_same n hs o after kept key at one e = map_set hs n after
    ∙ set_same (map object_of hs) n (object_of after)
    (found hs n o at ∙ ap Some (sym (e ∙ as_it_was (object_of o) key kept one)))

-- an array of the heap
pub array_found : (w : Whole) (hs : List Object) (n : ℕ) (o : Object) (f : ℕ → Thing → Answer)
    → w.heap ≡ map object_of hs → slice_get hs n ≡ Some o → f n (object_of o) ≡ on_array w (Ref n) f
array_found w hs n o f is at =
    ap (of_some (f n)) (sym (ap (λ (ts : List Thing). slice_get ts n) is ∙ found hs n o at))

-- no object of the heap
pub none_found : (w : Whole) (hs : List Object) (n : ℕ) (f : ℕ → Thing → Answer) → w.heap ≡ map object_of hs
    → slice_get hs n ≡ None → NoAnswer ≡ on_array w (Ref n) f
none_found w hs n f is at = ap (of_some (f n))
    (sym (ap (λ (ts : List Thing). slice_get ts n) is ∙ slice_get-map object_of hs n ∙ ap (option_map object_of) at))
