-- A method of the library changes an object.
use Rattle.std.proofs.Common.{◌≡◌, ◌∙◌, ◌++◌, ℕ, true, false, List, [], ◌∷◌, map, Option, Some, None, ap, refl, sym}
use Rattle.std.specs.Option.{option_and_then, option_map}
use Rattle.std.specs.Prelude.{slice_get, slice_set}
use Rattle.std.proofs.lemmas.Option.{slice_get-map}
use Rattle.jvm_model.specs.Answers.{Answer, Gives, NoAnswer, of_some}
use Rattle.jvm_model.specs.Calls.{acted, all_seen, seen_object, set_builder, set_thrown}
use Rattle.jvm_model.specs.Heap.{Array, Builder, Instance, Object as Thing, Str, World as Whole, with_object}
use Rattle.jvm_model.specs.Library.{ALong, ANull, AString, Act, AnInt, NoAct, Seen}
use Rattle.jvm_model.specs.Stack.{◌>>=◌}
use Rattle.jvm_model.specs.Value.{Int, Lit, Long, Null, Ref, Value}
use Rattle.run_heap.specs.bodies.Acting.{append_to, first_number, is_builder, with_more, with_thrown, with_units}
use Rattle.run_heap.specs.bodies.Puts.{is_instance}
use Rattle.run_heap.specs.Worlds.{object_of}
use Rattle.run_heap.specs.declared.world.Object.{Object}
use Rattle.run_heap.proofs.Putting.{found, map_set, set_same}
use Rattle.run_library.specs.Acts.{appended}

-- an object became another one, and that is what is due
pub changed : (w : Whole) (n : ℕ) (hs : List Object) (o after : Object) (due : Thing → Answer) (r : Option Value)
    → w.heap ≡ map object_of hs → slice_get hs n ≡ Some o
    → due (object_of o) ≡ Gives r (with_object w n (object_of after))
    → Gives r (record w { heap = map object_of (slice_set hs n after) }) ≡ of_some due (slice_get w.heap n)
changed w n hs o after due r is at e =
    ap (λ (ts : List Thing). Gives r (record w { heap = ts })) (map_set hs n after
    ∙ ap (λ (ts : List Thing). slice_set ts n (object_of after)) (sym is))
    ∙ sym e
    ∙ ap (of_some due) (sym (ap (λ (ts : List Thing). slice_get ts n) is ∙ found hs n o at))

-- nothing is answered of this object
pub unanswered : (w : Whole) (n : ℕ) (hs : List Object) (o : Object) (due : Thing → Answer)
    → w.heap ≡ map object_of hs → slice_get hs n ≡ Some o → due (object_of o) ≡ NoAnswer
    → NoAnswer ≡ of_some due (slice_get w.heap n)
unanswered w n hs o due is at e =
    sym e ∙ ap (of_some due) (sym (ap (λ (ts : List Thing). slice_get ts n) is ∙ found hs n o at))

-- there is no object
pub nothing_there : (w : Whole) (n : ℕ) (hs : List Object) (due : Thing → Answer) → w.heap ≡ map object_of hs
    → slice_get hs n ≡ None → NoAnswer ≡ of_some due (slice_get w.heap n)
nothing_there w n hs due is at = ap (of_some due)
    (sym (ap (λ (ts : List Thing). slice_get ts n) is ∙ slice_get-map object_of hs n ∙ ap (option_map object_of) at))

-- an object that is as it was
pub as_before : (n : ℕ) (hs : List Object) (o after : Object) → slice_get hs n ≡ Some o → object_of after ≡ object_of o
    → map object_of (slice_set hs n after) ≡ map object_of hs
as_before n hs o after at e = map_set hs n after
    ∙ set_same (map object_of hs) n (object_of after) (found hs n o at ∙ ap Some (sym e))

-- ---- the objects

pub units_set : (w : Whole) (n : ℕ) (us : List ℕ) (r : Option Value) (t : Thing) → is_builder t ≡ true
    → set_builder w n us r t ≡ Gives r (with_object w n (with_units t us))
units_set w n us r (Instance class fields message cause) e = let f : false ≡ true = e in absurd cc
units_set w n us r (Array component values) e = let f : false ≡ true = e in absurd cc
units_set w n us r (Str units) e = let f : false ≡ true = e in absurd cc
units_set w n us r (Builder units) e = refl

pub units_not_set : (w : Whole) (n : ℕ) (us : List ℕ) (r : Option Value) (t : Thing) → is_builder t ≡ false
    → set_builder w n us r t ≡ NoAnswer
units_not_set w n us r (Instance class fields message cause) e = refl
units_not_set w n us r (Array component values) e = refl
units_not_set w n us r (Str units) e = refl
units_not_set w n us r (Builder units) e = let f : true ≡ false = e in absurd cc

pub units_same : (t : Thing) (us : List ℕ) → is_builder t ≡ false → with_units t us ≡ t
units_same (Instance class fields message cause) us e = refl
units_same (Array component values) us e = refl
units_same (Str units) us e = refl
units_same (Builder units) us e = let f : true ≡ false = e in absurd cc

pub more_same : (t : Thing) (us : List ℕ) → is_builder t ≡ false → with_more t us ≡ t
more_same (Instance class fields message cause) us e = refl
more_same (Array component values) us e = refl
more_same (Str units) us e = refl
more_same (Builder units) us e = let f : true ≡ false = e in absurd cc

pub thrown_set : (w : Whole) (n : ℕ) (m c : Value) (t : Thing) → is_instance t ≡ true
    → set_thrown w n m c t ≡ Gives None (with_object w n (with_thrown t m c))
thrown_set w n m c (Instance class fields message cause) e = refl
thrown_set w n m c (Array component values) e = let f : false ≡ true = e in absurd cc
thrown_set w n m c (Str units) e = let f : false ≡ true = e in absurd cc
thrown_set w n m c (Builder units) e = let f : false ≡ true = e in absurd cc

pub thrown_not_set : (w : Whole) (n : ℕ) (m c : Value) (t : Thing) → is_instance t ≡ false
    → set_thrown w n m c t ≡ NoAnswer
thrown_not_set w n m c (Instance class fields message cause) e = let f : true ≡ false = e in absurd cc
thrown_not_set w n m c (Array component values) e = refl
thrown_not_set w n m c (Str units) e = refl
thrown_not_set w n m c (Builder units) e = refl

pub thrown_same : (t : Thing) (m c : Value) → is_instance t ≡ false → with_thrown t m c ≡ t
thrown_same (Instance class fields message cause) m c e = let f : true ≡ false = e in absurd cc
thrown_same (Array component values) m c e = refl
thrown_same (Str units) m c e = refl
thrown_same (Builder units) m c e = refl

pub more_set : (w : Whole) (n : ℕ) (us : List ℕ) (t : Thing) → is_builder t ≡ true
    → append_to w n us t ≡ Gives (Some (Ref n)) (with_object w n (with_more t us))
more_set w n us (Instance class fields message cause) e = let f : false ≡ true = e in absurd cc
more_set w n us (Array component values) e = let f : false ≡ true = e in absurd cc
more_set w n us (Str units) e = let f : false ≡ true = e in absurd cc
more_set w n us (Builder units) e = refl

pub more_not_set : (w : Whole) (n : ℕ) (us : List ℕ) (t : Thing) → is_builder t ≡ false → append_to w n us t ≡ NoAnswer
more_not_set w n us (Instance class fields message cause) e = refl
more_not_set w n us (Array component values) e = refl
more_not_set w n us (Str units) e = refl
more_not_set w n us (Builder units) e = let f : true ≡ false = e in absurd cc

-- ---- the first operand

-- what is appended to it, where it refers to this object
on_first : (w : Whole) (n : ℕ) (us : List ℕ) (t : Thing) (xs : List Seen) → slice_get w.heap n ≡ Some t
    → append_to w n us t ≡ acted w (appended (seen_object n t ∷ xs) us)
on_first w n us (Instance class fields message cause) xs e = refl
on_first w n us (Array component values) xs e = refl
on_first w n us (Str units) xs e = refl
on_first w n us (Builder units) xs e = sym (ap (of_some (set_builder w n (units ++ us) (Some (Ref n)))) e)

by_rest : (w : Whole) (n : ℕ) (us : List ℕ) (t : Thing) (told : List Seen) (r : Option (List Seen))
    → slice_get w.heap n ≡ Some t → (r >>= (λ xs. Some (seen_object n t ∷ xs))) ≡ Some told
    → append_to w n us t ≡ acted w (appended told us)
by_rest w n us t told None e f = absurd cc
by_rest w n us t told (Some xs) e f = let same : seen_object n t ∷ xs ≡ told = cc in
    on_first w n us t xs e ∙ ap (λ (ys : List Seen). acted w (appended ys us)) same

by_object : (w : Whole) (n : ℕ) (us : List ℕ) (told : List Seen) (r : Option (List Seen)) (o : Option Thing)
    → slice_get w.heap n ≡ o
    → (option_and_then (λ t. Some (seen_object n t)) o >>= (λ x. r >>= (λ xs. Some (x ∷ xs)))) ≡ Some told
    → of_some (append_to w n us) o ≡ acted w (appended told us)
by_object w n us told r None e f = absurd cc
by_object w n us told r (Some t) e f = by_rest w n us t told r e f

-- what is appended to the first operand, where it refers to an object
pub append_first : (w : Whole) (vs : List Value) (told : List Seen) (n : ℕ) (us : List ℕ) → all_seen w vs ≡ Some told
    → first_number vs ≡ Some n → of_some (append_to w n us) (slice_get w.heap n) ≡ acted w (appended told us)
append_first w [] told n us e f = absurd cc
append_first w (Int z ∷ vs) told n us e f = absurd cc
append_first w (Long z ∷ vs) told n us e f = absurd cc
append_first w (Null ∷ vs) told n us e f = absurd cc
append_first w (Ref m ∷ vs) told n us e f = let same : m ≡ n = cc in
    ap (λ (k : ℕ). of_some (append_to w k us) (slice_get w.heap k)) (sym same)
    ∙ by_object w m us told (all_seen w vs) (slice_get w.heap m) refl e
append_first w (Lit units ∷ vs) told n us e f = absurd cc

not_first : (w : Whole) (us : List ℕ) (x : Seen) (r : Option (List Seen)) (told : List Seen)
    → ((xs : List Seen) → appended (x ∷ xs) us ≡ NoAct) → (r >>= (λ xs. Some (x ∷ xs))) ≡ Some told
    → NoAnswer ≡ acted w (appended told us)
not_first w us x None told h e = absurd cc
not_first w us x (Some xs) told h e = let same : x ∷ xs ≡ told = cc in
    sym (ap (λ (a : Act). acted w a) (sym (ap (λ (ys : List Seen). appended ys us) same) ∙ h xs))

-- where it refers to none
pub append_nowhere : (w : Whole) (vs : List Value) (told : List Seen) (us : List ℕ) → all_seen w vs ≡ Some told
    → first_number vs ≡ None → NoAnswer ≡ acted w (appended told us)
append_nowhere w [] told us e f = let same : [] ≡ told = cc in ap (λ (ys : List Seen). acted w (appended ys us)) same
append_nowhere w (Int z ∷ vs) told us e f = not_first w us (AnInt z) (all_seen w vs) told (λ xs. refl) e
append_nowhere w (Long z ∷ vs) told us e f = not_first w us (ALong z) (all_seen w vs) told (λ xs. refl) e
append_nowhere w (Null ∷ vs) told us e f = not_first w us ANull (all_seen w vs) told (λ xs. refl) e
append_nowhere w (Ref m ∷ vs) told us e f = absurd cc
append_nowhere w (Lit units ∷ vs) told us e f = not_first w us (AString (Lit units) units) (all_seen w vs) told
    (λ xs. refl) e
