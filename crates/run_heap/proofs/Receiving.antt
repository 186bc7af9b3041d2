-- The receiver of a call, by what it refers to.
use Rattle.std.proofs.Common.{◌≡◌, ◌∙◌, ℕ, true, false, List, ◌∷◌, map, Option, Some, None, ap, refl}
use Rattle.std.specs.Option.{option_and_then, option_map}
use Rattle.std.specs.Prelude.{slice_get}
use Rattle.std.proofs.lemmas.Option.{slice_get-map}
use Rattle.jvm_model.specs.Answers.{NoAnswer, Raises, of_some}
use Rattle.jvm_model.specs.Calls.{called, on_receiver}
use Rattle.jvm_model.specs.Exceptions.{NullPointer}
use Rattle.jvm_model.specs.Heap.{Object as Thing, Str, World as Whole}
use Rattle.jvm_model.specs.Program.{Target}
use Rattle.jvm_model.specs.Value.{Int, Lit, Long, Null, Ref, Value, is_reference}
use Rattle.run_heap.specs.bodies.Pointing.{is_other}
use Rattle.run_heap.specs.Worlds.{object_of}
use Rattle.run_heap.specs.declared.world.Object.{Object}

-- null
pub null_receiver : (w : Whole) (v : Value) (vs : List Value) (f : Thing → Option Target) → v ≡ Null
    → on_receiver w (v ∷ vs) f ≡ Raises NullPointer
null_receiver w v vs f e = rw e refl

-- an object of the heap
pub object_receiver : (w : Whole) (hs : List Object) (n : ℕ) (o : Object) (v : Value) (vs : List Value)
    (f : Thing → Option Target) → w.heap ≡ map object_of hs → slice_get hs n ≡ Some o → v ≡ Ref n
    → on_receiver w (v ∷ vs) f ≡ of_some (called w (v ∷ vs)) (f (object_of o))
object_receiver w hs n o v vs f is at e =
    rw e (ap (λ (t : Option Thing). of_some (called w (Ref n ∷ vs)) (option_and_then f t))
    (ap (λ (ts : List Thing). slice_get ts n) is ∙ slice_get-map object_of hs n ∙ ap (option_map object_of) at))

-- no object
pub no_object : (w : Whole) (hs : List Object) (n : ℕ) (v : Value) (vs : List Value) (f : Thing → Option Target)
    → w.heap ≡ map object_of hs → slice_get hs n ≡ None → v ≡ Ref n → on_receiver w (v ∷ vs) f ≡ NoAnswer
no_object w hs n v vs f is at e = rw e (ap (λ (t : Option Thing). of_some (called w (Ref n ∷ vs)) (option_and_then f t))
    (ap (λ (ts : List Thing). slice_get ts n) is ∙ slice_get-map object_of hs n ∙ ap (option_map object_of) at))

-- the string of a literal
pub text_receiver : (v : Value) → is_other v ≡ true → is_reference v ≡ true → (units : List ℕ) × (v ≡ Lit units)
text_receiver (Int z) e f = let g : false ≡ true = f in absurd cc
text_receiver (Long z) e f = let g : false ≡ true = f in absurd cc
text_receiver Null e f = let g : false ≡ true = e in absurd cc
text_receiver (Ref n) e f = let g : false ≡ true = e in absurd cc
text_receiver (Lit units) e f = (units, refl)

pub on_text : (w : Whole) (units : List ℕ) (v : Value) (vs : List Value) (f : Thing → Option Target) → v ≡ Lit units
    → on_receiver w (v ∷ vs) f ≡ of_some (called w (v ∷ vs)) (f (Str units))
on_text w units v vs f e = rw e refl

-- a number
pub no_receiver : (w : Whole) (v : Value) (vs : List Value) (f : Thing → Option Target) → is_other v ≡ true
    → is_reference v ≡ false → on_receiver w (v ∷ vs) f ≡ NoAnswer
no_receiver w (Int z) vs f e g = refl
no_receiver w (Long z) vs f e g = refl
no_receiver w Null vs f e g = let h : true ≡ false = g in absurd cc
no_receiver w (Ref n) vs f e g = let h : true ≡ false = g in absurd cc
no_receiver w (Lit units) vs f e g = let h : true ≡ false = g in absurd cc
