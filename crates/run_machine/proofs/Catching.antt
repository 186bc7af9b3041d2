-- The handler that catches an object.
use Rattle.std.proofs.Common.{◌≡◌, ◌∙◌, ℕ, List, None, Option, Some, ap, get_or, length, refl, sym}
use Rattle.std.specs.Option.{option_map}
use Rattle.std.specs.Borrow.{Bor}
use Rattle.std.specs.Prelude.{IfSome, is_some, nat_lt, option_copied, slice_get}
use Rattle.std.proofs.lemmas.Bool.{ltb-false, ltb-true}
use Rattle.std.proofs.lemmas.Option.{slice_get-map, slice_get_past, slice_get_read}
use Rattle.class_model.specs.declared.code.Code.{Code}
use Rattle.jvm_model.specs.Heap.{Init, Object as Thing}
use Rattle.jvm_model.specs.Local.{handler_for}
use Rattle.jvm_model.specs.Program.{Shape}
use Rattle.jvm_model.specs.State.{Frame, Wait}
use Rattle.jvm_model.specs.Unwinding.{enter, is_of_class, unwind_frame}
use Rattle.run_heap.specs.Worlds.{object_of, world_of}
use Rattle.run_heap.specs.declared.world.Object.{Object}
use Rattle.run_heap.specs.declared.world.World.{World}

-- what a frame does by it
pub unwound : (p : Shape) (inits : List ℕ → Init) (w : World) (n : ℕ) (f : Frame) (ws : List Wait) (code : Code)
    (codes : Option Code) (o : Option Object) (entry : Option ℕ) → Some code ≡ codes
    → o ≡ slice_get w.heap.items n → entry ≡ handler_for (is_of_class p (option_map object_of o)) f.body.at
    code.handlers
    → enter (world_of inits w) n f ws entry ≡ unwind_frame p (world_of inits w) n f ws codes
unwound p inits w n f ws code codes o entry e i h =
    ap (enter (world_of inits w) n f ws) (h
    ∙ ap (λ (x : Option Thing). handler_for (is_of_class p x) f.body.at code.handlers)
    (ap (option_map object_of) i ∙ sym (slice_get-map object_of w.heap.items n)))
    ∙ ap (unwind_frame p (world_of inits w) n f ws) e

-- what a list has at an index, as it is lent
pub looked_up : (o : Option (Bor Object)) (xs : List Object) (n : ℕ) → is_some o ≡ nat_lt n (length xs)
    → IfSome o (λ x. x.now ≡ get_or xs n x.now) → option_copied o ≡ slice_get xs n
looked_up None xs n e f = sym (slice_get_past xs n (ltb-false n (length xs) (sym e)))
looked_up (Some x) xs n e f = sym (slice_get_read xs (length xs) n x.now refl (ltb-true n (length xs) (sym e)) f)
