-- The classes of numbers.
use Rattle.std.proofs.Common.{◌≡◌, ℕ, ◌-◌, ◌<◌, ◌≤◌, Bool, cond, List, length, slice_get, Some, sym, ap, ◌∙◌, arith}
use Rattle.std.proofs.lemmas.Bool.{le-ltb, lt-ltb}
use Rattle.std.proofs.lemmas.Option.{get_or_from_slice_get}
use Rattle.lib_table.specs.Library.{library}
use Rattle.class_pool.specs.declared.id.ClassId.TheVariants.{Prog, Lib}
use Rattle.class_pool.specs.bodies.Graph.{id_at, library_ids}
use Rattle.class_pool.proofs.Graphing.{library_at, library_length}

pub low_at : (ids : List ℕ) (k x : ℕ) → ids ≡ library_ids → slice_get ids k ≡ Some x → k < length ids → Lib x ≡ id_at k
low_at ids k x is read within =
    let long = library_length ids is in
    ap Lib (library_at ids k x is within (sym (get_or_from_slice_get ids k x x read)))
    ∙ sym (ap (λ (t : Bool). cond t (Lib k) (Prog (k - length library)))
    (lt-ltb k (length library) (omega (arith, within, long))))

pub high_at : (ids : List ℕ) (k m : ℕ) → ids ≡ library_ids → m ≡ length ids → m ≤ k → Prog (k - m) ≡ id_at k
high_at ids k m is same over =
    let long = library_length ids is in
    let whole : m ≡ length library = same ∙ long in
    ap (λ (x : ℕ). Prog (k - x)) whole
    ∙ sym (ap (λ (t : Bool). cond t (Lib k) (Prog (k - length library)))
    (le-ltb k (length library) (omega (arith, over, whole))))
