-- The methods that the library calls, gone over one by one.
use Rattle.std.proofs.Common.{◌≡◌, ℕ, ◌+◌, ◌≤◌, Bool, true, false, not, cond, List, [], ◌∷◌, ◌++◌, length, refl, sym}
use Rattle.std.proofs.Common.{ap, ◌∙◌, ◌<◌, arith, nat_lt}
use Rattle.std.specs.List.{cons_option, filter, filter_map, flat_map}
use Rattle.std.proofs.lemmas.Bool.{ltb-true}
use Rattle.std.proofs.lemmas.List.{length-map}
use Rattle.class_model.specs.Flags.{is_interface}
use Rattle.class_model.specs.declared.class.Class.{Class}
use Rattle.lib_table.specs.Library.{library}
use Rattle.lib_table.specs.Lookups.{class_at}
use Rattle.class_pool.specs.Found.{IsMember, is_instance_method, library_row, rows_in}
use Rattle.class_pool.specs.Walk.{supers}
use Rattle.class_pool.specs.declared.id.ClassId.{ClassId}
use Rattle.class_pool.specs.declared.id.ClassId.TheVariants.{Prog, Lib}
use Rattle.require_sys.specs.Requires.{Item, called_wants, instance_methods, is_program, library_supers, members_of}
use Rattle.item_numbers.specs.bodies.Selecting.{called_by, called_in, called_item}
use Rattle.item_numbers.specs.bodies.Tops.{IsTop}
use Rattle.item_numbers.specs.bodies.Wanting.{Wanted, wanting}
use Rattle.item_numbers.proofs.Gathering.{in_turn}
use Rattle.item_numbers.proofs.Membering.{all_taken, of_first, one_more}
use Rattle.item_numbers.proofs.SupersLaw.{flat_filtered, flat_of}

-- ---- the classes of the library above a class, one by one

pub called_is : (classes : List Class) (n t : ℕ) (c : Class) → is_interface c.flags.0 ≡ false → IsTop classes n t
    → flat_map (called_by classes t) (supers classes (Prog t)) ≡ called_wants classes n c
called_is classes n t c class top =
    turned (supers classes (Prog t))
    ∙ flat_filtered (called_in classes t) (λ y. not (is_program y)) (supers classes (Prog t))
    ∙ flat_of (called_item classes t) (is_instance_method classes) (members_of classes)
    (library_supers classes (Prog t))
    ∙ sym top.called
    ∙ sym (ap (λ (b : Bool). cond b [] (filter_map (called_item classes n)
    (instance_methods classes (library_supers classes (Prog n))))) class)
  where
    one : (b : Bool) (ys : List Item) → ◌≡◌ {A = List Item} (cond b [] ys) (cond (not b) ys [])
    one true ys = refl
    one false ys = refl

    turned : (xs : List ClassId)
        → flat_map (called_by classes t) xs ≡ flat_map (λ y. cond (not (is_program y)) (called_in classes t y) []) xs
    turned [] = refl
    turned (x ∷ xs) = λ i. one (is_program x) (called_in classes t x) i ++ turned xs i

-- the classes of the program count for nothing
pub by_library : (classes : List Class) (n : ℕ) (xs : List ClassId)
    → flat_map (called_by classes n) (filter (λ y. not (is_program y)) xs) ≡ flat_map (called_by classes n) xs
by_library classes n [] = refl
by_library classes n (Prog k ∷ xs) = by_library classes n xs
by_library classes n (Lib id ∷ xs) = ap (λ (t : List Item). called_in classes n (Lib id) ++ t) (by_library classes n xs)

pub interface_called : (classes : List Class) (n : ℕ) (c : Class) → is_interface c.flags.0 ≡ true
    → [] ≡ called_wants classes n c
interface_called classes n c is =
    sym (ap (λ (b : Bool). cond b [] (filter_map (called_item classes n)
    (instance_methods classes (library_supers classes (Prog n))))) is)

-- ---- the methods of a class of the library, one by one

rows_lib : (classes : List Class) (id : ℕ) → length (rows_in classes (Lib id)) ≡ length (class_at id).members
rows_lib classes id = length-map (class_at id).members (library_row (class_at id).kind)

pub member_lib : (classes : List Class) (id at : ℕ) → id < length library → nat_lt at (length
    (class_at id).members) ≡ true
    → IsMember classes (record { class = Lib id; index = at })
member_lib classes id at there lt = (
  there,
  let rows = rows_lib classes id in let low = ltb-true at (length (class_at id).members) lt in omega (arith, rows, low),
)

pub called_more : (id n at : ℕ) (w v u : Wanted) → nat_lt at (length (class_at id).members) ≡ true
    → v ≡ wanting w (of_first w.classes (Lib id) (is_instance_method w.classes) (called_item w.classes n) at)
    → u ≡ wanting v (cond (is_instance_method v.classes (record { class = Lib id; index = at }))
    (cons_option (called_item v.classes n (record { class = Lib id; index = at })) []) [])
    → u ≡ wanting w (of_first w.classes (Lib id) (is_instance_method w.classes) (called_item w.classes n) (at + 1))
called_more id n at w v u lt so_far one =
    let rows = rows_lib w.classes id in
    let low = ltb-true at (length (class_at id).members) lt in
    in_turn w v u (of_first w.classes (Lib id) (is_instance_method w.classes) (called_item w.classes n) at)
    (λ cs. cond (is_instance_method cs (record { class = Lib id; index = at }))
    (cons_option (called_item cs n (record { class = Lib id; index = at })) []) []) so_far one
    ∙ ap (wanting w) (sym (one_more w.classes (Lib id) (is_instance_method w.classes) (called_item w.classes n) at
    (omega (arith, rows, low))))

pub called_all : (id n at : ℕ) (w v : Wanted) → length (class_at id).members ≤ at
    → v ≡ wanting w (of_first w.classes (Lib id) (is_instance_method w.classes) (called_item w.classes n) at)
    → v ≡ wanting w (called_in w.classes n (Lib id))
called_all id n at w v le so_far =
    let rows = rows_lib w.classes id in
    so_far ∙ ap (wanting w) (all_taken w.classes (Lib id) (is_instance_method w.classes) (called_item w.classes n) at
    (omega (arith, rows, le)))
