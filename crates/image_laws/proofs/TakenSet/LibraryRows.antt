-- What is computed of the library's table.
use Rattle.std.proofs.Common.{◌≡◌, ⊎_elim, ◌<◌, ◌≤◌, ℕ, nat_eq, ◌&&◌, ◌||◌, Bool, true, false, not}
use Rattle.std.proofs.Common.{[]}
use Rattle.std.proofs.Common.{length, Option, Some, None, refl, sym, ap, ◌∙◌, codes}
use Rattle.std.specs.List.{filter_map, list_all, starts_with}
use Rattle.std.specs.Option.{option_and_then, option_map_or}
use Rattle.std.proofs.lemmas.Bool.{and_parts, cases_lt, eqb-true, not-true}
use Rattle.std.proofs.lemmas.List.{get_or_past}
use Rattle.lib_table.specs.Library.{LibraryClass, LibraryMember, class, library}
use Rattle.lib_table.specs.Lookups as table
use Rattle.lib_table.specs.declared.class.LibKind.TheVariants.{Open}
use Rattle.class_pool.specs.Hierarchy.{is_interface_kind}
use Rattle.class_pool.specs.bodies.Graph.{library_ids}
use Rattle.class_pool.proofs.ObjectLaws.{at_row, when}

-- past the last class there is an open one without members and supertypes
pub past_last : (id : ℕ) → length library ≤ id → table.class_at id ≡ class [] Open None [] []
past_last id high = get_or_past library id (class [] Open None [] []) high

-- ---- kinds

rows_super : list_all (λ id. option_map_or (λ s. not (is_interface_kind (table.class_at s).kind)) (table.super_of id)
    true) library_ids ≡ true
unfolding library
rows_super = refl

-- no superclass is an interface
pub super_kind : (id s : ℕ) → table.super_of id ≡ Some s → is_interface_kind (table.class_at s).kind ≡ false
super_kind id s is = ⊎_elim low high (cases_lt id (length library))
  where
    low : id < length library → is_interface_kind (table.class_at s).kind ≡ false
    low within = not-true (is_interface_kind (table.class_at s).kind)
        (sym (ap (λ o. option_map_or (λ s. not (is_interface_kind (table.class_at s).kind)) o true) is)
        ∙ at_row (λ id. option_map_or (λ s. not (is_interface_kind (table.class_at s).kind)) (table.super_of id) true)
        id rows_super within)

    high : length library ≤ id → is_interface_kind (table.class_at s).kind ≡ false
    high over = absurd
        (let none : table.super_of id ≡ None = ap (λ (c : LibraryClass). option_and_then table.class_named c.super_name)
        (past_last id over) in
        let q : Some s ≡ None = sym is ∙ none in
        cc)

rows_interfaces : list_all (λ id. list_all (λ i. is_interface_kind (table.class_at i).kind) (table.interfaces_of id))
    library_ids ≡ true
unfolding library
rows_interfaces = refl

-- direct superinterfaces are interfaces
pub interface_kinds : (id : ℕ)
    → list_all (λ i. is_interface_kind (table.class_at i).kind) (table.interfaces_of id) ≡ true
interface_kinds id = ⊎_elim low high (cases_lt id (length library))
  where
    low : id < length library → list_all (λ i. is_interface_kind (table.class_at i).kind) (table.interfaces_of id)
        ≡ true
    low within = at_row (λ id. list_all (λ i. is_interface_kind (table.class_at i).kind) (table.interfaces_of id)) id
        rows_interfaces within

    high : length library ≤ id
        → list_all (λ i. is_interface_kind (table.class_at i).kind) (table.interfaces_of id) ≡ true
    high over = ap (λ (c : LibraryClass). list_all (λ i. is_interface_kind (table.class_at i).kind)
        (filter_map table.class_named c.interfaces)) (past_last id over)

-- a field of an interface is static
abbrev is_method_or_static : LibraryMember → Bool
is_method_or_static m = m.is_method || m.is_static

rows_members : list_all (λ id. not (is_interface_kind (table.class_at id).kind)
    || list_all is_method_or_static (table.class_at id).members) library_ids ≡ true
unfolding library
rows_members = refl

pub interface_members : (id : ℕ) → is_interface_kind (table.class_at id).kind ≡ true
    → list_all is_method_or_static (table.class_at id).members ≡ true
interface_members id is = ⊎_elim low high (cases_lt id (length library))
  where
    low : id < length library → list_all is_method_or_static (table.class_at id).members ≡ true
    low within =
        when (is_interface_kind (table.class_at id).kind) (list_all is_method_or_static (table.class_at id).members) is
        (at_row (λ id. not (is_interface_kind (table.class_at id).kind)
        || list_all is_method_or_static (table.class_at id).members) id rows_members within)

    high : length library ≤ id → list_all is_method_or_static (table.class_at id).members ≡ true
    high over = ap (λ (c : LibraryClass). list_all is_method_or_static c.members) (past_last id over)

-- ---- names

rows_names : list_all (λ id. starts_with nat_eq (table.class_at id).name (codes "java/")
    && option_map_or (λ k. nat_eq k id) (table.class_named (table.class_at id).name) false) library_ids ≡ true
unfolding library
rows_names = refl

-- a class is found by its name, which is one of the library's packages
pub library_name : (id : ℕ) → id < length library
    → (starts_with nat_eq (table.class_at id).name (codes "java/") ≡ true)
    × (table.class_named (table.class_at id).name ≡ Some id)
library_name id within =
    let parts = and_parts (starts_with nat_eq (table.class_at id).name (codes "java/"))
    (option_map_or (λ k. nat_eq k id) (table.class_named (table.class_at id).name) false)
    (at_row (λ id. starts_with nat_eq (table.class_at id).name (codes "java/")
    && option_map_or (λ k. nat_eq k id) (table.class_named (table.class_at id).name) false) id rows_names within) in
    (parts.0, by (table.class_named (table.class_at id).name) parts.1)
  where
    by : (o : Option ℕ) → option_map_or (λ k. nat_eq k id) o false ≡ true → o ≡ Some id
    by None h = absurd cc
    by (Some k) h = ap Some (eqb-true k id h)
