-- A set of files has no more items than bytes, and its classes keep the order of the paths.
use Rattle.std.proofs.Common.{◌≡◌, ℕ, suc, ◌+◌, ◌<◌, ◌≤◌, Bool, List, [], ◌∷◌, ◌++◌, length, map, get_or, Option, is_lt}
use Rattle.std.proofs.Common.{nat_cmp}
use Rattle.std.proofs.Common.{refl, sym, ap, subst, ◌∙◌, arith}
use Rattle.std.specs.Cmp.Lexicographic.{slice_cmp}
use Rattle.std.specs.Int.{w16, to_be_bytes}
use Rattle.std.specs.List.{AllZip, flat_map, sum_by}
use Rattle.std.specs.List.Sorted.{IsStrictlySortedBy}
use Rattle.std.proofs.lemmas.List.{get_or-map, length-append, length-map}
use Rattle.std.proofs.lemmas.List.Sums.{sum_by-cons}
use Rattle.std.proofs.lemmas.Map.Keys.{Less-from_sorted}
use Rattle.tree_io.specs.Below.{IsAscending}
use Rattle.tree_io.specs.declared.file_at.FileAt.{FileAt}
use Rattle.class_model.specs.declared.class.Class.{Class}
use Rattle.class_model.specs.declared.class.LeftKind.{LeftKind}
use Rattle.class_model.specs.declared.class.Method.{Method}
use Rattle.class_model.specs.declared.pool.Entry.{Entry}
use Rattle.class_model.specs.ClassFile.{AreMethods, ClassFile, File, class_file}
use Rattle.class_model.specs.ConstantPool.{cp_info}
use Rattle.class_model.specs.Flags.{is_interface}
use Rattle.class_model.specs.Members.{IsField}
use Rattle.class_model.specs.Structure.{MemberInfo, attribute_info, member_info}
use Rattle.class_pool.specs.Count.{item_count, items_of}
use Rattle.class_pool.specs.Faults.{Ascends, classes_of}
use Rattle.class_pool.specs.declared.fault.NamedClass.{NamedClass}
use Rattle.set_read.specs.Accepted.{AreRead}

-- ---- items

-- elements that have each a byte
one_each : {X : Type 0} (f : X → List ℕ) → ((x : X) → 1 ≤ length (f x)) → (xs : List X)
    → length xs ≤ length (flat_map f xs)
one_each f each [] = omega arith
one_each f each (x ∷ xs) = omega (arith, each x, one_each f each xs, length-append (f x) (flat_map f xs))

-- the head of a class file has bytes, and so has each of its members
item_bytes : (raw : ClassFile) → 1 + (length raw.fields + length raw.methods) ≤ length (class_file raw)
item_bytes raw =
    let attributes : List ℕ = to_be_bytes w16 (length raw.attributes) ++ flat_map attribute_info raw.attributes in
    let methods : List ℕ = flat_map member_info raw.methods ++ attributes in
    let fields : List ℕ = flat_map member_info raw.fields ++ (to_be_bytes w16 (length raw.methods) ++ methods) in
    let interfaces : List ℕ = flat_map (to_be_bytes w16) raw.interfaces ++
    (to_be_bytes w16 (length raw.fields) ++ fields) in
    let counted : List ℕ = to_be_bytes w16 (length raw.interfaces) ++ interfaces in
    let named : List ℕ = to_be_bytes w16 raw.this_class ++ (to_be_bytes w16 raw.super_class ++ counted) in
    let one : (m : MemberInfo) → 1 ≤ length (member_info m) = λ m. omega arith in
    let of_methods = one_each member_info one raw.methods in
    let of_fields = one_each member_info one raw.fields in
    omega (
      arith,
      of_methods,
      of_fields,
      length-append (flat_map member_info raw.methods) attributes,
      length-append (flat_map member_info raw.fields) (to_be_bytes w16 (length raw.methods) ++ methods),
      length-append (flat_map (to_be_bytes w16) raw.interfaces) (to_be_bytes w16 (length raw.fields) ++ fields),
      length-append (flat_map cp_info raw.constant_pool) (to_be_bytes w16 raw.access_flags ++ named),
    )

-- lists that agree place by place have one length
pub as_long : {X Y : Type 0} (R : X → Y → Type 0) (xs : List X) (ys : List Y) → AllZip R xs ys → length xs ≡ length ys
as_long R [] [] h = refl
as_long R (x ∷ xs) (y ∷ ys) h = ap suc (as_long R xs ys h.1)
as_long R [] (y ∷ ys) h = absurd h
as_long R (x ∷ xs) [] h = absurd h

-- there are as many methods as structures, and as many kinds
pub as_many : (pool : List Entry) (in_interface : Bool) (class : List ℕ) (raws : List MemberInfo)
    (methods : List Method)
    (kinds : List (Option LeftKind)) → AreMethods pool in_interface class raws methods kinds
    → (length raws ≡ length methods) × (length raws ≡ length kinds)
as_many pool in_interface class [] [] [] h = (refl, refl)
as_many pool in_interface class (r ∷ rs) (m ∷ ms) (k ∷ ks) h =
    let others = as_many pool in_interface class rs ms ks h.1 in
    (ap suc others.0, ap suc others.1)
as_many pool in_interface class [] [] (k ∷ ks) h = absurd h
as_many pool in_interface class [] (m ∷ ms) kinds h = absurd h
as_many pool in_interface class (r ∷ rs) [] kinds h = absurd h
as_many pool in_interface class (r ∷ rs) (m ∷ ms) [] h = absurd h

-- a class has with its members no more items than bytes spell it
pub spelled_items : (bytes : List ℕ) (c : Class) → File bytes c → items_of c ≤ length bytes
spelled_items bytes c h =
    let raw = h.0 in
    let class = h.3 in
    let fields = as_long (IsField h.2 (is_interface raw.access_flags)) raw.fields c.fields class.fields in
    let methods = as_many h.2
    (is_interface raw.access_flags) c.name raw.methods c.methods class.left_out_kinds class.methods in
    let whole : length bytes ≡ length (class_file raw) = ap length h.1 in
    omega (arith, fields, methods.0, whole, item_bytes raw)

read_items : (files : List FileAt) (named : List NamedClass) → AreRead files named
    → item_count (classes_of named) ≤ sum_by (λ (f : FileAt). length f.bytes) files
read_items [] [] h = omega arith
read_items (f ∷ files) (n ∷ named) h =
    let bytes : FileAt → ℕ = λ g. length g.bytes in
    let classes = classes_of named in
    let items : item_count (n.class ∷ classes)
    ≡ items_of n.class + item_count classes = sum_by-cons items_of n.class classes in
    let all : sum_by bytes (f ∷ files) ≡ length f.bytes + sum_by bytes files = sum_by-cons bytes f files in
    let one : items_of n.class ≤ length f.bytes = spelled_items f.bytes n.class h.0.1 in
    let others : item_count classes ≤ sum_by bytes files = read_items files named h.1 in
    omega (arith, items, all, one, others)
read_items [] (n ∷ named) h = absurd h
read_items (f ∷ files) [] h = absurd h

-- the classes of files that have together few bytes have few items
pub few_items : (files : List FileAt) (named : List NamedClass) (limit : ℕ) → AreRead files named
    → sum_by (λ (f : FileAt). length f.bytes) files < limit → item_count (classes_of named) < limit
few_items files named limit read few = omega (arith, few, read_items files named read)

-- ---- paths

same_paths : (files : List FileAt) (named : List NamedClass) → AreRead files named
    → map (λ (f : FileAt). f.path) files ≡ map (λ (n : NamedClass). n.path) named
same_paths [] [] h = refl
same_paths (f ∷ files) (n ∷ named) h = λ i. sym h.0.0 i ∷ same_paths files named h.1 i
same_paths [] (n ∷ named) h = absurd h
same_paths (f ∷ files) [] h = absurd h

-- the paths of the classes of files ascend as those of the files
pub ascending_kept : (files : List FileAt) (named : List NamedClass) → AreRead files named
    → IsAscending (map (λ (f : FileAt). f.path) files) → Ascends named
ascending_kept files named read ascending i j d low high =
    let path : NamedClass → List ℕ = λ n. n.path in
    let sorted : IsStrictlySortedBy (slice_cmp nat_cmp) (map path named) = subst IsAscending
    (same_paths files named read) ascending in
    let within : j < length (map path named) = omega (arith, high, length-map named path) in
    let first : get_or (map path named) i d.path
    ≡ (get_or named i d).path = get_or-map path named i d d.path (omega (arith, low, high)) in
    let second : get_or (map path named) j d.path ≡ (get_or named j d).path = get_or-map path named j d d.path high in
    let less = Less-from_sorted (slice_cmp nat_cmp) (map path named) i j d.path sorted low within in
    ap is_lt ((λ k. slice_cmp nat_cmp (sym first k) (sym second k)) ∙ less)
