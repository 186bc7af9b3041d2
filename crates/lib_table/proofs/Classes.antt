-- Rows and classes.
use Rattle.std.proofs.Common.{◌≡◌, ℕ, ◌+◌, ◌<◌, ◌&&◌, ◌||◌, Bool, true, false, cond, nat_lt, List, [], ◌∷◌, length, map}
use Rattle.std.proofs.Common.{get_or, slice_get, Option, Some, None, refl, sym, ◌∙◌, ap, subst, ltb→lt, suc, zero, not}
use Rattle.std.proofs.Common.{T, drop, ◌≤◌}
use Rattle.std.specs.List.{list_all, list_any, position, prefix_len, position_or_len, filter, filter_map}
use Rattle.std.specs.List.{enumerate_from}
use Rattle.std.specs.Option.{is_some, option_map, option_and_then}
use Rattle.std.specs.Bool.{beq}
use Rattle.std.proofs.lemmas.Option.{slice_get-map}
use Rattle.std.proofs.lemmas.List.{length-map, drop_more, drop_all}
use Rattle.std.proofs.lemmas.List.Quantifiers.{position-Some}
use Rattle.std.proofs.lemmas.List.Folds.{list_all_at}
use Rattle.lib_table.specs.declared.member.LibMember.{LibMember}
use Rattle.lib_table.specs.declared.table.ClassRow.{ClassRow}
use Rattle.lib_table.specs.declared.table.MemberRow.{MemberRow}
use Rattle.lib_table.specs.Library.{LibraryClass, LibraryMember, class, library}
use Rattle.lib_table.specs.declared.class.LibKind.TheVariants.{Open}
use Rattle.jv_base.specs.Names.{is_text}
use Rattle.lib_table.specs.Lookups.{is_named, methods_told, member_told, class_at, class_named, interfaces_of}
use Rattle.lib_table.specs.bodies.Rows.{told_class, told_member}
use Rattle.lib_table.proofs.Computed.{interfaces_there, few_members}
use Rattle.std.proofs.lemmas.Bool.{and_parts}

pub prefix_map : {X Y : Type 0} (f : X → Y) (p : Y → Bool) (xs : List X)
    → prefix_len p (map f xs) ≡ prefix_len (λ x. p (f x)) xs
prefix_map f p [] = refl
prefix_map f p (x ∷ xs) = ap (λ n. cond (p (f x)) (1 + n) 0) (prefix_map f p xs)

pub position_map : {X Y : Type 0} (f : X → Y) (p : Y → Bool) (xs : List X)
    → position p (map f xs) ≡ position (λ x. p (f x)) xs
position_map f p xs =
    ap (λ n. cond (nat_lt n (length (map f xs))) (Some n) None) (prefix_map f (λ y. not (p y)) xs)
    ∙ ap (λ m. cond (nat_lt (position_or_len (λ x. p (f x)) xs) m) (Some (position_or_len (λ x. p (f x)) xs)) None)
    (length-map xs f)

either : (b : Bool) → (b ≡ false → false ≡ true) → b ≡ true
either true h = refl
either false h = h refl

-- what holds of each class holds of one
pub holds_at : {X : Type 0} (p : X → Bool) (xs : List X) (i : ℕ) (d : X) → list_all p xs ≡ true → i < length xs
    → p (get_or xs i d) ≡ true
holds_at p xs i d all within = either (p (get_or xs i d)) (λ e. sym (list_all_at p xs i d within e) ∙ all)

some_first : {X Y : Type 0} (h : X → Option Y) (xs : List X) (k : ℕ) (o : Option Y) → is_some o ≡ true
    → ((k : ℕ) → slice_get (filter_map h xs) k ≡ option_and_then h (slice_get xs k)) → (x : X) → h x ≡ o
    → slice_get (filter_map h (x ∷ xs)) k ≡ option_and_then h (slice_get (x ∷ xs) k)
some_first h xs zero (Some y) there others x is = rw is refl
some_first h xs (suc k) (Some y) there others x is = rw is (others k)
some_first h xs k None there others x is = absurd cc

-- where each element gives something, the k-th thing is that of the k-th element
pub filter_map_at : {X Y : Type 0} (h : X → Option Y) (xs : List X) → list_all (λ x. is_some (h x)) xs ≡ true → (k : ℕ)
    → slice_get (filter_map h xs) k ≡ option_and_then h (slice_get xs k)
filter_map_at h [] all k = refl
filter_map_at h (x ∷ xs) all k =
    let parts = and_parts (is_some (h x)) (list_all (λ x. is_some (h x)) xs) all in
    some_first h xs k (h x) parts.0 (filter_map_at h xs parts.1) x refl

pub interface_at : (id k : ℕ) → id < length library
    → slice_get (interfaces_of id) k ≡ option_and_then class_named (slice_get (class_at id).interfaces k)
interface_at id k within =
    filter_map_at class_named (class_at id).interfaces
    (holds_at
    (λ c. list_all (λ name. is_some (class_named name)) c.interfaces) library id _ interfaces_there within) k

pub members_few : (id : ℕ) → id < length library → length (class_at id).members < 4294967296
members_few id within =
    ltb→lt _ _ (subst T (sym (holds_at (λ (c : LibraryClass). nat_lt
    (length c.members) 4294967296) library id _ few_members within)) tt)

pub class_found : (rows : List ClassRow) (name : List ℕ) → map told_class rows ≡ library
    → class_named name ≡ position (λ row. is_text row.name.now name) rows
class_found rows name table = ap (position (λ (c : LibraryClass). is_text c.name name)) (sym table)
    ∙ position_map told_class (λ c. is_text c.name name) rows

-- the number of a class is below the number of classes
pub class_below : (name : List ℕ) (n : ℕ) → class_named name ≡ Some n → n < length library
class_below name n is = (position-Some (λ (c : LibraryClass). is_text c.name name) library n
    (class [] Open None [] []) is).0

any_map : {X Y : Type 0} (f : X → Y) (p : Y → Bool) (xs : List X) → list_any p (map f xs) ≡ list_any (λ x. p (f x)) xs
any_map f p [] = refl
any_map f p (x ∷ xs) = ap (λ b. p (f x) || b) (any_map f p xs)

any_ext : {X : Type 0} (p q : X → Bool) → ((x : X) → p x ≡ q x) → (xs : List X) → list_any p xs ≡ list_any q xs
any_ext p q same [] = refl
any_ext p q same (x ∷ xs) = ap (λ b. b || list_any p xs) (same x) ∙ ap (λ b. q x || b) (any_ext p q same xs)

pub named_there : (rows : List ClassRow) (name : List ℕ) (method : Bool) → map told_class rows ≡ library
    → is_named name method ≡ list_any (λ row. list_any (λ m. beq m.is_method method
    && is_text m.name.now name) row.members.now) rows
named_there rows name method table =
    let p : LibraryClass → Bool = λ c. list_any (λ m. beq m.is_method method && is_text m.name name) c.members in
    ap (list_any p) (sym table) ∙ any_map told_class p rows
    ∙ any_ext (λ row. p (told_class row))
    (λ row. list_any (λ m. beq m.is_method method && is_text m.name.now name) row.members.now)
    (λ row. any_map told_member (λ m. beq m.is_method method && is_text m.name name) row.members.now) rows

pub members_of_row : (row : ClassRow) (id : ℕ) → told_class row ≡ class_at id → id < length library
    → length row.members.now < 4294967296
members_of_row row id is within =
    subst (λ n. n < 4294967296) (ap (λ (c : LibraryClass). length c.members) (sym is)
    ∙ length-map row.members.now told_member) (members_few id within)

pub method_is : (ms : List LibraryMember) (k : ℕ)
    → slice_get (methods_told ms) k
    ≡ option_map member_told (slice_get (filter (λ p. p.1.is_method) (enumerate_from 0 ms)) k)
method_is ms k = slice_get-map member_told (filter (λ p. p.1.is_method) (enumerate_from 0 ms)) k

first_kept : {X : Type 0} (b : Bool) (x : X) (xs : List X) (k : ℕ) → b ≡ true → k ≡ 0
    → slice_get (cond b (x ∷ xs) xs) k ≡ Some x
first_kept true x xs k is none = ap (slice_get (x ∷ xs)) none
first_kept false x xs k is none = absurd cc

method_next : (rows : List MemberRow) (i k : ℕ) (d : MemberRow) → i < length rows → (get_or rows i d).is_method ≡ true
    → k ≡ 0
    → slice_get (filter (λ p. p.1.is_method) (enumerate_from i (map told_member (drop i rows)))) k
    ≡ Some (i, told_member (get_or rows i d))
method_next rows i k d within method none =
    ap (λ (rs : List MemberRow). slice_get (filter (λ p. p.1.is_method) (enumerate_from i (map told_member rs))) k)
    (drop_more rows i d within)
    ∙ first_kept (get_or rows i d).is_method (i, told_member (get_or rows i d))
    (filter (λ p. p.1.is_method) (enumerate_from (i + 1) (map told_member (drop (i + 1) rows)))) k method none

pub method_found : (rows : List MemberRow) (i k at : ℕ) (d : MemberRow) (told : LibMember) → i < length rows
    → (get_or rows i d).is_method ≡ true → k ≡ 0 → at ≡ i
    → told ≡ member_told (at, told_member (get_or rows i d))
    → option_map member_told
    (slice_get (filter (λ p. p.1.is_method) (enumerate_from i (map told_member (drop i rows)))) k) ≡ Some told
method_found rows i k at d told within method none here is =
    ap (option_map member_told) (method_next rows i k d within method none)
    ∙ ap Some (sym (is ∙ ap (λ (n : ℕ). member_told (n, told_member (get_or rows i d))) here))

pub no_method : (rows : List MemberRow) (i k : ℕ) → length rows ≤ i
    → slice_get (filter (λ p. p.1.is_method) (enumerate_from i (map told_member (drop i rows)))) k ≡ None
no_method rows i k over = ap
    (λ (rs : List MemberRow). slice_get (filter (λ p. p.1.is_method) (enumerate_from i (map told_member rs))) k)
    (drop_all i rows over)
