-- Methods of one name and one descriptor.
use Rattle.std.proofs.Common.{◌≡◌, ℕ, zero, suc, ◌+◌, ◌-◌, ◌<◌, ◌≤◌, ◌==◌, ◌++◌, ◌&&◌, ◌||◌, not, Bool, true, false}
use Rattle.std.proofs.Common.{cond, nat_lt, IsTrue, List, [], ◌∷◌, length, map, replicate, slice_get}
use Rattle.std.proofs.Common.{Option, Some, None, refl, sym, ap, subst, ◌∙◌, arith}
use Rattle.std.specs.List.{list_all, position, prefix_len}
use Rattle.std.specs.Option.{option_and_then, option_map, option_map_or}
use Rattle.std.proofs.lemmas.Bool.{le-ltb, and_parts}
use Rattle.std.proofs.lemmas.List.{length-map}
use Rattle.std.proofs.lemmas.Option.{same_Some, slice_get-map}
use Rattle.std.proofs.Math.Bool.{and-false}
use Rattle.jv_base.specs.Names.{is_text}
use Rattle.jv_base.specs.Types.{base_text, field_text, method_text}
use Rattle.jv_base.specs.declared.types.Base.{Base}
use Rattle.jv_base.specs.declared.types.Base.TheVariants.{Boolean, Byte, Char, Short, Int, Long, Float, Double}
use Rattle.jv_base.specs.declared.types.Base.TheVariants.{Class as class_base}
use Rattle.jv_base.specs.declared.types.FieldType.{FieldType}
use Rattle.jv_base.proofs.Equality.{text_Decides, text_sym}
use Rattle.jv_base.proofs.Tests.{false_where}
use Rattle.class_model.specs.declared.class.Class.{Class}
use Rattle.class_model.specs.declared.class.Field.{Field}
use Rattle.class_model.specs.declared.class.Method.{Method}
use Rattle.lib_table.specs.Library.{LibraryMember, library}
use Rattle.lib_table.specs.Lookups as table
use Rattle.lib_table.specs.declared.class.LibKind.{LibKind}
use Rattle.lib_table.specs.declared.member.LibMember.{LibMember}
use Rattle.lib_table.proofs.Classes.{holds_at}
use Rattle.class_pool.specs.declared.id.ClassId.{ClassId}
use Rattle.class_pool.specs.declared.id.ClassId.TheVariants.{Prog, Lib}
use Rattle.class_pool.specs.Found.{IsMethod, MemberRow, field_row, library_row, method_row, named_at}
use Rattle.class_pool.specs.Members.{declared_at, is_field, is_method, member_named, or_method}

-- ---- methods by their rows

method_in : (ms : List Method) (index : ℕ)
    → IsTrue (option_map_or (λ row. row.is_method) (slice_get (map method_row ms) index) false)
    → (m : Method) × (slice_get ms index ≡ Some m) × (slice_get (map method_row ms) index ≡ Some (method_row m))
method_in [] index h = absurd cc
method_in (m ∷ ms) zero h = (m, refl, refl)
method_in (m ∷ ms) (suc k) h = method_in ms k h

method_behind : (fs : List Field) (ms : List Method) (index : ℕ)
    → IsTrue (option_map_or (λ row. row.is_method) (slice_get (map field_row fs ++ map method_row ms) index) false)
    → (m : Method) × (length fs ≤ index) × (slice_get ms (index - length fs) ≡ Some m)
    × (slice_get (map field_row fs ++ map method_row ms) index ≡ Some (method_row m))
method_behind [] ms index h =
    let p = method_in ms index h in
    let same : index - length {A = Field} [] ≡ index = omega arith in
    (p.0, omega arith, ap (slice_get ms) same ∙ p.1, p.2)
method_behind (f ∷ fs) ms zero h = absurd cc
method_behind (f ∷ fs) ms (suc index) h =
    let p = method_behind fs ms index h in
    let low = p.1 in
    let same : suc index - length (f ∷ fs) ≡ index - length fs = omega arith in
    (p.0, omega (arith, low), ap (slice_get ms) same ∙ p.2, p.3)

-- what a method of the set is
pub own_method : (classes : List Class) (n index : ℕ) (c : Class) → slice_get classes n ≡ Some c
    → IsMethod classes (record { class = Prog n; index = index })
    → (m : Method) × (length c.fields ≤ index) × (slice_get c.methods (index - length c.fields) ≡ Some m)
    × (named_at classes (record { class = Prog n; index = index }) ≡ (m.name, method_text m.ty))
own_method classes n index c is h =
    let rows : Option Class → List MemberRow = λ o. option_map_or
    (λ x. map field_row x.fields ++ map method_row x.methods) o [] in
    let there : IsTrue (option_map_or (λ row. row.is_method) (slice_get
    (map field_row c.fields ++ map method_row c.methods) index) false) =
    subst (λ (o : Option Class). IsTrue (option_map_or (λ row. row.is_method) (slice_get (rows o) index) false)) is h in
    let p = method_behind c.fields c.methods index there in (
      p.0,
      p.1,
      p.2,
      ap (λ (o : Option Class). option_map_or (λ row. row.named) (slice_get (rows o) index) ([], [])) is
          ∙ ap (λ (o : Option MemberRow). option_map_or (λ row. row.named) o ([], [])) p.3,
    )

library_in : (kind : LibKind) (ms : List LibraryMember) (at : ℕ)
    → IsTrue (option_map_or (λ row. row.is_method) (slice_get (map (library_row kind) ms) at) false)
    → (m : LibraryMember) × (slice_get ms at ≡ Some m)
    × (slice_get (map (library_row kind) ms) at ≡ Some (library_row kind m)) × (m.is_method ≡ true)
library_in kind [] at h = absurd cc
library_in kind (m ∷ ms) zero h = (m, refl, refl, h)
library_in kind (m ∷ ms) (suc at) h = library_in kind ms at h

pub library_method : (classes : List Class) (id at : ℕ)
    → IsMethod classes (record { class = Lib id; index = at })
    → IsTrue (option_map_or (λ m. m.is_method) (slice_get (table.class_at id).members at) false)
library_method classes id at h =
    let p = library_in (table.class_at id).kind (table.class_at id).members at h in
    ap (λ (o : Option LibraryMember). option_map_or (λ m. m.is_method) o false) p.1 ∙ p.3

pub library_named : (classes : List Class) (c : ClassId) (id at : ℕ)
    → IsMethod classes (record { class = Lib id; index = at })
    → option_and_then (λ m. declared_at classes c m.name m.descriptor) (slice_get (table.class_at id).members at)
    ≡ declared_at classes c (named_at classes (record { class = Lib id; index = at })).0
    (named_at classes (record { class = Lib id; index = at })).1
library_named classes c id at h =
    let p = library_in (table.class_at id).kind (table.class_at id).members at h in
    ap (λ (o : Option LibraryMember). option_and_then (λ m. declared_at classes c m.name m.descriptor) o) p.1
    ∙ sym (ap (λ (o : Option MemberRow). declared_at classes c (option_map_or (λ row. row.named) o ([], [])).0
    (option_map_or (λ row. row.named) o ([], [])).1) p.2)

pub own_declared : (classes : List Class) (n : ℕ) (c : Class) (o : Option LibraryMember) → slice_get classes n ≡ Some c
    → option_and_then (λ m. member_named c m.name m.descriptor) o
    ≡ option_and_then (λ m. declared_at classes (Prog n) m.name m.descriptor) o
own_declared classes n c o is =
    sym (ap (λ (x : Option Class). option_and_then
    (λ m. option_and_then (λ y. member_named y m.name m.descriptor) x) o) is)

pub library_declared : (classes : List Class) (id : ℕ) (o : Option LibraryMember) (r : Option LibMember)
    → r ≡ option_and_then (λ m. table.member_named (table.class_at id).members m.name m.descriptor) o
    → option_map (λ m. m.at) r ≡ option_and_then (λ m. declared_at classes (Lib id) m.name m.descriptor) o
library_declared classes id None r is = ap (option_map (λ m. m.at)) is
library_declared classes id (Some m) r is = ap (option_map (λ m. m.at)) is

-- ---- positions

prefix_ext : {X : Type 0} (p q : X → Bool) → ((x : X) → p x ≡ q x) → (xs : List X)
    → prefix_len (λ x. not (p x)) xs ≡ prefix_len (λ x. not (q x)) xs
prefix_ext p q same [] = refl
prefix_ext p q same (x ∷ xs) =
    ap (λ b. cond (not b) (1 + prefix_len (λ y. not (p y)) xs) 0) (same x)
    ∙ ap (λ n. cond (not (q x)) (1 + n) 0) (prefix_ext p q same xs)

position_ext : {X : Type 0} (p q : X → Bool) → ((x : X) → p x ≡ q x) → (xs : List X) → position p xs ≡ position q xs
position_ext p q same xs = ap (λ n. cond (nat_lt n (length xs)) (Some n) None) (prefix_ext p q same xs)

all_long : {X : Type 0} (xs : List X) → prefix_len (λ x. not false) xs ≡ length xs
all_long [] = refl
all_long (x ∷ xs) = let h = all_long xs in omega (arith, h)

never : {X : Type 0} (xs : List X) → position (λ x. false) xs ≡ None
never xs =
    ap (λ n. cond (nat_lt n (length xs)) (Some n) None) (all_long xs)
    ∙ ap (λ b. cond b (Some (length xs)) None) (le-ltb (length xs) (length xs) (omega arith))

-- ---- no descriptor of a field is one of a method

-- it begins with a parenthesis
abbrev pub begins : List ℕ → Bool
begins [] = false
begins (b ∷ text) = b == 40

base_begins : (base : Base) → begins (base_text base) ≡ false
unfolding base_text
base_begins Boolean = refl
base_begins Byte = refl
base_begins Char = refl
base_begins Short = refl
base_begins Int = refl
base_begins Long = refl
base_begins Float = refl
base_begins Double = refl
base_begins (class_base name) = refl

brackets_begin : (n : ℕ) (base : Base) → begins (replicate n 91 ++ base_text base) ≡ false
brackets_begin zero base = base_begins base
brackets_begin (suc n) base = refl

pub field_begins : (ty : FieldType) → begins (field_text ty) ≡ false
unfolding field_text
field_begins ty = brackets_begin ty.dims ty.base

apart : true ≡ false → ⊥
apart h = absurd cc

not_alike : (d t : List ℕ) → begins d ≡ true → begins t ≡ false → is_text d t ≡ false
not_alike d t opens shut = false_where (is_text d t) (text_Decides d t)
    (λ same. apart (sym opens ∙ ap begins same ∙ shut))

not_field : (name d : List ℕ) (f : Field) → begins d ≡ true → is_field name d f ≡ false
not_field name d f opens = ap (λ b. is_text f.name name && b) (not_alike d (field_text f.ty) opens (field_begins f.ty))
    ∙ and-false (is_text f.name name)

methods_begin : list_all (λ c. list_all (λ m. not m.is_method || begins m.descriptor) c.members) library ≡ true
unfolding library
methods_begin = refl

pub all_at : {X : Type 0} (p : X → Bool) (xs : List X) (k : ℕ) (x : X) → list_all p xs ≡ true → slice_get xs k ≡ Some x
    → p x ≡ true
all_at p [] k x all is = absurd cc
all_at p (y ∷ xs) zero x all is = ap p (sym (same_Some y x is)) ∙ (and_parts (p y) (list_all p xs) all).0
all_at p (y ∷ xs) (suc k) x all is = all_at p xs k x (and_parts (p y) (list_all p xs) all).1 is

library_begins : (id at : ℕ) (m : LibraryMember) → id < length library
    → slice_get (table.class_at id).members at ≡ Some m → m.is_method ≡ true → begins m.descriptor ≡ true
library_begins id at m within is method =
    let test : LibraryMember → Bool = λ x. not x.is_method || begins x.descriptor in
    let one : (not m.is_method || begins m.descriptor) ≡ true =
    all_at test (table.class_at id).members at m
    (holds_at
    (λ c. list_all (λ x. not x.is_method || begins x.descriptor) c.members) library id _ methods_begin within) is in
    sym (ap (λ b. not b || begins m.descriptor) method) ∙ one

like_is : (m : LibraryMember) (x : Method) → m.is_method ≡ true
    → table.is_method x.name (method_text x.ty) (Some m) ≡ is_method m.name m.descriptor x
like_is m x method =
    ap (λ b. b && (is_text m.name x.name && is_text m.descriptor (method_text x.ty))) method
    ∙ ap (λ b. b && is_text m.descriptor (method_text x.ty)) (text_sym m.name x.name)

number_of : (c : Class) (o : Option LibraryMember) (p : Option ℕ)
    → ((m : LibraryMember) → o ≡ Some m → begins m.descriptor ≡ true)
    → IsTrue (option_map_or (λ m. m.is_method) o false)
    → p ≡ position (λ m. table.is_method m.name (method_text m.ty) o) c.methods
    → option_map (λ n. length c.fields + n) p ≡ option_and_then (λ m. member_named c m.name m.descriptor) o
number_of c None p starts method is = absurd cc
number_of c (Some m) p starts method is =
    let fields : position (is_field m.name m.descriptor) c.fields ≡ None =
    position_ext (is_field m.name m.descriptor) (λ f. false)
    (λ f. not_field m.name m.descriptor f (starts m refl)) c.fields ∙ never c.fields in
    ap (option_map (λ n. length c.fields + n))
    (is ∙ position_ext (λ x. table.is_method x.name (method_text x.ty) (Some m)) (is_method m.name m.descriptor)
    (λ x. like_is m x method) c.methods)
    ∙ sym (ap (or_method c m.name m.descriptor) fields)

-- the number of a method of a class that is like one of the library
pub number_like : (c : Class) (id at : ℕ) (p : Option ℕ) → id < length library
    → IsTrue (option_map_or (λ m. m.is_method) (slice_get (table.class_at id).members at) false)
    → p ≡ position (λ m. table.is_method m.name (method_text m.ty) (slice_get (table.class_at id).members at)) c.methods
    → option_map (λ n. length c.fields + n) p
    ≡ option_and_then (λ m. member_named c m.name m.descriptor) (slice_get (table.class_at id).members at)
number_like c id at p within method is =
    number_of c (slice_get (table.class_at id).members at) p
    (λ m there. library_begins id at m within there
    (sym (ap (λ (o : Option LibraryMember). option_map_or (λ x. x.is_method) o false) there) ∙ method)) method is

-- ---- descriptors as texts

pub mapped_at : {X Y : Type 0} (f : X → Y) (xs : List X) (ys : List Y) (n : ℕ) (x : X) (y : Y) → ys ≡ map f xs
    → slice_get xs n ≡ Some x → slice_get ys n ≡ Some y → y ≡ f x
mapped_at {Y = Y} f xs ys n x y all is there =
    same_Some y (f x) (sym there ∙ ap (λ (zs : List Y). slice_get zs n) all ∙ slice_get-map f xs n
    ∙ ap (option_map f) is)

pub mapped_within : {X Y : Type 0} (f : X → Y) (xs : List X) (ys : List Y) (n : ℕ) → ys ≡ map f xs → n < length xs
    → n < length ys
mapped_within {Y = Y} f xs ys n all within = let long = ap
    (λ (zs : List Y). length zs) all in let e = length-map xs f in omega (arith, within, long, e)
