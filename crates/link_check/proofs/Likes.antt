-- A member that has the descriptor of a method is a method: only the descriptor of a method begins with `(` (JVMS 4.3).
use Rattle.std.proofs.Common.{◌≡◌, ℕ, zero, suc, ◌+◌, ◌<◌, Bool, true, false, cond, eqb, List, [], ◌∷◌, ◌++◌}
use Rattle.std.proofs.Common.{length, map, get_or, replicate, Option, Some, None, ⊎_elim, refl, sym, ap, subst, ◌∙◌}
use Rattle.std.proofs.Common.{arith}
use Rattle.std.specs.Bool.{beq}
use Rattle.std.specs.List.{All, cons_option, enumerate_from, find, list_all, position}
use Rattle.std.specs.Option.{option_and_then, option_map, option_map_or}
use Rattle.std.specs.Prelude.{slice_get}
use Rattle.std.proofs.lemmas.Bool.{and_from, and_parts, cases_lt}
use Rattle.std.proofs.lemmas.List.{get_or_past}
use Rattle.std.proofs.lemmas.List.Elements.{All-cons, All-nil}
use Rattle.std.proofs.lemmas.List.Quantifiers.{position-Some}
use Rattle.std.proofs.lemmas.Option.{same_Some}
use Rattle.jv_base.specs.Names.{is_text}
use Rattle.jv_base.specs.Types.{base_text, field_text, method_text}
use Rattle.jv_base.specs.declared.types.Base.{Base}
use Rattle.jv_base.specs.declared.types.Base.TheVariants.{Boolean, Byte, Char, Short, Int, Long, Float, Double}
use Rattle.jv_base.specs.declared.types.Base.TheVariants.{Class as Named}
use Rattle.jv_base.specs.declared.types.FieldType.{FieldType}
use Rattle.jv_base.specs.declared.types.MethodType.{MethodType}
use Rattle.jv_base.proofs.Equality.{text_Decides}
use Rattle.class_model.specs.declared.class.Class.{Class}
use Rattle.class_model.specs.declared.class.Field.{Field}
use Rattle.class_model.specs.declared.class.Method.{Method}
use Rattle.lib_table.specs.Library.{LibraryClass, LibraryMember, class, library}
use Rattle.lib_table.specs.Lookups.{class_at, is_member, member_told}
use Rattle.lib_table.specs.declared.class.LibKind.{LibKind}
use Rattle.lib_table.specs.declared.class.LibKind.TheVariants.{Open}
use Rattle.lib_table.proofs.Classes.{holds_at}
use Rattle.class_pool.specs.declared.id.ClassId.{ClassId}
use Rattle.class_pool.specs.declared.id.ClassId.TheVariants.{Prog, Lib}
use Rattle.class_pool.specs.declared.id.MemberAt.{MemberAt}
use Rattle.class_pool.specs.Found.{IsMethod, MemberRow, declared_by, declared_in, field_row, is_method_at, library_row}
use Rattle.class_pool.specs.Found.{method_row, named_at}
use Rattle.class_pool.specs.Found.{row_at}
use Rattle.class_pool.specs.Found.{rows_in}
use Rattle.class_pool.specs.Members.{declared_at, is_field, is_method, member_named, or_method}
use Rattle.link_check.proofs.Methods.{at_method}
use Rattle.class_pool.proofs.LikeMethods.{all_at}

-- the text begins with `(`
abbrev pub opens : List ℕ → Bool
opens [] = false
opens (b ∷ bs) = eqb b 40

opens_method : (ty : MethodType) → opens (method_text ty) ≡ true
unfolding method_text
opens_method ty = refl

opens_base : (b : Base) → opens (base_text b) ≡ false
unfolding base_text
opens_base Boolean = refl
opens_base Byte = refl
opens_base Char = refl
opens_base Short = refl
opens_base Int = refl
opens_base Long = refl
opens_base Float = refl
opens_base Double = refl
opens_base (Named name) = refl

opens_array : (n : ℕ) (b : Base) → opens (replicate n 91 ++ base_text b) ≡ false
opens_array zero b = opens_base b
opens_array (suc n) b = refl

opens_field : (ty : FieldType) → opens (field_text ty) ≡ false
unfolding field_text
opens_field ty = opens_array ty.dims ty.base

-- ---- rows

-- a row is a method's where its descriptor begins so
abbrev pub agrees : MemberRow → Bool
agrees row = beq row.is_method (opens row.named.1)

abbrev agrees_member : LibraryMember → Bool
agrees_member m = beq m.is_method (opens m.descriptor)

table_agrees : list_all (λ c. list_all agrees_member c.members) library ≡ true
unfolding library
table_agrees = refl

class_agrees : (id : ℕ) → list_all agrees_member (class_at id).members ≡ true
class_agrees id =
    let none : LibraryClass = class [] Open None [] [] in
    ⊎_elim (λ within. holds_at
    (λ (c : LibraryClass). list_all agrees_member c.members) library id none table_agrees within)
    (λ over. ap (λ (c : LibraryClass). list_all agrees_member c.members) (get_or_past library id none over))
    (cases_lt id (length library))

beq_true : (t : Bool) → t ≡ true → beq true t ≡ true
beq_true true h = refl
beq_true false h = absurd cc

beq_false : (t : Bool) → t ≡ false → beq false t ≡ true
beq_false true h = absurd cc
beq_false false h = refl

methods_agree : (ms : List Method) → list_all agrees (map method_row ms) ≡ true
methods_agree [] = refl
methods_agree (m ∷ ms) = and_from (agrees (method_row m)) (list_all agrees (map method_row ms))
    (beq_true (opens (method_text m.ty)) (opens_method m.ty)) (methods_agree ms)

members_agree : (fs : List Field) (ms : List Method) → list_all agrees (map field_row fs ++ map method_row ms) ≡ true
members_agree [] ms = methods_agree ms
members_agree (f ∷ fs) ms =
    and_from (agrees (field_row f)) (list_all agrees (map field_row fs ++ map method_row ms))
    (beq_false (opens (field_text f.ty)) (opens_field f.ty)) (members_agree fs ms)

library_agrees : (kind : LibKind) (ms : List LibraryMember) → list_all agrees_member ms ≡ true
    → list_all agrees (map (library_row kind) ms) ≡ true
library_agrees kind [] h = refl
library_agrees kind (m ∷ ms) h =
    let parts = and_parts (agrees_member m) (list_all agrees_member ms) h in
    and_from (agrees (library_row kind m)) (list_all agrees (map (library_row kind) ms)) parts.0
    (library_agrees kind ms parts.1)

some_agree : (o : Option Class)
    → list_all agrees (option_map_or (λ c. map field_row c.fields ++ map method_row c.methods) o []) ≡ true
some_agree (Some c) = members_agree c.fields c.methods
some_agree None = refl

rows_agree : (classes : List Class) (c : ClassId) → list_all agrees (rows_in classes c) ≡ true
rows_agree classes (Prog n) = some_agree (slice_get classes n)
rows_agree classes (Lib id) = library_agrees (class_at id).kind (class_at id).members (class_agrees id)

beq_opens : (t s : Bool) → beq t s ≡ true → t ≡ true → s ≡ true
beq_opens true true same h = refl
beq_opens true false same h = absurd cc
beq_opens false s same h = absurd cc

beq_is : (t s : Bool) → beq t s ≡ true → s ≡ true → t ≡ true
beq_is true s same h = refl
beq_is false true same h = absurd cc
beq_is false false same h = absurd cc

row_opens : (o : Option MemberRow) → ((row : MemberRow) → o ≡ Some row → agrees row ≡ true)
    → option_map_or (λ row. row.is_method) o false ≡ true
    → opens (option_map_or (λ row. row.named) o ([], [])).1 ≡ true
row_opens (Some row) agree h = beq_opens row.is_method (opens row.named.1) (agree row refl) h
row_opens None agree h = absurd cc

-- the descriptor of a method
pub method_opens : (classes : List Class) (m : MemberAt)
    → is_method_at classes m ≡ true → opens (named_at classes m).1 ≡ true
method_opens classes m h = row_opens (row_at classes m)
    (λ row at. all_at agrees (rows_in classes m.class) m.index row (rows_agree classes m.class) at) h

-- ---- what a class declares

no_field : (name descriptor : List ℕ) (fs : List Field) (k : ℕ) → opens descriptor ≡ true
    → position (is_field name descriptor) fs ≡ Some k → ⊥
no_field name descriptor [] k begins at = absurd cc
no_field name descriptor (f ∷ fs) k begins at =
    let d : Field = get_or (f ∷ fs) k f in
    let test = (position-Some (is_field name descriptor) (f ∷ fs) k f at).1 in
    let same : descriptor ≡ field_text d.ty = (text_Decides descriptor (field_text d.ty)).0
    (and_parts (is_text d.name name) (is_text descriptor (field_text d.ty)) test).1 in
    absurd (cc (sym begins ∙ ap opens same ∙ opens_field d.ty))

method_within : (classes : List Class) (n : ℕ) (c : Class) (name descriptor : List ℕ) (ms : List Method) (k : ℕ)
    → ms ≡ c.methods → slice_get classes n ≡ Some c
    → position (is_method name descriptor) ms ≡ Some k
    → option_map_or (λ row. row.is_method)
    (row_at classes (record { class = Prog n; index = length c.fields + k })) false ≡ true
method_within classes n c name descriptor [] k are is at = absurd cc
method_within classes n c name descriptor (m ∷ ms) k are is at =
    at_method classes n k c m is
    (subst (λ (xs : List Method). k < length xs) are (position-Some (is_method name descriptor) (m ∷ ms) k m at).0)

class_declares : (classes : List Class) (n : ℕ) (c : Class) (name descriptor : List ℕ) (o p : Option ℕ) (i : ℕ)
    → slice_get classes n ≡ Some c → opens descriptor ≡ true
    → position (is_field name descriptor) c.fields ≡ o → position (is_method name descriptor) c.methods ≡ p
    → option_map (λ (i : ℕ). length c.fields + i) p ≡ Some i → o ≡ None
    → is_method_at classes (record { class = Prog n; index = i }) ≡ true
class_declares classes n c name descriptor o None i is begins fields methods at none = absurd cc
class_declares classes n c name descriptor o (Some k) i is begins fields methods at none =
    subst (λ (j : ℕ). is_method_at classes (record { class = Prog n; index = j })
    ≡ true) (same_Some (length c.fields + k) i at)
    (method_within classes n c name descriptor c.methods k refl is methods)

no_such_field : (classes : List Class) (n : ℕ) (c : Class) (name descriptor : List ℕ) (o : Option ℕ)
    → opens descriptor ≡ true → position (is_field name descriptor) c.fields ≡ o → o ≡ None
no_such_field classes n c name descriptor None begins at = refl
no_such_field classes n c name descriptor (Some k) begins at = absurd (no_field name descriptor c.fields k begins at)

of_class : (classes : List Class) (n : ℕ) (o : Option Class) (name descriptor : List ℕ) (i : ℕ)
    → slice_get classes n ≡ o → opens descriptor ≡ true
    → option_and_then (λ c. member_named c name descriptor) o ≡ Some i
    → is_method_at classes (record { class = Prog n; index = i }) ≡ true
of_class classes n None name descriptor i is begins at = absurd cc
of_class classes n (Some c) name descriptor i is begins at =
    let none : position (is_field name descriptor) c.fields
    ≡ None = no_such_field classes n c name descriptor (position (is_field name descriptor) c.fields) begins refl in
    class_declares classes n c name descriptor (position (is_field name descriptor) c.fields)
    (position (is_method name descriptor) c.methods) i is begins refl refl
    (ap (or_method c name descriptor) (sym none) ∙ at) none

-- a member of the library, with its place in the rest of the table
Found : LibKind → List LibraryMember → ℕ → ℕ → Type 0
Found kind ms n i = (k : ℕ) × (i ≡ n + k)
    × (option_map_or (λ row. row.is_method) (slice_get (map (library_row kind) ms) k) false ≡ true)

one_member : (name descriptor : List ℕ) (kind : LibKind) (m : LibraryMember) (ms : List LibraryMember) (n i : ℕ)
    (t : Bool) → is_member name descriptor m ≡ t → opens descriptor ≡ true
    → agrees_member m ≡ true
    → option_map (λ l. l.at)
    (option_map member_told
    (cond t (Some (n, m)) (find (λ p. is_member name descriptor p.1) (enumerate_from (n + 1) ms)))) ≡ Some i
    → (option_map (λ l. l.at)
    (option_map member_told (find (λ p. is_member name descriptor p.1) (enumerate_from (n + 1) ms))) ≡ Some i
    → Found kind ms (n + 1) i)
    → Found kind (m ∷ ms) n i
unfolding Found
one_member name descriptor kind m ms n i true test begins agree at later =
    let same : m.descriptor ≡ descriptor = (text_Decides m.descriptor descriptor).0
    (and_parts (is_text m.name name) (is_text m.descriptor descriptor) test).1 in
    let e : n ≡ i = same_Some n i at in
    (zero, omega (arith, e), beq_is m.is_method (opens m.descriptor) agree (ap opens same ∙ begins))
one_member name descriptor kind m ms n i false test begins agree at later =
    let rest = later at in
    let e : i ≡ n + 1 + rest.0 = rest.1 in
    (suc rest.0, omega (arith, e), rest.2)

found_member : (name descriptor : List ℕ) (kind : LibKind) (ms : List LibraryMember) (n i : ℕ) → opens descriptor ≡ true
    → list_all agrees_member ms ≡ true
    → option_map (λ l. l.at) (option_map member_told (find (λ p. is_member name descriptor p.1) (enumerate_from n ms)))
    ≡ Some i → Found kind ms n i
found_member name descriptor kind [] n i begins all at = absurd cc
found_member name descriptor kind (m ∷ ms) n i begins all at =
    let parts = and_parts (agrees_member m) (list_all agrees_member ms) all in
    one_member name descriptor kind m ms n i (is_member name descriptor m) refl begins parts.0 at
    (λ later. found_member name descriptor kind ms (n + 1) i begins parts.1 later)

of_library : (classes : List Class) (id : ℕ) (name descriptor : List ℕ) (i : ℕ) → opens descriptor ≡ true
    → declared_at classes (Lib id) name descriptor ≡ Some i
    → is_method_at classes (record { class = Lib id; index = i }) ≡ true
unfolding Found
of_library classes id name descriptor i begins at =
    let f : Found (class_at id).kind (class_at id).members 0 i = found_member name descriptor (class_at id).kind
    (class_at id).members 0 i begins (class_agrees id) at in
    let h = f.1 in
    let e : f.0 ≡ i = omega (arith, h) in
    subst (λ (k : ℕ). option_map_or (λ row. row.is_method)
    (slice_get (map (library_row (class_at id).kind) (class_at id).members) k) false ≡ true) e f.2

declares_method : (classes : List Class) (c : ClassId) (name descriptor : List ℕ) (i : ℕ) → opens descriptor ≡ true
    → declared_at classes c name descriptor ≡ Some i
    → is_method_at classes (record { class = c; index = i }) ≡ true
declares_method classes (Prog n) name descriptor i begins at = of_class classes n
    (slice_get classes n) name descriptor i refl begins at
declares_method classes (Lib id) name descriptor i begins at = of_library classes id name descriptor i begins at

by_number : (classes : List Class) (c : ClassId) (o : Option ℕ) (a : MemberAt)
    → option_map (λ n. record { class = c; index = n }) o ≡ Some a
    → ((n : ℕ) → o ≡ Some n → option_map_or (λ row. row.is_method)
    (row_at classes (record { class = c; index = n })) false ≡ true)
    → is_method_at classes a ≡ true
by_number classes c (Some n) a at here =
    subst (λ (b : MemberAt). is_method_at classes b ≡ true)
    (same_Some (record { class = c; index = n }) a at) (here n refl)
by_number classes c None a at here = absurd cc

-- what a class declares with the name and the descriptor of a method is a method
pub like_is_method : (classes : List Class) (m a : MemberAt) (c : ClassId)
    → is_method_at classes m ≡ true
    → declared_in classes (named_at classes m) c ≡ Some a
    → is_method_at classes a ≡ true
like_is_method classes m a c method at =
    by_number classes c (declared_at classes c (named_at classes m).0 (named_at classes m).1) a at
    (λ n here. declares_method classes c (named_at classes m).0 (named_at classes m).1 n
    (method_opens classes m method) here)

-- so are all that classes declare so
pub likes_are_methods : (classes : List Class) (m : MemberAt) (cs : List ClassId) → is_method_at classes m ≡ true
    → All (IsMethod classes) (declared_by classes (named_at classes m) cs)
likes_are_methods classes m [] method = All-nil (IsMethod classes)
likes_are_methods classes m (c ∷ cs) method =
    by (declared_in classes (named_at classes m) c) refl (likes_are_methods classes m cs method)
  where
    by : (o : Option MemberAt) → declared_in classes (named_at classes m) c ≡ o
        → All (IsMethod classes) (declared_by classes (named_at classes m) cs)
        → All (IsMethod classes) (cons_option o (declared_by classes (named_at classes m) cs))
    by None at others = others
    by (Some a) at others = All-cons (IsMethod classes) a (declared_by classes (named_at classes m) cs)
        (like_is_method classes m a c method at) others
