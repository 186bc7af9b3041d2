-- A member that a class declares with a name and a descriptor is there, and has them; and a class that is named is
-- there.
use Rattle.std.proofs.Common.{◌≡◌, ℕ, suc, ◌+◌, ◌<◌, Bool, true, false, cond, List, [], ◌∷◌, ◌++◌, length}
use Rattle.std.proofs.Common.{map, slice_get, Option, Some, None, refl, sym, ap, ◌∙◌, arith, ◌⊎◌, ⊎_elim, inl}
use Rattle.std.proofs.Common.{inr}
use Rattle.std.specs.Prelude.{IfSome, if◌then◌else◌}
use Rattle.std.specs.List.{All, cons_option, enumerate_from, find, position}
use Rattle.std.specs.Option.{option_and_then, option_map, option_map_or}
use Rattle.std.proofs.lemmas.List.Elements.{All-cons, All-head, All-nil, All-tail}
use Rattle.std.proofs.lemmas.Option.{same_Some, slice_get-map}
use Rattle.jv_base.specs.Names.{is_text}
use Rattle.jv_base.specs.Types.{field_text, method_text}
use Rattle.jv_base.proofs.Equality.{text_Decides}
use Rattle.jv_base.proofs.Lists.{got_in_front, placed}
use Rattle.class_model.specs.declared.class.Class.{Class}
use Rattle.class_model.specs.declared.class.Field.{Field}
use Rattle.class_model.specs.declared.class.Method.{Method}
use Rattle.lib_table.specs.Library.{LibraryMember, library}
use Rattle.lib_table.specs.Lookups as table
use Rattle.lib_table.specs.declared.member.LibMember.{LibMember}
use Rattle.lib_table.proofs.Classes.{class_below}
use Rattle.class_pool.specs.declared.id.ClassId.{ClassId}
use Rattle.class_pool.specs.declared.id.ClassId.TheVariants.{Prog, Lib}
use Rattle.class_pool.specs.declared.id.MemberAt.{MemberAt}
use Rattle.class_pool.specs.Found.{IsMember, MemberRow, NameAndType, declared_by, declared_in, field_row, library_row}
use Rattle.class_pool.specs.Found.{method_row, named_at, rows_in}
use Rattle.class_pool.specs.Hierarchy.{IsClass, class_named, or_found, superclass}
use Rattle.class_pool.specs.Members.{declared_at, is_field, is_method, member_named, or_method}
use Rattle.class_pool.proofs.Naming.{number_below}
use Rattle.std.proofs.lemmas.Bool.{and_parts}
use Rattle.class_pool.proofs.ToldMembers.{declared_below}
use Rattle.class_pool.proofs.Directs.{super_below}

-- what stands behind a list each of whose items is mapped
pub behind : {X Y : Type 0} (f : Y → X) (xs : List Y) (ys : List X) (n : ℕ)
    → slice_get (map f xs ++ ys) (length xs + n) ≡ slice_get ys n
behind f [] ys n = let e : 0 + n ≡ n = omega arith in ap (slice_get ys) e
behind f (x ∷ xs) ys n =
    let e : suc (length xs) + n ≡ suc (length xs + n) = omega arith in
    ap (slice_get (f x ∷ (map f xs ++ ys))) e ∙ behind f xs ys n

-- ---- of a program class

abbrev pub Named : List MemberRow → ℕ → NameAndType → Type 0
Named rows n named = (row : MemberRow) × (slice_get rows n ≡ Some row) × (row.named ≡ named)

named_field : (f : Field) (named : NameAndType) → is_field named.0 named.1 f ≡ true → (field_row f).named ≡ named
named_field f named is =
    let h = and_parts (is_text f.name named.0) (is_text named.1 (field_text f.ty)) is in
    let p : f.name ≡ named.0 = (text_Decides f.name named.0).0 h.0 in
    let q : field_text f.ty ≡ named.1 = sym ((text_Decides named.1 (field_text f.ty)).0 h.1) in
    λ i. (p i, q i)

named_method : (m : Method) (named : NameAndType) → is_method named.0 named.1 m ≡ true → (method_row m).named ≡ named
named_method m named is =
    let h = and_parts (is_text m.name named.0) (is_text named.1 (method_text m.ty)) is in
    let p : m.name ≡ named.0 = (text_Decides m.name named.0).0 h.0 in
    let q : method_text m.ty ≡ named.1 = sym ((text_Decides named.1 (method_text m.ty)).0 h.1) in
    λ i. (p i, q i)

method_placed : (k : Class) (named : NameAndType) (o : Option ℕ) (n : ℕ)
    → position (is_method named.0 named.1) k.methods ≡ o → option_map (λ i. length k.fields + i) o ≡ Some n
    → Named (map field_row k.fields ++ map method_row k.methods) n named
method_placed k named None n at is = absurd cc
method_placed k named (Some i) n at is =
    let h = placed (is_method named.0 named.1) k.methods i at in (
      method_row h.0,
      ap (slice_get (map field_row k.fields ++ map method_row k.methods)) (sym (same_Some _ _ is))
          ∙ behind field_row k.fields (map method_row k.methods) i
          ∙ slice_get-map method_row k.methods i ∙ ap (option_map method_row) h.1,
      named_method h.0 named h.2,
    )

member_placed : (k : Class) (named : NameAndType) (o : Option ℕ) (n : ℕ)
    → position (is_field named.0 named.1) k.fields ≡ o → or_method k named.0 named.1 o ≡ Some n
    → Named (map field_row k.fields ++ map method_row k.methods) n named
member_placed k named None n at is = method_placed k named (position (is_method named.0 named.1) k.methods) n refl is
member_placed k named (Some i) n at is =
    let h = placed (is_field named.0 named.1) k.fields i at in (
      field_row h.0,
      ap (slice_get (map field_row k.fields ++ map method_row k.methods)) (sym (same_Some _ _ is))
          ∙ got_in_front (map field_row k.fields) (map method_row k.methods) i (field_row h.0)
          (slice_get-map field_row k.fields i ∙ ap (option_map field_row) h.1),
      named_field h.0 named h.2,
    )

in_class : (classes : List Class) (n : ℕ) (k : Class) (named : NameAndType) (r : Option ℕ) (x : MemberAt)
    → slice_get classes n ≡ Some k → member_named k named.0 named.1 ≡ r
    → option_map (λ i. record { class = Prog n; index = i }) r ≡ Some x → named_at classes x ≡ named
in_class classes n k named None x there found is = absurd cc
in_class classes n k named (Some i) x there found is =
    let h = member_placed k named (position (is_field named.0 named.1) k.fields) i refl found in
    ap (named_at classes) (sym (same_Some _ _ is))
    ∙ ap (λ (o : Option Class). option_map_or (λ (row : MemberRow). row.named)
    (slice_get (option_map_or (λ c. map field_row c.fields ++ map method_row c.methods) o []) i) ([], [])) there
    ∙ ap (λ (o : Option MemberRow). option_map_or (λ row. row.named) o ([], [])) h.1 ∙ h.2

in_set : (classes : List Class) (n : ℕ) (named : NameAndType) (o : Option Class) (x : MemberAt)
    → slice_get classes n ≡ o
    → option_map (λ i. record { class = Prog n; index = i }) (option_and_then (λ k. member_named k named.0 named.1) o)
    ≡ Some x → named_at classes x ≡ named
in_set classes n named None x there is = absurd cc
in_set classes n named (Some k) x there is = in_class classes n k named (member_named k named.0 named.1) x there refl is

-- ---- of a library class

found_cons : {X : Type 0} (p : X → Bool) (x : X) (xs : List X) (b : Bool) (y : X) → p x ≡ b → find p (x ∷ xs) ≡ Some y
    → ((b ≡ true) × (x ≡ y)) ⊎ (find p xs ≡ Some y)
found_cons p x xs true y is found = inl
    (refl, same_Some _ _ (sym (ap (λ b. if b then Some x else find p xs) is) ∙ found))
found_cons p x xs false y is found = inr (sym (ap (λ b. if b then Some x else find p xs) is) ∙ found)

found_at : (p : ℕ × LibraryMember → Bool) (start : ℕ) (ms : List LibraryMember) (y : ℕ × LibraryMember)
    → find p (enumerate_from start ms) ≡ Some y
    → (i : ℕ) × (y.0 ≡ start + i) × (slice_get ms i ≡ Some y.1) × (p y ≡ true)
found_at p start [] y is = absurd cc
found_at p start (m ∷ ms) y is =
    ⊎_elim
    (λ h. (
      0,
      sym (ap (λ (z : ℕ × LibraryMember). z.0) h.1)
          ∙ omega arith,
      ap (λ (z : ℕ × LibraryMember). Some z.1) h.1,
      sym (ap p h.1) ∙ h.0,
    ))
    (λ rest. let h = found_at p (start + 1) ms y rest in (suc h.0, h.1 ∙ omega arith, h.2, h.3))
    (found_cons p (start, m) (enumerate_from (start + 1) ms) (p (start, m)) y refl is)

named_member : (m : LibraryMember) (named : NameAndType) → table.is_member named.0 named.1 m ≡ true
    → (m.name, m.descriptor) ≡ named
named_member m named is =
    let h = and_parts (is_text m.name named.0) (is_text m.descriptor named.1) is in
    let p : m.name ≡ named.0 = (text_Decides m.name named.0).0 h.0 in
    let q : m.descriptor ≡ named.1 = (text_Decides m.descriptor named.1).0 h.1 in
    λ i. (p i, q i)

in_library : (classes : List Class) (id : ℕ) (named : NameAndType) (o : Option (ℕ × LibraryMember)) (x : MemberAt)
    → find (λ p. table.is_member named.0 named.1 p.1) (enumerate_from 0 (table.class_at id).members) ≡ o
    → option_map (λ i. record { class = Lib id; index = i })
    (option_map (λ (m : LibMember). m.at) (option_map table.member_told o)) ≡ Some x → named_at classes x ≡ named
in_library classes id named None x found is = absurd cc
in_library classes id named (Some (at, m)) x found is =
    let h = found_at (λ p. table.is_member named.0 named.1 p.1) 0 (table.class_at id).members (at, m) found in
    let e : at ≡ h.0 = h.1 ∙ omega arith in
    ap (named_at classes) (sym (same_Some _ _ is))
    ∙ ap (λ (o : Option MemberRow). option_map_or (λ row. row.named) o ([], []))
    (slice_get-map (library_row (table.class_at id).kind) (table.class_at id).members at
    ∙ ap (option_map (library_row (table.class_at id).kind)) (ap (slice_get (table.class_at id).members) e ∙ h.2))
    ∙ named_member m named h.3

-- ---- of any class

pub declared_named : (classes : List Class) (named : NameAndType) (c : ClassId) (x : MemberAt)
    → declared_in classes named c ≡ Some x → named_at classes x ≡ named
declared_named classes named (Prog n) x is = in_set classes n named (slice_get classes n) x refl is
declared_named classes named (Lib id) x is =
    in_library classes id named
    (find (λ p. table.is_member named.0 named.1 p.1) (enumerate_from 0 (table.class_at id).members)) x refl is

-- ---- it is there

shifted : (first : ℕ) (o : Option ℕ) (n : ℕ) (rest : ℕ) → ((k : ℕ) → o ≡ Some k → k < rest)
    → option_map (λ k. first + k) o ≡ Some n → n < first + rest
shifted first (Some k) n rest below is = let within : k < rest = below k refl in let at : first + k
    ≡ n = cc in omega (arith, within, at)
shifted first None n rest below is = absurd cc

find_step : (b : Bool) (i : ℕ) (m : LibraryMember) (o : Option (ℕ × LibraryMember)) (p : ℕ × LibraryMember) (rest : ℕ)
    → (o ≡ Some p → p.0 < i + 1 + rest)
    → cond b (Some (i, m)) o ≡ Some p → p.0 < i + (1 + rest)
find_step true i m o p rest others is =
    let at : i ≡ p.0 = ap (λ (q : ℕ × LibraryMember). q.0) (same_Some (i, m) p is) in omega (arith, at)
find_step false i m o p rest others is = let within : p.0 < i + 1 + rest = others is in omega (arith, within)

find_below : (test : ℕ × LibraryMember → Bool) (i : ℕ) (ms : List LibraryMember) (p : ℕ × LibraryMember)
    → find test (enumerate_from i ms) ≡ Some p → p.0 < i + length ms
find_below test i [] p is = absurd cc
find_below test i (m ∷ ms) p is =
    let within = find_step (test (i, m)) i m (find test (enumerate_from (i + 1) ms)) p (length ms)
    (find_below test (i + 1) ms p) is in
    omega (arith, within)

told_below : (o : Option (ℕ × LibraryMember)) (n rest : ℕ) → ((p : ℕ × LibraryMember) → o ≡ Some p → p.0 < rest)
    → option_map (λ m. m.at) (option_map table.member_told o) ≡ Some n → n < rest
told_below (Some p) n rest below is = let within : p.0 < rest = below p refl in let at : p.0
    ≡ n = cc in omega (arith, within, at)
told_below None n rest below is = absurd cc

some_there : (classes : List Class) (c : ClassId) (o : Option ℕ) → IsClass classes c
    → ((n : ℕ) → o ≡ Some n → n < length (rows_in classes c))
    → IfSome (option_map (λ n. record { class = c; index = n }) o) (IsMember classes)
some_there classes c (Some n) there below = (there, below n refl)
some_there classes c None there below = tt

pub declared_there : (classes : List Class) (named : NameAndType) (c : ClassId) → IsClass classes c
    → IfSome (declared_in classes named c) (IsMember classes)
declared_there classes named c there =
    some_there classes c (declared_at classes c named.0 named.1) there (declared_below classes c named.0 named.1)

with_first : (classes : List Class) (o : Option MemberAt) (ms : List MemberAt) → IfSome o (IsMember classes)
    → All (IsMember classes) ms → All (IsMember classes) (cons_option o ms)
with_first classes (Some m) ms first others = All-cons (IsMember classes) m ms first others
with_first classes None ms first others = others

-- all those that some classes declare are there
pub all_declared : (classes : List Class) (named : NameAndType) (cs : List ClassId) → All (IsClass classes) cs
    → All (IsMember classes) (declared_by classes named cs)
all_declared classes named [] there = All-nil (IsMember classes)
all_declared classes named (c ∷ cs) there =
    with_first classes (declared_in classes named c) (declared_by classes named cs)
    (declared_there classes named c (All-head (IsClass classes) c cs there))
    (all_declared classes named cs (All-tail (IsClass classes) c cs there))

-- ---- classes that are named

library_there : (classes : List Class) (o : Option ℕ) → ((n : ℕ) → o ≡ Some n → n < length library)
    → IfSome (option_map Lib o) (IsClass classes)
library_there classes (Some n) h = h n refl
library_there classes None h = tt

found_there : (classes : List Class) (o t : Option ℕ) → ((n : ℕ) → o ≡ Some n → n < length classes)
    → ((n : ℕ) → t ≡ Some n → n < length library)
    → IfSome (or_found o (option_map Lib t)) (IsClass classes)
found_there classes (Some n) t first second = first n refl
found_there classes None t first second = library_there classes t second

-- the class of a name is there
pub named_there : (classes : List Class) (name : List ℕ) → IfSome (class_named classes name) (IsClass classes)
named_there classes name =
    found_there classes (position (λ c. is_text name c.name) classes) (table.class_named name)
    (number_below classes name) (class_below name)

and_then_there : (classes : List Class) (o : Option Class)
    → IfSome (option_and_then (λ c. class_named classes c.super_name) o) (IsClass classes)
and_then_there classes (Some c) = named_there classes c.super_name
and_then_there classes None = tt

-- the direct superclass is there
pub superclass_there : (classes : List Class) (c : ClassId) → IfSome (superclass classes c) (IsClass classes)
superclass_there classes (Prog n) = and_then_there classes _
superclass_there classes (Lib id) = library_there classes (table.super_of id)
    (super_below (table.class_at id).super_name)
