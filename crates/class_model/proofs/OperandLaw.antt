-- What an operand means is found exactly where it means it: constants that are loaded, members, classes (JVMS 6.5).
use Rattle.std.proofs.Common.{◌≡◌, ◌⊎◌, inl, inr, ℕ, ◌^◌, ◌<◌, Bool, true, false, cond, eqb, List, Option, Some, None}
use Rattle.std.proofs.Common.{refl, sym, ap, ◌∙◌, arith}
use Rattle.std.specs.Prelude.{ℤ, slice_get, is_some, option_and_then, option_map, nat_le}
use Rattle.std.proofs.lemmas.Bool.{eqb-true, eq-eqb}
use Rattle.std.proofs.lemmas.Bool.Decides.{nat_tests}
use Rattle.jv_base.specs.declared.types.FieldType.{FieldType}
use Rattle.jv_base.proofs.Options.{mapped, both_there}
use Rattle.class_model.specs.declared.pool.Entry.{Entry}
use Rattle.class_model.specs.declared.pool.Entry.TheVariants as entry
use Rattle.class_model.specs.declared.op.MemberRef.{MemberRef}
use Rattle.class_model.specs.declared.op.Op.{Op}
use Rattle.class_model.specs.declared.op.Op.TheVariants as op
use Rattle.class_model.specs.Pool.{units_at}
use Rattle.class_model.specs.ConstantPool.{string_index_in, string_units_at, fieldref_in, methodref_in}
use Rattle.class_model.specs.ConstantPool.{interface_methodref_in, IsFieldrefAt, IsMethodrefAt, IsInterfaceMethodrefAt}
use Rattle.class_model.specs.Opcodes.{field_op, method_op, type_op, takes_interface_method}
use Rattle.class_model.specs.Lookups.{value_of, class_at, type_at, fieldref_at, methodref_at, interface_methodref_at}
use Rattle.class_model.specs.Instructions.{Makes, IsLoaded, IsLoadedLong, IsMember, IsOfType, IsElementOf}
use Rattle.class_model.specs.InstructionMeaning.{or_else, int_in, loaded, long_in, loaded_wide, method_named}
use Rattle.class_model.specs.InstructionMeaning.{member_made, member_op, can_be_operand, of_type, class_op}
use Rattle.class_model.specs.ReadingCode.{is_left_out_at}
use Rattle.class_model.proofs.NameLaw.{HaveUnits, value_is}
use Rattle.class_model.proofs.LookupLaw.{type_found, type_only, class_found, class_only, reference_found}
use Rattle.class_model.proofs.LookupLaw.{reference_only}

-- ---- constants

-- something is one or the other
one_of : {A : Type 0} (o p : Option A) (x : A) → or_else o p ≡ Some x → (o ≡ Some x) ⊎ ((o ≡ None) × (p ≡ Some x))
one_of (Some y) p x h = inl h
one_of None p x h = inr (refl, h)

int_is : (e : Option Entry) (o : Op) → int_in e ≡ Some o → (n : ℤ) × (e ≡ Some (entry.Integer n)) × (o ≡ op.PushInt n)
int_is (Some (entry.Integer n)) o h = (n, refl, let e : op.PushInt n ≡ o = cc in sym e)
int_is (Some (entry.Utf8 units)) o h = absurd cc
int_is (Some (entry.Long n)) o h = absurd cc
int_is (Some (entry.Class i)) o h = absurd cc
int_is (Some (entry.Str i)) o h = absurd cc
int_is (Some (entry.Field i j)) o h = absurd cc
int_is (Some (entry.Method i j)) o h = absurd cc
int_is (Some (entry.InterfaceMethod i j)) o h = absurd cc
int_is (Some (entry.NameAndType i j)) o h = absurd cc
int_is (Some (entry.LeftOut tag)) o h = absurd cc
int_is (Some entry.Gap) o h = absurd cc
int_is None o h = absurd cc

long_is : (e : Option Entry) (o : Op) → long_in e ≡ Some o → (n : ℤ) × (e ≡ Some (entry.Long n)) × (o ≡ op.PushLong n)
long_is (Some (entry.Long n)) o h = (n, refl, let e : op.PushLong n ≡ o = cc in sym e)
long_is (Some (entry.Utf8 units)) o h = absurd cc
long_is (Some (entry.Integer n)) o h = absurd cc
long_is (Some (entry.Class i)) o h = absurd cc
long_is (Some (entry.Str i)) o h = absurd cc
long_is (Some (entry.Field i j)) o h = absurd cc
long_is (Some (entry.Method i j)) o h = absurd cc
long_is (Some (entry.InterfaceMethod i j)) o h = absurd cc
long_is (Some (entry.NameAndType i j)) o h = absurd cc
long_is (Some (entry.LeftOut tag)) o h = absurd cc
long_is (Some entry.Gap) o h = absurd cc
long_is None o h = absurd cc

string_is : (e : Option Entry) (i : ℕ) → option_and_then string_index_in e ≡ Some i → e ≡ Some (entry.Str i)
string_is (Some (entry.Str j)) i h = let e : j ≡ i = cc in ap (λ (k : ℕ). Some (entry.Str k)) e
string_is (Some (entry.Utf8 units)) i h = absurd cc
string_is (Some (entry.Integer n)) i h = absurd cc
string_is (Some (entry.Long n)) i h = absurd cc
string_is (Some (entry.Class j)) i h = absurd cc
string_is (Some (entry.Field j k)) i h = absurd cc
string_is (Some (entry.Method j k)) i h = absurd cc
string_is (Some (entry.InterfaceMethod j k)) i h = absurd cc
string_is (Some (entry.NameAndType j k)) i h = absurd cc
string_is (Some (entry.LeftOut tag)) i h = absurd cc
string_is (Some entry.Gap) i h = absurd cc
string_is None i h = absurd cc

-- an int or a string
pub loaded_found : (pool : List Entry) (index : ℕ) (o : Op) → loaded pool index ≡ Some o → IsLoaded pool index o
loaded_found pool index o h =
    elim (one_of (int_in (slice_get pool index))
    (option_map (λ units. op.PushText units) (string_units_at pool index)) o h) [
      | inl int ↦ inl (int_is (slice_get pool index) o int)
      | inr text ↦ let m = mapped (λ units. op.PushText units) (string_units_at pool index) o text.1 in inr
          (m.0, m.1, sym m.2)
    ]

pub loaded_only : (pool : List Entry) (index : ℕ) (o : Op) → IsLoaded pool index o
    → (loaded pool index ≡ Some o) × (is_left_out_at (slice_get pool index) ≡ false)
loaded_only pool index o (inl int) = (rw int.1 (ap (λ (x : Op). Some x) (sym int.2)), ap is_left_out_at int.1)
loaded_only pool index o (inr text) =
    let there : slice_get pool index
    ≡ Some (entry.Str (both_there (units_at pool) (option_and_then string_index_in
    (slice_get pool index)) text.0 text.1).0) = string_is (slice_get pool index) _
    (both_there (units_at pool) (option_and_then string_index_in (slice_get pool index)) text.0 text.1).1 in
    let none : int_in (slice_get pool index) ≡ None = ap int_in there in (
      rw none (ap (option_map (λ units. op.PushText units)) text.1
          ∙ ap (λ (x : Op). Some x) (sym text.2)),
      ap is_left_out_at there,
    )

-- what ldc_w or ldc2_w loads
abbrev pub IsLoadedWide : List Entry → ℕ → ℕ → Op → Type 0
IsLoadedWide pool c index o = (c ≡ 0x13) × IsLoaded pool index o ⊎ (c ≡ 0x14) × IsLoadedLong pool index o

pub wide_found : (pool : List Entry) (c index : ℕ) (o : Op) → (c ≡ 0x13) ⊎ (c ≡ 0x14)
    → loaded_wide c pool index ≡ Some o → IsLoadedWide pool c index o
wide_found pool c index o (inl is) h =
    let same : eqb c 0x13 ≡ true = eq-eqb c 0x13 is in
    let k : loaded pool index ≡ Some o = sym (let e : loaded_wide c pool index ≡ loaded pool index = rw same refl in e)
    ∙ h in
    inl (is, loaded_found pool index o k)
wide_found pool c index o (inr is) h =
    let other : eqb c 0x13 ≡ false = ap (λ (n : ℕ). eqb n 0x13) is in
    let k : long_in (slice_get pool index)
    ≡ Some o = sym (let e : loaded_wide c pool index ≡ long_in (slice_get pool index) = rw other refl in e) ∙ h in
    inr (is, long_is (slice_get pool index) o k)

pub wide_only : (pool : List Entry) (c index : ℕ) (o : Op) → IsLoadedWide pool c index o
    → (loaded_wide c pool index ≡ Some o) × (is_left_out_at (slice_get pool index) ≡ false)
wide_only pool c index o (inl h) =
    let same : eqb c 0x13 ≡ true = eq-eqb c 0x13 h.0 in
    let l = loaded_only pool index o h.1 in
    (rw same l.0, l.1)
wide_only pool c index o (inr h) =
    let other : eqb c 0x13 ≡ false = ap (λ (n : ℕ). eqb n 0x13) h.0 in
    let there = h.1.1 in
    (rw (other, there) (ap (λ (x : Op). Some x) (sym h.1.2)), ap is_left_out_at there)

-- ---- members

-- an opcode on a method is none on a field
no_field : (c : ℕ) (b6 b7 b8 : Bool) → eqb c 0xB6 ≡ b6 → eqb c 0xB7 ≡ b7 → eqb c 0xB8 ≡ b8
    → is_some (method_op c) ≡ true → field_op c ≡ None
no_field c true b7 b8 e f g h = ap field_op (eqb-true c 0xB6 e)
no_field c false true b8 e f g h = ap field_op (eqb-true c 0xB7 f)
no_field c false false true e f g h = ap field_op (eqb-true c 0xB8 g)
no_field c false false false e f g h = absurd (let none : is_some (method_op c) ≡ false = rw (e, f, g) refl in cc)

-- the table that makes the instruction
makes_by : {A : Type 0} (table : Option (A → Op)) (x : A) (o : Op) → Makes table x o
    → (make : A → Op) × (table ≡ Some make) × (make x ≡ o)
makes_by table x o h = mapped (λ make. make x) table o h

interface_is : (e : Option Entry) (two : ℕ × ℕ) → option_and_then interface_methodref_in e ≡ Some two
    → option_and_then methodref_in e ≡ None
interface_is (Some (entry.InterfaceMethod i j)) two h = refl
interface_is (Some (entry.Utf8 units)) two h = absurd cc
interface_is (Some (entry.Integer n)) two h = absurd cc
interface_is (Some (entry.Long n)) two h = absurd cc
interface_is (Some (entry.Class i)) two h = absurd cc
interface_is (Some (entry.Str i)) two h = absurd cc
interface_is (Some (entry.Field i j)) two h = absurd cc
interface_is (Some (entry.Method i j)) two h = absurd cc
interface_is (Some (entry.NameAndType i j)) two h = absurd cc
interface_is (Some (entry.LeftOut tag)) two h = absurd cc
interface_is (Some entry.Gap) two h = absurd cc
interface_is None two h = absurd cc

-- the references of the three kinds
pub fieldref_found : (pool : List Entry) (index : ℕ) (r : MemberRef) → HaveUnits pool → index < 2 ^ 16
    → fieldref_at pool index ≡ Some r → IsFieldrefAt pool index r
unfolding fieldref_at
fieldref_found pool index r fit small h = reference_found fieldref_in false pool index r fit small h

pub fieldref_only : (pool : List Entry) (index : ℕ) (r : MemberRef) → IsFieldrefAt pool index r
    → fieldref_at pool index ≡ Some r
unfolding fieldref_at
fieldref_only pool index r h = reference_only fieldref_in false pool index r h.0 h.1

pub methodref_found : (pool : List Entry) (index : ℕ) (r : MemberRef) → HaveUnits pool → index < 2 ^ 16
    → methodref_at pool index ≡ Some r → IsMethodrefAt pool index r
unfolding methodref_at
methodref_found pool index r fit small h = reference_found methodref_in false pool index r fit small h

pub methodref_only : (pool : List Entry) (index : ℕ) (r : MemberRef) → IsMethodrefAt pool index r
    → methodref_at pool index ≡ Some r
unfolding methodref_at
methodref_only pool index r h = reference_only methodref_in false pool index r h.0 h.1

pub interface_found : (pool : List Entry) (index : ℕ) (r : MemberRef) → HaveUnits pool → index < 2 ^ 16
    → interface_methodref_at pool index ≡ Some r → IsInterfaceMethodrefAt pool index r
unfolding interface_methodref_at
interface_found pool index r fit small h = reference_found interface_methodref_in true pool index r fit small h

pub interface_only : (pool : List Entry) (index : ℕ) (r : MemberRef) → IsInterfaceMethodrefAt pool index r
    → interface_methodref_at pool index ≡ Some r
unfolding interface_methodref_at
interface_only pool index r h = reference_only interface_methodref_in true pool index r h.0 h.1

-- a method of an interface is no other method
no_method : (pool : List Entry) (index : ℕ) (r : MemberRef) → IsInterfaceMethodrefAt pool index r
    → methodref_at pool index ≡ None
unfolding methodref_at
no_method pool index r h = let none : option_and_then methodref_in (slice_get pool index)
    ≡ None = interface_is (slice_get pool index) h.0.indices h.0.entry in rw none refl

named_found : (pool : List Entry) (c index : ℕ) (b : Bool) (r : MemberRef) → HaveUnits pool → index < 2 ^ 16
    → takes_interface_method c ≡ b
    → or_else (methodref_at pool index) (cond b (interface_methodref_at pool index) None) ≡ Some r
    → IsMethodrefAt pool index r ⊎ IsInterfaceMethodrefAt pool index r × (takes_interface_method c ≡ true)
named_found pool c index true r fit small e h =
    elim (one_of (methodref_at pool index) (interface_methodref_at pool index) r h) [
      | inl m ↦ inl
          (methodref_found pool index r fit small m)
      | inr i ↦ inr (interface_found pool index r fit small i.1, e)
    ]
named_found pool c index false r fit small e h =
    elim (one_of (methodref_at pool index) None r h) [
      | inl m ↦ inl
          (methodref_found pool index r fit small m)
      | inr i ↦ absurd (let k : None ≡ Some r = i.1 in cc)
    ]

pub member_found : (pool : List Entry) (c index : ℕ) (o : Op) → HaveUnits pool → index < 2 ^ 16
    → member_op c pool index ≡ Some o → (r : MemberRef) × IsMember pool c index r o
member_found pool c index o fit small h = by (field_op c) (method_op c) refl refl h
  where
    by : (f m : Option (MemberRef → Op)) → field_op c ≡ f → method_op c ≡ m → member_made f m c pool index ≡ Some o
        → (r : MemberRef) × IsMember pool c index r o
    by (Some make) m e g k =
        let a = mapped make (fieldref_at pool index) o k in (
          a.0,
          inl (
            fieldref_found pool index a.0 fit small a.1,
            ap (option_map (λ make. make a.0)) e
                ∙ ap (λ (x : Op). Some x) a.2,
          ),
        )
    by None (Some make) e g k =
        let a = mapped make (method_named c pool index) o k in
        let makes : Makes (method_op c) a.0 o = ap (option_map (λ make. make a.0)) g ∙ ap (λ (x : Op). Some x) a.2 in (
          a.0,
          elim (named_found pool c index (takes_interface_method c) a.0 fit small refl a.1) [
            | inl n ↦ inr
                (inl (n, makes))
            | inr n ↦ inr (inr (n.0, n.1, makes))
          ],
        )
    by None None e g k = absurd cc

pub member_only : (pool : List Entry) (c index : ℕ) (r : MemberRef) (o : Op) → IsMember pool c index r o
    → (index < 2 ^ 16) × (member_op c pool index ≡ Some o)
member_only pool c index r o (inl h) =
    let m = makes_by (field_op c) r o h.1 in
    let f = m.1 in
    let there = fieldref_only pool index r h.0 in
    (h.0.0.index_fits, rw (f, there) (ap (λ (x : Op). Some x) m.2))
member_only pool c index r o (inr (inl h)) =
    let m = makes_by (method_op c) r o h.1 in
    let g = m.1 in
    let f = no_field c (eqb c 0xB6) (eqb c 0xB7) (eqb c 0xB8) refl refl refl (ap is_some g) in
    let there = methodref_only pool index r h.0 in
    (h.0.0.index_fits, rw (f, g, there) (ap (λ (x : Op). Some x) m.2))
member_only pool c index r o (inr (inr h)) =
    let m = makes_by (method_op c) r o h.2 in
    let g = m.1 in
    let f = no_field c (eqb c 0xB6) (eqb c 0xB7) (eqb c 0xB8) refl refl refl (ap is_some g) in
    let none = no_method pool index r h.0 in
    let there = interface_only pool index r h.0 in
    let takes = h.1 in
    (h.0.0.index_fits, rw (f, g, none, takes, there) (ap (λ (x : Op). Some x) m.2))

-- ---- classes and array types

-- the elements of a new array
element_found : (c : ℕ) (ty : FieldType) → can_be_operand c ty ≡ true → IsElementOf c ty
element_found c ty h is =
    let same : eqb c 0xBD ≡ true = eq-eqb c 0xBD is in
    let k : nat_le ty.dims 254 ≡ true = sym (let e : can_be_operand c ty ≡ nat_le ty.dims 254 = rw same refl in e)
    ∙ h in
    grind (arith, nat_tests)

element_only : (c : ℕ) (ty : FieldType) → IsElementOf c ty → can_be_operand c ty ≡ true
element_only c ty h = by (eqb c 0xBD) refl
  where
    by : (b : Bool) → eqb c 0xBD ≡ b → cond b (nat_le ty.dims 254) true ≡ true
    by true e = let few = h (eqb-true c 0xBD e) in grind (arith, nat_tests)
    by false e = refl

-- an opcode on a type
of_type_found : (c : ℕ) (ty : FieldType) (o : Op) (b : Bool) → can_be_operand c ty ≡ b
    → cond b (option_map (λ make. make ty) (type_op c)) None ≡ Some o → IsElementOf c ty × Makes (type_op c) ty o
of_type_found c ty o true e h = (element_found c ty e, h)
of_type_found c ty o false e h = absurd cc

pub class_op_found : (pool : List Entry) (c index : ℕ) (o : Op) → HaveUnits pool → index < 2 ^ 16
    → class_op c pool index ≡ Some o → IsOfType pool c index o
class_op_found pool c index o fit small h = by (eqb c 0xBB) refl h
  where
    by : (b : Bool) → eqb c 0xBB ≡ b
        → cond b (option_map (λ name. op.New name) (value_of (class_at pool index)))
        (option_and_then (of_type c) (type_at pool index)) ≡ Some o → IsOfType pool c index o
    by true e k =
        let a = mapped (λ name. op.New name) (value_of (class_at pool index)) o k in
        let f = class_found pool index a.0 fit (value_is (class_at pool index) a.0 a.1) in
        inl (a.0, eqb-true c 0xBB e, (small, f.0, f.1), sym a.2)
    by false e k =
        let a = both_there (of_type c) (type_at pool index) o k in
        let t = of_type_found c a.0 o (can_be_operand c a.0) refl a.2 in
        inr (a.0, small, type_found pool index a.0 fit a.1, t.0, t.1)

-- an opcode on a type is not that of new
not_new : (c : ℕ) (b : Bool) → eqb c 0xBB ≡ b → is_some (type_op c) ≡ true → b ≡ false
not_new c true e h = absurd
    (let none : is_some (type_op c) ≡ false = ap (λ (n : ℕ). is_some (type_op n)) (eqb-true c 0xBB e) in cc)
not_new c false e h = refl

pub class_op_only : (pool : List Entry) (c index : ℕ) (o : Op) → IsOfType pool c index o
    → (index < 2 ^ 16) × (class_op c pool index ≡ Some o)
class_op_only pool c index o (inl h) =
    let same : eqb c 0xBB ≡ true = eq-eqb c 0xBB h.1 in
    let there = class_only pool index h.0 h.2.1 h.2.2 in
    (h.2.0, rw (same, there) (ap (λ (x : Op). Some x) (sym h.3)))
class_op_only pool c index o (inr h) =
    let m = makes_by (type_op c) h.0 o h.4 in
    let t = m.1 in
    let other : eqb c 0xBB ≡ false = not_new c (eqb c 0xBB) refl (ap is_some t) in
    let there = type_only pool index h.0 h.2 in
    let can = element_only c h.0 h.3 in
    (h.1, rw (other, there, can, t) (ap (λ (x : Op). Some x) m.2))
