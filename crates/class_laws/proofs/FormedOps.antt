-- Instructions that bytes stand for are those of a well-formed code (JVMS 4.9.1, 6.5).
use Rattle.std.proofs.Common.{◌≡◌, ◌⊎◌, inl, inr, ℕ, zero, suc, ◌+◌, ◌-◌, ◌^◌, ◌<◌, ◌≤◌, Bool, true, false, cond, eqb}
use Rattle.std.proofs.Common.{ltb, List, [], ◌∷◌, length, get_or, Option, Some, None, ℤ, pos, negsuc, ◌+ℤ◌, ◌-ℤ◌}
use Rattle.std.proofs.Common.{◌<ℤ◌, ◌≤ℤ◌, slice_get, refl, sym, ap, subst, ◌∙◌, arith, SFits}
use Rattle.std.specs.Prelude.{IfSome, option_and_then, option_map}
use Rattle.std.specs.Int.{w8, w16, w32, cast_signed}
use Rattle.std.specs.Int.RustNames.{FitsSigned}
use Rattle.std.specs.List.{AllByRecursion, AllZip, list_all, range_with_len}
use Rattle.std.proofs.Math.Facts.{sfits_to_z, sfits_widen}
use Rattle.std.proofs.lemmas.Int.{ints}
use Rattle.std.proofs.lemmas.Bool.{and_parts, eqb-true, ltb-true, cases_lt}
use Rattle.std.proofs.lemmas.Option.{slice_get_within}
use Rattle.std.proofs.lemmas.List.FromFn.{get_or-range_with_len}
use Rattle.jv_base.specs.Types.{argument_words, IsMethodType, method_text}
use Rattle.jv_base.specs.declared.types.FieldType.{FieldType}
use Rattle.jv_base.specs.declared.types.MethodType.{MethodType}
use Rattle.jv_base.proofs.Options.{mapped, both_there}
use Rattle.jv_base.proofs.Lists.{all_at}
use Rattle.class_model.specs.declared.pool.Entry.{Entry}
use Rattle.class_model.specs.declared.pool.Entry.TheVariants as entry
use Rattle.class_model.specs.declared.op.MemberRef.{MemberRef}
use Rattle.class_model.specs.declared.op.Case.{Case}
use Rattle.class_model.specs.declared.op.Kind.{Kind}
use Rattle.class_model.specs.declared.op.Cond.{Cond}
use Rattle.class_model.specs.declared.op.Op.{Op}
use Rattle.class_model.specs.declared.op.Op.TheVariants as op
use Rattle.class_model.specs.Between.{int_between, between}
use Rattle.class_model.specs.ConstantPool.{string_index_in}
use Rattle.class_model.specs.Pool.{units_at}
use Rattle.class_model.specs.Opcodes.{kind_of, cond_of, plain_op, local_op, branch_op, field_op, method_op}
use Rattle.class_model.specs.Opcodes.{takes_interface_method, type_op, array_type_of}
use Rattle.class_model.specs.InstructionStructure.{MatchOffset, Info, Plain, Bipush, Sipush, Ldc, LdcWide, Local}
use Rattle.class_model.specs.InstructionStructure.{WideLocal, Iinc, WideIinc, Branch, GotoWide, TableSwitch}
use Rattle.class_model.specs.InstructionStructure.{LookupSwitch, MemberOperand, InvokeInterface, ClassOperand, NewArray}
use Rattle.class_model.specs.InstructionStructure.{MultiNewArray}
use Rattle.class_model.specs.Instructions.{Makes, IsLoaded, IsLoadedLong, IsMember, IsOfType, Leads4, IsCase, IsOp}
use Rattle.class_model.specs.Instructions.{Begins}
use Rattle.class_model.specs.WellFormed.{IsClassOrArray, IsFieldReference, IsMethodReference, IsGoodOp, HasFewWords}
use Rattle.class_model.specs.OpValues.{IsReferenceValue, IsOpValue}
use Rattle.class_model.proofs.NameLaw.{HaveUnits}
use Rattle.class_model.proofs.LookupLaw.{method_only}
use Rattle.class_model.proofs.ConstantLaw.{AllNameRight}
use Rattle.class_model.proofs.BackNumbers.{short_fits}
use Rattle.class_laws.specs.ClassValues.{IsPushValue, IsFieldTypeValue}
use Rattle.class_laws.proofs.FormedPool.{EntryFits, class_formed, type_formed, field_formed, method_formed}
use Rattle.class_laws.proofs.FormedPool.{interface_formed}
use Rattle.class_model.proofs.InstructionOnly.{none_alone}

-- the instruction of a code of n is well formed, and its numbers and texts are in range
pub record IsFormed (n : ℕ) (o : Op) : Type 0 where
  pub good : IsGoodOp n o
  pub words : HasFewWords o
  pub value : IsOpValue o
  pub pushed : IsPushValue o

-- ---- instructions without operands

-- it refers to nothing, and its number is small
abbrev is_small : Op → Bool
is_small (op.PushInt z) = int_between (negsuc 32767) (pos 32767) z
is_small (op.PushLong z) = int_between (negsuc 32767) (pos 32767) z
is_small (op.Load k slot) = ltb slot 4
is_small (op.Store k slot) = ltb slot 4
is_small op.Nop = true
is_small op.PushNull = true
is_small (op.ALoad e) = true
is_small (op.AStore e) = true
is_small op.Pop = true
is_small op.Pop2 = true
is_small op.Dup = true
is_small op.DupX1 = true
is_small op.DupX2 = true
is_small op.Dup2 = true
is_small op.Dup2X1 = true
is_small op.Dup2X2 = true
is_small op.Swap = true
is_small (op.Arith a k) = true
is_small (op.Neg k) = true
is_small (op.Shift s k) = true
is_small (op.Logic l k) = true
is_small (op.Conv c) = true
is_small op.LCmp = true
is_small (op.Return k) = true
is_small op.ArrayLength = true
is_small op.Throw = true
is_small _ = false

small_slot : (slot : ℕ) → ltb slot 4 ≡ true → slot < 2 ^ 16
small_slot slot h = let lt : slot < 4 = ltb-true slot 4 h in omega (arith, lt)

small_formed : (n : ℕ) (o : Op) → is_small o ≡ true → IsFormed n o
small_formed n (op.PushInt z) h = record { good = tt; words = tt; value = tt; pushed = sfits_widen tt (short_fits z h) }
small_formed n (op.PushLong z) h = record {
  good = tt;
  words = tt;
  value = tt;
  pushed = sfits_widen tt
      (short_fits z h);
}
small_formed n (op.Load k slot) h = record { good = tt; words = tt; value = small_slot slot h; pushed = tt }
small_formed n (op.Store k slot) h = record { good = tt; words = tt; value = small_slot slot h; pushed = tt }
small_formed n op.Nop h = record { good = tt; words = tt; value = tt; pushed = tt }
small_formed n op.PushNull h = record { good = tt; words = tt; value = tt; pushed = tt }
small_formed n (op.ALoad e) h = record { good = tt; words = tt; value = tt; pushed = tt }
small_formed n (op.AStore e) h = record { good = tt; words = tt; value = tt; pushed = tt }
small_formed n op.Pop h = record { good = tt; words = tt; value = tt; pushed = tt }
small_formed n op.Pop2 h = record { good = tt; words = tt; value = tt; pushed = tt }
small_formed n op.Dup h = record { good = tt; words = tt; value = tt; pushed = tt }
small_formed n op.DupX1 h = record { good = tt; words = tt; value = tt; pushed = tt }
small_formed n op.DupX2 h = record { good = tt; words = tt; value = tt; pushed = tt }
small_formed n op.Dup2 h = record { good = tt; words = tt; value = tt; pushed = tt }
small_formed n op.Dup2X1 h = record { good = tt; words = tt; value = tt; pushed = tt }
small_formed n op.Dup2X2 h = record { good = tt; words = tt; value = tt; pushed = tt }
small_formed n op.Swap h = record { good = tt; words = tt; value = tt; pushed = tt }
small_formed n (op.Arith a k) h = record { good = tt; words = tt; value = tt; pushed = tt }
small_formed n (op.Neg k) h = record { good = tt; words = tt; value = tt; pushed = tt }
small_formed n (op.Shift s k) h = record { good = tt; words = tt; value = tt; pushed = tt }
small_formed n (op.Logic l k) h = record { good = tt; words = tt; value = tt; pushed = tt }
small_formed n (op.Conv c) h = record { good = tt; words = tt; value = tt; pushed = tt }
small_formed n op.LCmp h = record { good = tt; words = tt; value = tt; pushed = tt }
small_formed n (op.Return k) h = record { good = tt; words = tt; value = tt; pushed = tt }
small_formed n op.ArrayLength h = record { good = tt; words = tt; value = tt; pushed = tt }
small_formed n op.Throw h = record { good = tt; words = tt; value = tt; pushed = tt }
small_formed n _ h = absurd cc

-- each of the table is
abbrev small_there : Option Op → Bool
small_there None = true
small_there (Some o) = is_small o

table_small : list_all (λ c. small_there (plain_op c)) (range_with_len 0 256) ≡ true
table_small = refl

each_passes : (p : ℕ → Bool) (xs : List ℕ) (i : ℕ) → list_all p xs ≡ true → i < length xs → p (get_or xs i 0) ≡ true
each_passes p [] i h lt = absurd (omega (arith, lt))
each_passes p (x ∷ xs) zero h lt = (and_parts (p x) (list_all p xs) h).0
each_passes p (x ∷ xs) (suc i) h lt = each_passes p xs i (and_parts (p x) (list_all p xs) h).1 (omega (arith, lt))

plain_small : (c : ℕ) (o : Op) → plain_op c ≡ Some o → is_small o ≡ true
plain_small c o h = elim (cases_lt c 256) [
  | inl lt ↦
      let at : get_or (range_with_len 0 256) c 0 ≡ c = get_or-range_with_len 0 256 c 0 lt
      ∙ (let e : 0 + c ≡ c = omega arith in e) in
      let passes = each_passes (λ k. small_there (plain_op k)) (range_with_len 0 256) c table_small lt in
      sym (ap small_there h) ∙ sym (ap (λ (k : ℕ). small_there (plain_op k)) at) ∙ passes
  | inr le ↦ absurd (let none = none_alone c le in cc)
]

-- ---- what tables make of operands

-- of an operand
made : {A : Type 0} (n : ℕ) (P : A → Type 0) (table : Option (A → Op)) (x : A) (o : Op)
    → IfSome table (λ (make : A → Op). (y : A) → P y → IsFormed n (make y)) → Makes table x o → P x → IsFormed n o
made n P table x o h m p =
    let t = mapped (λ (make : _ → Op). make x) table o m in
    let all = subst (λ (f : Option (_ → Op)). IfSome f (λ (make : _ → Op). (y : _) → P y
    → IsFormed n (make y))) t.1 h in
    subst (λ (r : Op). IsFormed n r) t.2 (all x p)

module _ (n : ℕ) where
  abbrev Slot : (ℕ → Op) → Type 0
  Slot make = (slot : ℕ) → slot < 2 ^ 16 → IsFormed n (make slot)

  local_by : (a b : Bool) (x y : Option Kind)
      → IfSome (cond a (option_map (λ (k : Kind) (slot : ℕ). op.Load k slot) x)
      (cond b (option_map (λ (k : Kind) (slot : ℕ). op.Store k slot) y) None)) Slot
  local_by true b None y = tt
  local_by true b (Some k) y = λ slot lt. record { good = tt; words = tt; value = lt; pushed = tt }
  local_by false true x None = tt
  local_by false true x (Some k) = λ slot lt. record { good = tt; words = tt; value = lt; pushed = tt }
  local_by false false x y = tt

  local_made : (c : ℕ) → IfSome (local_op c) Slot
  local_made c = local_by (between 0x15 0x19 c) (between 0x36 0x3A c) (kind_of (c - 0x15)) (kind_of (c - 0x36))

  abbrev Target : (ℕ → Op) → Type 0
  Target make = (to : ℕ) → to < n → IsFormed n (make to)

  either : (b : Bool) (make : ℕ → Op) (other : Option (ℕ → Op)) → Target make → IfSome other Target
      → IfSome (cond b (Some make) other) Target
  either true make other h k = h
  either false make other h k = k

  branch_by : (a b : Bool) (x y : Option Cond) (other : Option (ℕ → Op)) → IfSome other Target
      → IfSome (cond a (option_map (λ (c : Cond) (to : ℕ). op.IfZero c to) x)
      (cond b (option_map (λ (c : Cond) (to : ℕ). op.IfCmp c to) y) other)) Target
  branch_by true b None y other h = tt
  branch_by true b (Some c) y other h = λ to lt. record { good = lt; words = tt; value = tt; pushed = tt }
  branch_by false true x None other h = tt
  branch_by false true x (Some c) other h = λ to lt. record { good = lt; words = tt; value = tt; pushed = tt }
  branch_by false false x y other h = h

  branch_made : (c : ℕ) → IfSome (branch_op c) Target
  branch_made c =
      let f : Option (ℕ → Op) = cond (eqb c 0xC7) (Some (λ to. op.IfNull false to)) None in
      let e : Option (ℕ → Op) = cond (eqb c 0xC6) (Some (λ to. op.IfNull true to)) f in
      let d : Option (ℕ → Op) = cond (eqb c 0xA7) (Some op.Goto) e in
      let b : Option (ℕ → Op) = cond (eqb c 0xA6) (Some (λ to. op.IfRef false to)) d in
      let a : Option (ℕ → Op) = cond (eqb c 0xA5) (Some (λ to. op.IfRef true to)) b in
      branch_by (between 0x99 0x9E c) (between 0x9F 0xA4 c) (cond_of (c - 0x99)) (cond_of (c - 0x9F)) a
      (either (eqb c 0xA5) (λ to. op.IfRef true to) b
      (λ to lt. record { good = lt; words = tt; value = tt; pushed = tt })
      (either (eqb c 0xA6) (λ to. op.IfRef false to) d
      (λ to lt. record { good = lt; words = tt; value = tt; pushed = tt })
      (either (eqb c 0xA7) op.Goto e (λ to lt. record { good = lt; words = tt; value = tt; pushed = tt })
      (either (eqb c 0xC6) (λ to. op.IfNull true to) f
      (λ to lt. record { good = lt; words = tt; value = tt; pushed = tt })
      (either (eqb c 0xC7) (λ to. op.IfNull false to) None
      (λ to lt. record { good = lt; words = tt; value = tt; pushed = tt }) tt)))))

  -- ---- members

  abbrev IsField : MemberRef → Type 0
  IsField r = IsFieldReference r × IsReferenceValue r

  abbrev OnField : (MemberRef → Op) → Type 0
  OnField make = (r : MemberRef) → IsField r → IsFormed n (make r)

  field_by : (a b c d : Bool)
      → IfSome (cond a (Some op.GetStatic) (cond b (Some op.PutStatic)
      (cond c (Some op.GetField) (cond d (Some op.PutField) None)))) OnField
  field_by true b c d = λ r h. record { good = h.0; words = tt; value = h.1; pushed = tt }
  field_by false true c d = λ r h. record { good = h.0; words = tt; value = h.1; pushed = tt }
  field_by false false true d = λ r h. record { good = h.0; words = tt; value = h.1; pushed = tt }
  field_by false false false true = λ r h. record { good = h.0; words = tt; value = h.1; pushed = tt }
  field_by false false false false = tt

  -- a method of a class, or one of an interface where the opcode takes it
  abbrev IsMethod : Bool → MemberRef → Type 0
  IsMethod takes r = IsMethodReference r × IsReferenceValue r × ((r.of_interface ≡ false) ⊎ (takes ≡ true))

  abbrev OnMethod : Bool → (MemberRef → Op) → Type 0
  OnMethod takes make = (r : MemberRef) → IsMethod takes r → IsFormed n (make r)

  of_class : (b : Bool) (r : MemberRef) → b ≡ false → (r.of_interface ≡ false) ⊎ (b ≡ true) → r.of_interface ≡ false
  of_class b r e (inl h) = h
  of_class b r e (inr h) = absurd (let k : true ≡ false = sym h ∙ e in cc)

  method_by : (a b c : Bool) (takes : Bool) → (a ≡ true → takes ≡ false)
      → IfSome (cond a (Some op.InvokeVirtual) (cond b (Some op.InvokeSpecial) (cond c (Some op.InvokeStatic) None)))
      (OnMethod takes)
  method_by true b c takes e = λ r h. record {
    good =
        (h.0, of_class takes r (e refl) h.2);
    words = tt;
    value = h.1;
    pushed = tt;
  }
  method_by false true c takes e = λ r h. record { good = h.0; words = tt; value = h.1; pushed = tt }
  method_by false false true takes e = λ r h. record { good = h.0; words = tt; value = h.1; pushed = tt }
  method_by false false false takes e = tt

  method_made : (c : ℕ) → IfSome (method_op c) (OnMethod (takes_interface_method c))
  method_made c = method_by (eqb c 0xB6) (eqb c 0xB7) (eqb c 0xB8) (takes_interface_method c)
      (λ e. ap takes_interface_method (eqb-true c 0xB6 e))

  -- ---- types

  abbrev IsType : ℕ → FieldType → Type 0
  IsType c ty = IsClassOrArray ty × IsFieldTypeValue ty × (c ≡ 0xBD → ty.dims ≤ 254)

  abbrev OfType : ℕ → (FieldType → Op) → Type 0
  OfType c make = (ty : FieldType) → IsType c ty → IsFormed n (make ty)

  type_by : (a b d : Bool) (c : ℕ) → (a ≡ true → c ≡ 0xBD)
      → IfSome (cond a (Some op.ANewArray) (cond b (Some op.CheckCast) (cond d (Some op.InstanceOf) None))) (OfType c)
  type_by true b d c e = λ ty h. record { good = (h.0, h.2 (e refl)); words = tt; value = h.1; pushed = tt }
  type_by false true d c e = λ ty h. record { good = h.0; words = tt; value = h.1; pushed = tt }
  type_by false false true c e = λ ty h. record { good = h.0; words = tt; value = h.1; pushed = tt }
  type_by false false false c e = tt

-- ---- targets

begins_below : (starts : List ℕ) (n : ℕ) (target : ℤ) (to : ℕ) → length starts ≡ n → Begins starts target to → to < n
begins_below starts n target to e h = subst (λ (k : ℕ). to < k) e (slice_get_within starts to h.0 h.2)

targets_below : (starts : List ℕ) (n at : ℕ) (offsets tos : List ℕ) → length starts ≡ n
    → AllZip (Leads4 (Begins starts) at) offsets tos → AllByRecursion (λ to. to < n) tos × (length tos ≡ length offsets)
targets_below starts n at [] [] e h = (tt, refl)
targets_below starts n at [] (t ∷ ts) e h = absurd h
targets_below starts n at (o ∷ os) [] e h = absurd h
targets_below starts n at (o ∷ os) (t ∷ ts) e h = let r = targets_below starts n at os ts e h.1 in
    ((begins_below starts n _ t e h.0.1, r.0), ap suc r.1)

cases_below : (starts : List ℕ) (n at : ℕ) (pairs : List MatchOffset) (cs : List Case) → length starts ≡ n
    → AllZip (IsCase (Begins starts) at) pairs cs
    → AllByRecursion (λ (c : Case). c.to < n) cs × AllByRecursion (λ (c : Case). FitsSigned w32 c.key) cs
cases_below starts n at [] [] e h = (tt, tt)
cases_below starts n at [] (c ∷ cs) e h = absurd h
cases_below starts n at (p ∷ ps) [] e h = absurd h
cases_below starts n at (p ∷ ps) (c ∷ cs) e h =
    let r = cases_below starts n at ps cs e h.1 in (
      (begins_below starts n _ c.to e h.0.leads.1, r.0),
      (subst (λ (z : ℤ). FitsSigned w32 z) (sym h.0.key) (sfits_to_z (record { fits = h.0.key_fits })), r.1),
    )

-- ---- all instructions

-- a tableswitch reaches its last key
table_most : (low high : ℤ) (count : ℕ) → SFits w32 high → pos count ≡ high -ℤ low +ℤ pos 1
    → (low +ℤ pos count) <ℤ pos (2 ^ 31 + 1)
table_most low (pos h) count fits counted = let k : h < 2 ^ 31 = fits.sfits in omega (arith, ints, k, counted)
table_most low (negsuc h) count fits counted = omega (arith, ints, counted)

table_least : (low high : ℤ) (count : ℕ) → low ≤ℤ high → pos count ≡ high -ℤ low +ℤ pos 1 → 0 < count
table_least low high count le counted = omega (arith, ints, le, counted)

module _ (pool : List Entry) (units : HaveUnits pool) (right : AllNameRight pool) (fits : AllByRecursion EntryFits pool)
    (starts : List ℕ) (n : ℕ) (long : length starts ≡ n) where
  int_formed : (z : ℤ) → FitsSigned w32 z → IsFormed n (op.PushInt z)
  int_formed z h = record { good = tt; words = tt; value = tt; pushed = h }

  loaded_formed : (index : ℕ) (o : Op) → IsLoaded pool index o → IsFormed n o
  loaded_formed index o (inl h) = subst (λ (r : Op). IsFormed n r) (sym h.2)
      (int_formed h.0 (all_at EntryFits pool index (entry.Integer h.0) fits h.1))
  loaded_formed index o (inr h) =
      let b = both_there (units_at pool) (option_and_then string_index_in (slice_get pool index)) h.0 h.1 in
      subst (λ (r : Op). IsFormed n r) (sym h.2)
      (record { good = units b.0 h.0 b.2; words = tt; value = tt; pushed = tt })

  wide_formed : (c index : ℕ) (o : Op) → ((c ≡ 0x13) × IsLoaded pool index o) ⊎ ((c ≡ 0x14) × IsLoadedLong pool index o)
      → IsFormed n o
  wide_formed c index o (inl h) = loaded_formed index o h.1
  wide_formed c index o (inr h) = subst (λ (r : Op). IsFormed n r) (sym h.1.2)
      (record { good = tt; words = tt; value = tt; pushed = all_at EntryFits pool index (entry.Long h.1.0) fits h.1.1 })

  inc_formed : (slot : ℕ) (delta : ℤ) (o : Op) → slot < 2 ^ 16 → FitsSigned w16 delta → o ≡ op.Inc slot delta
      → IsFormed n o
  inc_formed slot delta o lt fit e = subst (λ (r : Op). IsFormed n r) (sym e)
      (record { good = tt; words = tt; value = (lt, fit); pushed = tt })

  member_formed : (c index : ℕ) (r : MemberRef) (o : Op) → IsMember pool c index r o → IsFormed n o
  member_formed c index r o (inl h) =
      let f = field_formed pool right index r h.0.0 in
      made n (IsField n) (field_op c) r o (field_by n (eqb c 0xB2) (eqb c 0xB3) (eqb c 0xB4) (eqb c 0xB5)) h.1
      ((f.0, h.0.1), f.1)
  member_formed c index r o (inr (inl h)) =
      let f = method_formed pool right index r h.0.0 in
      made n (IsMethod n (takes_interface_method c)) (method_op c) r o (method_made n c) h.1 (f.0, f.1, inl h.0.1)
  member_formed c index r o (inr (inr h)) =
      let f = interface_formed pool right index r h.0.0 in
      made n (IsMethod n (takes_interface_method c)) (method_op c) r o (method_made n c) h.2 (f.0, f.1, inr h.1)

  type_is : (c index : ℕ) (o : Op) → IsOfType pool c index o → IsFormed n o
  type_is c index o (inl h) = subst (λ (r : Op). IsFormed n r) (sym h.3)
      (record { good = class_formed pool index h.0 h.2; words = tt; value = tt; pushed = tt })
  type_is c index o (inr h) =
      let t = type_formed pool index h.0 h.2 in
      made n (IsType n c) (type_op c) h.0 o
      (type_by n (eqb c 0xBD) (eqb c 0xC0) (eqb c 0xC1) c (λ e. eqb-true c 0xBD e)) h.4 (t.0, t.1, h.3)

  few_words : (count : ℕ) (r : MemberRef) (ty : MethodType) → IsMethodType ty → r.ty ≡ method_text ty → count < 2 ^ 8
      → count ≡ argument_words ty.args + 1 → HasFewWords (op.InvokeInterface r)
  few_words count r ty typed text lt counted other is e =
      let s : (let o : Option MethodType = Some ty in o) ≡ Some other = sym (method_only r.ty ty typed text)
      ∙ method_only r.ty other is e in
      let one : ty ≡ other = cc in
      subst (λ (t : MethodType). argument_words t.args ≤ 254) one (omega (arith, lt, counted))

  pub op_formed : (at : ℕ) (info : Info) (o : Op) → IsOp (Begins starts) pool at info o → IsFormed n o
  op_formed at (Plain c) o h = small_formed n o (plain_small c o h)
  op_formed at (Bipush byte) o h = subst (λ (r : Op). IsFormed n r) (sym h.1)
      (int_formed (cast_signed w8 byte) (sfits_widen {w = w8} tt (sfits_to_z (record { fits = h.0 }))))
  op_formed at (Sipush short) o h = subst (λ (r : Op). IsFormed n r) (sym h.1)
      (int_formed (cast_signed w16 short) (sfits_widen {w = w16} tt (sfits_to_z (record { fits = h.0 }))))
  op_formed at (Ldc index) o h = loaded_formed index o h.1
  op_formed at (LdcWide c index) o h = wide_formed c index o h.1
  op_formed at (Local c index) o h = made n (λ slot. slot < 2 ^ 16) (local_op c) index o (local_made n c) h.1
      (let lt = h.0 in omega (arith, lt))
  op_formed at (WideLocal c index) o h = made n (λ slot. slot < 2 ^ 16) (local_op c) index o (local_made n c) h.1 h.0
  op_formed at (Iinc index const) o h = inc_formed index (cast_signed w8 const) o (let lt = h.0 in omega (arith, lt))
      (sfits_widen {w = w8} tt (sfits_to_z (record { fits = h.1 }))) h.2
  op_formed at (WideIinc index const) o h = inc_formed index (cast_signed w16 const) o h.0
      (sfits_to_z (record { fits = h.1 })) h.2
  op_formed at (Branch c branch) o h = made n (λ to. to < n) (branch_op c) h.1 o (branch_made n c) h.3
      (begins_below starts n _ h.1 long h.2)
  op_formed at (GotoWide branch) o h = subst (λ (r : Op). IsFormed n r) (sym h.2)
      (record { good = begins_below starts n _ h.0 long h.1.1; words = tt; value = tt; pushed = tt })
  op_formed at (TableSwitch pad default low high offsets) o h =
      let t = targets_below starts n at offsets h.cases long h.cases_lead in
      let counted : pos (length h.cases)
      ≡ cast_signed w32 high -ℤ cast_signed w32 low +ℤ pos 1 = ap (λ (k : ℕ). pos k) t.1 ∙ h.counted in
      subst (λ (r : Op). IsFormed n r) (sym h.is) (record {
        good = record {
          other_target = begins_below starts n _ h.other long h.other_leads.1;
          targets = t.0;
          least = table_least (cast_signed w32 low) (cast_signed w32 high) (length h.cases) h.range counted;
          most = table_most (cast_signed w32 low) (cast_signed w32 high) (length h.cases)
              (sfits_to_z (record { fits = h.high_fits })) counted;
        };
        words = tt;
        value = sfits_to_z (record { fits = h.low_fits });
        pushed = tt;
      })
  op_formed at (LookupSwitch pad default pairs) o h =
      let t = cases_below starts n at pairs h.cases long h.cases_lead in
      subst (λ (r : Op). IsFormed n r) (sym h.is) (record {
        good = record {
          other_target = begins_below starts n _ h.other long h.other_leads.1;
          targets = t.0;
          ascending = h.ascending;
        };
        words = tt;
        value = t.1;
        pushed = tt;
      })
  op_formed at (MemberOperand c index) o h = member_formed c index h.0 o h.1
  op_formed at (InvokeInterface index count) o h =
      let f = interface_formed pool right index h.reference h.refers.0 in
      subst (λ (r : Op). IsFormed n r) (sym h.is) (record {
        good = (f.0, h.refers.1);
        words = few_words count h.reference h.ty h.typed h.descriptor h.count_fits h.counted;
        value = f.1;
        pushed = tt;
      })
  op_formed at (ClassOperand c index) o h = type_is c index o h
  op_formed at (NewArray atype) o h =
      let m = mapped op.NewArray (array_type_of atype) o h in
      subst (λ (r : Op). IsFormed n r) m.2 (record { good = (atype, m.1); words = tt; value = tt; pushed = tt })
  op_formed at (MultiNewArray index dimensions) o h =
      let t = type_formed pool index h.ty h.typed in
      subst (λ (r : Op). IsFormed n r) (sym h.is)
      (record { good = (t.0.0, h.least, h.most); words = tt; value = t.1; pushed = tt })
