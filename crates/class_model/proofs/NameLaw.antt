-- What an entry of the constant pool names is found right exactly where it is right (JVMS 4.4).
use Rattle.std.proofs.Common.{◌≡◌, ℕ, ◌<◌, Bool, true, false, cond, ◌||◌, eqb, List, Option, Some, None, Result, Ok}
use Rattle.std.proofs.Common.{Err, ◌⊎◌, inl, inr, refl, sym, ap, subst, ◌∙◌, arith}
use Rattle.std.specs.Prelude.{slice_get, is_some, option_and_then}
use Rattle.std.proofs.lemmas.Bool.{eqb-false, ne_eqb}
use Rattle.jv_base.specs.Outcome.{◌>>=◌}
use Rattle.jv_base.specs.Mutf8.{IsUnits}
use Rattle.jv_base.specs.Utf16.{units_of}
use Rattle.jv_base.specs.Names.{is_class_name, is_member_name, is_method_name}
use Rattle.jv_base.specs.Types.{field_text, IsFieldType}
use Rattle.jv_base.specs.Descriptors.{read_field, read_method}
use Rattle.jv_base.specs.declared.types.FieldType.{FieldType}
use Rattle.jv_base.proofs.FieldLaw.{read_field-found, read_field-only}
use Rattle.jv_base.proofs.MethodLaw.{read_method-found, read_method-only}
use Rattle.jv_base.proofs.Results.{then_ok}
use Rattle.jv_base.proofs.Options.{some_there, both_there}
use Rattle.format_reading.specs.declared.fault.FormatKind.{FormatKind}
use Rattle.format_reading.specs.declared.fault.FormatKind.TheVariants as bad
use Rattle.class_model.specs.declared.pool.Entry.{Entry}
use Rattle.class_model.specs.declared.pool.Entry.TheVariants as entry
use Rattle.class_model.specs.Pool.{units_at, name_index_in, IsText, IsTypeText}
use Rattle.class_model.specs.ConstantPool.{IsFieldText, IsMethodText, name_and_type_in, name_and_type_at, class_type}
use Rattle.class_model.specs.ConstantPool.{IsNameOfType, IsTypeAt, RefersRight, NamesRight}
use Rattle.class_model.specs.Lookups.{due, test, value_of, text_of, field_type_of, method_type_of, only_array}
use Rattle.class_model.specs.Lookups.{named_type, text_at, good_text_at, is_field_text, is_method_text, is_descriptor}
use Rattle.class_model.specs.Lookups.{test_of_units, refers_right, names_right}
use Rattle.class_model.proofs.TextLaw.{text_found}
use Rattle.class_model.proofs.BackEntries.{text_back}

-- ---- a value, or a kind of fault

-- a value that had to be there
pub due_is : {A : Type 0} (kind : FormatKind) (o : Option A) (x : A) → due kind o ≡ Ok x → o ≡ Some x
due_is kind (Some y) x h = let e : y ≡ x = cc in ap (λ v. Some v) e
due_is kind None x h = absurd cc

-- a test that passed
pub test_is : (kind : FormatKind) (b : Bool) (u : Unit {0}) → test kind b ≡ Ok u → b ≡ true
test_is kind true u h = refl
test_is kind false u h = absurd cc

-- a value that was read
pub value_is : {A X : Type 0} (r : Result A X) (x : A) → value_of r ≡ Some x → r ≡ Ok x
value_is (Ok y) x h = let e : y ≡ x = cc in ap (λ v. Ok v) e
value_is (Err e) x h = absurd cc

-- ---- texts

-- the units of texts in the pool are numbers of 16 bits
abbrev pub HaveUnits : List Entry → Type 0
HaveUnits pool = (index : ℕ) (units : List ℕ) → units_at pool index ≡ Some units → IsUnits units

-- the units at an index that were read as a text are those of the text
pub text_at_found : (pool : List Entry) (kind : FormatKind) (index : ℕ) (text : List ℕ) → HaveUnits pool
    → text_at kind pool index ≡ Ok text → IsText (units_at pool index) text
text_at_found pool kind index text fit h =
    let a = then_ok (due bad.BadIndex (units_at pool index)) (λ units. due kind (text_of units)) text h in
    let there : units_at pool index ≡ Some a.0 = due_is bad.BadIndex (units_at pool index) a.0 a.1 in
    let f = text_found a.0 text (fit index a.0 there) (due_is kind (text_of a.0) text a.2) in
    (f.0, there ∙ ap (λ (u : List ℕ). Some u) f.1)

-- the units of a text at an index are read as it
pub text_at_only : (pool : List Entry) (kind : FormatKind) (index : ℕ) (text : List ℕ)
    → IsText (units_at pool index) text → text_at kind pool index ≡ Ok text
text_at_only pool kind index text h = rw (h.1, text_back text h.0) refl

-- a text that passes a test
pub good_found : (pool : List Entry) (kind : FormatKind) (passes : List ℕ → Bool) (index : ℕ) (text : List ℕ)
    → HaveUnits pool → good_text_at kind passes pool index ≡ Ok text
    → IsText (units_at pool index) text × (passes text ≡ true)
good_found pool kind passes index text fit h =
    let a = then_ok (text_at kind pool index) (λ t. test kind (passes t) >>= (λ good. Ok t)) text h in
    let b = then_ok (test kind (passes a.0)) (λ good. Ok a.0) text a.2 in
    let is : a.0 ≡ text = (let e : Ok a.0 ≡ Ok text = b.2 in cc) in (
      subst (λ (t : List ℕ). IsText (units_at pool index) t) is (text_at_found pool kind index a.0 fit a.1),
      subst
          (λ (t : List ℕ). passes t ≡ true) is (test_is kind (passes a.0) b.0 b.1),
    )

pub good_only : (pool : List Entry) (kind : FormatKind) (passes : List ℕ → Bool) (index : ℕ) (text : List ℕ)
    → IsText (units_at pool index) text → passes text ≡ true → good_text_at kind passes pool index ≡ Ok text
good_only pool kind passes index text h good = rw (h.1, text_back text h.0, good) refl

-- ---- types

-- a field descriptor is read
field_found : (text : List ℕ) → is_field_text text ≡ true → IsFieldText text
field_found text h =
    let s = some_there (field_type_of text) h in
    let f = read_field-found text s.0 (value_is (read_field text) s.0 s.1) in
    (s.0, f.0, sym f.1)

field_only : (text : List ℕ) → IsFieldText text → is_field_text text ≡ true
field_only text h = ap (λ r. is_some (value_of r)) (read_field-only text h.0 (h.1, sym h.2))

-- a method descriptor is read
method_found : (text : List ℕ) → is_method_text text ≡ true → IsMethodText text
method_found text h =
    let s = some_there (method_type_of text) h in
    let f = read_method-found text s.0 (value_is (read_method text) s.0 s.1) in
    (s.0, f.0, sym f.1)

method_only : (text : List ℕ) → IsMethodText text → is_method_text text ≡ true
method_only text h = ap (λ r. is_some (value_of r)) (read_method-only text h.0 (h.1, sym h.2))

-- either descriptor
descriptor_found : (text : List ℕ) → is_descriptor text ≡ true → IsFieldText text ⊎ IsMethodText text
descriptor_found text h = by (is_field_text text) refl h
  where
    by : (b : Bool) → is_field_text text ≡ b → (b || is_method_text text) ≡ true → IsFieldText text ⊎ IsMethodText text
    by true e g = inl (field_found text e)
    by false e g = inr (method_found text g)

descriptor_only : (text : List ℕ) → IsFieldText text ⊎ IsMethodText text → is_descriptor text ≡ true
descriptor_only text (inl h) = rw (field_only text h) refl
descriptor_only text (inr h) = by (is_field_text text)
  where
    by : (b : Bool) → (b || is_method_text text) ≡ true
    by true = refl
    by false = method_only text h

-- an array type of a text that is no class name
array_found : (text : List ℕ) (ty : FieldType) → option_and_then only_array (field_type_of text) ≡ Some ty
    → IsFieldType ty × (0 < ty.dims) × (text ≡ field_text ty)
array_found text ty h =
    let a = both_there only_array (field_type_of text) ty h in
    let f = read_field-found text a.0 (value_is (read_field text) a.0 a.1) in
    let some = by a.0 (eqb a.0.dims 0) refl a.2 in (
      subst (λ (t : FieldType). IsFieldType t) some.1 f.0,
      subst (λ (t : FieldType). 0 < t.dims) some.1 some.0,
      sym f.1
          ∙ ap field_text some.1,
    )
  where
    by : (t : FieldType) (b : Bool) → eqb t.dims 0 ≡ b → cond b None (Some t) ≡ Some ty → (0 < t.dims) × (t ≡ ty)
    by t true e g = absurd cc
    by t false e g = (let d : t.dims ≡ 0 → ⊥ = eqb-false t.dims 0 e in grind arith, cc)

-- the type that a text names
pub named_found : (text : List ℕ) (ty : FieldType) → named_type text ≡ Some ty → IsTypeText text × IsNameOfType text ty
named_found text ty h = by (is_class_name text) refl h
  where
    by : (b : Bool) → is_class_name text ≡ b
        → cond b (Some (class_type text)) (option_and_then only_array (field_type_of text)) ≡ Some ty
        → IsTypeText text × IsNameOfType text ty
    by true e g = (inl e, inl (sym (let k : class_type text ≡ ty = cc in k)))
    by false e g = let a = array_found text ty g in (inr (ty, a.0, a.1, a.2), inr (a.1, a.2))

named_only : (text : List ℕ) → IsTypeText text → is_some (named_type text) ≡ true
named_only text h = by (is_class_name text) refl h
  where
    by : (b : Bool) → is_class_name text ≡ b → IsTypeText text
        → is_some (cond b (Some (class_type text)) (option_and_then only_array (field_type_of text))) ≡ true
    by true e k = refl
    by false e (inl k) = let f : true ≡ false = sym k ∙ e in cc
    by false e (inr a) =
        let read : field_type_of text ≡ Some a.0 = ap value_of (read_field-only text a.0 (a.1, sym a.3)) in
        let some : eqb a.0.dims 0 ≡ false = ne_eqb a.0.dims 0 (λ z. absurd (omega (arith, a.2, z))) in
        rw (read, some) refl

-- ---- what entries name

-- the entry at an index of the pool, seen by what it holds
pub at_index : {A : Type 0} (f : Entry → Option A) (o : Option Entry) (x : A) → option_and_then f o ≡ Some x
    → (e : Entry) × (o ≡ Some e) × (f e ≡ Some x)
at_index f o x h = both_there f o x h

-- a Class entry by its name_index
class_is : (e : Entry) (n : ℕ) → name_index_in e ≡ Some n → e ≡ entry.Class n
class_is (entry.Class m) n h = let k : m ≡ n = cc in ap (λ (i : ℕ). entry.Class i) k
class_is (entry.Utf8 units) n h = absurd cc
class_is (entry.Integer i) n h = absurd cc
class_is (entry.Long i) n h = absurd cc
class_is (entry.Str i) n h = absurd cc
class_is (entry.Field i j) n h = absurd cc
class_is (entry.Method i j) n h = absurd cc
class_is (entry.InterfaceMethod i j) n h = absurd cc
class_is (entry.NameAndType i j) n h = absurd cc
class_is (entry.LeftOut tag) n h = absurd cc
class_is entry.Gap n h = absurd cc

-- a NameAndType entry by its two indices
name_and_type_is : (e : Entry) (two : ℕ × ℕ) → name_and_type_in e ≡ Some two → e ≡ entry.NameAndType two.0 two.1
name_and_type_is (entry.NameAndType i j) two h = let k : (i, j)
    ≡ two = cc in ap (λ (t : ℕ × ℕ). entry.NameAndType t.0 t.1) k
name_and_type_is (entry.Utf8 units) two h = absurd cc
name_and_type_is (entry.Integer i) two h = absurd cc
name_and_type_is (entry.Long i) two h = absurd cc
name_and_type_is (entry.Class i) two h = absurd cc
name_and_type_is (entry.Str i) two h = absurd cc
name_and_type_is (entry.Field i j) two h = absurd cc
name_and_type_is (entry.Method i j) two h = absurd cc
name_and_type_is (entry.InterfaceMethod i j) two h = absurd cc
name_and_type_is (entry.LeftOut tag) two h = absurd cc
name_and_type_is entry.Gap two h = absurd cc

-- a Class names right
class_found : (pool : List Entry) (index : ℕ) → HaveUnits pool → names_right pool (entry.Class index) ≡ Ok tt
    → NamesRight pool (entry.Class index)
unfolding names_right
class_found pool index fit h =
    let a = then_ok (text_at bad.BadName pool index) (λ text. test bad.BadName (is_some (named_type text))) tt h in
    let t = some_there (named_type a.0) (test_is bad.BadName (is_some (named_type a.0)) tt a.2) in
    (a.0, text_at_found pool bad.BadName index a.0 fit a.1, (named_found a.0 t.0 t.1).0)

-- a name and type names right
name_and_type_found : (pool : List Entry) (i j : ℕ) → HaveUnits pool → names_right pool (entry.NameAndType i j) ≡ Ok tt
    → NamesRight pool (entry.NameAndType i j)
unfolding names_right
name_and_type_found pool i j fit h =
    let a = then_ok (good_text_at bad.BadName is_method_name pool i)
    (λ name. good_text_at bad.BadDescriptor is_descriptor pool j >>= (λ descriptor. Ok tt)) tt h in
    let b = then_ok (good_text_at bad.BadDescriptor is_descriptor pool j) (λ descriptor. Ok tt) tt a.2 in
    let name = good_found pool bad.BadName is_method_name i a.0 fit a.1 in
    let descriptor = good_found pool bad.BadDescriptor is_descriptor j b.0 fit b.1 in
    (a.0, b.0, name.0, name.1, descriptor.0, descriptor_found b.0 descriptor.1)

-- each entry of the pool is found right
abbrev pub AllFound : List Entry → Type 0
AllFound pool = (index : ℕ) (e : Entry) → slice_get pool index ≡ Some e → names_right pool e ≡ Ok tt

-- a class that an entry names, by the type that its text names
class_of_text : (pool : List Entry) (class_index name_index : ℕ) (text : List ℕ)
    → slice_get pool class_index ≡ Some (entry.Class name_index) → IsText (units_at pool name_index) text
    → IsTypeText text → (ty : FieldType) × IsTypeAt pool class_index ty
class_of_text pool class_index name_index text there is (inl named) = (
  class_type text,
  (
    text,
    (
      is.0,
      ap (λ o. option_and_then (units_at pool) (option_and_then name_index_in o)) there
          ∙ is.1,
    ),
    record { dimensions = omega arith; named = named },
    inl refl,
  ),
)
class_of_text pool class_index name_index text there is (inr array) = (
  array.0,
  (
    text,
    (
      is.0,
      ap (λ o. option_and_then (units_at pool) (option_and_then name_index_in o)) there
          ∙ is.1,
    ),
    array.1,
    inr (array.2, array.3),
  ),
)

-- the units of a text of a name and type pass a test
units_pass : (pool : List Entry) (kind : FormatKind) (passes : List ℕ → Bool) (index : ℕ) (text : List ℕ) (u : Unit {0})
    → IsText (units_at pool index) text → test_of_units kind passes (units_at pool index) ≡ Ok u → passes text ≡ true
units_pass pool kind passes index text u is h = test_is kind (passes text) u
    (sym (rw (is.1, text_back text is.0) refl) ∙ h)

-- a reference names right where all entries do
reference_found : (pool : List Entry) (is_name is_described : List ℕ → Bool) (Described : List ℕ → Type 0)
    (class_index index : ℕ) → HaveUnits pool → AllFound pool
    → ((text : List ℕ) → is_described text ≡ true → Described text)
    → refers_right is_name is_described pool class_index index ≡ Ok tt
    → RefersRight pool class_index index is_name Described
reference_found pool is_name is_described Described class_index index fit all described h =
    let a = then_ok (due bad.BadIndex (option_and_then name_index_in (slice_get pool class_index)))
    (λ class. due bad.BadIndex (name_and_type_at pool index) >>=
    (λ indices. test_of_units bad.BadName is_name (units_at pool indices.0) >>=
    (λ named. test_of_units bad.BadDescriptor is_described (units_at pool indices.1)))) tt h in
    let b = then_ok (due bad.BadIndex (name_and_type_at pool index))
    (λ indices. test_of_units bad.BadName is_name (units_at pool indices.0) >>=
    (λ named. test_of_units bad.BadDescriptor is_described (units_at pool indices.1))) tt a.2 in
    let c = then_ok (test_of_units bad.BadName is_name (units_at pool b.0.0))
    (λ named. test_of_units bad.BadDescriptor is_described (units_at pool b.0.1)) tt b.2 in
    let class = at_index name_index_in (slice_get pool class_index) a.0
    (due_is bad.BadIndex (option_and_then name_index_in (slice_get pool class_index)) a.0 a.1) in
    let class-there : slice_get pool class_index ≡ Some (entry.Class a.0) = class.1
    ∙ ap (λ (e : Entry). Some e) (class_is class.0 a.0 class.2) in
    let class-right = class_found pool a.0 fit (all class_index (entry.Class a.0) class-there) in
    let two-at : name_and_type_at pool index ≡ Some b.0 = due_is bad.BadIndex (name_and_type_at pool index) b.0 b.1 in
    let two = at_index name_and_type_in (slice_get pool index) b.0 two-at in
    let two-there : slice_get pool index ≡ Some (entry.NameAndType b.0.0 b.0.1) = two.1
    ∙ ap (λ (e : Entry). Some e) (name_and_type_is two.0 b.0 two.2) in
    let two-right = name_and_type_found pool b.0.0 b.0.1 fit (all index (entry.NameAndType b.0.0 b.0.1) two-there) in
    record {
      class = class_of_text pool class_index a.0 class-right.0 class-there class-right.1 class-right.2;
      name = two-right.0;
      descriptor = two-right.1;
      name_and_type = record { indices = b.0; entry = two-at; name_text = two-right.2; descriptor_text = two-right.4 };
      named = units_pass pool bad.BadName is_name b.0.0 two-right.0 c.0 two-right.2 c.1;
      described = described two-right.1
          (units_pass pool bad.BadDescriptor is_described b.0.1 two-right.1 tt two-right.4 c.2);
    }

-- an entry names right where all entries are found so
pub names_found : (pool : List Entry) (e : Entry) → HaveUnits pool → AllFound pool → names_right pool e ≡ Ok tt
    → NamesRight pool e
unfolding names_right
names_found pool (entry.Class i) fit all h = class_found pool i fit h
names_found pool (entry.Str i) fit all h =
    let a = then_ok (due bad.BadIndex (units_at pool i)) (λ units. Ok tt) tt h in
    (a.0, due_is bad.BadIndex (units_at pool i) a.0 a.1)
names_found pool (entry.NameAndType i j) fit all h = name_and_type_found pool i j fit h
names_found pool
    (entry.Field i j) fit all h =
    reference_found pool is_member_name is_field_text IsFieldText i j fit all field_found h
names_found pool
    (entry.Method i j) fit all h =
    reference_found pool is_method_name is_method_text IsMethodText i j fit all method_found h
names_found pool
    (entry.InterfaceMethod i j) fit all h =
    reference_found pool is_method_name is_method_text IsMethodText i j fit all method_found h
names_found pool (entry.Utf8 units) fit all h = tt
names_found pool (entry.Integer n) fit all h = tt
names_found pool (entry.Long n) fit all h = tt
names_found pool (entry.LeftOut tag) fit all h = tt
names_found pool entry.Gap fit all h = tt

-- ---- and the other way

-- the units of a text of a name and type pass a test that the text passes
units_pass_only : (pool : List Entry) (kind : FormatKind) (passes : List ℕ → Bool) (index : ℕ) (text : List ℕ)
    → IsText (units_at pool index) text → passes text ≡ true → test_of_units kind passes (units_at pool index) ≡ Ok tt
units_pass_only pool kind passes index text is good = rw (is.1, text_back text is.0, good) refl

reference_only : (pool : List Entry) (is_name is_described : List ℕ → Bool) (Described : List ℕ → Type 0)
    (class_index index : ℕ) → ((text : List ℕ) → Described text → is_described text ≡ true)
    → RefersRight pool class_index index is_name Described
    → refers_right is_name is_described pool class_index index ≡ Ok tt
reference_only pool is_name is_described Described class_index index described r =
    let two = r.name_and_type in
    let class = both_there (units_at pool) (option_and_then name_index_in (slice_get pool class_index))
    (units_of r.class.1.0) r.class.1.1.1 in
    rw (class.1, two.entry, units_pass_only pool bad.BadName is_name two.indices.0 r.name two.name_text r.named)
    (units_pass_only pool bad.BadDescriptor is_described two.indices.1 r.descriptor two.descriptor_text
    (described r.descriptor r.described))

-- an entry that names right is found so
pub names_only : (pool : List Entry) (e : Entry) → NamesRight pool e → names_right pool e ≡ Ok tt
unfolding names_right
names_only pool (entry.Class i) h = rw (text_at_only pool bad.BadName i h.0 h.1, named_only h.0 h.2) refl
names_only pool (entry.Str i) h = rw h.1 refl
names_only pool (entry.NameAndType i j) h = rw (
  good_only pool bad.BadName is_method_name i h.0 h.2 h.3,
  good_only pool bad.BadDescriptor is_descriptor j h.1 h.4
      (descriptor_only h.1 h.5),
) refl
names_only pool (entry.Field i j) h = reference_only pool is_member_name is_field_text IsFieldText i j field_only h
names_only pool (entry.Method i j) h = reference_only pool is_method_name is_method_text IsMethodText i j method_only h
names_only pool
    (entry.InterfaceMethod i j) h = reference_only pool is_method_name is_method_text IsMethodText i j method_only h
names_only pool (entry.Utf8 units) h = refl
names_only pool (entry.Integer n) h = refl
names_only pool (entry.Long n) h = refl
names_only pool (entry.LeftOut tag) h = refl
names_only pool entry.Gap h = refl
