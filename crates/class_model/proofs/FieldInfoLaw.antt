-- The fields of a class are read exactly where they are spelled (JVMS 4.5).
use Rattle.std.proofs.Common.{◌≡◌, ℕ, zero, suc, ◌+◌, ◌^◌, ◌<◌, Bool, true, false, cond, not, List, [], ◌∷◌, ◌++◌}
use Rattle.std.proofs.Common.{length, Result, Ok, Err, refl, sym, ap, subst, ◌∙◌, arith}
use Rattle.std.specs.Int.{w16, to_be_bytes}
use Rattle.std.specs.List.{AllZip, flat_map, list_any}
use Rattle.std.proofs.lemmas.List.Concat.{flat_map-cons}
use Rattle.jv_base.specs.Names.{is_member_name}
use Rattle.jv_base.specs.Types.{field_text, IsFieldType}
use Rattle.jv_base.specs.declared.types.FieldType.{FieldType}
use Rattle.jv_base.specs.Descriptors.{read_field}
use Rattle.jv_base.proofs.FieldLaw.{read_field-found, read_field-only}
use Rattle.jv_base.proofs.Results.{then_ok}
use Rattle.format_reading.specs.declared.fault.FormatKind.{FormatKind}
use Rattle.format_reading.specs.declared.fault.FormatKind.TheVariants as bad
use Rattle.format_reading.specs.Reader.{FormatReader, u2, item, bind, give}
use Rattle.format_reading.specs.Spelling.{Spells}
use Rattle.format_reading.proofs.Exact.{Exact, as_raw, bind_exact, item_exact, map_exact, give_exact, here_exact}
use Rattle.format_reading.proofs.Exact.{settle_exact, u2_exact}
use Rattle.class_model.specs.declared.pool.Entry.{Entry}
use Rattle.class_model.specs.declared.class.Field.{Field}
use Rattle.class_model.specs.Pool.{units_at, IsText}
use Rattle.class_model.specs.Structure.{AttributeInfo, attribute_info, MemberInfo, member_info}
use Rattle.class_model.specs.Flags.{field_mask, defined_flags, is_static, are_field_flags, flags_of}
use Rattle.class_model.specs.Members.{IsField, FieldsDiffer}
use Rattle.class_model.specs.Lookups.{due, test, text_at, good_text_at, field_type_of, value_of}
use Rattle.class_model.specs.MemberTypes.{field_type_at}
use Rattle.class_model.specs.ReadingAttributes.{counted_attributes}
use Rattle.class_model.specs.ReadingMembers.{Signature, same_signature, fresh, FieldSeen, no_field_attribute}
use Rattle.class_model.specs.ReadingMembers.{known_of_field, field_of, read_field_info, read_fields}
use Rattle.class_model.proofs.NameLaw.{HaveUnits, text_at_found, text_at_only, good_found, good_only, due_is}
use Rattle.class_model.proofs.NameLaw.{value_is}
use Rattle.class_model.proofs.ConstantLaw.{AllNameRight}
use Rattle.class_model.proofs.FieldAttributeLaw.{AreFieldAttributes, field_attributes_exact, constants_found}
use Rattle.class_model.proofs.FieldAttributeLaw.{constants_only}
use Rattle.class_model.proofs.FreshLaw.{IsNew, AreNew, field_signature, fields_apart, fields_told}

-- ---- parts of a member

-- an index whose meaning is found, and then more
pub index_then : {A B S : Type 0} (g : ℕ → Result A FormatKind) (f : A → FormatReader B) (t : S → List ℕ)
    (n : A → ℕ → S → B → Type 0) → ((x : A) → Exact (f x) (Spells t (n x)))
    → Exact (bind (item u2 g) f)
    (Spells (λ (v : ℕ × S). to_be_bytes w16 v.0 ++ t v.1)
    (λ at v y. (v.0 < 2 ^ 16) × ((x : A) × (g v.0 ≡ Ok x) × n x (at + 2) v.1 y)))
index_then g f t n e = as_raw _ _ (λ v. v) (λ v. v)
    (λ at v y h. (refl, (h.1.1.0, (h.0, ap g (sym h.1.1.1) ∙ h.1.2, h.2))))
    (λ at v y h. (refl, (h.1.0, (v.0, (h.0, refl), h.1.1), h.1.2)))
    (bind_exact f t n (item_exact g u2_exact) e)

-- a table of attributes
abbrev pub table : List AttributeInfo → List ℕ
table all = to_be_bytes w16 (length all) ++ flat_map attribute_info all

-- flags that passed
pub passed_is : (b : Bool) (n x : ℕ) (kind : FormatKind)
    → cond b (let R : Result ℕ FormatKind = Ok n in R) (Err kind) ≡ Ok x → (b ≡ true) × (n ≡ x)
passed_is true n x kind h = (refl, cc)
passed_is false n x kind h = absurd cc

-- a signature that is new
pub new_is : (before : List Signature) (signature : Signature) (u : Unit {0})
    → test bad.Repeated (not (list_any (same_signature signature) before)) ≡ Ok u → IsNew before signature
new_is before signature u h = by (list_any (same_signature signature) before) h
  where
    by : (b : Bool) → test bad.Repeated (not b) ≡ Ok u → b ≡ false
    by true g = absurd cc
    by false g = refl

-- ---- a field

-- the type of a field at an index
field_type_found : (pool : List Entry) (index : ℕ) (ty : FieldType) → HaveUnits pool → field_type_at pool index ≡ Ok ty
    → IsText (units_at pool index) (field_text ty) × IsFieldType ty
unfolding field_type_at
field_type_found pool index ty units h =
    let a = then_ok (text_at bad.BadDescriptor pool index) (λ text. due bad.BadDescriptor (field_type_of text)) ty h in
    let f = read_field-found a.0 ty
    (value_is (read_field a.0) ty (due_is bad.BadDescriptor (field_type_of a.0) ty a.2)) in (
      subst (λ (t : List ℕ). IsText (units_at pool index) t) (sym f.1)
          (text_at_found pool bad.BadDescriptor index a.0 units a.1),
      f.0,
    )

field_type_only : (pool : List Entry) (index : ℕ) (ty : FieldType) → IsText (units_at pool index) (field_text ty)
    → IsFieldType ty → field_type_at pool index ≡ Ok ty
unfolding field_type_at
field_type_only pool index ty text is =
    rw (text_at_only pool bad.BadDescriptor index (field_text ty) text)
    (ap (λ r. due bad.BadDescriptor (value_of r)) (read_field-only (field_text ty) ty (is, refl)))

module _ (pool : List Entry) (in_interface : Bool) (before : List Signature) (units : HaveUnits pool)
    (right : AllNameRight pool) where
  -- the field of these items, with its signature
  abbrev made : ℕ → List ℕ → FieldType → FieldSeen → Field × Signature
  made flags name ty seen = (field_of flags name ty seen, (name, field_text ty))

  -- behind the type: none before is like it, and its attributes
  abbrev BehindType : ℕ → List ℕ → FieldType → List AttributeInfo → Field × Signature → Type 0
  BehindType flags name ty all y = IsNew before (name, field_text ty)
      × ((seen : FieldSeen) × AreFieldAttributes pool (is_static flags) ty all seen × (y ≡ made flags name ty seen))

  behind_type : (at flags : ℕ) (name : List ℕ) (ty : FieldType)
      → Exact (bind (fresh at before (name, field_text ty))
      (λ alone. bind (counted_attributes pool (known_of_field pool (is_static flags) ty) no_field_attribute)
      (λ seen. give (made flags name ty seen))))
      (Spells table (λ _ all y. BehindType flags name ty all y))
  behind_type at flags name ty = as_raw table _ (λ w. w.1) (λ all. (tt, all))
      (λ k w y h. (refl, (new_is before (name, field_text ty) h.0 h.1, h.2)))
      (λ k all y h. (refl, (tt, ap (λ (b : Bool). test bad.Repeated (not b)) h.0, h.1)))
      (bind_exact (λ alone. bind (counted_attributes pool (known_of_field pool (is_static flags) ty) no_field_attribute)
      (λ seen. give (made flags name ty seen))) table
      (λ alone _ all y. (seen : FieldSeen) × AreFieldAttributes pool (is_static flags) ty all seen
      × (y ≡ made flags name ty seen))
      (settle_exact at (test bad.Repeated (not (list_any (same_signature (name, field_text ty)) before))))
      (λ alone. map_exact (made flags name ty) (field_attributes_exact pool (is_static flags) ty right)))

  -- the items of a field
  abbrev Items : Type 0
  Items = Unit {0} × (ℕ × (ℕ × (ℕ × List AttributeInfo)))

  abbrev raw_of : Items → MemberInfo
  raw_of w = record { access_flags = w.1.0; name_index = w.1.1.0; descriptor_index = w.1.1.1.0; attributes = w.1.1.1.1 }

  abbrev items_of : MemberInfo → Items
  items_of raw = (tt, (raw.access_flags, (raw.name_index, (raw.descriptor_index, raw.attributes))))

  -- the flags that pass
  abbrev passing : ℕ → Result ℕ FormatKind
  passing flags = cond (are_field_flags in_interface flags) (Ok flags) (Err bad.BadFlags)

  -- the reader from the flags on, at an offset
  from_flags : (at : ℕ) → Exact (bind (item u2 passing) (λ flags. bind
      (item u2 (good_text_at bad.BadName is_member_name pool)) (λ name. bind (item u2 (field_type_at pool)) (λ ty.
      bind (fresh at before (name, field_text ty))
      (λ alone. bind (counted_attributes pool (known_of_field pool (is_static flags) ty) no_field_attribute)
      (λ seen. give (made flags name ty seen)))))))
      (Spells (λ (v : ℕ × (ℕ × (ℕ × List AttributeInfo))). to_be_bytes w16 v.0 ++
      (to_be_bytes w16 v.1.0 ++ (to_be_bytes w16 v.1.1.0 ++ table v.1.1.1)))
      (λ _ v y. (v.0 < 2 ^ 16)
      × ((flags : ℕ) × (passing v.0 ≡ Ok flags)
      × ((v.1.0 < 2 ^ 16) × ((name : List ℕ) × (good_text_at bad.BadName is_member_name pool v.1.0 ≡ Ok name)
      × ((v.1.1.0 < 2 ^ 16) × ((ty : FieldType) × (field_type_at pool v.1.1.0 ≡ Ok ty)
      × BehindType flags name ty v.1.1.1 y)))))))
  from_flags at = index_then passing
      (λ flags. bind (item u2 (good_text_at bad.BadName is_member_name pool))
      (λ name. bind (item u2 (field_type_at pool)) (λ ty.
      bind (fresh at before (name, field_text ty))
      (λ alone. bind (counted_attributes pool (known_of_field pool (is_static flags) ty) no_field_attribute)
      (λ seen. give (made flags name ty seen))))))
      (λ (v : ℕ × (ℕ × List AttributeInfo)). to_be_bytes w16 v.0 ++ (to_be_bytes w16 v.1.0 ++ table v.1.1))
      (λ flags _ v y. (v.0 < 2 ^ 16)
      × ((name : List ℕ) × (good_text_at bad.BadName is_member_name pool v.0 ≡ Ok name)
      × ((v.1.0 < 2 ^ 16) × ((ty : FieldType) × (field_type_at pool v.1.0 ≡ Ok ty)
      × BehindType flags name ty v.1.1 y))))
      (λ flags. index_then (good_text_at bad.BadName is_member_name pool)
      (λ name. bind (item u2 (field_type_at pool))
      (λ ty. bind (fresh at before (name, field_text ty))
      (λ alone. bind (counted_attributes pool (known_of_field pool (is_static flags) ty) no_field_attribute)
      (λ seen. give (made flags name ty seen)))))
      (λ (v : ℕ × List AttributeInfo). to_be_bytes w16 v.0 ++ table v.1)
      (λ name _ v y. (v.0 < 2 ^ 16)
      × ((ty : FieldType) × (field_type_at pool v.0 ≡ Ok ty) × BehindType flags name ty v.1 y))
      (λ name. index_then (field_type_at pool)
      (λ ty. bind (fresh at before (name, field_text ty))
      (λ alone. bind (counted_attributes pool (known_of_field pool (is_static flags) ty) no_field_attribute)
      (λ seen. give (made flags name ty seen))))
      table (λ ty _ all y. BehindType flags name ty all y) (λ ty. behind_type at flags name ty)))

  -- what the items say is the field
  there : (v : ℕ × (ℕ × (ℕ × List AttributeInfo))) (y : Field × Signature) (flags : ℕ) (name : List ℕ) (ty : FieldType)
      → v.0 < 2 ^ 16 → passing v.0 ≡ Ok flags → good_text_at bad.BadName is_member_name pool v.1.0 ≡ Ok name
      → v.1.0 < 2 ^ 16
      → field_type_at pool v.1.1.0 ≡ Ok ty → v.1.1.0 < 2 ^ 16 → (seen : FieldSeen)
      → AreFieldAttributes pool (is_static flags) ty v.1.1.1 seen → y ≡ made flags name ty seen
      → IsField pool in_interface (raw_of (tt, v)) y.0 × (y.1 ≡ field_signature y.0)
  there v y flags name ty flags-fit passes named name-fits typed type-fits seen all is =
      let p = passed_is (are_field_flags in_interface v.0) v.0 flags bad.BadFlags passes in
      let n = good_found pool bad.BadName is_member_name v.1.0 name units named in
      let t = field_type_found pool v.1.1.0 ty units typed in
      let as_static = subst (λ (k : ℕ). AreFieldAttributes pool (is_static k) ty v.1.1.1 seen) (sym p.1) all in
      let made-is : IsField pool in_interface (raw_of (tt, v)) (field_of flags name ty seen) = record {
        flags = record {
          fit = flags-fit;
          are = ap (λ (k : ℕ). flags_of (defined_flags field_mask k))
              (sym p.1);
          good = p.0;
        };
        name = (name-fits, n.0);
        named_right = n.1;
        descriptor = (type-fits, t.0);
        typed = t.1;
        attributes = all.attributes;
        constant = constants_found pool (is_static v.0) ty _ seen.constant as_static.constant;
        synthetic = all.synthetic;
        deprecated = all.deprecated;
      } in
      subst (λ (z : Field × Signature). IsField pool in_interface (raw_of (tt, v)) z.0 × (z.1 ≡ field_signature z.0))
      (sym is) (made-is, refl)

  -- a field is read exactly where it is spelled
  pub field_info_exact : Exact (read_field_info pool in_interface before)
      (Spells member_info (λ _ raw y. IsField pool in_interface raw y.0 × (y.1 ≡ field_signature y.0)
      × IsNew before y.1))
  unfolding read_field_info
  field_info_exact = as_raw member_info _ raw_of items_of
      (λ at w y h.
      let f = h.2.1 in
      let n = f.2.1 in
      let t = n.2.1 in
      let d = there w.1 y f.0 n.0 t.0 h.2.0 f.1 n.1 f.2.0 t.1 n.2.0 t.2.1.0 t.2.1.1 t.2.1.2 in (
        refl,
        (
          d.0,
          d.1,
          subst (λ (s : Signature). IsNew before s)
              (sym (ap (λ (z : Field × Signature). z.1) t.2.1.2)) t.2.0,
        ),
      ))
      (λ at raw y h.
      let is = h.0 in
      let c = constants_only pool (is_static raw.access_flags) y.0.ty _ y.0.constant is.constant in
      let seen : FieldSeen = record { constant = c.0; synthetic = y.0.synthetic; deprecated = y.0.deprecated } in
      let all : AreFieldAttributes pool
      (is_static raw.access_flags) y.0.ty raw.attributes seen = record
      { attributes = is.attributes; constant = c.1; synthetic = is.synthetic; deprecated = is.deprecated } in
      let whole : y ≡ made raw.access_flags y.0.name y.0.ty seen = λ i. (
        record {
          flags = is.flags.are i;
          name = y.0.name;
          ty = y.0.ty;
          constant =
              (sym c.2) i;
          synthetic = y.0.synthetic;
          deprecated = y.0.deprecated;
        },
        h.1 i,
      ) in
      let passes : passing raw.access_flags ≡ Ok raw.access_flags = rw is.flags.good refl in (
        refl,
        (
          at,
          refl,
          (
            is.flags.fit,
            (
              raw.access_flags,
              passes,
              (
                is.name.0,
                (
                  y.0.name,
                  good_only pool bad.BadName is_member_name raw.name_index y.0.name is.name.1 is.named_right,
                  (
                    is.descriptor.0,
                    (
                      y.0.ty,
                      field_type_only pool raw.descriptor_index y.0.ty is.descriptor.1 is.typed,
                      (subst (λ (s : Signature). IsNew before s) h.1 h.2, (seen, all, whole)),
                    ),
                  ),
                ),
              ),
            ),
          ),
        ),
      )
      )
      (bind_exact (λ at. bind (item u2 passing) (λ flags. bind (item u2 (good_text_at bad.BadName is_member_name pool))
      (λ name. bind (item u2 (field_type_at pool)) (λ ty.
      bind (fresh at before (name, field_text ty))
      (λ alone. bind (counted_attributes pool (known_of_field pool (is_static flags) ty) no_field_attribute)
      (λ seen. give (made flags name ty seen)))))))
      (λ (v : ℕ × (ℕ × (ℕ × List AttributeInfo))). to_be_bytes w16 v.0 ++
      (to_be_bytes w16 v.1.0 ++ (to_be_bytes w16 v.1.1.0 ++ table v.1.1.1)))
      (λ at _ v y. (v.0 < 2 ^ 16)
      × ((flags : ℕ) × (passing v.0 ≡ Ok flags)
      × ((v.1.0 < 2 ^ 16) × ((name : List ℕ) × (good_text_at bad.BadName is_member_name pool v.1.0 ≡ Ok name)
      × ((v.1.1.0 < 2 ^ 16) × ((ty : FieldType) × (field_type_at pool v.1.1.0 ≡ Ok ty)
      × BehindType flags name ty v.1.1.1 y))))))
      here_exact from_flags)

-- ---- the fields

-- the first structure, where there is one, and the others
abbrev pub first_raw : List MemberInfo → MemberInfo
first_raw [] = record { access_flags = 0; name_index = 0; descriptor_index = 0; attributes = [] }
first_raw (raw ∷ raws) = raw

abbrev pub other_raws : List MemberInfo → List MemberInfo
other_raws [] = []
other_raws (raw ∷ raws) = raws

-- so many fields, each unlike all before it
pub fields_exact : (pool : List Entry) (in_interface : Bool) → HaveUnits pool → AllNameRight pool
    → (n : ℕ) (before : List Signature) → Exact (read_fields n pool in_interface before)
    (Spells (flat_map member_info)
    (λ _ raws fields. (length raws ≡ n) × AllZip (IsField pool in_interface) raws fields
    × AreNew field_signature FieldsDiffer fields_apart fields_told before fields))
unfolding read_fields
fields_exact pool in_interface units right zero before = as_raw (flat_map member_info) _ (λ u. []) (λ raws. tt)
    (λ at u fields h. (
      refl,
      subst (λ (fs : List Field). (zero ≡ 0) × AllZip (IsField pool in_interface) [] fs
          × AreNew field_signature FieldsDiffer fields_apart fields_told before fs) (sym h) (refl, tt, tt),
    ))
    (λ at raws fields h. none raws fields h.0 h.1)
    (give_exact [])
  where
    none : (raws : List MemberInfo) (fields : List Field) → length raws ≡ 0
        → AllZip (IsField pool in_interface) raws fields → (flat_map member_info raws ≡ []) × (fields ≡ [])
    none [] [] len z = (refl, refl)
    none [] (f ∷ fs) len z = absurd z
    none (raw ∷ raws) fields len z = absurd (omega (arith, len))
fields_exact pool in_interface units right (suc n) before = as_raw (flat_map member_info) _ (λ w. w.0 ∷ w.1)
    (λ raws. (first_raw raws, other_raws raws))
    (λ at w fields h.
    let first = h.0 in
    let rest = h.2 in
    let new = subst (λ (s : Signature). AreNew field_signature FieldsDiffer fields_apart fields_told
    (s ∷ before) rest.0) h.1.1 rest.1.2 in (
      sym (flat_map-cons member_info w.0 w.1),
      subst (λ (fs : List Field). (length (w.0 ∷ w.1) ≡ suc n) × AllZip (IsField pool in_interface) (w.0 ∷ w.1) fs
          × AreNew field_signature FieldsDiffer fields_apart fields_told before fs) (sym rest.2)
          (ap suc rest.1.0, (h.1.0, rest.1.1), (subst (λ (s : Signature). IsNew before s) h.1.1 h.1.2, new)),
    ))
    (λ at raws fields h. some raws fields h.0 h.1 h.2)
    (bind_exact (λ first. bind (read_fields n pool in_interface (first.1 ∷ before)) (λ others. give (first.0 ∷ others)))
    (flat_map member_info)
    (λ first _ raws fields. (others : List Field)
    × ((length raws ≡ n) × AllZip (IsField pool in_interface) raws others
    × AreNew field_signature FieldsDiffer fields_apart fields_told (first.1 ∷ before) others)
    × (fields ≡ first.0 ∷ others))
    (field_info_exact pool in_interface before units right)
    (λ first. map_exact (λ others. first.0 ∷ others) (fields_exact pool in_interface units right n (first.1 ∷ before))))
  where
    some : (raws : List MemberInfo) (fields : List Field) → length raws ≡ suc n
        → AllZip (IsField pool in_interface) raws fields
        → AreNew field_signature FieldsDiffer fields_apart fields_told before fields
        → (flat_map member_info raws ≡ member_info (first_raw raws) ++ flat_map member_info (other_raws raws))
        × ((first : Field × Signature)
        × (IsField pool in_interface (first_raw raws) first.0 × (first.1 ≡ field_signature first.0)
        × IsNew before first.1)
        × ((others : List Field)
        × ((length (other_raws raws) ≡ n) × AllZip (IsField pool in_interface) (other_raws raws) others
        × AreNew field_signature FieldsDiffer fields_apart fields_told (first.1 ∷ before) others)
        × (fields ≡ first.0 ∷ others)))
    some [] fields len z new = absurd (omega (arith, len))
    some (raw ∷ raws) [] len z new = absurd z
    some (raw ∷ raws) (f ∷ fs) len z new = (
      flat_map-cons member_info raw raws,
      ((f, field_signature f), (z.0, refl, new.0), (fs, (omega (arith, len), z.1, new.1), refl)),
    )
