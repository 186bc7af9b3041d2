-- The methods of a class are read exactly where they are spelled (JVMS 4.6), where their codes are.
use Rattle.std.proofs.Common.{◌≡◌, ℕ, zero, suc, ◌^◌, ◌<◌, Bool, true, false, cond, not, ◌||◌, List, [], ◌∷◌, ◌++◌}
use Rattle.std.proofs.Common.{length, Option, Some, None, Result, Ok, Err, codes, refl, sym, ap, subst, ◌∙◌, arith}
use Rattle.std.specs.Prelude.{IsTrue}
use Rattle.std.specs.Int.{w16, to_be_bytes}
use Rattle.std.specs.List.{flat_map, list_any}
use Rattle.std.proofs.lemmas.List.Concat.{flat_map-cons}
use Rattle.jv_base.specs.Outcome.{◌>>=◌}
use Rattle.jv_base.specs.Names.{is_method_name}
use Rattle.jv_base.specs.Types.{method_text, IsMethodType}
use Rattle.jv_base.specs.declared.types.MethodType.{MethodType}
use Rattle.jv_base.proofs.Results.{then_ok}
use Rattle.format_reading.specs.declared.fault.FormatKind.{FormatKind}
use Rattle.format_reading.specs.declared.fault.FormatKind.TheVariants as bad
use Rattle.format_reading.specs.Reader.{FormatReader, u2, item, bind, give, settle}
use Rattle.format_reading.specs.Spelling.{Spells}
use Rattle.format_reading.proofs.Exact.{Exact, as_raw, bind_exact, map_exact, give_exact, here_exact, settle_exact}
use Rattle.format_reading.proofs.Exact.{nothing}
use Rattle.class_model.specs.declared.pool.Entry.{Entry}
use Rattle.class_model.specs.declared.frame.VType.{VType}
use Rattle.class_model.specs.declared.code.Code.{Code}
use Rattle.class_model.specs.declared.class.Method.{Method}
use Rattle.class_model.specs.declared.class.LeftKind.{LeftKind}
use Rattle.class_model.specs.Pool.{units_at, IsText}
use Rattle.class_model.specs.Structure.{AttributeInfo, MemberInfo, member_info}
use Rattle.class_model.specs.Flags.{method_mask, defined_flags, is_static, has_body, are_method_flags}
use Rattle.class_model.specs.Flags.{are_initial_flags}
use Rattle.class_model.specs.Flags.{flags_of}
use Rattle.class_model.specs.Frames.{initial_locals}
use Rattle.class_model.specs.CodeAttribute.{IsBody}
use Rattle.std.proofs.lemmas.List.{append-nil}
use Rattle.class_model.specs.Members.{IsMethod, IsCodeOf, MethodsDiffer, has_room_for_this, is_initial_type}
use Rattle.class_model.specs.ClassFile.{AreMethods}
use Rattle.class_model.specs.Attributes.{named, Single, IsExceptions, AreThrown}
use Rattle.class_model.specs.Lookups.{due, test, text_at, good_text_at, method_type_of}
use Rattle.class_model.specs.MemberTypes.{method_type_at}
use Rattle.class_model.specs.ReadingAttributes.{counted_attributes}
use Rattle.class_model.specs.ReadingCodeAttribute.{Body, is_there, read_code}
use Rattle.class_model.specs.ReadingMembers.{Signature, same_signature, fresh, MethodSeen, MethodRead}
use Rattle.class_model.specs.ReadingMembers.{no_method_attribute, known_of_method, body_of, method_of, throws_of}
use Rattle.class_model.specs.ReadingMembers.{read_method_info, read_methods}
use Rattle.class_model.proofs.NameLaw.{HaveUnits, test_is, text_at_found, text_at_only, good_found, good_only}
use Rattle.class_model.proofs.NameLaw.{due_is}
use Rattle.class_model.proofs.LookupLaw.{method_found, method_only}
use Rattle.class_model.proofs.AttributeLaw.{text}
use Rattle.class_model.proofs.SeenLaw.{Chain}
use Rattle.class_model.proofs.MethodAttributeLaw.{OneCode, AreMethodAttributes, method_attributes_exact}
use Rattle.class_model.proofs.FieldInfoLaw.{index_then, table, passed_is, new_is, first_raw, other_raws}
use Rattle.class_model.proofs.FreshLaw.{IsNew, AreNew, method_signature, methods_apart, methods_told}

-- ---- the type of a method

-- the type of a method at an index, with the rules that its flags and its name bring
method_type_found : (pool : List Entry) (in_interface : Bool) (flags : ℕ) (name : List ℕ) (index : ℕ) (ty : MethodType)
    → HaveUnits pool → method_type_at pool in_interface flags name index ≡ Ok ty
    → IsText (units_at pool index) (method_text ty) × IsMethodType ty × IsTrue (has_room_for_this flags ty)
    × IsTrue (are_initial_flags in_interface flags name) × IsTrue (is_initial_type name ty)
unfolding method_type_at
method_type_found pool in_interface flags name index ty units h =
    let a = then_ok (text_at bad.BadDescriptor pool index)
    (λ text. due bad.BadDescriptor (method_type_of text) >>=
    (λ ty. test bad.BadDescriptor (has_room_for_this flags ty)
    >>= (λ room. test bad.BadFlags (are_initial_flags in_interface flags name) >>=
    (λ allowed. test bad.BadDescriptor (is_initial_type name ty) >>= (λ typed. Ok ty))))) ty h in
    let b = then_ok (due bad.BadDescriptor (method_type_of a.0))
    (λ ty. test bad.BadDescriptor (has_room_for_this flags ty)
    >>= (λ room. test bad.BadFlags (are_initial_flags in_interface flags name) >>=
    (λ allowed. test bad.BadDescriptor (is_initial_type name ty) >>= (λ typed. Ok ty)))) ty a.2 in
    let c = then_ok (test bad.BadDescriptor (has_room_for_this flags b.0))
    (λ room. test bad.BadFlags (are_initial_flags in_interface flags name) >>=
    (λ allowed. test bad.BadDescriptor (is_initial_type name b.0) >>= (λ typed. Ok b.0))) ty b.2 in
    let d = then_ok (test bad.BadFlags (are_initial_flags in_interface flags name))
    (λ allowed. test bad.BadDescriptor (is_initial_type name b.0) >>= (λ typed. Ok b.0)) ty c.2 in
    let e = then_ok (test bad.BadDescriptor (is_initial_type name b.0)) (λ typed. Ok b.0) ty d.2 in
    let is : b.0 ≡ ty = (let k : Ok b.0 ≡ Ok ty = e.2 in cc) in
    let m = method_found a.0 b.0 (due_is bad.BadDescriptor (method_type_of a.0) b.0 b.1) in
    let there = subst (λ (t : List ℕ). IsText (units_at pool index) t) m.1
    (text_at_found pool bad.BadDescriptor index a.0 units a.1) in
    subst (λ (t : MethodType). IsText (units_at pool index) (method_text t) × IsMethodType t
    × IsTrue (has_room_for_this flags t) × IsTrue (are_initial_flags in_interface flags name)
    × IsTrue (is_initial_type name t)) is (
      there,
      m.0,
      test_is bad.BadDescriptor (has_room_for_this flags b.0) c.0 c.1,
      test_is bad.BadFlags
          (are_initial_flags in_interface flags name) d.0 d.1,
      test_is bad.BadDescriptor
          (is_initial_type name b.0) e.0 e.1,
    )

method_type_only : (pool : List Entry) (in_interface : Bool) (flags : ℕ) (name : List ℕ) (index : ℕ) (ty : MethodType)
    → IsText (units_at pool index) (method_text ty) → IsMethodType ty
    → IsTrue (has_room_for_this flags ty) → IsTrue (are_initial_flags in_interface flags name)
    → IsTrue (is_initial_type name ty) → method_type_at pool in_interface flags name index ≡ Ok ty
unfolding method_type_at
method_type_only pool in_interface flags name index ty there is room allowed typed =
    rw (
      text_at_only pool bad.BadDescriptor index (method_text ty) there,
      method_only
          (method_text ty) ty is refl,
      room,
      allowed,
      typed,
    ) refl

-- ---- the code of a method

-- the contents of a Code, with what is left out
abbrev pub Bodies : List Entry → List VType → List ℕ → Body → Type 0
Bodies pool first info body = IsBody pool first info body.0 body.1

-- the Code that is seen is the method's
code_found : (pool : List Entry) (first : List VType) (flags : ℕ) (wanted : Bool) (all : List AttributeInfo)
    (seen : Option Body) → Chain (OneCode wanted (Bodies pool first)) None all seen
    → (not wanted || is_there seen) ≡ true
    → IsCodeOf pool first flags wanted all (body_of flags seen).0 (body_of flags seen).1
code_found pool first flags true [] seen h whole = let none : false ≡ true = sym (ap is_there h) ∙ whole in absurd cc
code_found pool first flags false [] seen h whole = subst
    (λ (o : Option Body). IsCodeOf pool first flags false [] (body_of flags o).0 (body_of flags o).1) (sym h)
    (refl, refl)
code_found pool first flags true (a ∷ []) seen h whole = subst
    (λ (o : Option Body). IsCodeOf pool first flags true (a ∷ []) (body_of flags o).0 (body_of flags o).1)
    (sym (h.2 ∙ h.1.4)) h.1.3
code_found pool first flags false (a ∷ []) seen h whole = let e : false ≡ true = h.1.1 in absurd cc
code_found pool first flags wanted (a ∷ b ∷ others) seen h whole = let e : Some h.1.2 ≡ None = sym h.1.4
    ∙ h.2.1.0 in absurd cc

-- the method's code is seen
code_only : (pool : List Entry) (first : List VType) (flags : ℕ) (wanted : Bool) (all : List AttributeInfo)
    (code : Option Code) (left_out : Option LeftKind) → IsCodeOf pool first flags wanted all code left_out
    → (seen : Option Body) × Chain (OneCode wanted (Bodies pool first)) None all seen
    × ((not wanted || is_there seen) ≡ true) × ((body_of flags seen).0 ≡ code) × ((body_of flags seen).1 ≡ left_out)
code_only pool first flags true [] code left_out h = absurd h
code_only pool first flags false [] code left_out h = (None, refl, refl, sym h.0, sym h.1)
code_only pool first flags true (a ∷ []) code left_out h =
    (Some (code, left_out), (Some (code, left_out), (refl, refl, (code, left_out), h, refl), refl), refl, refl, refl)
code_only pool first flags false (a ∷ []) code left_out h = absurd h
code_only pool first flags true (a ∷ b ∷ others) code left_out h = absurd h
code_only pool first flags false (a ∷ b ∷ others) code left_out h = absurd h

-- ---- a method

module _ (pool : List Entry) (in_interface : Bool) (class : List ℕ) (units : HaveUnits pool)
    (codes_exact : (first : List VType) (at : ℕ)
    → Exact (read_code pool first at) (Spells text (λ _ info body. Bodies pool first info body))) where
  -- the locals of the initial frame
  abbrev first_of : ℕ → List ℕ → MethodType → List VType
  first_of flags name ty = initial_locals class (is_static flags) name ty

  -- the method of these items, with its signature and what is left out in it
  abbrev made : ℕ → List ℕ → MethodType → MethodSeen → MethodRead
  made flags name ty seen = (method_of flags name ty seen, (name, method_text ty), (body_of flags seen.body).1)

  -- behind the attributes: there is a Code where there has to be one
  abbrev BehindSeen : ℕ → List ℕ → MethodType → MethodSeen → MethodRead → Type 0
  BehindSeen flags name ty seen y = ((not (has_body flags) || is_there seen.body) ≡ true)
      × (y ≡ made flags name ty seen)

  -- behind the type: no method before is like it, and its attributes
  abbrev BehindType : List Signature → ℕ → List ℕ → MethodType → List AttributeInfo → MethodRead → Type 0
  BehindType before flags name ty all y = IsNew before (name, method_text ty)
      × ((seen : MethodSeen) × AreMethodAttributes pool (has_body flags) (Bodies pool (first_of flags name ty)) all seen
      × BehindSeen flags name ty seen y)

  abbrev reads_seen : ℕ → ℕ → List ℕ → MethodType → MethodSeen → FormatReader MethodRead
  reads_seen at flags name ty seen = bind
      (settle at (test bad.BadAttribute (not (has_body flags) || is_there seen.body)))
      (λ whole. give (made flags name ty seen))

  behind_seen : (at flags : ℕ) (name : List ℕ) (ty : MethodType) (seen : MethodSeen)
      → Exact (reads_seen at flags name ty seen) (Spells nothing (λ _ u y. BehindSeen flags name ty seen y))
  behind_seen at flags name ty seen = as_raw nothing _ (λ u. u) (λ u. u)
      (λ k u y h. (refl, (test_is bad.BadAttribute (not (has_body flags) || is_there seen.body) h.0 h.1, h.2)))
      (λ k u y h. (refl, (tt, ap (test bad.BadAttribute) h.0, h.1)))
      (map_exact (λ whole. made flags name ty seen)
      (settle_exact at (test bad.BadAttribute (not (has_body flags) || is_there seen.body))))

  abbrev reads_attributes : ℕ → ℕ → List ℕ → MethodType → FormatReader MethodRead
  reads_attributes at flags name ty = bind
      (counted_attributes pool
      (known_of_method pool (has_body flags) (read_code pool (first_of flags name ty))) no_method_attribute)
      (λ seen. reads_seen at flags name ty seen)

  behind_fresh : (at flags : ℕ) (name : List ℕ) (ty : MethodType)
      → Exact (reads_attributes at flags name ty)
      (Spells table (λ _ all y. (seen : MethodSeen) × AreMethodAttributes pool (has_body flags)
      (Bodies pool (first_of flags name ty)) all seen × BehindSeen flags name ty seen y))
  behind_fresh at flags name ty = as_raw table _ (λ w. w.0) (λ all. (all, tt))
      (λ k w y h. (append-nil (table w.0), (h.0, h.1, h.2)))
      (λ k all y h. (sym (append-nil (table all)), (h.0, h.1, h.2)))
      (bind_exact (λ seen. reads_seen at flags name ty seen) nothing (λ seen _ u y. BehindSeen flags name ty seen y)
      (method_attributes_exact pool (has_body flags) (Bodies pool (first_of flags name ty))
      (read_code pool (first_of flags name ty)) units (codes_exact (first_of flags name ty)))
      (λ seen. behind_seen at flags name ty seen))

  abbrev reads_type : ℕ → List Signature → ℕ → List ℕ → MethodType → FormatReader MethodRead
  reads_type at before flags name ty = bind (fresh at before (name, method_text ty))
      (λ alone. reads_attributes at flags name ty)

  behind_type : (at : ℕ) (before : List Signature) (flags : ℕ) (name : List ℕ) (ty : MethodType)
      → Exact (reads_type at before flags name ty) (Spells table (λ _ all y. BehindType before flags name ty all y))
  behind_type at before flags name ty = as_raw table _ (λ w. w.1) (λ all. (tt, all))
      (λ k w y h. (refl, (new_is before (name, method_text ty) h.0 h.1, h.2)))
      (λ k all y h. (refl, (tt, ap (λ (b : Bool). test bad.Repeated (not b)) h.0, h.1)))
      (bind_exact (λ alone. reads_attributes at flags name ty) table
      (λ alone _ all y. (seen : MethodSeen)
      × AreMethodAttributes pool (has_body flags) (Bodies pool (first_of flags name ty)) all seen
      × BehindSeen flags name ty seen y)
      (settle_exact at (test bad.Repeated (not (list_any (same_signature (name, method_text ty)) before))))
      (λ alone. behind_fresh at flags name ty))

  -- the items of a method
  abbrev Items : Type 0
  Items = ℕ × (ℕ × (ℕ × List AttributeInfo))

  abbrev raw_of : Items → MemberInfo
  raw_of v = record { access_flags = v.0; name_index = v.1.0; descriptor_index = v.1.1.0; attributes = v.1.1.1 }

  -- the flags that pass
  abbrev passing : ℕ → Result ℕ FormatKind
  passing flags = cond (are_method_flags flags) (Ok flags) (Err bad.BadFlags)

  -- what the items say, one behind the other
  abbrev FromType : List Signature → ℕ → List ℕ → ℕ × List AttributeInfo → MethodRead → Type 0
  FromType before flags name v y = (v.0 < 2 ^ 16)
      × ((ty : MethodType) × (method_type_at pool in_interface flags name v.0 ≡ Ok ty)
      × BehindType before flags name ty v.1 y)

  abbrev FromName : List Signature → ℕ → ℕ × (ℕ × List AttributeInfo) → MethodRead → Type 0
  FromName before flags v y = (v.0 < 2 ^ 16)
      × ((name : List ℕ) × (good_text_at bad.BadName is_method_name pool v.0 ≡ Ok name)
      × FromType before flags name v.1 y)

  abbrev FromFlags : List Signature → Items → MethodRead → Type 0
  FromFlags before v y = (v.0 < 2 ^ 16) × ((flags : ℕ) × (passing v.0 ≡ Ok flags) × FromName before flags v.1 y)

  abbrev items_bytes : Items → List ℕ
  items_bytes v = to_be_bytes w16 v.0 ++ (to_be_bytes w16 v.1.0 ++ (to_be_bytes w16 v.1.1.0 ++ table v.1.1.1))

  from_flags : (before : List Signature) (at : ℕ)
      → Exact (bind (item u2 passing) (λ flags. bind (item u2 (good_text_at bad.BadName is_method_name pool))
      (λ name. bind (item u2 (method_type_at pool in_interface flags name))
      (λ ty. reads_type at before flags name ty))))
      (Spells items_bytes (λ _ v y. FromFlags before v y))
  from_flags before at = index_then passing
      (λ flags. bind (item u2 (good_text_at bad.BadName is_method_name pool))
      (λ name. bind (item u2 (method_type_at pool in_interface flags name))
      (λ ty. reads_type at before flags name ty)))
      (λ (v : ℕ × (ℕ × List AttributeInfo)). to_be_bytes w16 v.0 ++ (to_be_bytes w16 v.1.0 ++ table v.1.1))
      (λ flags _ v y. FromName before flags v y)
      (λ flags. index_then (good_text_at bad.BadName is_method_name pool)
      (λ name. bind (item u2 (method_type_at pool in_interface flags name))
      (λ ty. reads_type at before flags name ty))
      (λ (v : ℕ × List AttributeInfo). to_be_bytes w16 v.0 ++ table v.1) (λ name _ v y. FromType before flags name v y)
      (λ name. index_then (method_type_at pool in_interface flags name) (λ ty. reads_type at before flags name ty) table
      (λ ty _ all y. BehindType before flags name ty all y) (λ ty. behind_type at before flags name ty)))

  -- what the items say is the method
  there : (before : List Signature) (v : Items) (y : MethodRead) → FromFlags before v y
      → IsMethod pool in_interface class (raw_of v) y.0 y.2 × (y.1 ≡ method_signature y.0) × IsNew before y.1
  there before v y h =
      let flags = h.1.0 in
      let f = h.1.2 in
      let name = f.1.0 in
      let t = f.1.2 in
      let ty = t.1.0 in
      let b = t.1.2 in
      let seen = b.1.0 in
      let p = passed_is (are_method_flags v.0) v.0 flags bad.BadFlags h.1.1 in
      let n = good_found pool bad.BadName is_method_name v.1.0 name units f.1.1 in
      let d = method_type_found pool in_interface flags name v.1.1.0 ty units t.1.1 in
      let all = b.1.1 in
      let code = code_found pool (first_of flags name ty) flags (has_body flags) _ seen.body all.body b.1.2.0 in
      let made-is : IsMethod pool in_interface class (raw_of v) (method_of flags name ty seen)
      (body_of flags seen.body).1 = record {
        flags = record {
          fit = h.0;
          are = ap (λ (k : ℕ). flags_of (defined_flags method_mask k))
              (sym p.1);
          good = p.0;
        };
        name = (f.0, n.0);
        named_right = n.1;
        descriptor = (t.0, d.0);
        typed = d.1;
        room_for_this = subst (λ (k : ℕ). IsTrue (has_room_for_this k ty)) (sym p.1) d.2;
        initial_flags = subst (λ (k : ℕ). IsTrue (are_initial_flags in_interface k name)) (sym p.1) d.3;
        initial_type = d.4;
        attributes = all.attributes;
        code = subst (λ (k : ℕ). IsCodeOf pool (first_of k name ty) k (has_body k) (named pool (codes "Code") v.1.1.1)
            (body_of flags seen.body).0 (body_of flags seen.body).1) (sym p.1) code;
        throws = thrown _ seen.throws all.throws;
        synthetic = all.synthetic;
        deprecated = all.deprecated;
      } in
      subst (λ (z : MethodRead). IsMethod pool in_interface class (raw_of v) z.0 z.2 × (z.1 ≡ method_signature z.0)
      × IsNew before z.1) (sym b.1.2.1) (made-is, refl, b.0)
    where
      thrown : (list : List AttributeInfo) (o : Option (List (List ℕ))) → Single (IsExceptions pool) list o
          → AreThrown pool list (throws_of o)
      thrown [] None s = refl
      thrown [] (Some x) s = absurd s
      thrown (a ∷ []) (Some x) s = s
      thrown (a ∷ []) None s = absurd s
      thrown (a ∷ b ∷ others) o s = absurd s

  -- the method is what its items say
  back : (before : List Signature) (raw : MemberInfo) (y : MethodRead) → IsMethod pool in_interface class raw y.0 y.2
      → y.1 ≡ method_signature y.0 → IsNew before y.1
      → FromFlags before (raw.access_flags, (raw.name_index, (raw.descriptor_index, raw.attributes))) y
  back before raw y is sig new =
      let c = code_only pool (first_of raw.access_flags y.0.name y.0.ty) raw.access_flags
      (has_body raw.access_flags) _ y.0.code y.2 is.code in
      let t = thrown _ y.0.throws is.throws in
      let seen : MethodSeen = record {
        body = c.0;
        throws = t.0;
        synthetic = y.0.synthetic;
        deprecated = y.0.deprecated;
      } in
      let all : AreMethodAttributes pool (has_body raw.access_flags)
      (Bodies pool (first_of raw.access_flags y.0.name y.0.ty)) raw.attributes seen =
      record {
        attributes = is.attributes;
        body = c.1;
        throws = t.1;
        synthetic = is.synthetic;
        deprecated =
            is.deprecated;
      } in
      let whole : y ≡ made raw.access_flags y.0.name y.0.ty seen = λ i. (
        record {
          flags = is.flags.are i;
          name = y.0.name;
          ty = y.0.ty;
          code = (sym c.3) i;
          throws =
              (sym t.2) i;
          synthetic = y.0.synthetic;
          deprecated = y.0.deprecated;
        },
        sig i,
        (sym c.4) i,
      ) in
      let passes : passing raw.access_flags ≡ Ok raw.access_flags = rw is.flags.good refl in (
        is.flags.fit,
        (
          raw.access_flags,
          passes,
          (
            is.name.0,
            (
              y.0.name,
              good_only pool bad.BadName is_method_name raw.name_index y.0.name is.name.1 is.named_right,
              (
                is.descriptor.0,
                (
                  y.0.ty,
                  method_type_only pool in_interface raw.access_flags y.0.name raw.descriptor_index y.0.ty
                      is.descriptor.1 is.typed is.room_for_this is.initial_flags is.initial_type,
                  (subst (λ (s : Signature). IsNew before s) sig new, (seen, all, (c.2, whole))),
                ),
              ),
            ),
          ),
        ),
      )
    where
      thrown : (list : List AttributeInfo) (classes : List (List ℕ)) → AreThrown pool list classes
          → (o : Option (List (List ℕ))) × Single (IsExceptions pool) list o × (throws_of o ≡ classes)
      thrown [] classes s = (None, tt, sym s)
      thrown (a ∷ []) classes s = (Some classes, s, refl)
      thrown (a ∷ b ∷ others) classes s = absurd s

  -- a method is read exactly where it is spelled
  pub method_info_exact : (before : List Signature)
      → Exact (read_method_info pool in_interface class before)
      (Spells member_info (λ _ raw y. IsMethod pool in_interface class raw y.0 y.2 × (y.1 ≡ method_signature y.0)
      × IsNew before y.1))
  unfolding read_method_info
  method_info_exact before = as_raw member_info _ (λ w. raw_of w.1)
      (λ raw. (tt, (raw.access_flags, (raw.name_index, (raw.descriptor_index, raw.attributes)))))
      (λ at w y h. (refl, there before w.1 y h.2))
      (λ at raw y h. (refl, (at, refl, back before raw y h.0 h.1 h.2)))
      (bind_exact (λ at. bind (item u2 passing) (λ flags. bind (item u2 (good_text_at bad.BadName is_method_name pool))
      (λ name. bind (item u2 (method_type_at pool in_interface flags name))
      (λ ty. reads_type at before flags name ty))))
      items_bytes (λ at _ v y. FromFlags before v y) here_exact (from_flags before))

  -- ---- the methods

  -- methods with what is left out in each
  abbrev pub MethodsRead : Type 0
  MethodsRead = List Method × List (Option LeftKind)

  -- the structures are methods, each unlike all before it
  abbrev pub AreNewMethods : ℕ → List Signature → List MemberInfo → MethodsRead → Type 0
  AreNewMethods n before raws y = (length raws ≡ n) × AreMethods pool in_interface class raws y.0 y.1
      × AreNew method_signature MethodsDiffer methods_apart methods_told before y.0

  -- one more method
  abbrev Cons : ℕ → List Signature → List MemberInfo → MethodsRead → Type 0
  Cons n before raws y = (raw : MemberInfo) × (rest : List MemberInfo) × (raws ≡ raw ∷ rest)
      × ((first : MethodRead)
      × (IsMethod pool in_interface class raw first.0 first.2 × (first.1 ≡ method_signature first.0)
      × IsNew before first.1)
      × ((others : MethodsRead) × AreNewMethods n (first.1 ∷ before) rest others
      × (y ≡ (first.0 ∷ others.0, first.2 ∷ others.1))))

  cons_of : (n : ℕ) (before : List Signature) (raws : List MemberInfo) (y : MethodsRead)
      → AreNewMethods (suc n) before raws y → Cons n before raws y
  cons_of n before [] y h = absurd (omega (arith, h.0))
  cons_of n before (raw ∷ rest) y h = by y.0 y.1 refl h.1 h.2
    where
      by : (methods : List Method) (kinds : List (Option LeftKind)) → y ≡ (methods, kinds)
          → AreMethods pool in_interface class (raw ∷ rest) methods kinds
          → AreNew method_signature MethodsDiffer methods_apart methods_told before methods
          → Cons n before (raw ∷ rest) y
      by [] [] is m new = absurd m
      by [] (k ∷ ks) is m new = absurd m
      by (method ∷ methods) [] is m new = absurd m
      by (method ∷ methods) (k ∷ ks) is m new = (
        raw,
        rest,
        refl,
        (
          (method, method_signature method, k),
          (m.0, refl, new.0),
          ((methods, ks), (omega (arith, h.0), m.1, new.1), is),
        ),
      )

  -- so many methods, each unlike all before it
  pub methods_exact : (n : ℕ) (before : List Signature)
      → Exact (read_methods n pool in_interface class before)
      (Spells (flat_map member_info) (λ _ raws y. AreNewMethods n before raws y))
  unfolding read_methods
  methods_exact zero before = as_raw (flat_map member_info) _ (λ u. []) (λ raws. tt)
      (λ at u y h. (
        refl,
        subst (λ (z : MethodsRead). (zero ≡ 0) × AreMethods pool in_interface class [] z.0 z.1
            × AreNew method_signature MethodsDiffer methods_apart methods_told before z.0) (sym h) (refl, tt, tt),
      ))
      (λ at raws y h. none raws y.0 y.1 h.0 h.1)
      (give_exact ([], []))
    where
      none : (raws : List MemberInfo) (methods : List Method) (kinds : List (Option LeftKind)) → length raws ≡ 0
          → AreMethods pool in_interface class raws methods kinds
          → (flat_map member_info raws ≡ []) × ((let z : MethodsRead = (methods, kinds) in z) ≡ ([], []))
      none [] [] [] len m = (refl, refl)
      none [] [] (k ∷ ks) len m = absurd m
      none [] (x ∷ xs) kinds len m = absurd m
      none (raw ∷ raws) methods kinds len m = absurd (omega (arith, len))
  methods_exact (suc n) before =
      as_raw (flat_map member_info) _ (λ w. w.0 ∷ w.1) (λ raws. (first_raw raws, other_raws raws))
      (λ at w y h.
      let first = h.0 in
      let rest = h.2 in
      let new = subst (λ (s : Signature). AreNew method_signature MethodsDiffer methods_apart methods_told
      (s ∷ before) rest.0.0) h.1.1 rest.1.2 in (
        sym (flat_map-cons member_info w.0 w.1),
        subst (λ (z : MethodsRead). (length (w.0 ∷ w.1) ≡ suc n)
            × AreMethods pool in_interface class (w.0 ∷ w.1) z.0 z.1
            × AreNew method_signature MethodsDiffer methods_apart methods_told before z.0) (sym rest.2)
            (ap suc rest.1.0, (h.1.0, rest.1.1), (subst (λ (s : Signature). IsNew before s) h.1.1 h.1.2, new)),
      ))
      (λ at raws y h.
      let c = cons_of n before raws y h in
      let head-is : first_raw raws ≡ c.0 = ap first_raw c.2 in
      let tail-is : other_raws raws ≡ c.1 = ap other_raws c.2 in (
        ap (flat_map member_info) c.2 ∙ flat_map-cons member_info c.0 c.1
            ∙ ap (λ (t : List ℕ). t ++ flat_map member_info c.1) (ap member_info (sym head-is))
            ∙ ap (λ (t : List MemberInfo). member_info (first_raw raws) ++ flat_map member_info t) (sym tail-is),
        (
          c.3.0,
          subst (λ (raw : MemberInfo). IsMethod pool in_interface class raw c.3.0.0 c.3.0.2
              × (c.3.0.1 ≡ method_signature c.3.0.0) × IsNew before c.3.0.1) (sym head-is) c.3.1,
          (
            c.3.2.0,
            subst (λ (t : List MemberInfo). AreNewMethods n (c.3.0.1 ∷ before) t c.3.2.0)
                (sym tail-is) c.3.2.1,
            c.3.2.2,
          ),
        ),
      ))
      (bind_exact (λ first. bind (read_methods n pool in_interface class (first.1 ∷ before))
      (λ others. give (first.0 ∷ others.0, first.2 ∷ others.1))) (flat_map member_info)
      (λ first _ raws y. (others : MethodsRead) × AreNewMethods n (first.1 ∷ before) raws others
      × (y ≡ (first.0 ∷ others.0, first.2 ∷ others.1)))
      (method_info_exact before)
      (λ first. map_exact (λ (others : MethodsRead). let z : MethodsRead =
      (first.0 ∷ others.0, first.2 ∷ others.1) in z) (methods_exact n (first.1 ∷ before))))
