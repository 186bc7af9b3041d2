-- Classes under new names break no rule for links: at each place of a class, a field and a method.
use Rattle.std.proofs.Common.{◌≡◌, ℕ, ◌+◌, not, ◌||◌, Bool, true, false, List, [], ◌∷◌, ◌++◌, length, map, Option, Some}
use Rattle.std.proofs.Common.{None, slice_get, zero, suc, sym, ap, subst, ◌∙◌, arith}
use Rattle.std.specs.Prelude.{is_some}
use Rattle.std.specs.List.{flat_map}
use Rattle.std.specs.Option.{option_map, option_map_or}
use Rattle.std.proofs.lemmas.List.{length-map}
use Rattle.std.proofs.lemmas.Option.{same_Some, slice_get-map, slice_get_within}
use Rattle.jv_base.specs.Names.{is_text}
use Rattle.jv_base.specs.Types.{method_text}
use Rattle.jv_base.proofs.Lists.{all_at, mapped_from, nil_parts, nil_joined}
use Rattle.class_model.specs.Flags.{acc_abstract, has, is_interface, is_left_out_class, is_native}
use Rattle.class_model.specs.WellFormed.{IsGoodMethod}
use Rattle.class_model.specs.declared.class.Class.{Class}
use Rattle.class_model.specs.declared.class.Field.{Field}
use Rattle.class_model.specs.declared.class.Method.{Method}
use Rattle.class_pool.specs.Found.{field_row, method_row}
use Rattle.class_pool.specs.declared.id.ClassId.TheVariants.{Prog}
use Rattle.class_pool.specs.declared.id.MemberAt.{MemberAt}
use Rattle.link_check.specs.Profile.{body_kinds, code_kinds, declaration_kinds, implementing_kinds, kinds_of_class}
use Rattle.link_check.specs.Profile.{kinds_of_field, kinds_of_method, left_out_at, method_type_kinds, name_kinds}
use Rattle.link_check.specs.Profile.{overriding_kinds, type_kinds, unless}
use Rattle.link_check.specs.Taken.{BreaksNoRule}
use Rattle.link_check.specs.declared.fault.ProfileKind.TheVariants.{LeftOutFlag, LeftOutMember}
use Rattle.link_check.proofs.Taken.{links_taken}
use Rattle.image_laws.proofs.TakenSet.Proper.{is_proper}
use Rattle.class_rename.specs.Names.{Names}
use Rattle.class_rename.specs.Renamed.{renamed, renamed_field, renamed_method, renamed_type}
use Rattle.pair_laws.specs.RenamedImage.Naming.{is_class_there, is_member_there}
use Rattle.pair_laws.proofs.RenamedTaken.Codes.{code_right}
use Rattle.pair_laws.proofs.RenamedTaken.Implementing.{implementing_right}
use Rattle.image_laws.proofs.TakenSet.Overriding.{overriding_right}
use Rattle.pair_laws.proofs.RenamedTaken.Placed.{IsPlaced, i, selected_there, was}
use Rattle.pair_laws.proofs.RenamedTaken.References.{role_same, writer}
use Rattle.pair_laws.proofs.RenamedTaken.Types.{base_right, names_right, signature_right}

-- the row of a field, and behind those of the fields that of a method
pub field_row_there : (fs : List Field) (ms : List Method) (k : ℕ) (f : Field) → slice_get fs k ≡ Some f
    → slice_get (map field_row fs ++ map method_row ms) k ≡ Some (field_row f)
field_row_there [] ms k f at = absurd cc
field_row_there (g ∷ fs) ms zero f at = ap (λ (x : Field). Some (field_row x)) (same_Some g f at)
field_row_there (g ∷ fs) ms (suc k) f at = field_row_there fs ms k f at

pub method_row_there : (fs : List Field) (ms : List Method) (k : ℕ) (m : Method) → slice_get ms k ≡ Some m
    → slice_get (map field_row fs ++ map method_row ms) (length fs + k) ≡ Some (method_row m)
method_row_there [] ms k m at =
    let plain : 0 + k ≡ k = omega arith in
    ap (slice_get (map method_row ms)) plain ∙ slice_get-map method_row ms k ∙ ap (option_map method_row) at
method_row_there (f ∷ fs) ms k m at =
    let next : suc (length fs) + k ≡ suc (length fs + k) = omega arith in
    ap (slice_get (map field_row (f ∷ fs) ++ map method_row ms)) next ∙ method_row_there fs ms k m at

module _ (names : Names) (place back : ℕ → ℕ) (xs ys : List Class) (h : IsPlaced names place back xs ys) where
  right : BreaksNoRule xs
  right = links_taken xs h.taken.linked

  -- ---- a class at its place

  module _ (n : ℕ) (c : Class) (is : slice_get xs n ≡ Some c) where
    own : is_class_there xs (Prog n) ≡ true
    own = ap is_some is

    -- nothing is left out of it
    not_left_out : (place_in : Option ℕ) → left_out_at c.left_out place_in ≡ []
    not_left_out place_in = ap (λ o. left_out_at o place_in) (h.taken.formed n c is).nothing_left_out

    class_right : kinds_of_class ys (place n) (renamed names c) ≡ []
    class_right =
        let heads = left_out_at c.left_out None in
        let flags = unless (not (is_left_out_class c.flags.0)) LeftOutFlag in
        let supers = flat_map (name_kinds xs n) (c.super_name ∷ c.interfaces) in
        let one = nil_parts (heads ++ flags ++ supers) (implementing_kinds xs n c) (right.class n c is) in
        let two = nil_parts (heads ++ flags) supers one.0 in
        let new_supers = flat_map (name_kinds ys (place n)) (map names.class (c.super_name ∷ c.interfaces)) in
        nil_joined (heads ++ flags ++ new_supers) (implementing_kinds ys (place n) (renamed names c))
        (nil_joined (heads ++ flags) new_supers two.0
        (names_right names place back xs ys h n own (c.super_name ∷ c.interfaces) two.1))
        (implementing_right names place back xs ys h n c is one.1)

    field_right : (k : ℕ) (f : Field) → slice_get c.fields k ≡ Some f
        → kinds_of_field ys (place n) (renamed names c) k (renamed_field names f) ≡ []
    field_right k f at =
        let none = (nil_parts (left_out_at c.left_out (Some k)) (type_kinds xs n f.ty) (right.field n c k f is at)).1 in
        nil_joined (left_out_at c.left_out (Some k)) (type_kinds ys (place n) (renamed_type names f.ty))
        (not_left_out (Some k)) (base_right names place back xs ys h n own f.ty.base none)

    method_right : (k : ℕ) (m : Method) → slice_get c.methods k ≡ Some m
        → kinds_of_method ys (place n) (renamed names c) (length c.fields + k) (renamed_method names m) ≡ []
    method_right k m at =
        let old : MemberAt = record { class = Prog n; index = length c.fields + k } in
        let there : is_member_there xs old ≡ true =
        ap (λ o. is_some (slice_get (option_map_or (λ (c : Class). map field_row c.fields ++ map method_row c.methods)
        o []) (length c.fields + k))) is ∙ ap is_some (method_row_there c.fields c.methods k m at) in
        let good = all_at (IsGoodMethod (is_interface c.flags.0)) c.methods k m (h.taken.formed n c is).methods at in
        let new = renamed_method names m in
        let head = left_out_at c.left_out (Some (length c.fields + k)) in
        let native = unless (not (is_native m.flags.0)) LeftOutFlag in
        let declared = declaration_kinds xs n c (length c.fields + k) m in
        let one = nil_parts (declared ++ body_kinds c m ++ overriding_kinds xs n old)
        (option_map_or (code_kinds xs n m.name) m.code []) (right.method n c k m is at) in
        let two = nil_parts (declared ++ body_kinds c m) (overriding_kinds xs n old) one.0 in
        let three = nil_parts declared (body_kinds c m) two.0 in
        let four = nil_parts (head ++ native ++ method_type_kinds xs n m.ty) (flat_map (name_kinds xs n) m.throws)
        three.0 in
        let five = nil_parts (head ++ native) (method_type_kinds xs n m.ty) four.0 in
        let new_declared = declaration_kinds ys (place n) (renamed names c) (length c.fields + k) new in
        let new_body = body_kinds (renamed names c) new in
        let new_over = overriding_kinds ys (place n) (record { class = Prog (place n); index = length c.fields + k }) in
        let types = method_type_kinds ys (place n) new.ty in
        let thrown = flat_map (name_kinds ys (place n)) (map names.class m.throws) in
        nil_joined (new_declared ++ new_body ++ new_over) (option_map_or (code_kinds ys (place n) new.name) new.code [])
        (nil_joined (new_declared ++ new_body) new_over
        (nil_joined new_declared new_body
        (nil_joined (head ++ native ++ types) thrown
        (nil_joined (head ++ native) types five.0
        (signature_right names place back xs ys h n own m.ty.ret m.ty.args five.1))
        (names_right names place back xs ys h n own m.throws four.1))
        (ap (λ (t : Bool). unless (not (is_interface c.flags.0) || has acc_abstract m.flags.0 || t) LeftOutMember)
        (h.form.clinit m.name (method_text m.ty)) ∙ three.1))
        (overriding_right xs ys (i names place back xs ys h) (is_proper xs h.taken)
        (selected_there names place back xs ys h) (role_same place) old (slice_get_within xs n c is) there two.1))
        (code_right names place back xs ys h n own m.name new.name (initial m) m.code good.code one.1)
      where
        initial : (m : Method) (static : Bool)
            → is_text (names.method m.name (method_text m.ty)) (writer static) ≡ is_text m.name (writer static)
        initial m true = h.form.clinit m.name (method_text m.ty)
        initial m false = h.form.init m.name (method_text m.ty)

  -- ---- each place

  pub breaks_none : BreaksNoRule ys
  breaks_none = record {
    class = λ j d at.
        let w = was names place back xs ys h j d at in
        subst (λ (x : Class). kinds_of_class ys j x ≡ []) (sym w.is)
        (subst (λ (k : ℕ). kinds_of_class ys k (renamed names w.class) ≡ []) (sym w.place_is)
        (class_right w.n w.class w.there));
    field = λ j d k f at then_at.
        let w = was names place back xs ys h j d at in
        let g = mapped_from (renamed_field names) w.class.fields k f
        (ap (λ (x : Class). slice_get x.fields k) (sym w.is) ∙ then_at) in
        subst (λ (x : Class). kinds_of_field ys j x k f ≡ []) (sym w.is)
        (subst (λ (y : Field). kinds_of_field ys j (renamed names w.class) k y ≡ []) (sym g.2)
        (subst (λ (l : ℕ). kinds_of_field ys l (renamed names w.class) k (renamed_field names g.0) ≡ [])
        (sym w.place_is) (field_right w.n w.class w.there k g.0 g.1)));
    method = λ j d k m at then_at.
        let w = was names place back xs ys h j d at in
        let g = mapped_from (renamed_method names) w.class.methods k m
        (ap (λ (x : Class). slice_get x.methods k) (sym w.is) ∙ then_at) in
        subst (λ (x : Class). kinds_of_method ys j x (length x.fields + k) m ≡ []) (sym w.is)
        (subst (λ (y : Method). kinds_of_method ys j (renamed names w.class)
        (length (renamed names w.class).fields + k) y ≡ []) (sym g.2)
        (subst (λ (l : ℕ). kinds_of_method ys j (renamed names w.class) (l + k) (renamed_method names g.0) ≡ [])
        (sym (length-map w.class.fields (renamed_field names)))
        (subst (λ (l : ℕ). kinds_of_method ys l (renamed names w.class) (length w.class.fields + k)
        (renamed_method names g.0) ≡ []) (sym w.place_is) (method_right w.n w.class w.there k g.0 g.1))));
  }
