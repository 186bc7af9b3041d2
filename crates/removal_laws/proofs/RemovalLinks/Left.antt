-- What is left breaks no rule: at each place of a class, a field and a method that is left.
use Rattle.std.proofs.Common.{◌≡◌, ◌<◌, ℕ, ◌+◌, not, Bool, true, false, cond, List, [], ◌∷◌, ◌++◌, length}
use Rattle.std.proofs.Common.{map}
use Rattle.std.proofs.Common.{Option, Some, None, slice_get, refl, sym, ap, subst, ◌∙◌, arith, ◌||◌}
use Rattle.std.proofs.Common.{length-append}
use Rattle.std.specs.List.{cons_option, flat_map}
use Rattle.std.specs.Option.{option_map_or}
use Rattle.std.proofs.lemmas.Bool.{and_parts}
use Rattle.std.proofs.lemmas.List.{length-map}
use Rattle.std.proofs.lemmas.Option.{slice_get_within}
use Rattle.jv_base.proofs.Lists.{all_split, nil_parts, nil_joined}
use Rattle.mark_core.specs.Marks.{Closed}
use Rattle.class_model.specs.Flags.{acc_abstract, acc_final, acc_interface, has, is_left_out_class}
use Rattle.class_model.specs.Flags.{is_native}
use Rattle.class_model.specs.declared.class.Class.{Class}
use Rattle.class_model.specs.declared.class.Field.{Field}
use Rattle.class_model.specs.declared.class.Method.{Method}
use Rattle.class_model.specs.declared.code.Code.{Code}
use Rattle.class_model.specs.declared.code.Handler.{Handler}
use Rattle.class_model.specs.declared.code.Ins.{Ins}
use Rattle.class_model.specs.declared.frame.FrameAt.{FrameAt}
use Rattle.class_model.specs.declared.frame.VType.{VType}
use Rattle.class_model.specs.declared.frame.VType.TheVariants as vtype
use Rattle.class_pool.specs.Found.{MemberRow, field_row, method_row, rows_in}
use Rattle.class_pool.specs.Hierarchy.{is_interface_kind, kind_of}
use Rattle.lib_table.specs.declared.class.LibKind.TheVariants.{Open}
use Rattle.class_pool.specs.Items.{class_item}
use Rattle.class_pool.specs.Resolution.{is_interface_in}
use Rattle.class_pool.specs.declared.id.ClassId.TheVariants.{Prog}
use Rattle.class_pool.specs.declared.id.MemberAt.{MemberAt}
use Rattle.class_pool.proofs.ObjectLaws.{interface_flag}
use Rattle.link_check.specs.Profile.{body_kinds, code_kinds, declaration_kinds, frame_kinds, handler_kinds}
use Rattle.link_check.specs.Profile.{implementing_kinds, kinds_of_class, kinds_of_field, kinds_of_method, left_out_at}
use Rattle.link_check.specs.Profile.{method_type_kinds, name_kinds, op_kinds, overriding_kinds}
use Rattle.link_check.specs.Profile.{type_kinds, unless, verification_kinds}
use Rattle.link_check.specs.Taken.{BreaksNoRule}
use Rattle.link_check.specs.declared.fault.ProfileKind.TheVariants.{LeftOutFlag}
use Rattle.link_check.proofs.Taken.{links_taken}
use Rattle.member_shrink.specs.Shrunk.{is_marked, shrunk}
use Rattle.require_sys.specs.Requires.{Item, called_wants, frame_wants, handler_wants, initialisation_wants}
use Rattle.require_sys.specs.Requires.{name_wants, op_wants, requires, rule_wants, super_wants, throws_wants}
use Rattle.require_sys.specs.Requires.{verification_wants}
use Rattle.require_sys.specs.declared.kept.KeptByRules.{KeptByRules}
use Rattle.require_sys.proofs.Closing.{class_in, field_in}
use Rattle.image_laws.specs.ShrunkImage.Keeping.{is_class_kept, is_member_kept, rank}
use Rattle.image_laws.proofs.ShrunkImage.Classes.{f, kept_from, member_from, p}
use Rattle.image_laws.proofs.ShrunkImage.Kept.{as_filter, length_kept, rank_sum}
use Rattle.image_laws.specs.TakenSet.TakenSet.{IsTaken}
use Rattle.removal_laws.proofs.RemovalImage.Wanted.{AllIn, In, wants_of_code, wants_of_method}
use Rattle.removal_laws.specs.RemovalLinks.Laws.{RemovalKeepsLinks}
use Rattle.removal_laws.proofs.RemovalLinks.Implementing.{implementing_left}
use Rattle.removal_laws.proofs.RemovalLinks.Instructions.{base_left, handler_left, left, names_left, op_left}
use Rattle.removal_laws.proofs.RemovalLinks.Instructions.{types_left}
use Rattle.removal_laws.proofs.RemovalLinks.Overriding.{overriding_left}
use Rattle.removal_laws.proofs.RemovalLinks.Places.{Origin, none_broken, origin}

module _ (classes : List Class) (rules : KeptByRules) (marks : List Bool)
    (closed : Closed (requires classes rules) (is_marked marks)) (taken : IsTaken classes) where
  abbrev out : List Class
  out = shrunk classes marks

  abbrev All : List Item → Type 0
  All items = AllIn classes rules marks closed items

  right : BreaksNoRule classes
  right = links_taken classes taken.linked

  -- ---- lists of a code

  module _ (n : ℕ) (own : is_class_kept classes marks (Prog n) ≡ true) where
    abbrev at : ℕ
    at = left classes rules marks closed taken n own

    ops_left : (method : List ℕ) (xs : List Ins) → All (flat_map (λ (x : Ins). op_wants classes n x.op) xs)
        → flat_map (λ (x : Ins). op_kinds classes n method x.op) xs ≡ []
        → flat_map (λ (x : Ins). op_kinds out at method x.op) xs ≡ []
    ops_left method [] all none = refl
    ops_left method (x ∷ xs) all none =
        let parts = all_split (In classes rules marks closed) (op_wants classes n x.op)
        (flat_map (λ (x : Ins). op_wants classes n x.op) xs) all in
        let nones = nil_parts (op_kinds classes n method x.op)
        (flat_map (λ (x : Ins). op_kinds classes n method x.op) xs) none in
        nil_joined (op_kinds out at method x.op) (flat_map (λ (x : Ins). op_kinds out at method x.op) xs)
        (op_left classes rules marks closed taken n own method x.op parts.0 nones.0)
        (ops_left method xs parts.1 nones.1)

    handlers_left : (xs : List Handler) → All (flat_map (handler_wants classes) xs)
        → flat_map (handler_kinds classes n) xs ≡ [] → flat_map (handler_kinds out at) xs ≡ []
    handlers_left [] all none = refl
    handlers_left (x ∷ xs) all none =
        let parts = all_split (In classes rules marks closed) (handler_wants classes x)
        (flat_map (handler_wants classes) xs) all in
        let nones = nil_parts (handler_kinds classes n x) (flat_map (handler_kinds classes n) xs) none in
        nil_joined (handler_kinds out at x) (flat_map (handler_kinds out at) xs)
        (handler_left classes rules marks closed taken n own x parts.0 nones.0) (handlers_left xs parts.1 nones.1)

    verification_left : (v : VType) → All (verification_wants classes v) → verification_kinds classes n v ≡ []
        → verification_kinds out at v ≡ []
    verification_left (vtype.Object ty) all none = base_left classes rules marks closed taken n own ty.base all none
    verification_left v all none = refl

    verifications_left : (xs : List VType) → All (flat_map (verification_wants classes) xs)
        → flat_map (verification_kinds classes n) xs ≡ [] → flat_map (verification_kinds out at) xs ≡ []
    verifications_left [] all none = refl
    verifications_left (x ∷ xs) all none =
        let parts = all_split (In classes rules marks closed) (verification_wants classes x)
        (flat_map (verification_wants classes) xs) all in
        let nones = nil_parts (verification_kinds classes n x) (flat_map (verification_kinds classes n) xs) none in
        nil_joined (verification_kinds out at x) (flat_map (verification_kinds out at) xs)
        (verification_left x parts.0 nones.0) (verifications_left xs parts.1 nones.1)

    frames_left : (xs : List FrameAt) → All (flat_map (frame_wants classes) xs)
        → flat_map (frame_kinds classes n) xs ≡ [] → flat_map (frame_kinds out at) xs ≡ []
    frames_left [] all none = refl
    frames_left (x ∷ xs) all none =
        let parts = all_split (In classes rules marks closed) (frame_wants classes x)
        (flat_map (frame_wants classes) xs) all in
        let nones = nil_parts (frame_kinds classes n x) (flat_map (frame_kinds classes n) xs) none in
        nil_joined (frame_kinds out at x) (flat_map (frame_kinds out at) xs)
        (verifications_left (x.frame.locals ++ x.frame.stack) parts.0 nones.0) (frames_left xs parts.1 nones.1)

    code_left : (method : List ℕ) (o : Option Code)
        → All (option_map_or (λ (code : Code). flat_map (λ (x : Ins). op_wants classes n x.op) code.ins
        ++ (flat_map (handler_wants classes) code.handlers ++ flat_map (frame_wants classes) code.frames)) o [])
        → option_map_or (code_kinds classes n method) o [] ≡ [] → option_map_or (code_kinds out at method) o [] ≡ []
    code_left method None all none = refl
    code_left method (Some code) all none =
        let wants = wants_of_code classes rules marks closed n code all in
        let nones = nil_parts (flat_map (λ (x : Ins). op_kinds classes n method x.op) code.ins
        ++ flat_map (handler_kinds classes n) code.handlers) (flat_map (frame_kinds classes n) code.frames) none in
        let firsts = nil_parts (flat_map (λ (x : Ins). op_kinds classes n method x.op) code.ins)
        (flat_map (handler_kinds classes n) code.handlers) nones.0 in
        nil_joined (flat_map (λ (x : Ins). op_kinds out at method x.op) code.ins
        ++ flat_map (handler_kinds out at) code.handlers) (flat_map (frame_kinds out at) code.frames)
        (nil_joined (flat_map (λ (x : Ins). op_kinds out at method x.op) code.ins)
        (flat_map (handler_kinds out at) code.handlers)
        (ops_left method code.ins wants.instructions firsts.0)
        (handlers_left code.handlers wants.handlers firsts.1)) (frames_left code.frames wants.frames nones.1)

    -- ---- the places of a class that is left

    module _ (c : Class) (is : slice_get classes n ≡ Some c) (marked : is_marked marks (class_item classes n) ≡ true)
      where
        abbrev d : Class
        d = f classes marks n c

        -- a class that isn't abstract is no interface (JVMS 4.1)
        no_interface : has acc_abstract c.flags.0 ≡ false → is_interface_in classes (Prog n) ≡ false
        no_interface concrete =
            ap (λ o. is_interface_kind (option_map_or kind_of o Open)) is
            ∙ by (is_interface_kind (kind_of c)) refl
          where
            flags : (not (has (acc_final + acc_abstract) c.flags.0) ≡ true)
                × ((not (has acc_interface c.flags.0) || has acc_abstract c.flags.0) ≡ true)
            flags = and_parts (not (has (acc_final + acc_abstract) c.flags.0))
                (not (has acc_interface c.flags.0) || has acc_abstract c.flags.0) (taken.formed n c is).flags

            never : (s a : Bool) → s ≡ true → a ≡ false → (not s || a) ≡ true → ⊥
            never true false s a h = cc
            never true true s a h = cc
            never false a s e h = cc

            by : (t : Bool) → is_interface_kind (kind_of c) ≡ t → t ≡ false
            by false e = refl
            by true e = absurd (never (has acc_interface c.flags.0) (has acc_abstract c.flags.0) (interface_flag c e)
                concrete flags.1)

        class_left : kinds_of_class out at d ≡ []
        class_left =
            let heads = left_out_at c.left_out None in
            let flags = unless (not (is_left_out_class c.flags.0)) LeftOutFlag in
            let supers = flat_map (name_kinds classes n) (c.super_name ∷ c.interfaces) in
            let one = nil_parts (heads ++ flags ++ supers) (implementing_kinds classes n c) (right.class n c is) in
            let two = nil_parts (heads ++ flags) supers one.0 in
            let wants = (all_split (In classes rules marks closed) (super_wants classes c)
            (initialisation_wants classes n ++ (rule_wants classes rules n ++ called_wants classes n c))
            (class_in classes rules (is_marked marks) closed n c is marked)).0 in
            nil_joined (heads ++ flags ++ flat_map (name_kinds out at) (c.super_name ∷ c.interfaces))
            (implementing_kinds out at d)
            (nil_joined (heads ++ flags) (flat_map (name_kinds out at) (c.super_name ∷ c.interfaces)) two.0
            (names_left classes rules marks closed taken n own (c.super_name ∷ c.interfaces) wants two.1))
            (implementing_left classes rules marks closed taken n c is own no_interface one.1)

        -- nothing is left out of it
        not_left_out : (place : Option ℕ) → left_out_at c.left_out place ≡ []
        not_left_out place = ap (λ o. left_out_at o place) (taken.formed n c is).nothing_left_out

        field_left : (j : ℕ) (x : Field) → slice_get d.fields j ≡ Some x → kinds_of_field out at d j x ≡ []
        field_left j x there =
            let o = origin (is_marked marks) (λ k y. y) (class_item classes n + 1) c.fields j x
            (ap (λ (t : List Field). slice_get t j)
            (sym (as_filter (is_marked marks) (λ k y. y) (class_item classes n + 1) c.fields)) ∙ there) in
            let here : slice_get c.fields o.k ≡ Some x = o.at ∙ ap (λ (z : Field). Some z) (sym o.is) in
            let none = (nil_parts (left_out_at c.left_out (Some o.k)) (type_kinds classes n x.ty)
            (right.field n c o.k x is here)).1 in
            let wants = (field_in classes rules (is_marked marks) closed n c is o.k x here o.passes).1 in
            nil_joined (left_out_at c.left_out (Some j)) (type_kinds out at x.ty) (not_left_out (Some j))
            (base_left classes rules marks closed taken n own x.ty.base wants none)

        -- a method with these classes in its Exceptions, where they may be named
        method_left : (j : ℕ) (m : Method) → slice_get d.methods j ≡ Some m → (throws : List (List ℕ))
            → (All (throws_wants classes rules m) → flat_map (name_kinds classes n) m.throws ≡ []
            → flat_map (name_kinds out at) throws ≡ [])
            → kinds_of_method out at d (length d.fields + j) (record m { throws = throws }) ≡ []
        method_left j m there throws may =
            let first = class_item classes n + 1 + length c.fields in
            let o = origin (is_marked marks) (λ k y. y) first c.methods j m
            (ap (λ (t : List Method). slice_get t j)
            (sym (as_filter (is_marked marks) (λ k y. y) first c.methods)) ∙ there) in
            let here : slice_get c.methods o.k ≡ Some m = o.at ∙ ap (λ (z : Method). Some z) (sym o.is) in
            let item : class_item classes n + 1 + length c.fields + o.k
            ≡ class_item classes n + 1 + (length c.fields + o.k) = omega arith in
            let passes : is_marked marks (class_item classes n + 1 + (length c.fields + o.k)) ≡ true =
            ap (is_marked marks) (sym item) ∙ o.passes in
            let wants = wants_of_method classes rules marks closed n c o.k m is here passes in
            let old : MemberAt = record { class = Prog n; index = length c.fields + o.k } in
            let place : length d.fields + j
            ≡ rank (is_marked marks) (class_item classes n + 1) (length c.fields + o.k) =
            method_place o.k j o.place in
            let new : MemberAt = record { class = Prog at; index = length d.fields + j } in
            let head = left_out_at c.left_out (Some (length c.fields + o.k)) in
            let native = unless (not (is_native m.flags.0)) LeftOutFlag in
            let head_kinds = declaration_kinds classes n c (length c.fields + o.k) m in
            let one = nil_parts (head_kinds ++ body_kinds c m ++ overriding_kinds classes n old)
            (option_map_or (code_kinds classes n m.name) m.code []) (right.method n c o.k m is here) in
            let two = nil_parts (head_kinds ++ body_kinds c m) (overriding_kinds classes n old) one.0 in
            let three = nil_parts head_kinds (body_kinds c m) two.0 in
            let four = nil_parts (head ++ native ++ method_type_kinds classes n m.ty)
            (flat_map (name_kinds classes n) m.throws) three.0 in
            let five = nil_parts (head ++ native) (method_type_kinds classes n m.ty) four.0 in
            let native_none = (nil_parts head native five.0).1 in
            let bare : Method = record m { throws = throws } in
            let declared : declaration_kinds out at d (length d.fields + j) bare ≡ [] =
            nil_joined (left_out_at c.left_out (Some (length d.fields + j)) ++ native ++ method_type_kinds out at m.ty)
            (flat_map (name_kinds out at) throws)
            (nil_joined (left_out_at c.left_out (Some (length d.fields + j)) ++ native) (method_type_kinds out at m.ty)
            (nil_joined (left_out_at c.left_out (Some (length d.fields + j))) native
            (not_left_out (Some (length d.fields + j))) native_none)
            (types_left classes rules marks closed taken n own (cons_option m.ty.ret m.ty.args) wants.typed five.1))
            (may wants.throws four.1) in
            let kept : is_member_kept classes marks old ≡ true =
            member_from classes marks old own (method_row_there o.k (slice_get_within c.methods o.k m here)) passes in
            let overridden : overriding_kinds out at new ≡ [] =
            ap (λ (k : ℕ). overriding_kinds out at (record { class = Prog at; index = k })) place
            ∙ overriding_left classes rules marks closed taken n (length c.fields + o.k) kept two.1 in
            nil_joined (declaration_kinds out at d (length d.fields + j) bare ++ body_kinds c m
            ++ overriding_kinds out at new)
            (option_map_or (code_kinds out at m.name) m.code [])
            (nil_joined (declaration_kinds out at d (length d.fields + j) bare ++ body_kinds c m)
            (overriding_kinds out at new)
            (nil_joined (declaration_kinds out at d (length d.fields + j) bare)
            (body_kinds c m) declared three.1) overridden)
            (code_left m.name m.code wants.code one.1)
          where
            method_place : (k j : ℕ) → j ≡ rank (is_marked marks) (class_item classes n + 1 + length c.fields) k
                → length d.fields + j ≡ rank (is_marked marks) (class_item classes n + 1) (length c.fields + k)
            method_place k j e =
                let count : length d.fields ≡ rank (is_marked marks) (class_item classes n + 1) (length c.fields) =
                ap (λ (t : List Field). length t)
                (as_filter (is_marked marks) (λ k y. y) (class_item classes n + 1) c.fields)
                ∙ length_kept (is_marked marks) (λ k y. y) (class_item classes n + 1) c.fields in
                ap (λ (t : ℕ). t + j) count
                ∙ ap (λ (t : ℕ). rank (is_marked marks) (class_item classes n + 1) (length c.fields) + t) e
                ∙ sym (rank_sum (is_marked marks) (class_item classes n + 1) (length c.fields) k)

            method_row_there : (k : ℕ) → k < length c.methods
                → length c.fields + k < length (rows_in classes (Prog n))
            method_row_there k low =
                let rows : rows_in classes (Prog n) ≡ map field_row c.fields ++ map method_row c.methods =
                ap (λ o. option_map_or (λ (c : Class). map field_row c.fields ++ map method_row c.methods) o []) is in
                let long : length (rows_in classes (Prog n)) ≡ length c.fields + length c.methods =
                ap (λ (t : List MemberRow). length t) rows
                ∙ length-append (map field_row c.fields) (map method_row c.methods)
                ∙ ap (λ t. t + length (map method_row c.methods)) (length-map c.fields field_row)
                ∙ ap (λ t. length c.fields + t) (length-map c.methods method_row) in
                omega (arith, low, long)

  -- ---- the whole

  -- a class that is left is a marked one
  class_origin : (j : ℕ) (d : Class) → slice_get out j ≡ Some d
      → Origin (p classes marks) (f classes marks) 0 classes j d
  class_origin j d e = origin (p classes marks) (f classes marks) 0 classes j d
      (ap (λ (t : List Class). slice_get t j) (sym (as_filter (p classes marks) (f classes marks) 0 classes)) ∙ e)

  -- which it is
  pub record Stays (j : ℕ) (d : Class) : Type 0 where
    pub n : ℕ
    pub class : Class
    pub there : slice_get classes n ≡ Some class
    pub marked : is_marked marks (class_item classes n) ≡ true
    pub own : is_class_kept classes marks (Prog n) ≡ true
    pub place : j ≡ rank (p classes marks) 0 n
    pub is : d ≡ f classes marks n class

  pub stays : (j : ℕ) (d : Class) → slice_get out j ≡ Some d → Stays j d
  stays j d e =
      let o = class_origin j d e in
      let plain : 0 + o.k ≡ o.k = omega arith in
      let marked : is_marked marks (class_item classes o.k) ≡ true = ap (p classes marks) (sym plain) ∙ o.passes in
      record {
        n = o.k;
        class = o.element;
        there = o.at;
        marked = marked;
        own = kept_from classes marks (Prog o.k) (slice_get_within classes o.k o.element o.at) marked;
        place = o.place;
        is = o.is ∙ ap (λ (k : ℕ). f classes marks k o.element) plain;
      }

  pub classes_right : (j : ℕ) (d : Class) → slice_get out j ≡ Some d → kinds_of_class out j d ≡ []
  classes_right j d e =
      let s = stays j d e in
      subst (λ (x : Class). kinds_of_class out j x ≡ []) (sym s.is)
      (subst (λ (k : ℕ). kinds_of_class out k (f classes marks s.n s.class) ≡ []) (sym s.place)
      (class_left s.n s.own s.class s.there s.marked))

  pub fields_right : (j : ℕ) (d : Class) (k : ℕ) (x : Field) → slice_get out j ≡ Some d → slice_get d.fields k ≡ Some x
      → kinds_of_field out j d k x ≡ []
  fields_right j d k x e at =
      let s = stays j d e in
      subst (λ (y : Class). kinds_of_field out j y k x ≡ []) (sym s.is)
      (subst (λ (i : ℕ). kinds_of_field out i (f classes marks s.n s.class) k x ≡ []) (sym s.place)
      (field_left s.n s.own s.class s.there s.marked k x
      (ap (λ (y : Class). slice_get y.fields k) (sym s.is) ∙ at)))

  -- a method that is left, with these classes in its Exceptions, where they may be named
  methods_right : (throws : Method → List (List ℕ))
      → ((n : ℕ) (own : is_class_kept classes marks (Prog n) ≡ true) (m : Method)
      → All (throws_wants classes rules m) → flat_map (name_kinds classes n) m.throws ≡ []
      → flat_map (name_kinds out (at n own)) (throws m) ≡ [])
      → (j : ℕ) (d : Class) (k : ℕ) (m : Method) → slice_get out j ≡ Some d → slice_get d.methods k ≡ Some m
      → kinds_of_method out j d (length d.fields + k) (record m { throws = throws m }) ≡ []
  methods_right throws may j d k m e at =
      let s = stays j d e in
      subst (λ (y : Class). kinds_of_method out j y (length y.fields + k) (record m { throws = throws m }) ≡ [])
      (sym s.is)
      (subst (λ (i : ℕ). kinds_of_method out i (f classes marks s.n s.class)
      (length (f classes marks s.n s.class).fields + k) (record m { throws = throws m }) ≡ []) (sym s.place)
      (method_left s.n s.own s.class s.there s.marked k m
      (ap (λ (y : Class). slice_get y.methods k) (sym s.is) ∙ at) (throws m) (may s.n s.own m)))

  -- where Exceptions is kept, the classes that it names are
  thrown : (n : ℕ) (own : is_class_kept classes marks (Prog n) ≡ true) (m : Method) → rules.exceptions ≡ true
      → All (throws_wants classes rules m) → flat_map (name_kinds classes n) m.throws ≡ []
      → flat_map (name_kinds out (at n own)) m.throws ≡ []
  thrown n own m exceptions wants none =
      names_left classes rules marks closed taken n own m.throws
      (subst (λ (t : Bool). All (cond t (flat_map (name_wants classes) m.throws) [])) exceptions wants) none

  -- a method that is left, with the classes in its Exceptions where that attribute is kept
  pub methods_kept : (exceptions : Bool) → exceptions ≡ rules.exceptions → (j : ℕ) (d : Class) (k : ℕ) (m : Method)
      → slice_get out j ≡ Some d → slice_get d.methods k ≡ Some m
      → kinds_of_method out j d (length d.fields + k) (record m { throws = cond exceptions m.throws [] }) ≡ []
  methods_kept true same = methods_right (λ m. m.throws) (λ n own m. thrown n own m (sym same))
  methods_kept false same = methods_right (λ m. []) (λ n own m wants none. refl)

  left_right : rules.exceptions ≡ true → BreaksNoRule out
  left_right exceptions = record {
    class = classes_right;
    field = fields_right;
    method = methods_kept true (sym exceptions);
  }

pub links_left : RemovalKeepsLinks
links_left classes rules marks taken closed exceptions =
    none_broken (shrunk classes marks) (left_right classes rules marks closed taken exceptions)
