-- The frames of the output, with old names, are those of the input.
use Rattle.std.proofs.Common.{◌≡◌, ℕ, ◌+◌, ◌&&◌, Bool, true, false, cond, List, [], ◌∷◌, ◌++◌, length, map}
use Rattle.std.proofs.Common.{Option, Some, None, slice_get, refl, sym, ap, subst, ◌∙◌, arith}
use Rattle.std.specs.Prelude.{IsSome, is_some}
use Rattle.std.specs.List.{AllByRecursion, AllZip, Contains, find}
use Rattle.std.specs.Map.{lookup}
use Rattle.std.specs.Option.{option_and_then, option_map, option_map_or}
use Rattle.std.specs.Str.{is_utf8}
use Rattle.std.proofs.lemmas.Option.{same_Some}
use Rattle.std.proofs.lemmas.Str.{is_utf8-from_IsUtf8}
use Rattle.jv_base.specs.External.{dotted}
use Rattle.jv_base.specs.Names.{is_class_name, is_method_name, is_text}
use Rattle.jv_base.specs.Types.{method_text}
use Rattle.jv_base.proofs.Options.{some_there}
use Rattle.jv_base.proofs.Lists.{all_at, all_weaker}
use Rattle.jv_base.proofs.Equality.{text_itself, same_text}
use Rattle.class_model.specs.Flags.{is_interface}
use Rattle.class_model.specs.WellFormed.{IsGoodMethod}
use Rattle.class_model.specs.declared.class.Class.{Class}
use Rattle.class_model.specs.declared.class.Method.{Method}
use Rattle.class_model.specs.declared.code.Code.{Code}
use Rattle.class_pool.specs.Found.{MemberRow, NameAndType, field_row, method_row, name_of, named_at}
use Rattle.class_pool.specs.Items.{class_item}
use Rattle.class_pool.specs.declared.id.ClassId.{ClassId}
use Rattle.class_pool.specs.declared.id.ClassId.TheVariants.{Prog}
use Rattle.class_pool.specs.declared.id.MemberAt.{MemberAt}
use Rattle.keep_rules.specs.declared.rules.Rules.{Rules}
use Rattle.mapping_file.specs.declared.mapping.MapClass.{MapClass}
use Rattle.mapping_file.specs.declared.mapping.MapMethod.{MapMethod}
use Rattle.mapping_file.specs.declared.mapping.Mapping.{Mapping}
use Rattle.mapping_file.specs.declared.mapping.Range.{Range}
use Rattle.member_shrink.specs.Shrunk.{is_marked}
use Rattle.jvm_model.specs.Program.{View}
use Rattle.jvm_model.specs.Same.{FrameCorr, Names}
use Rattle.jvm_model.specs.State.{Frame, frames}
use Rattle.jvm_model.specs.Value.{Key}
use Rattle.set_view.specs.ViewOf.{code_at, member_of, view_of}
use Rattle.image_laws.proofs.ViewImage.Naming.{member_is}
use Rattle.class_rename.specs.Renamed.{renamed_method_type}
use Rattle.new_names.specs.NewNames.{class_line, method_in, names_of, new_method, range_in}
use Rattle.pair_clauses.specs.LineRanges.{leaves_range}
use Rattle.retrace_core.specs.Frames as retrace
use Rattle.retrace_core.specs.Frames.{line_of}
use Rattle.retrace_core.specs.OldNames.{candidates, class_named, fitting, old_methods, source_of}
use Rattle.retrace_core.specs.Retraced.{frame_retraced, frame_text, line_retraced, line_retraced_by, old_frame_text}
use Rattle.image_laws.specs.ShrunkImage.Keeping.{is_class_kept, is_index_marked, is_member_kept, rank}
use Rattle.image_laws.proofs.ShrunkImage.Classes.{class_marked, class_of_kept, f, member_marked}
use Rattle.image_laws.proofs.ShrunkImage.Kept.{as_filter, kept_at}
use Rattle.removal_laws.proofs.RemovalSame.Told.{code_found}
use Rattle.image_laws.specs.TakenSet.TakenSet.{IsTaken}
use Rattle.pair_laws.specs.RenamedImage.Renaming.{IsNewMethod, renamed_named}
use Rattle.pair_laws.proofs.RenamedImage.Descriptors.{method_named}
use Rattle.pair_laws.specs.RenamedSame.NewKeys.{new_key}
use Rattle.pair_laws.specs.PairSame.Laws.{pair_names}
use Rattle.pair_laws.specs.PairSame.Pairs.{IsPair}
use Rattle.pair_laws.proofs.PairSame.Expected as expected
use Rattle.pair_laws.proofs.PairSame.Expected.{GoodLine, NewOne, all_good, class_new, lined}
use Rattle.pair_laws.proofs.PairSame.Expected.{method_found, method_name, methods_new, new_of, numbered_class, ranges_new}
use Rattle.pair_laws.proofs.PairSame.Lined.{class_lined, method_lined}
use Rattle.pair_laws.proofs.PairSame.Naming.{zip_at}
use Rattle.pair_laws.specs.PairTrace.FrameLines.{HasNone, IsLineNumber, IsSource, frame_line}
use Rattle.pair_laws.specs.PairTrace.Laws.{FramesRetrace, IsRetraced}
use Rattle.pair_laws.proofs.PairTrace.Bytes.{class_has_no_paren, method_has_none, one_dotted}
use Rattle.pair_laws.proofs.PairTrace.Candidates.{Fits, Line, among_names, contained, fits_line, is_number, line_found}
use Rattle.pair_laws.proofs.PairTrace.Candidates.{only_name, stands_mapped}
use Rattle.pair_laws.proofs.PairTrace.LineLaw.{frame_read, frame_with}
use Rattle.pair_laws.proofs.PairTrace.OwnCodes.{key_of, own_code}
use Rattle.pair_laws.proofs.RenamedTaken.Rules.{method_row_there}

-- ---- searches

-- of an element that is looked up by its key, and is the only one that passes, a search finds it
find_only : (key : MapClass → List ℕ) (name : List ℕ) (test : MapClass → Bool) (ls : List MapClass) (l : MapClass)
    → lookup (λ k. is_text k name) (map (λ (x : MapClass). (key x, x)) ls) ≡ Some l → test l ≡ true
    → AllByRecursion (λ (x : MapClass). test x ≡ true → x ≡ l) ls → find test ls ≡ Some l
find_only key name test [] l e h all = absurd cc
find_only key name test (x ∷ ls) l e h all =
    by (test x) refl (is_text (key x) name) refl e (λ e. find_only key name test ls l e h all.1)
  where
    by : (t : Bool) → test x ≡ t → (u : Bool) → is_text (key x) name ≡ u
        → cond u (Some x) (lookup (λ k. is_text k name) (map (λ (x : MapClass). (key x, x)) ls)) ≡ Some l
        → (lookup (λ k. is_text k name) (map (λ (x : MapClass). (key x, x)) ls) ≡ Some l → find test ls ≡ Some l)
        → cond t (Some x) (find test ls) ≡ Some l
    by true f u g e r = ap Some (all.0 f)
    by false f true g e r = absurd (let w : true ≡ false = sym h ∙ ap test (sym (same_Some x l e)) ∙ f in cc)
    by false f false g e r = r e

-- each frame is of the method that has the new name of the other one's
abbrev pub AreNamed : Names → List Frame → List Frame → Type 0
AreNamed names fs gs = AllZip (λ (f g : Frame). names.method f.method ≡ Some g.method) fs gs

module _ (input output : List Class) (mapping : Mapping) (rules : Rules) (taken : IsTaken input)
    (then_taken : IsTaken output) (pair : IsPair input output mapping rules) where
  abbrev marks : List Bool
  marks = lined input output mapping rules taken pair

  -- the new name of a class that has a line is that of a class of the output
  line_formed : (l : MapClass) → GoodLine input output mapping rules taken pair l → is_class_name l.new ≡ true
  line_formed l good =
      let n = some_there _ good.line.in_output in
      let c = numbered_class output l.new n.0 n.1 in
      ap is_class_name (sym c.2) ∙ (then_taken.formed n.0 c.0 c.1).name.1

  -- it is found by its name with dots
  class_found : (name : List ℕ) (l : MapClass) → class_line mapping name ≡ Some l
      → class_named mapping.classes (dotted l.new) ≡ Some l
  class_found name l e =
      let g = (expected.line_of input output mapping rules taken pair name l e).0 in
      find_only (λ (x : MapClass). x.old) name (λ (x : MapClass). is_text (dotted l.new)
      (dotted x.new)) mapping.classes l e
      (text_itself (dotted l.new))
      (all_weaker (GoodLine input output mapping rules taken pair)
      (λ (x : MapClass). is_text (dotted l.new) (dotted x.new) ≡ true → x ≡ l)
      (λ x good h.
      let new = one_dotted x.new l.new (line_formed x good) (line_formed l g)
      (sym (same_text (dotted l.new) (dotted x.new) h)) in
      same_Some x l (sym good.line.new
      ∙ ap (λ (t : List ℕ). lookup (λ k. is_text k t) (map (λ (l : MapClass). (l.new, l)) mapping.classes)) new
      ∙ g.line.new)) mapping.classes (all_good input output mapping rules taken pair))

  -- so is a method by its name and descriptor in the lines of its class
  method_line : (c : Class) (x : Method) (l : MapClass) (new : List ℕ) → class_line mapping c.name ≡ Some l
      → new_method mapping c x ≡ Some new → Line l.methods (x.name, method_text x.ty) new
  method_line c x l new is given = line_found l.methods (x.name, method_text x.ty) new
      (sym (ap (option_and_then (λ l. method_in l x)) is) ∙ given)

  -- ---- a method that has a code and a line

  -- one of the lines that the line of a method becomes is that of another one, and the only one where no other fits
  abbrev Becomes : Key → Key → List ℕ → List ℕ → Type 0
  Becomes g k number source =
      Contains (line_retraced mapping (frame_line g number source)) (frame_line k number (source_of k.class))
      × (((d : MapClass) → class_named mapping.classes (dotted g.class) ≡ Some d
      → AllByRecursion (λ (m : MapMethod). m.old ≡ k.name) (fitting (line_of number) (candidates d.methods g.name)))
      → line_retraced mapping (frame_line g number source) ≡ frame_line k number (source_of k.class) ∷ [])

  module _ (n : ℕ) (c : Class) (j : ℕ) (x : Method) (at : slice_get input n ≡ Some c)
      (there : slice_get c.methods j ≡ Some x) (class_is : is_marked marks (class_item input n) ≡ true)
      (method_is : is_marked marks (class_item input n + 1 + (length c.fields + j)) ≡ true) where
    abbrev own_key : Key
    own_key = key_of c x

    become : NewOne input output mapping rules taken pair c
    become = new_of input output mapping rules taken pair c (sym (class_lined mapping input n c at) ∙ class_is)

    abbrev line : MapClass
    line = become.line

    new : (name : List ℕ) × (new_method mapping c x ≡ Some name)
    new = some_there (new_method mapping c x) (sym (method_lined mapping input n c at j x there) ∙ method_is)

    good : GoodLine input output mapping rules taken pair line × (line.old ≡ c.name)
    good = expected.line_of input output mapping rules taken pair c.name line become.line_is

    class : (names_of mapping).class c.name ≡ line.new
    class = class_new input output mapping rules taken pair c.name line.new
        (ap (option_map (λ (l : MapClass). l.new)) become.line_is)

    formed : IsGoodMethod (is_interface c.flags.0) x
    formed = all_at (IsGoodMethod (is_interface c.flags.0)) c.methods j x (taken.formed n c at).methods there

    name_at : (names_of mapping).method x.name (method_text x.ty) ≡ new.0
    name_at = method_name input output mapping rules taken pair x.name new.0 (method_text x.ty)
        (method_found input output mapping rules taken pair c x new.0 new.1)

    named : renamed_named (names_of mapping) (x.name, method_text x.ty)
        ≡ ((names_of mapping).method x.name (method_text x.ty), method_text (renamed_method_type (names_of mapping) x.ty))
    named = method_named (names_of mapping) x.name x.ty formed.typed

    name : (renamed_named (names_of mapping) (x.name, method_text x.ty)).0 ≡ new.0
    name = ap (λ (t : NameAndType). t.0) named ∙ name_at

    -- its place among what is left
    abbrev first : ℕ
    first = class_item input n + 1 + length c.fields

    abbrev number_left : ℕ
    number_left = rank (is_marked marks) first j

    left : slice_get (f input marks n c).methods number_left ≡ Some x
    left =
        let item : class_item input n + 1 + (length c.fields + j) ≡ first + j = omega arith in
        ap (λ (t : List Method). slice_get t number_left) (as_filter (is_marked marks) (λ k y. y) first c.methods)
        ∙ kept_at (is_marked marks) (λ k y. y) first c.methods j (sym (ap (is_marked marks) item) ∙ method_is)
        ∙ ap (option_map (λ (y : Method). y)) there

    -- the method of the output
    out : (y : Method) × (slice_get become.out.methods number_left ≡ Some y) × IsNewMethod (names_of mapping) x y
    out = zip_at (IsNewMethod (names_of mapping)) (f input marks n c).methods become.out.methods number_left x
        (methods_new input output mapping rules taken pair n c at become) left

    own : out.0.name ≡ new.0
    own = out.2.name ∙ name_at

    in_range : leaves_range (range_in line x) out.0.code ≡ false
    in_range =
        let y = zip_at (λ (x y : Method). leaves_range (range_in line x) y.code ≡ false) (f input marks n c).methods
        become.out.methods number_left x (ranges_new input output mapping rules taken pair n c at become) left in
        subst (λ (z : Method). leaves_range (range_in line x) z.code ≡ false)
        (same_Some y.0 out.0 (sym y.1 ∙ out.1)) y.2

    -- its key and its code
    abbrev out_key : Key
    out_key = new_key (names_of mapping) own_key

    key_is : out_key ≡ key_of become.out out.0
    key_is = λ i. record {
      class = (class ∙ sym become.name) i;
      name = (name ∙ sym own) i;
      descriptor = (ap (λ (t : NameAndType). t.1) named ∙ ap method_text (sym out.2.ty)) i;
    }

    code_is : (view_of output).code out_key ≡ out.0.code
    code_is = ap (view_of output).code key_is
        ∙ own_code output then_taken become.number become.out become.at number_left out.0 out.1

    found : Line line.methods (x.name, method_text x.ty) new.0
    found = method_line c x line new.0 become.line_is new.1

    old_is : found.line.old ≡ x.name
    old_is = ap (λ (t : NameAndType). t.0) found.named

    -- its name can be read
    bytes : HasNone 40 new.0 × HasNone 46 new.0
    bytes =
        let out_formed = all_at (IsGoodMethod (is_interface become.out.flags.0)) become.out.methods number_left out.0
        (then_taken.formed become.number become.out become.at).methods out.1 in
        method_has_none new.0 (ap is_method_name (sym own) ∙ out_formed.name.1)

    spelled : (is_utf8 new.0 && is_method_name new.0) ≡ true
    spelled =
        let out_formed = all_at (IsGoodMethod (is_interface become.out.flags.0)) become.out.methods number_left out.0
        (then_taken.formed become.number become.out become.at).methods out.1 in
        let utf8 : is_utf8 new.0 ≡ true = ap is_utf8 (sym own) ∙ is_utf8-from_IsUtf8 out.0.name out_formed.name.0 in
        let method : is_method_name new.0 ≡ true = ap is_method_name (sym own) ∙ out_formed.name.1 in
        (λ i. utf8 i && method i)

    module _ (source number : List ℕ) (is : IsSource source) (told : IsLineNumber ((view_of output).code out_key) number)
      where
        abbrev frame : retrace.Frame
        frame = frame_with (dotted line.new) new.0 number

        own_line : IsLineNumber out.0.code number
        own_line = subst (λ (o : Option Code). IsLineNumber o number) code_is told

        fits : Fits (line_of number) found.line.lines
        fits = fits_line found.line.lines out.0.code number
            (ap (λ (r : Option Range). leaves_range r out.0.code)
            (sym (ap (option_and_then (λ (r : Option Range). r)) found.range)) ∙ in_range) own_line

        abbrev olds : List (List ℕ)
        olds = old_methods line new.0 (line_of number)

        -- the lines that its line becomes
        lines_are : line_retraced mapping (frame_line out_key number source) ≡ map (old_frame_text frame line) olds
        unfolding line_retraced
        lines_are =
            (λ i. line_retraced mapping (frame_text (frame_with (dotted (class i)) (name i) number) source))
            ∙ ap (line_retraced_by mapping (frame_text frame source))
            (frame_read (dotted line.new) new.0 source number (class_has_no_paren line.new (line_formed line good.0))
            bytes.0 bytes.1 spelled is.colon is.end (is_number out.0.code number own_line))
            ∙ ap (frame_retraced (frame_text frame source) frame) (class_found c.name line become.line_is)

        own_text : old_frame_text frame line found.line.old ≡ frame_line own_key number (source_of c.name)
        own_text = λ i. frame_text (frame_with (dotted (good.1 i)) (old_is i) number) (source_of (good.1 i))

        among : Contains (line_retraced mapping (frame_line out_key number source))
            (frame_line own_key number (source_of c.name))
        among =
            let name = among_names line.methods new.0 (line_of number) found.line found.there found.new_is fits new.0 in
            let text = stands_mapped (old_frame_text frame line) olds found.line.old name in
            subst (λ (t : List ℕ). Contains (line_retraced mapping (frame_line out_key number source)) t) own_text
            (subst (λ (ls : List (List ℕ)). Contains ls (old_frame_text frame line found.line.old)) (sym lines_are)
            (contained (map (old_frame_text frame line) olds) (old_frame_text frame line found.line.old) text))

        only : ((d : MapClass) → class_named mapping.classes (dotted out_key.class) ≡ Some d
            → AllByRecursion (λ (m : MapMethod). m.old ≡ x.name)
            (fitting (line_of number) (candidates d.methods out_key.name)))
            → line_retraced mapping (frame_line out_key number source)
            ≡ frame_line own_key number (source_of c.name) ∷ []
        only none =
            let all = subst (λ (t : List ℕ). AllByRecursion (λ (m : MapMethod). m.old ≡ x.name)
            (fitting (line_of number) (candidates line.methods t))) name
            (none line (ap (λ (t : List ℕ). class_named mapping.classes (dotted t)) class
            ∙ class_found c.name line become.line_is)) in
            let same = all_weaker (λ (m : MapMethod). m.old ≡ x.name) (λ (m : MapMethod). m.old ≡ found.line.old)
            (λ m h. h ∙ sym old_is) (fitting (line_of number) (candidates line.methods new.0)) all in
            lines_are
            ∙ ap (map (old_frame_text frame line))
            (only_name line.methods new.0 (line_of number) found.line found.there found.new_is fits new.0 same)
            ∙ ap (λ (t : List ℕ). t ∷ []) own_text

    traced : (source number : List ℕ) → IsSource source → IsLineNumber ((view_of output).code out_key) number
        → Becomes out_key own_key number source
    traced source number is told = (among source number is told, only source number is told)

  -- ---- keys

  key_traced : (k g : Key) → (pair_names input mapping).method k ≡ Some g → IsSome ((view_of input).code k)
      → (source number : List ℕ) → IsSource source → IsLineNumber ((view_of output).code g) number
      → Becomes g k number source
  key_traced k g e code source number is digits = by (member_of input k) refl e code
    where
      of_member : (m : MemberAt) → member_of input k ≡ Some m → is_member_kept input marks m ≡ true
          → new_key (names_of mapping) k ≡ g → (d : Code) → code_at input m ≡ Some d
          → Becomes g k number source
      of_member m found kept same d has =
          let h = code_found input m.class m.index d has in
          let own = (member_is input k m found).key in
          let row : named_at input m ≡ (h.method.name, method_text h.method.ty) =
          (λ i. named_at input (record { class = h.class_is i; index = h.index_is i }))
          ∙ ap (λ o. option_map_or (λ (r : MemberRow). r.named) (slice_get
          (option_map_or (λ (c : Class). map field_row c.fields ++ map method_row c.methods) o [])
          (length h.class.fields + h.k)) ([], [])) h.class_at
          ∙ ap (λ o. option_map_or (λ (r : MemberRow). r.named) o ([], []))
          (method_row_there h.class.fields h.class.methods h.k h.method h.method_at) in
          let class : name_of input m.class ≡ h.class.name =
          ap (name_of input) h.class_is ∙ ap (λ o. option_map_or (λ (c : Class). c.name) o []) h.class_at in
          let key : record { class = h.class.name; name = h.method.name; descriptor = method_text h.method.ty } ≡ k =
          (λ i. record { class = sym class i; name = (sym row i).0; descriptor = (sym row i).1 }) ∙ own in
          let class_is : is_marked marks (class_item input h.n) ≡ true =
          class_marked input marks (Prog h.n)
          (subst (λ (x : ClassId). is_class_kept input marks x ≡ true) h.class_is (class_of_kept input marks m kept)) in
          let method_is : is_marked marks (class_item input h.n + 1 + (length h.class.fields + h.k)) ≡ true =
          subst (λ (j : ℕ). is_marked marks (class_item input h.n + 1 + j) ≡ true) h.index_is
          (subst (λ (x : ClassId). is_index_marked input marks x m.index ≡ true) h.class_is
          (member_marked input marks m kept)) in
          let whole = subst (λ (q : Key). IsLineNumber ((view_of output).code (new_key (names_of mapping) q)) number
          → Becomes (new_key (names_of mapping) q) q number source) key
          (traced h.n h.class h.k h.method h.class_at h.method_at class_is method_is source number is) in
          subst (λ (q : Key). Becomes q k number source) same
          (whole (subst (λ (q : Key). IsLineNumber ((view_of output).code q) number) (sym same) digits))

      at : (m : MemberAt) → member_of input k ≡ Some m → (t : Bool) → is_member_kept input marks m ≡ t
          → cond t (Some (new_key (names_of mapping) k)) None ≡ Some g → (o : Option Code) → code_at input m ≡ o
          → is_some o ≡ true → Becomes g k number source
      at m found true kept e (Some d) has h =
          of_member m found kept (same_Some (new_key (names_of mapping) k) g e) d has
      at m found true kept e None has h = absurd cc
      at m found false kept e o has h = absurd cc

      by : (o : Option MemberAt) → member_of input k ≡ o
          → cond (option_map_or (is_member_kept input marks) o false) (Some (new_key (names_of mapping) k)) None
          ≡ Some g
          → is_some (option_and_then (code_at input) o) ≡ true → Becomes g k number source
      by None found e h = absurd cc
      by (Some m) found e h = at m found (is_member_kept input marks m) refl e (code_at input m) refl h

  pub frames_named : (fs gs : List Frame) → AreNamed (pair_names input mapping) fs gs
      → AllZip (IsRetraced input output mapping) fs gs
  frames_named [] [] zip = tt
  frames_named [] (g ∷ gs) zip = absurd zip
  frames_named (f ∷ fs) [] zip = absurd zip
  frames_named (f ∷ fs) (g ∷ gs) zip = (
    λ code source number is digits. key_traced f.method g.method zip.0 code source number is digits,
    frames_named fs gs zip.1,
  )

-- frames that agree are of methods of the new names
named_frames : (v w : View) (names : Names) (fs gs : List Frame) → AllZip (FrameCorr v w names) fs gs
    → AreNamed names fs gs
named_frames v w names [] [] zip = tt
named_frames v w names [] (g ∷ gs) zip = absurd zip
named_frames v w names (f ∷ fs) [] zip = absurd zip
named_frames v w names (f ∷ fs) (g ∷ gs) zip = (zip.0.method, named_frames v w names fs gs zip.1)

pub frames_retraced : FramesRetrace
frames_retraced input output mapping rules taken then_taken pair s t corr =
    frames_named input output mapping rules taken then_taken pair (frames s) (frames t)
    (named_frames (view_of input) (view_of output) (pair_names input mapping) (frames s) (frames t) corr.stack)
