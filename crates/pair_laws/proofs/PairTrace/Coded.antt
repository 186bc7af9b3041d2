-- What a call of a set that is taken runs is a method with a code.
use Rattle.std.proofs.Common.{◌≡◌, ◌⊎◌, inl, inr, ⊎_elim, ◌<◌, ◌≤◌, ◌^◌, ◌/◌, ◌*◌, ◌%◌, ◌+◌, ℕ, zero, suc, ◌==◌, ◌&&◌, ◌||◌}
use Rattle.std.proofs.Common.{Bool, true, false, not, cond, List, [], ◌∷◌, ◌++◌, length, map, Option, Some, None}
use Rattle.std.proofs.Common.{slice_get, is_some, refl, sym, ap, subst, ◌∙◌, arith, codes}
use Rattle.std.specs.Prelude.{IfSome, is_none}
use Rattle.std.specs.Int.{bit_at}
use Rattle.std.specs.Int.Bits.{bit_and, and_zero_l}
use Rattle.std.specs.List.{list_all}
use Rattle.std.specs.Option.{option_and_then, option_map, option_map_or}
use Rattle.std.proofs.lemmas.Bool.{and_parts, cases_lt, eq-eqb, eqb-true, not-false, not-true}
use Rattle.std.proofs.lemmas.Nat.{and_assoc, and_block, and_mod}
use Rattle.std.proofs.lemmas.Nat.Bits.{and_pow, shr_and_one}
use Rattle.std.proofs.lemmas.Option.{slice_get-map}
use Rattle.jv_base.specs.Names.{is_text}
use Rattle.jv_base.proofs.Lists.{all_at}
use Rattle.lib_table.specs.Library.{LibraryClass, library}
use Rattle.lib_table.specs.Lookups as table
use Rattle.class_model.specs.Flags.{acc_abstract, acc_final, acc_native, acc_private, acc_static, acc_strict}
use Rattle.class_model.specs.Flags.{acc_synchronized, are_method_flags, has, has_body, has_one_access, has_some, is_clinit}
use Rattle.class_model.specs.Flags.{is_init, is_interface, is_native, is_static}
use Rattle.class_model.specs.WellFormed.{IsGoodMethod}
use Rattle.class_model.specs.declared.class.Class.{Class}
use Rattle.class_model.specs.declared.class.Field.{Field}
use Rattle.class_model.specs.declared.class.Method.{Method}
use Rattle.class_model.specs.declared.code.Code.{Code}
use Rattle.class_model.specs.declared.op.MemberRef.{MemberRef}
use Rattle.class_pool.specs.Found.{MemberRow, NameAndType, declared_in, field_row, is_abstract_member, is_method_at}
use Rattle.class_pool.specs.Found.{is_public_member, is_static_member, method_row, named_at, row_at}
use Rattle.class_pool.specs.Members.{declared_at}
use Rattle.class_pool.specs.Resolution.{is_interface_in}
use Rattle.class_pool.specs.Selection.{selected, selected_special}
use Rattle.class_pool.specs.Supers.{is_below}
use Rattle.class_pool.specs.bodies.Graph.{library_ids}
use Rattle.class_pool.specs.declared.id.ClassId.{ClassId}
use Rattle.class_pool.specs.declared.id.ClassId.TheVariants.{Lib, Prog}
use Rattle.class_pool.specs.declared.id.MemberAt.{MemberAt}
use Rattle.class_pool.proofs.Declaring.{declared_named}
use Rattle.class_pool.proofs.ObjectLaws.{at_row}
use Rattle.link_check.specs.Profile.{class_of, is_of_library}
use Rattle.jvm_model.specs.Exceptions.{AbstractMethod, IllegalAccess, IncompatibleChange}
use Rattle.jvm_model.specs.LibraryRows.{row_of}
use Rattle.jvm_model.specs.Program.{Fails, Library, Program, Target}
use Rattle.jvm_model.specs.Start.{are_plain_parameters}
use Rattle.jvm_model.specs.Value.{Key}
use Rattle.set_view.specs.ViewOf.{array_from, array_target_of, checked, code_at, is_selected, is_startable}
use Rattle.set_view.specs.ViewOf.{is_static_method, key_at, member_of, method_of, selected_from, selected_of, special_of}
use Rattle.set_view.specs.ViewOf.{static_of, target_at, target_in, target_of, view_of}
use Rattle.image_laws.specs.TakenSet.TakenSet.{IsTaken}
use Rattle.image_laws.proofs.TakenSet.LibraryRows.{past_last}
use Rattle.image_laws.proofs.TakenSet.Members.{row_parts}
use Rattle.image_laws.proofs.TakenSet.Names.{class_found}
use Rattle.image_laws.proofs.TakenSet.Proper.{is_proper}
use Rattle.image_laws.proofs.ViewImage.Naming.{key_leads}
use Rattle.image_laws.proofs.ViewImage.Standing.{Stands, method_stands, selected_stands, special_stands}
use Rattle.pair_laws.specs.RenamedImage.Renaming.{is_method_text}
use Rattle.pair_laws.proofs.RenamedImage.Descriptors.{field_is_none, method_is_one}

-- ---- flags (JVMS 4.6)

none_of_two : (flags : ℕ) → bit_and flags 1024 ≡ 0 → bit_and flags 256 ≡ 0 → bit_and flags 1280 ≡ 0
none_of_two flags high low =
    let whole : flags ≡ flags / 1024 * 1024 + flags % 1024 = omega arith in
    let small : flags % 1024 < 1024 = omega arith in
    let top : bit_and (flags / 1024) 1 ≡ bit_at flags 10 = shr_and_one flags 10 in
    let bit : bit_and flags 1024 ≡ bit_at flags 10 * 1024 = and_pow flags 10 in
    let first : bit_and (flags / 1024) 1 ≡ 0 = omega (arith, top, bit, high) in
    let second : bit_and (flags % 1024) 256 ≡ 0 = sym (and_mod flags 256 10) ∙ ap (λ n. n % 1024) low in
    ap (λ n. bit_and n 1280) whole ∙ and_block 10 (flags / 1024) 1 (flags % 1024) 256 small (omega arith)
    ∙ (λ i. first i * 1024 + second i)

-- a flag that isn't set has no bit
no_bit : (k flags : ℕ) → has (2 ^ k) flags ≡ false → bit_and flags (2 ^ k) ≡ 0
no_bit k flags no_flag = by (bit_at flags k) refl (omega arith)
  where
    by : (b : ℕ) → bit_at flags k ≡ b → b < 2 → bit_and flags (2 ^ k) ≡ 0
    by zero is low = and_pow flags k ∙ ap (λ n. n * 2 ^ k) is ∙ omega arith
    by (suc zero) is low = absurd (
        let set : bit_and flags (2 ^ k) ≡ 2 ^ k = and_pow flags k ∙ ap (λ n. n * 2 ^ k) is ∙ omega arith in
        let wrong : true ≡ false = sym (eq-eqb (bit_and flags (2 ^ k)) (2 ^ k) set) ∙ no_flag in
        cc)
    by (suc (suc b)) is low = absurd (omega (arith, low))

-- a method that is neither abstract nor native has a code
body_there : (flags : ℕ) → has acc_abstract flags ≡ false → is_native flags ≡ false → has_body flags ≡ true
body_there flags no_abstract no_native =
    ap (λ (n : ℕ). not (not (n == 0))) (none_of_two flags (no_bit 10 flags no_abstract) (no_bit 8 flags no_native))

abbrev not_with_abstract : ℕ
not_with_abstract = acc_private + acc_static + acc_final + acc_synchronized + acc_native + acc_strict

-- a static method isn't abstract
static_has_body : (flags : ℕ) → are_method_flags flags ≡ true → is_static flags ≡ true
    → has acc_abstract flags ≡ false
static_has_body flags good static = by (has acc_abstract flags) refl
  where
    second : (not (has acc_abstract flags) || not (has_some not_with_abstract flags)) ≡ true
    second = (and_parts (has_one_access flags)
        (not (has acc_abstract flags) || not (has_some not_with_abstract flags)) good).1

    none : has_some not_with_abstract flags ≡ false → is_static flags ≡ false
    none h = ap (λ (n : ℕ). n == acc_static)
        (sym (and_assoc acc_static flags not_with_abstract)
        ∙ ap (λ (n : ℕ). bit_and n acc_static)
        (eqb-true (bit_and flags not_with_abstract) 0 (not-false (bit_and flags not_with_abstract == 0) h))
        ∙ and_zero_l acc_static)

    by : (t : Bool) → has acc_abstract flags ≡ t → t ≡ false
    by false is = refl
    by true is = absurd (
        let others : not (has_some not_with_abstract flags) ≡ true =
        sym (ap (λ (t : Bool). not t || not (has_some not_with_abstract flags)) is) ∙ second in
        let wrong : true ≡ false = sym static ∙ none (not-true (has_some not_with_abstract flags) others) in
        cc)

-- ---- methods by their rows

-- what stands behind the first of two lists
behind : {A B C : Type 0} (g : A → C) (h : B → C) (xs : List A) (ys : List B) (j : ℕ)
    → slice_get (map g xs ++ map h ys) (length xs + j) ≡ slice_get (map h ys) j
behind g h [] ys j = let plain : 0 + j ≡ j = omega arith in ap (slice_get (map h ys)) plain
behind g h (x ∷ xs) ys j =
    let next : length (x ∷ xs) + j ≡ suc (length xs + j) = omega arith in
    ap (slice_get (g x ∷ (map g xs ++ map h ys))) next ∙ behind g h xs ys j

rows_clinit : list_all (λ id. is_none (table.member_named (table.class_at id).members (codes "<clinit>") (codes "()V")))
    library_ids ≡ true
unfolding library
rows_clinit = refl

module _ (classes : List Class) (taken : IsTaken classes) where
  -- a method of the set that isn't abstract has a code
  method_coded : (n : ℕ) (c : Class) (j : ℕ) (m : Method) → slice_get classes n ≡ Some c
      → slice_get c.methods j ≡ Some m → has acc_abstract m.flags.0 ≡ false → is_some m.code ≡ true
  method_coded n c j m at there no_abstract =
      let good = all_at (IsGoodMethod (is_interface c.flags.0)) c.methods j m (taken.formed n c at).methods there in
      good.body ∙ body_there m.flags.0 no_abstract (not-true (is_native m.flags.0) good.not_native)

  abbrev code_told : ℕ → Class → Option Code
  code_told k c =
      option_and_then (λ x. x) (slice_get (map (λ (f : Field). None) c.fields ++ map (λ (m : Method). m.code) c.methods) k)

  -- told of the row of a method
  row_coded : (n : ℕ) (c : Class) (k : ℕ) (row : MemberRow) → slice_get classes n ≡ Some c
      → slice_get (map field_row c.fields ++ map method_row c.methods) k ≡ Some row
      → is_method_text row.named.1 ≡ true → has acc_abstract row.flags ≡ false → is_some (code_told k c) ≡ true
  row_coded n c k row at there text no_abstract = by (row_parts c.fields c.methods k row there)
    where
      by : ((f : Field) × (slice_get c.fields k ≡ Some f) × (row ≡ field_row f))
          ⊎ ((j : ℕ) × (m : Method) × (k ≡ length c.fields + j) × (slice_get c.methods j ≡ Some m)
          × (row ≡ method_row m))
          → is_some (code_told k c) ≡ true
      by (inl (f, f_at, is)) = absurd (
          let wrong : true ≡ false =
          sym text ∙ ap (λ (r : MemberRow). is_method_text r.named.1) is ∙ field_is_none f.ty in
          cc)
      by (inr (j, m, k_is, m_at, is)) =
          ap (λ i. is_some (code_told i c)) k_is
          ∙ ap (λ (o : Option (Option Code)). is_some (option_and_then (λ x. x) o))
          (behind (λ (f : Field). None) (λ (m : Method). m.code) c.fields c.methods j
          ∙ slice_get-map (λ (m : Method). m.code) c.methods j ∙ ap (option_map (λ (m : Method). m.code)) m_at)
          ∙ method_coded n c j m at m_at (sym (ap (λ (r : MemberRow). has acc_abstract r.flags) is) ∙ no_abstract)

  -- a row is that of a member of a class
  found_row : (p i : ℕ) (row : MemberRow) → row_at classes (record { class = Prog p; index = i }) ≡ Some row
      → (c : Class) × (slice_get classes p ≡ Some c)
      × (slice_get (map field_row c.fields ++ map method_row c.methods) i ≡ Some row)
  found_row p i row is = by (slice_get classes p) refl is
    where
      by : (o : Option Class) → slice_get classes p ≡ o
          → slice_get (option_map_or (λ (c : Class). map field_row c.fields ++ map method_row c.methods) o []) i
          ≡ Some row
          → (c : Class) × (slice_get classes p ≡ Some c)
          × (slice_get (map field_row c.fields ++ map method_row c.methods) i ≡ Some row)
      by None at e = absurd cc
      by (Some c) at e = (c, at, e)

  -- a row of a method has the descriptor of one
  method_text_of : (p i : ℕ) (row : MemberRow) → row_at classes (record { class = Prog p; index = i }) ≡ Some row
      → row.is_method ≡ true → is_method_text row.named.1 ≡ true
  method_text_of p i row is method =
      by (row_parts found.0.fields found.0.methods i row found.2)
    where
      found : (c : Class) × (slice_get classes p ≡ Some c)
          × (slice_get (map field_row c.fields ++ map method_row c.methods) i ≡ Some row)
      found = found_row p i row is

      by : ((f : Field) × (slice_get found.0.fields i ≡ Some f) × (row ≡ field_row f))
          ⊎ ((j : ℕ) × (m : Method) × (i ≡ length found.0.fields + j) × (slice_get found.0.methods j ≡ Some m)
          × (row ≡ method_row m))
          → is_method_text row.named.1 ≡ true
      by (inl (f, at, same)) = absurd (
          let wrong : true ≡ false = sym method ∙ ap (λ (r : MemberRow). r.is_method) same in cc)
      by (inr (j, m, i_is, at, same)) = ap (λ (r : MemberRow). is_method_text r.named.1) same ∙ method_is_one m.ty

  -- a member with the row of a method that isn't abstract
  member_coded : (p i : ℕ) (row : MemberRow) → row_at classes (record { class = Prog p; index = i }) ≡ Some row
      → is_method_text row.named.1 ≡ true → has acc_abstract row.flags ≡ false
      → is_some (code_at classes (record { class = Prog p; index = i })) ≡ true
  member_coded p i row is text no_abstract =
      let found = found_row p i row is in
      ap (λ (o : Option Class). is_some (option_and_then (code_told i) o)) found.1
      ∙ row_coded p found.0 i row found.1 found.2 text no_abstract

  -- the method whose row it is
  method_of_row : (p i : ℕ) (row : MemberRow) → row_at classes (record { class = Prog p; index = i }) ≡ Some row
      → is_method_text row.named.1 ≡ true
      → (c : Class) × (m : Method) × IsGoodMethod (is_interface c.flags.0) m × (row ≡ method_row m)
  method_of_row p i row is text = by (row_parts found.0.fields found.0.methods i row found.2)
    where
      found : (c : Class) × (slice_get classes p ≡ Some c)
          × (slice_get (map field_row c.fields ++ map method_row c.methods) i ≡ Some row)
      found = found_row p i row is

      by : ((f : Field) × (slice_get found.0.fields i ≡ Some f) × (row ≡ field_row f))
          ⊎ ((j : ℕ) × (m : Method) × (i ≡ length found.0.fields + j) × (slice_get found.0.methods j ≡ Some m)
          × (row ≡ method_row m))
          → (c : Class) × (m : Method) × IsGoodMethod (is_interface c.flags.0) m × (row ≡ method_row m)
      by (inl (f, at, same)) = absurd (
          let wrong : true ≡ false =
          sym text ∙ ap (λ (r : MemberRow). is_method_text r.named.1) same ∙ field_is_none f.ty in
          cc)
      by (inr (j, m, i_is, at, same)) = (
        found.0,
        m,
        all_at (IsGoodMethod (is_interface found.0.flags.0)) found.0.methods j m
            (taken.formed p found.0 found.1).methods at,
        same,
      )

  -- ---- what calls run

  -- the method of this key has a code
  abbrev pub IsCoded : Key → Type 0
  IsCoded k = is_some ((view_of classes).code k) ≡ true

  -- if a target is a method of the program it has one
  abbrev pub RunsCoded : Target → Type 0
  RunsCoded (Program k) = IsCoded k
  RunsCoded (Library row) = Unit {0}
  RunsCoded (Fails exception) = Unit {0}

  -- a member that stands by the descriptor of a method has a row
  row_there : (n : NameAndType) (p i : ℕ) → Stands classes n (record { class = Prog p; index = i })
      → is_method_text n.1 ≡ true
      → (row : MemberRow) × (row_at classes (record { class = Prog p; index = i }) ≡ Some row) × (row.named ≡ n)
  row_there n p i stands text =
      by (row_at classes (record { class = Prog p; index = i })) refl
      (declared_named classes n (Prog p) (record { class = Prog p; index = i }) stands)
    where
      by : (o : Option MemberRow) → row_at classes (record { class = Prog p; index = i }) ≡ o
          → option_map_or (λ (row : MemberRow). row.named) o ([], []) ≡ n
          → (row : MemberRow) × (row_at classes (record { class = Prog p; index = i }) ≡ Some row) × (row.named ≡ n)
      by None is named = absurd (
          let wrong : false ≡ true = ap (λ (t : NameAndType). is_method_text t.1) named ∙ text in cc)
      by (Some row) is named = (row, is, named)

  key_coded : (n : NameAndType) (p i : ℕ) → Stands classes n (record { class = Prog p; index = i })
      → is_method_text n.1 ≡ true → is_abstract_member classes (record { class = Prog p; index = i }) ≡ false
      → IsCoded (key_at classes (record { class = Prog p; index = i }))
  key_coded n p i stands text no_abstract =
      let row = row_there n p i stands text in
      ap (λ (o : Option MemberAt). is_some (option_and_then (code_at classes) o))
      (key_leads classes (class_found classes taken) n (record { class = Prog p; index = i }) stands)
      ∙ member_coded p i row.0 row.1 (ap (λ (t : NameAndType). is_method_text t.1) row.2 ∙ text)
      (sym (ap (λ (o : Option MemberRow). option_map_or (λ (r : MemberRow). has acc_abstract r.flags) o false) row.1)
      ∙ no_abstract)

  -- what runs of a member that was found
  target_coded : (n : NameAndType) (x : ClassId) (i : ℕ) → Stands classes n (record { class = x; index = i })
      → is_method_text n.1 ≡ true → IfSome (target_at classes (record { class = x; index = i })) RunsCoded
  target_coded n x i stands text = by x stands (is_abstract_member classes (record { class = x; index = i })) refl
    where
      library_row : (o : Option _) → IfSome (option_map Library o) RunsCoded
      library_row None = tt
      library_row (Some row) = tt

      by : (y : ClassId) → Stands classes n (record { class = y; index = i }) → (t : Bool)
          → is_abstract_member classes (record { class = y; index = i }) ≡ t
          → IfSome (target_at classes (record { class = y; index = i })) RunsCoded
      by y there true is =
          subst (λ (t : Bool). IfSome (cond t (Some (Fails AbstractMethod))
          (target_in y (key_at classes (record { class = y; index = i })))) RunsCoded) (sym is) tt
      by (Lib id) there false is =
          subst (λ (t : Bool). IfSome (cond t (Some (Fails AbstractMethod))
          (option_map Library (row_of (key_at classes (record { class = Lib id; index = i }))))) RunsCoded) (sym is)
          (library_row (row_of (key_at classes (record { class = Lib id; index = i }))))
      by (Prog p) there false is =
          subst (λ (t : Bool). IfSome (cond t (Some (Fails AbstractMethod))
          (Some (Program (key_at classes (record { class = Prog p; index = i }))))) RunsCoded) (sym is)
          (key_coded n p i there text is)

  at_member : (n : NameAndType) (m : MemberAt) → Stands classes n m → is_method_text n.1 ≡ true
      → IfSome (target_at classes m) RunsCoded
  at_member n m stands text = target_coded n m.class m.index stands text

  -- or none was found, and then an exception is due
  at_found : (n : NameAndType) (o : Option MemberAt) → IfSome o (Stands classes n) → is_method_text n.1 ≡ true
      → IfSome (target_of classes o) RunsCoded
  at_found n None stands text = tt
  at_found n (Some m) stands text = at_member n m stands text

  module _ (r : MemberRef) (text : is_method_text r.ty ≡ true) where
    -- the method that a class finds for the reference
    found_stands : (c : ClassId) → IfSome (method_of classes r c) (Stands classes (r.name, r.ty))
    found_stands c = method_stands classes (is_proper classes taken).abstract_methods (r.name, r.ty) c

    -- what is said of it has the property, if it has it of each that is found
    of_found : (f : ClassId → MemberAt → Option Target)
        → ((c : ClassId) (m : MemberAt) → Stands classes (r.name, r.ty) m → IfSome (f c m) RunsCoded)
        → IfSome (option_and_then (λ c. option_and_then (f c) (method_of classes r c)) (class_of classes r)) RunsCoded
    of_found f each = at_class (class_of classes r)
      where
        at_method : (c : ClassId) (o : Option MemberAt) → IfSome o (Stands classes (r.name, r.ty))
            → IfSome (option_and_then (f c) o) RunsCoded
        at_method c None stands = tt
        at_method c (Some m) stands = each c m stands

        at_class : (o : Option ClassId)
            → IfSome (option_and_then (λ c. option_and_then (f c) (method_of classes r c)) o) RunsCoded
        at_class None = tt
        at_class (Some c) = at_method c (method_of classes r c) (found_stands c)

    pub static_coded : IfSome (static_of classes r) RunsCoded
    static_coded = of_found (λ c m. target_at classes m) (λ c m stands. at_member (r.name, r.ty) m stands text)

    -- a method of the name and descriptor of one that stands
    named_of : (m : MemberAt) → Stands classes (r.name, r.ty) m → named_at classes m ≡ (r.name, r.ty)
    named_of m stands = declared_named classes (r.name, r.ty) m.class m stands

    named_text : (m : MemberAt) → Stands classes (r.name, r.ty) m → is_method_text (named_at classes m).1 ≡ true
    named_text m stands = ap (λ (t : NameAndType). is_method_text t.1) (named_of m stands) ∙ text

    pub special_coded : (from : ClassId) → IfSome (special_of classes r from) RunsCoded
    special_coded from =
        of_found (λ c m. target_of classes (selected_special classes from c m))
        (λ c m stands. at_found (named_at classes m) (selected_special classes from c m)
        (special_stands classes from c m (subst (λ (n : NameAndType). Stands classes n m) (sym (named_of m stands))
        stands)) (named_text m stands))

    selected_at : (x : ClassId) (m : MemberAt) → Stands classes (r.name, r.ty) m
        → IfSome (target_of classes (selected classes x m)) RunsCoded
    selected_at x m stands =
        at_found (named_at classes m) (selected classes x m) (selected_stands classes x m) (named_text m stands)

    checked_at : (t : Bool) (x : ClassId) (m : MemberAt) → Stands classes (r.name, r.ty) m
        → IfSome (checked classes t (selected classes x m)) RunsCoded
    checked_at false x m stands = selected_at x m stands
    checked_at true x m stands = by (option_map_or (is_public_member classes) (selected classes x m) true)
      where
        by : (t : Bool)
            → IfSome (cond t (target_of classes (selected classes x m)) (Some (Fails IllegalAccess))) RunsCoded
        by true = selected_at x m stands
        by false = tt

    from_at : (x c : ClassId) (m : MemberAt) → Stands classes (r.name, r.ty) m
        → IfSome (selected_from classes r x c m) RunsCoded
    from_at x c m stands =
        by (is_below classes x c && is_below classes x m.class) (is_selected classes m) r.of_interface
        (checked_at r.of_interface x m stands)
      where
        by : (s t u : Bool) → IfSome (checked classes r.of_interface (selected classes x m)) RunsCoded
            → IfSome (cond s (cond t (checked classes r.of_interface (selected classes x m))
            (Some (Fails AbstractMethod)))
            (cond u (Some (Fails IncompatibleChange)) None)) RunsCoded
        by true true u there = there
        by true false u there = tt
        by false t true there = tt
        by false t false there = tt

    pub selected_coded : (x : ClassId) → IfSome (selected_of classes r x) RunsCoded
    selected_coded x = by (is_interface_in classes x) (of_found (selected_from classes r x) (from_at x))
      where
        by : (t : Bool) → IfSome (option_and_then
            (λ c. option_and_then (selected_from classes r x c) (method_of classes r c)) (class_of classes r)) RunsCoded
            → IfSome (cond t None (option_and_then
            (λ c. option_and_then (selected_from classes r x c) (method_of classes r c)) (class_of classes r))) RunsCoded
        by true there = tt
        by false there = there

    pub array_coded : IfSome (array_target_of classes r) RunsCoded
    array_coded = of_found (array_from classes r) (λ c m stands. at_array c m stands)
      where
        at_array : (c : ClassId) (m : MemberAt) → Stands classes (r.name, r.ty) m
            → IfSome (array_from classes r c m) RunsCoded
        at_array c m stands = by _ r.of_interface (at_member (r.name, r.ty) m stands text)
          where
            by : (t u : Bool) → IfSome (target_at classes m) RunsCoded
                → IfSome (cond t (target_at classes m) (cond u (Some (Fails IncompatibleChange)) None)) RunsCoded
            by true u there = there
            by false true there = tt
            by false false there = tt

  -- ---- class initialisation methods

  abbrev clinit : NameAndType
  clinit = (codes "<clinit>", codes "()V")

  -- the library has none
  no_library_clinit : (id : ℕ) → table.member_named (table.class_at id).members (codes "<clinit>") (codes "()V") ≡ None
  no_library_clinit id = ⊎_elim low high (cases_lt id (length library))
    where
      none_of : {A : Type 0} (o : Option A) → is_none o ≡ true → o ≡ None
      none_of None h = refl
      none_of (Some x) h = absurd cc

      low : id < length library
          → table.member_named (table.class_at id).members (codes "<clinit>") (codes "()V") ≡ None
      low within = none_of _ (at_row
          (λ id. is_none (table.member_named (table.class_at id).members (codes "<clinit>") (codes "()V"))) id
          rows_clinit within)

      high : length library ≤ id
          → table.member_named (table.class_at id).members (codes "<clinit>") (codes "()V") ≡ None
      high over =
          ap (λ (c : LibraryClass). table.member_named c.members (codes "<clinit>") (codes "()V")) (past_last id over)

  -- such a method of the set is static, so it isn't abstract
  clinit_has_body : (p i : ℕ) → Stands classes clinit (record { class = Prog p; index = i })
      → is_abstract_member classes (record { class = Prog p; index = i }) ≡ false
  clinit_has_body p i stands =
      let row = row_there clinit p i stands refl in
      let m = method_of_row p i row.0 row.1 (ap (λ (t : NameAndType). is_method_text t.1) row.2) in
      let name : m.1.name ≡ codes "<clinit>" =
      sym (ap (λ (r : MemberRow). r.named.0) m.3) ∙ ap (λ (t : NameAndType). t.0) row.2 in
      let initial = (and_parts (not (is_init m.1.name) || (not (is_interface m.0.flags.0) && not (has_some
      (acc_static + acc_final + acc_synchronized + acc_native + acc_abstract) m.1.flags.0)))
      (not (is_clinit m.1.name) || is_static m.1.flags.0) m.2.initial_flags).1 in
      let static : is_static m.1.flags.0 ≡ true =
      sym (ap (λ (a : List ℕ). not (is_clinit a) || is_static m.1.flags.0) name) ∙ initial in
      ap (λ (o : Option MemberRow). option_map_or (λ (r : MemberRow). has acc_abstract r.flags) o false) row.1
      ∙ ap (λ (r : MemberRow). has acc_abstract r.flags) m.3
      ∙ static_has_body m.1.flags.0 m.2.flags static

  pub clinit_coded : (x : ClassId) → IfSome (declared_in classes clinit x) (λ m. IsCoded (key_at classes m))
  clinit_coded (Lib id) =
      subst (λ o. IfSome (option_map (λ i. record { class = Lib id; index = i }) (option_map (λ m. m.at) o))
      (λ m. IsCoded (key_at classes m))) (sym (no_library_clinit id)) tt
  clinit_coded (Prog p) = by (declared_at classes (Prog p) (codes "<clinit>") (codes "()V")) refl
    where
      by : (o : Option ℕ) → declared_at classes (Prog p) (codes "<clinit>") (codes "()V") ≡ o
          → IfSome (option_map (λ i. record { class = Prog p; index = i }) o) (λ m. IsCoded (key_at classes m))
      by None is = tt
      by (Some i) is =
          let stands = ap (option_map (λ i. record { class = Prog p; index = i })) is in
          key_coded clinit p i stands refl (clinit_has_body p i stands)

  -- ---- entries

  -- a method with which a run may begin has a code
  pub entry_coded : (k : Key) → is_startable classes k ≡ true → IsCoded k
  entry_coded k startable = by (member_of classes k) refl first
    where
      first : option_map_or (is_static_method classes) (member_of classes k) false ≡ true
      first = (and_parts (option_map_or (is_static_method classes) (member_of classes k) false)
          (not (is_text k.name (codes "<clinit>")))
          (and_parts (option_map_or (is_static_method classes) (member_of classes k) false
          && not (is_text k.name (codes "<clinit>"))) (are_plain_parameters k.descriptor) startable).0).0

      at : (x : ClassId) (i : ℕ) (t : Bool) → is_of_library x ≡ t
          → (is_method_at classes (record { class = x; index = i })
          && is_static_member classes (record { class = x; index = i }) && not t) ≡ true
          → is_some (code_at classes (record { class = x; index = i })) ≡ true
      at (Lib id) i t of_library h = absurd (
          let same : t ≡ true = sym of_library in
          let parts = and_parts (is_method_at classes (record { class = Lib id; index = i })
          && is_static_member classes (record { class = Lib id; index = i })) (not t) h in
          let wrong : false ≡ true = sym (ap not same) ∙ parts.1 in
          cc)
      at (Prog p) i t of_library h =
          let parts = and_parts (is_method_at classes (record { class = Prog p; index = i })
          && is_static_member classes (record { class = Prog p; index = i })) (not t) h in
          let more = and_parts (is_method_at classes (record { class = Prog p; index = i }))
          (is_static_member classes (record { class = Prog p; index = i })) parts.0 in
          of_row (row_at classes (record { class = Prog p; index = i })) refl more.0 more.1
        where
          of_row : (o : Option MemberRow) → row_at classes (record { class = Prog p; index = i }) ≡ o
              → option_map_or (λ (r : MemberRow). r.is_method) o false ≡ true
              → option_map_or (λ (r : MemberRow). has acc_static r.flags) o false ≡ true
              → is_some (code_at classes (record { class = Prog p; index = i })) ≡ true
          of_row None is method static = absurd cc
          of_row (Some row) is method static =
              let found = found_row p i row is in
              let text = method_text_of p i row is method in
              let m = method_of_row p i row is text in
              member_coded p i row is text
              (ap (λ (r : MemberRow). has acc_abstract r.flags) m.3
              ∙ static_has_body m.1.flags.0 m.2.flags
              (sym (ap (λ (r : MemberRow). has acc_static r.flags) m.3) ∙ static))

      by : (o : Option MemberAt) → member_of classes k ≡ o
          → option_map_or (is_static_method classes) o false ≡ true
          → is_some (option_and_then (code_at classes) o) ≡ true
      by None is h = absurd cc
      by (Some m) is h = at m.class m.index (is_of_library m.class) refl h
