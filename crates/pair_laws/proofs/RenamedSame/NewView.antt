-- What a set owes what is left of it under new names, so that they do the same.
use Rattle.std.proofs.Common.{◌≡◌, ◌+◌, ℕ, nat_eq, Bool, true, false, cond, List, [], length, Option}
use Rattle.std.proofs.Common.{Some}
use Rattle.std.proofs.Common.{None, refl, sym, ap, subst, ◌∙◌, codes}
use Rattle.std.specs.Prelude.{is_some}
use Rattle.std.specs.List.{starts_with}
use Rattle.std.specs.Option.{option_and_then, option_map_or}
use Rattle.std.proofs.lemmas.Bool.{and_parts}
use Rattle.jv_base.specs.Types.{field_text, method_text}
use Rattle.lib_table.specs.Lookups as table
use Rattle.class_model.specs.declared.class.Class.{Class}
use Rattle.class_model.specs.declared.code.Code.{Code}
use Rattle.class_pool.specs.Found.{NameAndType, declared_in, name_of, named_at}
use Rattle.class_pool.specs.Hierarchy.{IsClass, class_named}
use Rattle.class_pool.specs.Items.{class_item}
use Rattle.class_pool.specs.declared.id.ClassId.{ClassId}
use Rattle.class_pool.specs.declared.id.ClassId.TheVariants.{Prog, Lib}
use Rattle.class_pool.specs.declared.id.MemberAt.{MemberAt}
use Rattle.class_rename.specs.Names.{Names}
use Rattle.class_rename.specs.Renamed.{renamed_method_type, renamed_type}
use Rattle.link_check.specs.Profile.{is_of_library}
use Rattle.member_shrink.specs.Shrunk.{is_marked}
use Rattle.image_laws.specs.SetImage.Image.{if_kept}
use Rattle.jvm_model.specs.Mapped.{CodeMap, OptionCorr, is_own_class}
use Rattle.jvm_model.specs.Step as step
use Rattle.set_view.specs.ViewOf.{code_at, constant_at, key_at, member_of, told_in}
use Rattle.image_laws.specs.ViewImage.ImageNames.{new_key}
use Rattle.image_laws.specs.ViewImage.ImageView.{IsImageView, LikeDescriptors, clinit}
use Rattle.image_laws.proofs.ViewImage.Naming.{member_is}
use Rattle.require_sys.specs.Requires.{code_wants}
use Rattle.require_sys.specs.declared.kept.KeptByRules.{KeptByRules}
use Rattle.image_laws.specs.ShrunkImage.Keeping.{class_place, is_class_kept, is_index_marked, is_member_kept}
use Rattle.image_laws.specs.ShrunkImage.Keeping.{member_place}
use Rattle.image_laws.proofs.ShrunkImage.Classes.{class_of_kept, class_there, member_marked, member_there}
use Rattle.image_laws.specs.TakenSet.TakenSet.{IsTaken}
use Rattle.image_laws.proofs.TakenSet.Members.{own_declared}
use Rattle.image_laws.proofs.TakenSet.Names.{class_found}
use Rattle.removal_laws.proofs.RemovalImage.Marked.{starts_kept}
use Rattle.removal_laws.proofs.RemovalImage.Wanted.{AllIn, wants_of_code, wants_of_method}
use Rattle.removal_laws.proofs.RemovalSame.ImageView as removal
use Rattle.removal_laws.proofs.RemovalSame.Told.{code_found, told_same}
use Rattle.pair_laws.specs.RenamedImage.Naming.{is_class_there, is_declared, new_named}
use Rattle.pair_laws.specs.RenamedImage.Renaming.{is_known, placed_class, placed_member, renamed_named}
use Rattle.pair_laws.proofs.RenamedImage.Declared.{initial, initial_is, initial_text, tested}
use Rattle.pair_laws.proofs.RenamedImage.Descriptors.{field_spelled, method_spelled}
use Rattle.pair_laws.proofs.RenamedImage.Join.{member_class}
use Rattle.pair_laws.proofs.RenamedImage.LibraryTypes.{IsDescribed}
use Rattle.pair_laws.specs.RenamedSame.Laws.{IsLeftUnderNames}
use Rattle.pair_laws.specs.RenamedSame.NewCodes.{IsNewCode}
use Rattle.pair_laws.proofs.RenamedSame.Codes.{class_new_name, code_new, image_of, new_names, new_refs}
use Rattle.pair_laws.proofs.RenamedSame.Like.{field_like, method_like}
use Rattle.pair_laws.proofs.RenamedSame.Moved.{class_new, given_is, keeps_member, left, left_found, left_known}
use Rattle.pair_laws.proofs.RenamedSame.Moved.{name_new}
use Rattle.pair_laws.proofs.RenamedSame.Told.{code_told, constant_told}

module _ (classes : List Class) (rules : KeptByRules) (marks : List Bool) (names : Names) (place : ℕ → ℕ)
    (out : List Class) (taken : IsTaken classes) (new : IsLeftUnderNames classes rules marks names place out) where
  abbrev rest : List Class
  rest = left classes rules marks names place out taken new

  abbrev moved : ClassId → ClassId
  moved x = placed_class place (class_place classes marks x)

  abbrev moved_member : MemberAt → MemberAt
  moved_member m = placed_member place (member_place classes marks m)

  -- ---- classes and members are found by their names

  found_new : (x : ClassId) → is_class_kept classes marks x ≡ true
      → class_named out (name_of out (moved x)) ≡ Some (moved x)
  found_new x k =
      ap (class_named out) (name_new classes rules marks names place out taken new x k)
      ∙ class_new classes rules marks names place out taken new (name_of classes x) x
      (class_found classes taken x (class_there classes marks x k)) k

  member_found : (m : MemberAt) → is_member_kept classes marks m ≡ true
      → member_of out (key_at out (moved_member m)) ≡ Some (moved_member m)
  member_found m k =
      let image = image_of classes rules marks names place out taken new in
      let class = class_of_kept classes marks m k in
      let there = class_there classes marks m.class class in
      ap (option_and_then (declared_in out (named_at out (moved_member m)))) (found_new m.class class)
      ∙ image.declared_moved (named_at classes m) (named_at out (moved_member m)) (image.name_moved m k) m.class class
      ∙ ap (option_and_then (if_kept (is_member_kept classes marks) moved_member))
      (own_declared classes taken m (there, member_there classes marks m k))
      ∙ ap (λ (t : Bool). cond t (Some (moved_member m)) None) k

  -- ---- the library

  library_same : (x : ClassId) → is_of_library (moved x) ≡ is_of_library x
  library_same (Prog n) = refl
  library_same (Lib id) = refl

  library_member : (m : MemberAt) → is_of_library m.class ≡ true → key_at out (moved_member m) ≡ key_at classes m
  library_member m h = by m.class m.index h
    where
      by : (x : ClassId) (k : ℕ) → is_of_library x ≡ true
          → key_at out (moved_member (record { class = x; index = k })) ≡ key_at classes
          (record { class = x; index = k })
      by (Lib id) k h = refl
      by (Prog n) k h = absurd cc

  own_class : (c : List ℕ) → is_own_class c ≡ true
      → (new_names classes rules marks names place out taken new).class c ≡ Some c
  own_class c own =
      let java = and_parts (starts_with nat_eq c (codes "java/")) (is_some (table.class_named c))
      (removal.own_names c own) in
      let id = removal.library_found classes rules marks new.closed taken c (removal.own_names c own) in
      class_new_name classes rules marks names place out taken new c (Lib id.0) id.1 id.2
      ∙ ap Some (new.apart.library_class c java.0)

  abbrev out_field : MemberAt
  out_field = removal.out_field classes rules marks new.closed taken

  own_field : (new_names classes rules marks names place out taken new).field step.out ≡ Some step.out
  own_field =
      let found = removal.out_found classes rules marks new.closed taken in
      let kept = removal.out_kept classes rules marks new.closed taken in
      ap (option_and_then (new_key classes out (image_of classes rules marks names place out taken new))) found
      ∙ ap (λ (t : Bool). cond t (Some (key_at out (moved_member out_field))) None) kept
      ∙ ap Some (library_member out_field refl ∙ (member_is classes step.out out_field found).key)

  -- ---- descriptors

  like : (n : NameAndType) (t : Bool) → IsDescribed (is_known rest) t n.1
      → LikeDescriptors n.1 (renamed_named names n).1
  like n false (ty, is, known, spells) =
      let second : (renamed_named names n).1 ≡ field_text (renamed_type names ty) =
      ap (λ (m : NameAndType). m.1) (field_spelled names n ty is spells) in
      subst (λ (a : List ℕ). LikeDescriptors a (renamed_named names n).1) spells
      (subst (λ (b : List ℕ). LikeDescriptors (field_text ty) b) (sym second)
      (field_like names new.apart.class_name ty is))
  like n true (ty, is, known, spells) =
      let second : (renamed_named names n).1 ≡ method_text (renamed_method_type names ty) =
      ap (λ (m : NameAndType). m.1) (method_spelled names n ty is spells) in
      subst (λ (a : List ℕ). LikeDescriptors a (renamed_named names n).1) spells
      (subst (λ (b : List ℕ). LikeDescriptors (method_text ty) b) (sym second)
      (method_like names new.apart.class_name ty is))

  descriptors : (n o : NameAndType) → new_named names rest n ≡ Some o → LikeDescriptors n.1 o.1
  descriptors n o e =
      let is = given_is classes rules marks names place out taken new n o e in
      subst (λ (t : NameAndType). LikeDescriptors n.1 t.1) (sym is) (by (is_declared rest n) refl e)
    where
      by : (t : Bool) → is_declared rest n ≡ t → cond t (Some (renamed_named names n)) None ≡ Some o
          → LikeDescriptors n.1 (renamed_named names n).1
      by true h e =
          let d = tested rest names new.apart (left_known classes rules marks names place out taken new) n h in
          like n d.method d.typed
      by false h e = absurd cc

  clinit_stays : new_named names rest clinit ≡ Some clinit
  clinit_stays =
      let spelled = method_spelled names clinit initial initial_is initial_text in
      let name = new.apart.clinit (codes "()V") in
      let text = initial_text in
      ap Some (spelled ∙ (λ i. (name i, text i)))

  -- ---- codes

  code_renamed : (x : ClassId) (k : ℕ) (code d : Code)
      → is_member_kept classes marks (record { class = x; index = k }) ≡ true
      → told_in classes (λ f. None) (λ m. m.code) x k ≡ Some code → IsNewCode names code d
      → CodeMap (new_refs classes rules marks names place out taken new) (name_of classes x) code d
  code_renamed x k code d kept e renamed =
      let found = code_found classes x k code e in
      let marked : is_marked marks (class_item classes found.n + 1 + (length found.class.fields + found.k)) ≡ true =
      subst (λ (j : ℕ). is_marked marks (class_item classes found.n + 1 + j) ≡ true) found.index_is
      (subst (λ (y : ClassId). is_index_marked classes marks y k ≡ true) found.class_is
      (member_marked classes marks (record { class = x; index = k }) kept)) in
      let there : IsClass classes (Prog found.n) = subst (IsClass classes) found.class_is
      (class_there classes marks x (class_of_kept classes marks (record { class = x; index = k }) kept)) in
      let wants = wants_of_method classes rules marks new.closed found.n found.class found.k found.method found.class_at
      found.method_at marked in
      let of_code : AllIn classes rules marks new.closed (code_wants classes found.n code) =
      subst (λ o. AllIn classes rules marks new.closed (option_map_or (code_wants classes found.n) o [])) found.code_is
      wants.code in
      subst (λ (y : ClassId). CodeMap (new_refs classes rules marks names place out taken new)
      (name_of classes y) code d)
      (sym found.class_is)
      (code_new classes rules marks names place out taken new found.n (name_of classes (Prog found.n)) found.method.name
      code d (class_found classes taken (Prog found.n) there) renamed
      (removal.good_code classes rules marks new.closed taken found.n found.class found.k found.method code
      found.class_at found.method_at found.code_is)
      (wants_of_code classes rules marks new.closed found.n code of_code)
      (removal.code_kinds_none classes rules marks new.closed taken found.n found.class found.k found.method code
      found.class_at found.method_at found.code_is))

  class_stays : (m : MemberAt) → is_member_kept classes marks m ≡ true
      → is_class_there rest (class_place classes marks m.class) ≡ true
  class_stays m k =
      member_class names place rest out (left_found classes rules marks names place out taken new) new.found
      (left_known classes rules marks names place out taken new) new.apart new.renamed (member_place classes marks m)
      (keeps_member classes rules marks names place out taken new m k)

  codes_moved : (m : MemberAt) → is_member_kept classes marks m ≡ true
      → OptionCorr (CodeMap (new_refs classes rules marks names place out taken new) (name_of classes m.class))
      (code_at classes m) (code_at out (moved_member m))
  codes_moved m kept =
      by (code_at classes m) refl
      (subst (λ o. OptionCorr (IsNewCode names) o (code_at out (moved_member m)))
      (told_same classes marks (λ f. None) (λ m. m.code) m kept)
      (code_told names place rest out new.renamed new.codes (member_place classes marks m) (class_stays m kept)))
    where
      by : (o : Option Code) → code_at classes m ≡ o → OptionCorr (IsNewCode names) o (code_at out (moved_member m))
          → OptionCorr (CodeMap (new_refs classes rules marks names place out taken new) (name_of classes m.class)) o
          (code_at out (moved_member m))
      by None e z = z
      by (Some code) e (d, is, renamed) = (d, is, code_renamed m.class m.index code d kept e renamed)

  constants_moved : (m : MemberAt) → is_member_kept classes marks m ≡ true
      → constant_at out (moved_member m) ≡ constant_at classes m
  constants_moved m k =
      constant_told names place rest out new.renamed (member_place classes marks m) (class_stays m k)
      ∙ told_same classes marks (λ f. f.constant) (λ m. None) m k

  -- ---- the whole

  pub new_view : IsImageView classes out (image_of classes rules marks names place out taken new)
  new_view = record {
    named = class_found classes taken;
    named_moved = found_new;
    library_moved = λ x k. library_same x;
    own_class = own_class;
    own_field = own_field;
    library_member = λ m k library. library_member m library;
    member_named = member_found;
    descriptors = descriptors;
    clinit_renamed = clinit_stays;
    clinit_kept = starts_kept classes rules marks new.closed taken;
    constant_moved = constants_moved;
    code_moved = codes_moved;
  }
