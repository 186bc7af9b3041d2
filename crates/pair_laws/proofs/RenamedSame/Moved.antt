-- What is left of a set, under new names, is an image of the set.
use Rattle.std.proofs.Common.{◌≡◌, ℕ, Bool, true, false, cond, List, Option}
use Rattle.std.proofs.Common.{Some, None}
use Rattle.std.proofs.Common.{slice_get, refl, sym, ap, ◌∙◌}
use Rattle.std.specs.Prelude.{is_some}
use Rattle.std.proofs.lemmas.Option.{same_Some}
use Rattle.std.specs.Option.{option_map}
use Rattle.jv_base.proofs.Options.{some_there}
use Rattle.lib_table.specs.Lookups as table
use Rattle.class_model.specs.declared.class.Class.{Class}
use Rattle.class_pool.specs.Found.{NameAndType, name_of, named_at, rows_in}
use Rattle.class_pool.specs.Hierarchy.{class_named}
use Rattle.class_pool.specs.declared.id.ClassId.{ClassId}
use Rattle.class_pool.specs.declared.id.ClassId.TheVariants.{Prog, Lib}
use Rattle.class_pool.specs.declared.id.MemberAt.{MemberAt}
use Rattle.class_rename.specs.Names.{Names}
use Rattle.member_shrink.specs.Shrunk.{shrunk}
use Rattle.require_sys.specs.declared.kept.KeptByRules.{KeptByRules}
use Rattle.image_laws.specs.SetImage.Image.{Image}
use Rattle.set_view.specs.ViewOf.{key_at}
use Rattle.image_laws.specs.ShrunkImage.Keeping.{class_place, is_class_kept, is_member_kept, member_place}
use Rattle.image_laws.proofs.ShrunkImage.Classes.{class_at, class_marked, class_of_kept, class_there, f, member_there}
use Rattle.image_laws.proofs.ShrunkImage.Classes.{name_same, row_same}
use Rattle.image_laws.specs.TakenSet.TakenSet.{IsTaken}
use Rattle.image_laws.proofs.TakenSet.LibraryRows.{library_name}
use Rattle.removal_laws.proofs.RemovalImage.Marked.{image}
use Rattle.pair_laws.specs.RenamedImage.Naming.{is_class_there, is_declared, is_member_there, new_named}
use Rattle.pair_laws.specs.RenamedImage.Renaming.{FindsItsClasses, NamesKnownTypes, placed_class, placed_member}
use Rattle.pair_laws.specs.RenamedImage.Renaming.{renamed_named}
use Rattle.pair_laws.proofs.RenamedImage.Join.{name_moved, named_moved, renamed_image}
use Rattle.pair_laws.specs.RenamedSame.Laws.{IsLeftUnderNames}
use Rattle.pair_laws.specs.RenamedSame.NewKeys.{new_key}
use Rattle.pair_laws.proofs.RenamedSame.Composed.{composed}
use Rattle.pair_laws.proofs.RenamedSame.Left.{class_left, found_left, types_known}
use Rattle.pair_laws.proofs.RenamedTaken.Placed.{element}

some_mapped : {X Y : Type 0} (g : X → Y) (o : Option X) → is_some o ≡ true → is_some (option_map g o) ≡ true
some_mapped g None h = absurd cc
some_mapped g (Some x) h = refl

module _ (classes : List Class) (rules : KeptByRules) (marks : List Bool) (names : Names) (place : ℕ → ℕ)
    (out : List Class) (taken : IsTaken classes) (new : IsLeftUnderNames classes rules marks names place out) where
  -- what is left
  abbrev pub left : List Class
  left = shrunk classes marks

  pub left_found : FindsItsClasses left
  left_found = found_left classes rules marks new.closed taken

  pub left_known : NamesKnownTypes left
  left_known = types_known classes rules marks new.closed taken

  -- it is an image of the set, and its classes under new names are one of it
  abbrev pub i : Image classes left
  i = image classes rules marks new.closed taken

  abbrev pub j : Image left out
  j = renamed_image names place left out left_found new.found left_known new.apart new.renamed

  pub keeps : (x : ClassId) → is_class_kept classes marks x ≡ true
      → is_class_there left (class_place classes marks x) ≡ true
  keeps (Prog n) k =
      ap is_some (class_at classes marks n (class_marked classes marks (Prog n) k))
      ∙ some_mapped (f classes marks n) (slice_get classes n) (element classes n (class_there classes marks (Prog n) k))
  keeps (Lib id) k = refl

  pub keeps_member : (m : MemberAt) → is_member_kept classes marks m ≡ true
      → is_member_there left (member_place classes marks m) ≡ true
  keeps_member m k =
      ap is_some (row_same classes marks m k)
      ∙ element (rows_in classes m.class) m.index (member_there classes marks m k)

  -- so they are an image of the set
  abbrev pub whole : Image classes out
  whole = composed classes left out i j keeps keeps_member

  -- ---- names

  pub name_new : (x : ClassId) → is_class_kept classes marks x ≡ true
      → name_of out (placed_class place (class_place classes marks x)) ≡ names.class (name_of classes x)
  name_new (Prog n) k = by (class_place classes marks (Prog n)) refl (keeps (Prog n) k)
    where
      by : (x : ClassId) → class_place classes marks (Prog n) ≡ x → is_class_there left x ≡ true
          → name_of out (placed_class place (class_place classes marks (Prog n)))
          ≡ names.class (name_of classes (Prog n))
      by (Prog t) e h =
          let c = some_there (slice_get left t) h in
          ap (λ (x : ClassId). name_of out (placed_class place x)) e
          ∙ name_moved names place left out left_found new.found left_known new.apart new.renamed t c.0 c.1
          ∙ ap names.class (ap (name_of left) (sym e) ∙ name_same classes marks (Prog n) k)
      by (Lib id) e h = absurd (let w = e in cc)
  name_new (Lib id) k = sym (new.apart.library_class (table.class_at id).name
      (library_name id (class_there classes marks (Lib id) k)).0)

  -- the class of a name
  pub class_new : (name : List ℕ) (x : ClassId) → class_named classes name ≡ Some x
      → is_class_kept classes marks x ≡ true
      → class_named out (names.class name) ≡ Some (placed_class place (class_place classes marks x))
  class_new name x e k =
      named_moved names place left out left_found new.found left_known new.apart new.renamed name
      (class_place classes marks x) (class_left classes rules marks new.closed taken name x e k)

  -- the name of what is declared
  pub given_is : (n o : NameAndType) → new_named names left n ≡ Some o → o ≡ renamed_named names n
  given_is n o e = by (is_declared left n) e
    where
      by : (t : Bool) → cond t (Some (renamed_named names n)) None ≡ Some o → o ≡ renamed_named names n
      by true e = sym (same_Some (renamed_named names n) o e)
      by false e = absurd cc

  pub name_is : (m : MemberAt) → is_member_kept classes marks m ≡ true
      → named_at out (placed_member place (member_place classes marks m)) ≡ renamed_named names (named_at classes m)
  name_is m k = given_is (named_at classes m) (named_at out (placed_member place (member_place classes marks m)))
      (whole.name_moved m k)

  pub name_given : (m : MemberAt) → is_member_kept classes marks m ≡ true
      → new_named names left (named_at classes m) ≡ Some (renamed_named names (named_at classes m))
  name_given m k = whole.name_moved m k ∙ ap (λ (n : NameAndType). Some n) (name_is m k)

  pub key_is : (m : MemberAt) → is_member_kept classes marks m ≡ true
      → key_at out (placed_member place (member_place classes marks m)) ≡ new_key names (key_at classes m)
  key_is m k =
      let class = name_new m.class (class_of_kept classes marks m k) in
      let named = name_is m k in
      λ q. record { class = class q; name = (named q).0; descriptor = (named q).1 }
