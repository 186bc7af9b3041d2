-- The classes of a set that is taken, each under its new name at its place: they are an image of the set, which keeps
-- all that is there.
use Rattle.std.proofs.Common.{◌≡◌, ◌<◌, ℕ, zero, suc, Bool, true, false, cond, List, [], ◌∷◌, length, map, Option}
use Rattle.std.proofs.Common.{Some, None, slice_get, refl, sym, ap, subst, ◌∙◌, arith}
use Rattle.std.specs.Prelude.{IfSome, is_some}
use Rattle.std.specs.List.{AllZip}
use Rattle.std.specs.Option.{option_map}
use Rattle.std.proofs.lemmas.Option.{same_Some}
use Rattle.class_model.specs.declared.class.Class.{Class}
use Rattle.class_model.specs.declared.class.Field.{Field}
use Rattle.class_model.specs.declared.class.Method.{Method}
use Rattle.class_pool.specs.Found.{IsMember, NameAndType, named_at, rows_in}
use Rattle.class_pool.specs.Hierarchy.{IsClass, class_named}
use Rattle.class_pool.specs.Selection.{selected}
use Rattle.class_pool.specs.declared.id.ClassId.{ClassId}
use Rattle.class_pool.specs.declared.id.MemberAt.{MemberAt}
use Rattle.class_pool.proofs.Declaring.{declared_named, declared_there, named_there}
use Rattle.image_laws.specs.SetImage.Image.{Image, SelectedKept}
use Rattle.image_laws.proofs.ViewImage.Standing as standing
use Rattle.image_laws.proofs.ViewImage.Standing.{Stands, selected_stands}
use Rattle.image_laws.specs.TakenSet.TakenSet.{IsTaken}
use Rattle.class_rename.specs.Names.{Names}
use Rattle.class_rename.specs.Renamed.{renamed, renamed_field, renamed_method}
use Rattle.pair_laws.specs.RenamedForm.Form.{KeepsForm}
use Rattle.pair_laws.specs.RenamedImage.Naming.{is_class_there, is_declared, is_member_there, new_named}
use Rattle.pair_laws.specs.RenamedImage.Renaming.{FindsItsClasses, IsNewClass, IsNewField, IsNewMethod, IsRenamedSet}
use Rattle.pair_laws.specs.RenamedImage.Renaming.{KeepsNamesApart, NamesKnownTypes, placed_class, placed_member}
use Rattle.pair_laws.specs.RenamedImage.Renaming.{renamed_named}
use Rattle.pair_laws.proofs.RenamedImage.Join.{named_moved, renamed_image, some_there}

-- what is known of the set, its new names and its places
pub record IsPlaced (names : Names) (place back : ℕ → ℕ) (xs ys : List Class) : Type 0 where
  pub taken : IsTaken xs
  pub form : KeepsForm names
  pub apart : KeepsNamesApart names xs
  pub known : NamesKnownTypes xs
  pub found : FindsItsClasses xs
  pub found_new : FindsItsClasses ys
  pub long : length ys ≡ length xs
  pub at : (n : ℕ) → slice_get ys (place n) ≡ option_map (renamed names) (slice_get xs n)
  pub there : (n : ℕ) → back (place n) ≡ n
  pub from : (n : ℕ) → place (back n) ≡ n

-- ---- members under new names

module _ (names : Names) where
  fields_new : (xs : List Field) → AllZip (IsNewField names) xs (map (renamed_field names) xs)
  fields_new [] = tt
  fields_new (x ∷ xs) = (record { name = refl; ty = refl; flags = refl; constant = refl }, fields_new xs)

  methods_new : (xs : List Method) → AllZip (IsNewMethod names) xs (map (renamed_method names) xs)
  methods_new [] = tt
  methods_new (x ∷ xs) = (record { name = refl; ty = refl; flags = refl }, methods_new xs)

  class_new : (c : Class) → IsNewClass names c (renamed names c)
  class_new c = record {
    name = refl;
    flags = refl;
    super_name = refl;
    interfaces = refl;
    fields = fields_new c.fields;
    methods = methods_new c.methods;
  }

-- what a class at a place of the other list was
pub record Was (names : Names) (place : ℕ → ℕ) (xs : List Class) (j : ℕ) (d : Class) : Type 0 where
  pub n : ℕ
  pub class : Class
  pub there : slice_get xs n ≡ Some class
  pub place_is : j ≡ place n
  pub is : d ≡ renamed names class

pub was_at : (names : Names) (place back : ℕ → ℕ) (xs ys : List Class)
    → ((n : ℕ) → slice_get ys (place n) ≡ option_map (renamed names) (slice_get xs n))
    → ((n : ℕ) → place (back n) ≡ n) → (j : ℕ) (d : Class) → slice_get ys j ≡ Some d → Was names place xs j d
was_at names place back xs ys at from j d is =
    by (slice_get xs (back j)) refl (sym (at (back j)) ∙ ap (slice_get ys) (from j) ∙ is)
  where
    by : (o : Option Class) → slice_get xs (back j) ≡ o → option_map (renamed names) o ≡ Some d
        → Was names place xs j d
    by None e same = absurd cc
    by (Some c) e same = record {
      n = back j;
      class = c;
      there = e;
      place_is = sym (from j);
      is = sym (same_Some (renamed names c) d same);
    }

pub element : {X : Type 0} (xs : List X) (i : ℕ) → i < length xs → is_some (slice_get xs i) ≡ true
element [] i low = absurd (omega (arith, low))
element (x ∷ xs) zero low = refl
element (x ∷ xs) (suc i) low = element xs i (omega (arith, low))

module _ (names : Names) (place back : ℕ → ℕ) (xs ys : List Class) (h : IsPlaced names place back xs ys) where
  -- ---- classes

  pub new_at : (n : ℕ) (c : Class) → slice_get xs n ≡ Some c → slice_get ys (place n) ≡ Some (renamed names c)
  new_at n c at = h.at n ∙ ap (option_map (renamed names)) at

  pub is_renamed : IsRenamedSet names place xs ys
  is_renamed n c at = (renamed names c, new_at n c at, class_new names c)

  pub was : (j : ℕ) (d : Class) → slice_get ys j ≡ Some d → Was names place xs j d
  was = was_at names place back xs ys h.at h.from

  -- ---- the image

  abbrev pub i : Image xs ys
  i = renamed_image names place xs ys h.found h.found_new h.known h.apart is_renamed

  pub class_there : (x : ClassId) → IsClass xs x → is_class_there xs x ≡ true
  class_there x q =
      some_there names place xs ys h.found h.found_new h.known h.apart is_renamed (Some x) q

  -- a name leads to a class that is there, and its new name to the class at its place
  pub named_kept : (name : List ℕ) (x : ClassId) → class_named xs name ≡ Some x → is_class_there xs x ≡ true
  named_kept name x e = class_there x (subst (λ o. IfSome o (IsClass xs)) e (named_there xs name))

  pub named_new : (name : List ℕ) (x : ClassId) → class_named xs name ≡ Some x
      → class_named ys (names.class name) ≡ Some (placed_class place x)
  named_new name x e = named_moved names place xs ys h.found h.found_new h.known h.apart is_renamed name x e

  -- ---- members

  -- what is declared is there
  pub member_there : (n : NameAndType) (m : MemberAt) → Stands xs n m → is_member_there xs m ≡ true
  member_there n m stands =
      let q = subst (λ o. IfSome o (IsMember xs)) stands
      (declared_there xs n m.class (standing.class_there xs n m.class m stands)) in
      element (rows_in xs m.class) m.index q.1

  -- its name has a new one
  pub name_given : (n : NameAndType) (m : MemberAt) → Stands xs n m
      → new_named names xs n ≡ Some (renamed_named names n)
  name_given n m stands =
      let own : named_at xs m ≡ n = declared_named xs n m.class m stands in
      let some : new_named names xs n ≡ Some (named_at ys (placed_member place m)) =
      subst (λ (t : NameAndType). new_named names xs t ≡ Some (named_at ys (placed_member place m))) own
      (i.name_moved m (member_there n m stands)) in
      by (is_declared xs n) some
    where
      by : (t : Bool)
          → cond t (Some (renamed_named names n)) None ≡ Some (named_at ys (placed_member place m))
          → cond t (Some (renamed_named names n)) None ≡ Some (renamed_named names n)
      by true e = refl
      by false e = absurd cc

  -- what a call runs is there
  pub selected_there : SelectedKept xs ys i
  selected_there x m there kept class m_kept below apart instance no_private =
      by (selected xs x m) (selected_stands xs x m)
    where
      by : (o : Option MemberAt) → IfSome o (Stands xs (named_at xs m))
          → IfSome o (λ s. is_member_there xs s ≡ true)
      by None q = tt
      by (Some s) q = member_there (named_at xs m) s q
