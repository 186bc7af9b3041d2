-- Where each method has a code where it had one, the members of a class are as they were for the clause MemberDiffers.
use Rattle.std.proofs.Common.{◌≡◌, ℕ, suc, List, [], ◌∷◌, ◌||◌, map, length, nat_lt, Option, Some, None, slice_get, refl, sym, ap}
use Rattle.std.proofs.Common.{subst, ◌∙◌, is_some}
use Rattle.std.specs.List.{AllZip, filter_map, zip}
use Rattle.jv_base.proofs.Lists.{heads, tails}
use Rattle.class_model.specs.declared.class.Class.{Class}
use Rattle.class_model.specs.declared.class.Method.{Method}
use Rattle.class_model.specs.declared.code.Code.{Code}
use Rattle.attribute_filter.specs.Filtered.{throws_kept}
use Rattle.attribute_filter.specs.declared.filter.AttributeFilter.{AttributeFilter}
use Rattle.mapping_file.specs.declared.mapping.Mapping.{Mapping}
use Rattle.class_rename.specs.Renamed.{renamed_method_type}
use Rattle.new_names.specs.NewNames.{names_of}
use Rattle.new_names.specs.declared.class_names.ClassNames.{ClassNames}
use Rattle.pair_clauses.specs.Finding.{FirstUnlike}
use Rattle.pair_clauses.specs.Members.{ClassDiffers, IsSameClass, IsSameField, IsSameMethod, LinedDiffers, MemberDiffers}
use Rattle.pair_clauses.specs.Members.{NewField, NewMethod, expected_fields, expected_methods}
use Rattle.pair_clauses.specs.Members.{new_one, with_name}
use Rattle.pair_clauses.specs.Places.{class_place, place_if, place_of_field, place_of_method}
use Rattle.pair_clauses.specs.declared.place.Place.{Place}
use Rattle.shape_laws.specs.Bare.{bare, bare_method}
use Rattle.swap_laws.specs.Swapped.{CodeSwaps, NamesLessThan}

-- a method has a code where another one has one
abbrev pub HasToo : Method → Method → Type 0
HasToo m o = is_some o.code ≡ is_some m.code

there_too : (x y : Option Code) → NamesLessThan x y → is_some y ≡ is_some x
there_too (Some x) (Some y) h = refl
there_too None None h = refl
there_too (Some x) None h = absurd h
there_too None (Some y) h = absurd h

-- so have methods whose codes are swapped, and it holds both ways
pub have_too : (ms os : List Method) → AllZip CodeSwaps ms os → AllZip HasToo ms os
have_too [] [] zip = tt
have_too [] (o ∷ os) zip = absurd zip
have_too (m ∷ ms) [] zip = absurd zip
have_too (m ∷ ms) (o ∷ os) zip = (there_too m.code o.code zip.0.no_more, have_too ms os zip.1)

pub had_too : (ms os : List Method) → AllZip HasToo ms os → AllZip HasToo os ms
had_too [] [] zip = tt
had_too [] (o ∷ os) zip = absurd zip
had_too (m ∷ ms) [] zip = absurd zip
had_too (m ∷ ms) (o ∷ os) zip = (sym zip.0, had_too ms os zip.1)

module _ (mapping : Mapping) (filter : AttributeFilter) where
  abbrev Same : NewMethod → Method → Type 0
  Same = IsSameMethod mapping filter

  same_again : (m o : Method) (new : List ℕ) (out : Method) → bare_method m ≡ bare_method o → HasToo m o
      → Same (m, new) out → Same (o, new) out
  same_again m o new out like has h = record {
    flags = (λ i. (sym like i).flags) ∙ h.flags;
    name = h.name;
    ty = subst (λ (x : Method). renamed_method_type (names_of mapping) x.ty ≡ out.ty) like h.ty;
    code = has ∙ h.code;
    throws = subst (λ (x : Method). map (names_of mapping).class (throws_kept filter x.throws) ≡ out.throws) like
        h.throws;
  }

  -- the expected methods of both
  module _ (P Q : NewMethod → Place) where
    unlike_again : (ms os : List Method) → map bare_method ms ≡ map bare_method os → AllZip HasToo ms os
        → (new : List (Option (List ℕ))) (outs : List Method)
        → FirstUnlike Same P (filter_map with_name (zip ms new)) outs None
        → FirstUnlike Same Q (filter_map with_name (zip os new)) outs None
    unlike_again [] [] like zip new outs h = refl
    unlike_again [] (o ∷ os) like zip new outs h = absurd zip
    unlike_again (m ∷ ms) [] like zip new outs h = absurd zip
    unlike_again (m ∷ ms) (o ∷ os) like zip [] outs h = refl
    unlike_again (m ∷ ms) (o ∷ os) like zip (None ∷ new) outs h =
        unlike_again ms os (tails (bare_method m) (bare_method o) (map bare_method ms) (map bare_method os) like) zip.1
        new outs h
    unlike_again (m ∷ ms) (o ∷ os) like zip (Some name ∷ new) [] h = absurd cc
    unlike_again (m ∷ ms) (o ∷ os) like zip (Some name ∷ new) (out ∷ outs) h = (
      same_again m o name out
          (heads (bare_method m) (bare_method o) (map bare_method ms) (map bare_method os) like) zip.0 h.0,
      unlike_again ms os (tails (bare_method m) (bare_method o) (map bare_method ms) (map bare_method os) like) zip.1
          new outs h.1,
    )

  -- as many methods are expected
  as_many : (ms os : List Method) → AllZip HasToo ms os → (new : List (Option (List ℕ)))
      → length (filter_map with_name (zip ms new)) ≡ length (filter_map with_name (zip os new))
  as_many [] [] zip new = refl
  as_many [] (o ∷ os) zip new = absurd zip
  as_many (m ∷ ms) [] zip new = absurd zip
  as_many (m ∷ ms) (o ∷ os) zip [] = refl
  as_many (m ∷ ms) (o ∷ os) zip (None ∷ new) = as_many ms os zip.1 new
  as_many (m ∷ ms) (o ∷ os) zip (Some name ∷ new) = ap suc (as_many ms os zip.1 new)

  -- ---- a class

  module _ (c e : Class) (like : bare c ≡ bare e) (has : AllZip HasToo c.methods e.methods) (given : ClassNames)
      (out : Class) where
    head_again : IsSameClass mapping c out → IsSameClass mapping e out
    head_again h = record {
      flags = (λ i. (sym like i).flags) ∙ h.flags;
      super_name = subst (λ (x : Class). (names_of mapping).class x.super_name ≡ out.super_name) like h.super_name;
      interfaces = subst (λ (x : Class). map (names_of mapping).class x.interfaces ≡ out.interfaces) like h.interfaces;
    }

    -- no member is more than expected
    abbrev IsNone : Class → ℕ → Type 0
    IsNone x n = None ≡ place_if (nat_lt (length (filter_map with_name (zip x.fields given.fields))) (length out.fields)
        || nat_lt n (length out.methods)) (class_place x.name)

    class_again : ClassDiffers mapping filter c (expected_fields c given) (expected_methods c given) out None
        → ClassDiffers mapping filter e (expected_fields e given) (expected_methods e given) out None
    class_again h = (
      head_again h.0,
      (
        subst (λ (x : Class). FirstUnlike (IsSameField mapping) (λ (f : NewField). place_of_field x f.0)
            (filter_map with_name (zip x.fields given.fields)) out.fields None) like h.1.0,
        (
          unlike_again (λ (m : NewMethod). place_of_method c m.0) (λ (m : NewMethod). place_of_method e m.0) c.methods
              e.methods (λ i. (like i).methods) has given.methods out.methods h.1.1.0,
          subst (λ (n : ℕ). IsNone e n) (as_many c.methods e.methods has given.methods)
              (subst (λ (x : Class). IsNone x (length (expected_methods c given))) like h.1.1.1),
        ),
      ),
    )

    lined_again : (o : Option Class) → o ≡ Some out → LinedDiffers mapping filter c given o None
        → LinedDiffers mapping filter e given o None
    lined_again None is h = refl
    lined_again (Some x) is h =
        let same : x ≡ out = cc in
        subst (λ (y : Class). LinedDiffers mapping filter e given (Some y) None) (sym same)
        (class_again (subst (λ (y : Class). LinedDiffers mapping filter c given (Some y) None) same h))

  one_again : (c e : Class) → bare c ≡ bare e → AllZip HasToo c.methods e.methods → (given : ClassNames)
      → (o : Option Class) → LinedDiffers mapping filter c given o None → LinedDiffers mapping filter e given o None
  one_again c e like has given None h = refl
  one_again c e like has given (Some out) h = lined_again c e like has given out (Some out) refl h

  pub members_again : (output : List Class) (a b : List Class) → map bare a ≡ map bare b
      → ((n : ℕ) (c e : Class) → slice_get a n ≡ Some c → slice_get b n ≡ Some e → AllZip HasToo c.methods e.methods)
      → (given : List ClassNames) → MemberDiffers mapping filter a given output None
      → MemberDiffers mapping filter b given output None
  members_again output [] [] like codes given h = refl
  members_again output [] (e ∷ b) like codes given h = absurd cc
  members_again output (c ∷ a) [] like codes given h = absurd cc
  members_again output (c ∷ a) (e ∷ b) like codes [] h = refl
  members_again output (c ∷ a) (e ∷ b) like codes (g ∷ given) h = (
    one_again c e (heads (bare c) (bare e) (map bare a) (map bare b) like) (codes 0 c e refl refl) g (new_one output g)
        h.0,
    members_again output a b (tails (bare c) (bare e) (map bare a) (map bare b) like)
        (λ n x y one other. codes (suc n) x y one other) given h.1,
  )
