-- No rule looks at a code.
use Rattle.std.proofs.Common.{◌≡◌, ℕ, ◌+◌, ◌&&◌, Bool, List, [], ◌∷◌, ◌++◌, map, Option, Some, None, refl, ap}
use Rattle.std.specs.List.{enumerate_from, flat_map, list_all, list_any}
use Rattle.class_model.specs.declared.class.Class.{Class}
use Rattle.class_model.specs.declared.class.Field.{Field}
use Rattle.class_model.specs.declared.class.Method.{Method}
use Rattle.class_pool.specs.Walk.{each_once, supers}
use Rattle.class_pool.specs.declared.id.ClassId.TheVariants.{Prog}
use Rattle.keep_rules.specs.declared.rules.ClassSpec.{ClassSpec}
use Rattle.keep_rules.specs.declared.rules.Keep.{Keep}
use Rattle.keep_rules.specs.declared.rules.KeepKind.{KeepKind}
use Rattle.keep_rules.specs.declared.rules.KeepKind.TheVariants as kind
use Rattle.keep_rules.specs.declared.rules.MemberSpec.{MemberSpec}
use Rattle.keep_match.specs.Asked.{are_asked, asks_class, asks_members, members_asked}
use Rattle.keep_match.specs.Fixed.{are_fixed, fixed_rows, fixes_class, fixes_names}
use Rattle.keep_match.specs.Matches.{is_above_met, matches_class, matches_class_name, matches_field, matches_method}
use Rattle.keep_match.specs.Seeds.{are_kept, are_members_met, has_match, keeps_class, keeps_classes, places_of_true, seeds_of}
use Rattle.keep_match.specs.declared.fixed.Fixes.{Fixes}
use Rattle.keep_match.specs.Matches.{fits_method}
use Rattle.shape_laws.specs.Bare.{bare, bare_method}
use Rattle.shape_laws.proofs.Alike as alike
use Rattle.shape_laws.proofs.BareSets.{bare_keeps}
use Rattle.shape_laws.proofs.BareSets.{same}
use Rattle.swap_laws.specs.Laws.{RulesMatchAlike}

fits_at : (ty : Option (List ℕ)) (name : List ℕ) (args : Option (List (List ℕ))) (m : Method)
    → fits_method ty name args (bare_method m) ≡ fits_method ty name args m
fits_at None name None m = refl
fits_at (Some ty) name None m = refl
fits_at None name (Some args) m = refl
fits_at (Some ty) name (Some args) m = refl

method_at : (spec : MemberSpec) (m : Method) → matches_method spec (bare_method m) ≡ matches_method spec m
unfolding matches_method
method_at spec m = rw (fits_at spec.ty spec.name spec.args m) refl

methods_at : (spec : MemberSpec) (ms : List Method) → map (matches_method spec) (map bare_method ms) ≡ map (matches_method spec) ms
methods_at spec [] = refl
methods_at spec (m ∷ ms) = λ i. method_at spec m i ∷ methods_at spec ms i

match_at : (c : Class) (spec : MemberSpec) → has_match (bare c) spec ≡ has_match c spec
match_at c spec = λ i. list_any (λ b. b) (map (matches_field spec) c.fields ++ methods_at spec c.methods i)

met_at : (k : KeepKind) (specs : List MemberSpec) (c : Class) → are_members_met k specs (bare c) ≡ are_members_met k specs c
met_at kind.Keep specs c = refl
met_at kind.Members specs c = refl
met_at kind.WithMembers specs c = λ i. list_all (λ spec. match_at c spec i) specs

module _ (s : List Class) where
  abbrev t : List Class
  t = map bare s

  supers_is : supers t ≡ supers s
  supers_is = λ i x. each_once (x ∷ []) (alike.superclasses_from_is bare bare_keeps s i x ++ alike.superinterfaces_is bare bare_keeps s i x)

  above_at : (o : Option (List ℕ)) (n : ℕ) → is_above_met o t n ≡ is_above_met o s n
  above_at None n = refl
  above_at (Some pattern) n = λ i. list_any (λ id. matches_class_name pattern (alike.name_of_at bare bare_keeps s id i)) (supers_is i (Prog n))

  class_at : (spec : ClassSpec) (n : ℕ) (c : Class) → matches_class spec t n (bare c) ≡ matches_class spec s n c
  unfolding matches_class
  class_at spec n c = rw (above_at spec.above n) refl

  keeps_at : (n : ℕ) (c : Class) (k : Keep) → keeps_class t n (bare c) k ≡ keeps_class s n c k
  unfolding keeps_class
  keeps_at n c k = λ i. keeps_classes k && class_at k.spec n c i && met_at k.kind k.spec.members c i

  asks_at : (n : ℕ) (c : Class) (k : Keep) → asks_class t n (bare c) k ≡ asks_class s n c k
  unfolding asks_class
  asks_at n c k = λ i. asks_members k && class_at k.spec n c i

  fixes_at : (what : Fixes) (n : ℕ) (c : Class) (k : Keep) → fixes_class what t n (bare c) k ≡ fixes_class what s n c k
  unfolding fixes_class
  fixes_at what n c k = λ i. fixes_names what k && class_at k.spec n c i && met_at k.kind k.spec.members c i

  -- ---- rows, by a test of classes

  module _ (keeps : List Keep) (new old : ℕ → Class → Keep → Bool)
      (like : (n : ℕ) (c : Class) (k : Keep) → new n (bare c) k ≡ old n c k) where
    fields_row : (n : ℕ) (c : Class)
        → map (λ (f : Field). list_any (λ (k : Keep). new n (bare c) k && list_any (λ spec. matches_field spec f) k.spec.members) keeps) c.fields
        ≡ map (λ (f : Field). list_any (λ (k : Keep). old n c k && list_any (λ spec. matches_field spec f) k.spec.members) keeps) c.fields
    fields_row n c = λ i. map (λ (f : Field). list_any (λ (k : Keep). like n c k i && list_any (λ spec. matches_field spec f) k.spec.members) keeps) c.fields

    methods_row : (n : ℕ) (c : Class) (ms : List Method)
        → map (λ (m : Method). list_any (λ (k : Keep). new n (bare c) k && list_any (λ spec. matches_method spec m) k.spec.members) keeps) (map bare_method ms)
        ≡ map (λ (m : Method). list_any (λ (k : Keep). old n c k && list_any (λ spec. matches_method spec m) k.spec.members) keeps) ms
    methods_row n c [] = refl
    methods_row n c (m ∷ ms) = λ i. list_any (λ (k : Keep). like n c k i && list_any (λ spec. method_at spec m i) k.spec.members) keeps ∷ methods_row n c ms i

    class_row : (n : ℕ) (c : Class) → list_any (new n (bare c)) keeps ≡ list_any (old n c) keeps
    class_row n c = λ i. list_any (λ k. like n c k i) keeps

  -- ---- the whole

  rows_at : (keeps : List Keep) (n : ℕ) (c : Class) → are_kept keeps t (n, bare c) ≡ are_kept keeps s (n, c)
  rows_at keeps n c = λ i. class_row keeps (keeps_class t) (keeps_class s) keeps_at n c i
      ∷ (fields_row keeps (keeps_class t) (keeps_class s) keeps_at n c i
      ++ methods_row keeps (keeps_class t) (keeps_class s) keeps_at n c c.methods i)

  seeds_rows : (keeps : List Keep) (n : ℕ) (cs : List Class)
      → flat_map (are_kept keeps t) (enumerate_from n (map bare cs)) ≡ flat_map (are_kept keeps s) (enumerate_from n cs)
  seeds_rows keeps n [] = refl
  seeds_rows keeps n (c ∷ cs) = λ i. rows_at keeps n c i ++ seeds_rows keeps (n + 1) cs i

  asked_at : (keeps : List Keep) (n : ℕ) (c : Class) → are_asked keeps t (n, bare c) ≡ are_asked keeps s (n, c)
  asked_at keeps n c = λ i. fields_row keeps (asks_class t) (asks_class s) asks_at n c i
      ++ methods_row keeps (asks_class t) (asks_class s) asks_at n c c.methods i

  asked_rows : (keeps : List Keep) (n : ℕ) (cs : List Class)
      → map (λ p. places_of_true 0 (are_asked keeps t p)) (enumerate_from n (map bare cs))
      ≡ map (λ p. places_of_true 0 (are_asked keeps s p)) (enumerate_from n cs)
  asked_rows keeps n [] = refl
  asked_rows keeps n (c ∷ cs) = λ i. places_of_true 0 (asked_at keeps n c i) ∷ asked_rows keeps (n + 1) cs i

  fixed_at : (what : Fixes) (keeps : List Keep) (n : ℕ) (c : Class)
      → are_fixed what keeps t (n, bare c) ≡ are_fixed what keeps s (n, c)
  fixed_at what keeps n c = λ i. class_row keeps (fixes_class what t) (fixes_class what s) (fixes_at what) n c i
      ∷ (fields_row keeps (fixes_class what t) (fixes_class what s) (fixes_at what) n c i
      ++ methods_row keeps (fixes_class what t) (fixes_class what s) (fixes_at what) n c c.methods i)

  fixed_all : (what : Fixes) (keeps : List Keep) (n : ℕ) (cs : List Class)
      → map (are_fixed what keeps t) (enumerate_from n (map bare cs)) ≡ map (are_fixed what keeps s) (enumerate_from n cs)
  fixed_all what keeps n [] = refl
  fixed_all what keeps n (c ∷ cs) = λ i. fixed_at what keeps n c i ∷ fixed_all what keeps (n + 1) cs i

pub match_alike : RulesMatchAlike
match_alike rules a b like = record {
  seeds = same a b like (seeds_of rules) (λ s. ap (places_of_true 0) (seeds_rows s rules.keeps 0 s));
  members = same a b like (members_asked rules) (λ s. asked_rows s rules.keeps 0 s);
  fixed = λ what. same a b like (fixed_rows what rules) (λ s. fixed_all s what rules.keeps 0 s);
}
