-- What rules match whose names stay, by the rows of the rules that stand for them.
use Rattle.std.proofs.Common.{◌≡◌, ℕ, ◌+◌, Bool, true, false, not, ◌&&◌, List, [], ◌∷◌, ◌++◌, map, slice_get, Some}
use Rattle.std.proofs.Common.{Result, Ok, Err, refl, sym, ap, ◌∙◌, arith}
use Rattle.std.specs.Prelude.{IfOk}
use Rattle.std.specs.List.{enumerate_from, list_any}
use Rattle.std.proofs.Math.Bool.{and_assoc}
use Rattle.class_model.specs.declared.class.Class.{Class}
use Rattle.class_model.specs.declared.class.Field.{Field}
use Rattle.class_model.specs.declared.class.Method.{Method}
use Rattle.keep_rules.specs.declared.rules.Keep.{Keep}
use Rattle.keep_rules.specs.declared.rules.KeepKind.{KeepKind}
use Rattle.keep_rules.specs.declared.rules.KeepKind.TheVariants as kind
use Rattle.keep_rules.specs.declared.rules.MemberSpec.{MemberSpec}
use Rattle.keep_match.specs.Fixed.{are_fixed, fixes_class, fixes_field, fixes_method, fixes_names}
use Rattle.keep_match.specs.bodies.Marks.{HasRows, row_at}
use Rattle.keep_match.specs.Matches.{matches_class, matches_field, matches_method}
use Rattle.keep_match.specs.Seeds.{are_kept, are_members_met, keeps_class, keeps_classes, keeps_field, keeps_method}
use Rattle.keep_match.specs.bodies.AsFixing.{as_fixing, as_fixings, kind_of}
use Rattle.keep_match.specs.declared.fixed.Fixes.{Fixes}
use Rattle.keep_match.proofs.AskedLaw.{any_of, map_is}

no_members : (t m : Bool) → (t && ((true && m) && true)) ≡ ((t && m) && true)
no_members true true = refl
no_members true false = refl
no_members false m = refl

members : (t m r : Bool) → (t && ((true && m) && r)) ≡ ((t && m) && r)
members true m r = refl
members false m r = refl

by_kind : (k : Keep) (specs : List MemberSpec) (c : Class) (t m : Bool) (of : KeepKind)
    → (t && ((keeps_classes (record k { kind = kind_of of; allow_shrinking = false }) && m) && are_members_met
    (kind_of of) specs c))
    ≡ ((t && m) && are_members_met of specs c)
by_kind k specs c t m kind.Keep = no_members t m
by_kind k specs c t m kind.Members = no_members t m
by_kind k specs c t m kind.WithMembers = members t m (are_members_met kind.WithMembers specs c)

behind : (a b r : Bool) → a ≡ b → (a && r) ≡ (b && r)
behind a b r same = ap (λ (x : Bool). x && r) same

module _ (what : Fixes) (classes : List Class) (n : ℕ) (c : Class) where
  class_same : (k : Keep)
      → (fixes_names what k && keeps_class classes n c (as_fixing k)) ≡ fixes_class what classes n c k
  unfolding keeps_class fixes_class
  class_same k = by_kind k k.spec.members c (fixes_names what k) (matches_class k.spec classes n c) k.kind

  field_same : (f : Field) (k : Keep)
      → (fixes_names what k && keeps_field classes n c f (as_fixing k)) ≡ fixes_field what classes n c f k
  field_same f k =
      sym (and_assoc (fixes_names what k) (keeps_class classes n c (as_fixing k))
      (list_any (λ spec. matches_field spec f) k.spec.members))
      ∙ ap (λ (x : Bool). x && list_any (λ spec. matches_field spec f) k.spec.members) (class_same k)

  method_same : (m : Method) (k : Keep)
      → (fixes_names what k && keeps_method classes n c m (as_fixing k)) ≡ fixes_method what classes n c m k
  method_same m k =
      sym (and_assoc (fixes_names what k) (keeps_class classes n c (as_fixing k))
      (list_any (λ spec. matches_method spec m) k.spec.members))
      ∙ ap (λ (x : Bool). x && list_any (λ spec. matches_method spec m) k.spec.members) (class_same k)

  class_fixed : (keeps : List Keep)
      → list_any (keeps_class classes n c) (as_fixings what keeps) ≡ list_any (fixes_class what classes n c) keeps
  class_fixed keeps =
      any_of (fixes_names what) (keeps_class classes n c) as_fixing keeps
      ∙ (λ i. list_any (λ k. class_same k i) keeps)

  field_fixed : (keeps : List Keep) (f : Field)
      → list_any (keeps_field classes n c f) (as_fixings what keeps) ≡ list_any (fixes_field what classes n c f) keeps
  field_fixed keeps f =
      any_of (fixes_names what) (keeps_field classes n c f) as_fixing keeps
      ∙ (λ i. list_any (λ k. field_same f k i) keeps)

  method_fixed : (keeps : List Keep) (m : Method)
      → list_any (keeps_method classes n c m) (as_fixings what keeps) ≡ list_any (fixes_method what classes n c m) keeps
  method_fixed keeps m =
      any_of (fixes_names what) (keeps_method classes n c m) as_fixing keeps
      ∙ (λ i. list_any (λ k. method_same m k i) keeps)

  row_fixed : (keeps : List Keep)
      → are_kept (as_fixings what keeps) classes (n, c) ≡ are_fixed what keeps classes (n, c)
  row_fixed keeps =
      λ i. class_fixed keeps i ∷
      (map (λ f. field_fixed keeps f i) c.fields ++ map (λ m. method_fixed keeps m i) c.methods)

rows_same : (rows : List (List Bool)) → map (λ (row : List Bool). row) rows ≡ rows
rows_same [] = refl
rows_same (row ∷ rows) = ap (λ (rest : List (List Bool)). row ∷ rest) (rows_same rows)

pub rows_fixed : (what : Fixes) (classes : List Class) (keeps : List Keep) (rows : List (List Bool))
    → HasRows classes (as_fixings what keeps) rows
    → rows ≡ map (are_fixed what keeps classes) (enumerate_from 0 classes)
rows_fixed what classes keeps rows h =
    sym (rows_same rows)
    ∙ map_is (λ row. row) (are_fixed what keeps classes) 0 classes rows h.count (λ n c is.
    let e : n ≡ 0 + n = omega arith in
    h.each n c is ∙ row_fixed what classes n c keeps ∙ ap (λ (m : ℕ). are_fixed what keeps classes (m, c)) e)
