-- The methods of one name and descriptor that a walk up the superclasses meets.
use Rattle.std.specs.Prelude.{◌&&◌, ◌||◌, MatchOption, if◌then◌else◌}
use Rattle.std.proofs.Common.{◌≡◌, Bool, true, false, List, [], ◌∷◌, Option, Some, None, IfSome, refl, sym, ap, ◌∙◌}
use Rattle.std.specs.List.{cons_option, find}
use Rattle.class_model.specs.declared.class.Class.{Class}
use Rattle.class_pool.specs.declared.id.ClassId.{ClassId}
use Rattle.class_pool.specs.declared.id.MemberAt.{MemberAt}
use Rattle.class_pool.specs.Found.{NameAndType, declared_by, declared_in, named_at, same_member}
use Rattle.link_check.specs.bodies.Overriding.{has_open_override, is_among, overrides_openly}

-- ---- the first method on the way that passes a test

cons_found : {A : Type 0} (test : A → Bool) (x : A) (xs : List A) (b : Bool) → test x ≡ b
    → find test (x ∷ xs) ≡ (if b then Some x else find test xs)
cons_found test x xs b is = ap (λ p. if p then Some x else find test xs) is

passed : (test : MemberAt → Bool) (o : Option MemberAt) (ms : List MemberAt) → IfSome o (λ m. test m ≡ false)
    → find test (cons_option o ms) ≡ find test ms
passed test (Some m) ms fails = cons_found test m ms false fails
passed test None ms fails = refl

module _ (classes : List Class) (named : NameAndType) (old new : List ClassId) (c : ClassId) (test : MemberAt → Bool)
    (due : Option MemberAt) where
  pub find_here : (m : MemberAt) → old ≡ c ∷ new → declared_in classes named c ≡ Some m → test m ≡ true
      → find test (declared_by classes named old) ≡ due → Some m ≡ due
  find_here m at is passes found =
      sym (ap (λ cs. find test (declared_by classes named cs)) at
      ∙ ap (λ o. find test (cons_option o (declared_by classes named new))) is
      ∙ cons_found test m (declared_by classes named new) true passes) ∙ found

  pub find_on : (o : Option MemberAt) → old ≡ c ∷ new → declared_in classes named c ≡ o → IfSome o (λ m. test m ≡ false)
      → find test (declared_by classes named old) ≡ due → find test (declared_by classes named new) ≡ due
  find_on o at is fails found =
      sym (ap (λ cs. find test (declared_by classes named cs)) at
      ∙ ap (λ p. find test (cons_option p (declared_by classes named new))) is
      ∙ passed test o (declared_by classes named new) fails) ∙ found

pub find_over : (classes : List Class) (named : NameAndType) (rest : List ClassId) (test : MemberAt → Bool)
    (due : Option MemberAt) → rest ≡ []
    → find test (declared_by classes named rest) ≡ due → None ≡ due
find_over classes named rest test due over found = sym (ap (λ cs. find test (declared_by classes named cs)) over)
    ∙ found

-- ---- a method on the way that overrides another one openly

open_step : (opened s on op om : Bool) → (opened && s) ≡ false
    → ((opened && (s || on)) || ((om && on) || op)) ≡ (((opened || om) && on) || op)
open_step false s on op om other = refl
open_step true true on op om other = absurd cc
open_step true false true op om other = refl
open_step true false false op true other = refl
open_step true false false op false other = refl

module _ (classes : List Class) (above : MemberAt) where
  -- the test of the methods that are left, where one was met that overrides the one above openly
  abbrev pub opened_up : Bool → List MemberAt → Bool
  opened_up opened ms = (opened && is_among above ms) || has_open_override classes above ms

  opened_here : (opened : Bool) (m : MemberAt) (ms : List MemberAt) → opened ≡ true → same_member m above ≡ true
      → opened_up opened (m ∷ ms) ≡ true
  opened_here opened m ms was same =
      ap (λ b. opened_up b (m ∷ ms)) was
      ∙ ap (λ b. (b || is_among above ms) || has_open_override classes above (m ∷ ms)) same

  opened_past : (opened : Bool) (o : Option MemberAt) (ms : List MemberAt) (after : Bool)
      → IfSome o (λ m. (opened && same_member m above) ≡ false)
      → MatchOption o (after ≡ opened) (λ m. after ≡ (opened || overrides_openly classes above m))
      → opened_up opened (cons_option o ms) ≡ opened_up after ms
  opened_past opened (Some m) ms after other is =
      open_step opened (same_member m above) (is_among above ms) (has_open_override classes above ms)
      (overrides_openly classes above m) other ∙ ap (λ b. opened_up b ms) (sym is)
  opened_past opened None ms after other is = ap (λ b. opened_up b ms) (sym is)

  -- of the methods that these classes declare
  abbrev pub opened_in : Bool → List ClassId → Bool
  opened_in opened cs = opened_up opened (declared_by classes (named_at classes above) cs)

  pub open_here : (old new : List ClassId) (c : ClassId) (opened : Bool) (m : MemberAt) (due : Bool) → old ≡ c ∷ new
      → declared_in classes (named_at classes above) c ≡ Some m → opened ≡ true → same_member m above ≡ true
      → opened_in opened old ≡ due → true ≡ due
  open_here old new c opened m due at is was same found =
      sym (ap (opened_in opened) at
      ∙ ap (λ o. opened_up opened (cons_option o (declared_by classes (named_at classes above) new))) is
      ∙ opened_here opened m (declared_by classes (named_at classes above) new) was same) ∙ found

  pub open_on : (old new : List ClassId) (c : ClassId) (opened after : Bool) (o : Option MemberAt) (due : Bool)
      → old ≡ c ∷ new
      → declared_in classes (named_at classes above) c ≡ o → IfSome o (λ m. (opened && same_member m above) ≡ false)
      → MatchOption o (after ≡ opened) (λ m. after ≡ (opened || overrides_openly classes above m))
      → opened_in opened old ≡ due → opened_in after new ≡ due
  open_on old new c opened after o due at here other more found =
      sym (ap (opened_in opened) at
      ∙ ap (λ p. opened_up opened (cons_option p (declared_by classes (named_at classes above) new))) here
      ∙ opened_past opened o (declared_by classes (named_at classes above) new) after other more) ∙ found

  none_open : (b : Bool) → ((b && false) || false) ≡ false
  none_open true = refl
  none_open false = refl

  pub open_over : (rest : List ClassId) (opened due : Bool) → rest ≡ [] → opened_in opened rest ≡ due → false ≡ due
  open_over rest opened due over found = sym (ap (opened_in opened) over ∙ none_open opened) ∙ found
