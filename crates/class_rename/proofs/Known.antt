-- Tables of texts that were renamed before.
use Rattle.std.proofs.Common.{◌≡◌, ℕ, Bool, true, false, cond, List, [], ◌∷◌, Option, Some, None, IfSome, IfOk, Result}
use Rattle.std.proofs.Common.{Ok, Err, refl, sym, ap, ◌∙◌, subst}
use Rattle.std.specs.Prelude.{nat_eq}
use Rattle.std.specs.Cmp.Lexicographic.{pointwise}
use Rattle.std.specs.List.{AllByRecursion}
use Rattle.std.specs.Map.{lookup}
use Rattle.std.proofs.lemmas.Option.{same_Some}
use Rattle.indexmap.specs.IndexMap.{insert_entry}
use Rattle.jv_base.specs.Names.{is_text}
use Rattle.jv_base.proofs.Equality.{text_Decides}
use Rattle.class_rename.specs.bodies.Known.{AreKnown}

module _ (becomes : List ℕ → List ℕ) where
  found_each : (table : List (List ℕ × List ℕ)) (text new : List ℕ)
      → AllByRecursion (λ (e : List ℕ × List ℕ). e.1 ≡ becomes e.0) table
      → lookup (is_text text) table ≡ Some new → new ≡ becomes text
  found_each [] text new known found = absurd cc
  found_each (e ∷ table) text new known found = on (is_text text e.0) refl found (found_each table text new known.1)
    where
      on : (b : Bool) → is_text text e.0 ≡ b → cond b (Some e.1) (lookup (is_text text) table) ≡ Some new
          → (lookup (is_text text) table ≡ Some new → new ≡ becomes text) → new ≡ becomes text
      on true is f more = sym (same_Some e.1 new f) ∙ known.0 ∙ ap becomes (sym ((text_Decides text e.0).0 is))
      on false is f more = more f

  more_each : (table : List (List ℕ × List ℕ)) (text new : List ℕ)
      → AllByRecursion (λ (e : List ℕ × List ℕ). e.1 ≡ becomes e.0) table → new ≡ becomes text
      → AllByRecursion (λ (e : List ℕ × List ℕ). e.1 ≡ becomes e.0) (insert_entry (pointwise nat_eq) table text new)
  more_each [] text new known is = (is, tt)
  more_each (e ∷ table) text new known is = on (pointwise nat_eq text e.0) refl (more_each table text new known.1 is)
    where
      on : (b : Bool) → pointwise nat_eq text e.0 ≡ b
          → AllByRecursion (λ (e : List ℕ × List ℕ). e.1 ≡ becomes e.0) (insert_entry (pointwise nat_eq) table text new)
          → AllByRecursion (λ (e : List ℕ × List ℕ). e.1 ≡ becomes e.0)
          (cond b ((e.0, new) ∷ table) (e ∷ insert_entry (pointwise nat_eq) table text new))
      on true same more = (is ∙ ap becomes ((text_Decides text e.0).0 same), known.1)
      on false same more = (known.0, more)

-- what is found is what becomes of the text
pub found_known : (becomes : List ℕ → List ℕ) (table : List (List ℕ × List ℕ)) (text new : List ℕ)
    → AreKnown becomes table
    → lookup (is_text text) table ≡ Some new → new ≡ becomes text
found_known becomes table text new known found = found_each becomes table text new known.each found

-- with one more, all are known
pub more_known : (becomes : List ℕ → List ℕ) (table : List (List ℕ × List ℕ)) (text new : List ℕ)
    → AreKnown becomes table
    → new ≡ becomes text → AreKnown becomes (insert_entry (pointwise nat_eq) table text new)
more_known becomes table text new known is = record { each = more_each becomes table text new known.each is }

-- what is found, if anything is, is what becomes of the text
pub found_if : (becomes : List ℕ → List ℕ) (table : List (List ℕ × List ℕ)) (text : List ℕ) (found : Option (List ℕ))
    → AreKnown becomes table → found ≡ lookup (is_text text) table → IfSome found (λ new. new ≡ becomes text)
found_if becomes table text None known is = tt
found_if becomes table text (Some new) known is = found_known becomes table text new known (sym is)

-- whether or not one more was put in
pub kept_known : (becomes : List ℕ → List ℕ) (table grown : List (List ℕ × List ℕ)) (text new : List ℕ) (b : Bool)
    → grown ≡ cond b (insert_entry (pointwise nat_eq) table text new) table → AreKnown becomes table
    → new ≡ becomes text
    → AreKnown becomes grown
kept_known becomes table grown text new true is known becoming =
    subst (AreKnown becomes) (sym is) (more_known becomes table text new known becoming)
kept_known becomes table grown text new false is known becoming = subst (AreKnown becomes) (sym is) known

-- what follows from what is so after Ok
pub if_ok : {T E : Type 0} {P Q : T → Type 0} (r : Result T E) → ((x : T) → P x → Q x) → IfOk r P → IfOk r Q
if_ok (Ok x) f h = f x h
if_ok (Err e) f h = tt
