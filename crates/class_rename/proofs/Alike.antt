-- Tables of references that were renamed before.
use Rattle.std.proofs.Common.{◌≡◌, Bool, true, false, cond, List, [], ◌∷◌, Some}
use Rattle.std.proofs.Common.{refl, sym, ap, ◌∙◌, subst}
use Rattle.std.specs.List.{AllByRecursion}
use Rattle.std.specs.Map.{lookup}
use Rattle.std.proofs.lemmas.Option.{same_Some}
use Rattle.indexmap.specs.IndexMap.{insert_entry}
use Rattle.class_model.specs.declared.op.MemberRef.{MemberRef}
use Rattle.class_rename.specs.bodies.References.{AreRenamed, ref_of, same_reference, same_references}
use Rattle.class_rename.specs.declared.references.Reference.{Reference}

module _ (becomes : MemberRef → MemberRef) where
  found_each : (table : List (Reference × MemberRef)) (k : Reference) (new : MemberRef)
      → AllByRecursion (λ (e : Reference × MemberRef). e.1 ≡ becomes (ref_of e.0)) table
      → lookup (same_reference k) table ≡ Some new → new ≡ becomes (ref_of k)
  found_each [] k new known found = absurd cc
  found_each (e ∷ table) k new known found = on (same_reference k e.0) refl found (found_each table k new known.1)
    where
      on : (b : Bool) → same_reference k e.0 ≡ b → cond b (Some e.1) (lookup (same_reference k) table) ≡ Some new
          → (lookup (same_reference k) table ≡ Some new → new ≡ becomes (ref_of k)) → new ≡ becomes (ref_of k)
      on true is f more = sym (same_Some e.1 new f) ∙ known.0
          ∙ ap (λ (r : Reference). becomes (ref_of r)) (sym (same_references k e.0 is))
      on false is f more = more f

  more_each : (table : List (Reference × MemberRef)) (k : Reference) (new : MemberRef)
      → AllByRecursion (λ (e : Reference × MemberRef). e.1 ≡ becomes (ref_of e.0)) table → new ≡ becomes (ref_of k)
      → AllByRecursion (λ (e : Reference × MemberRef). e.1 ≡ becomes (ref_of e.0))
      (insert_entry same_reference table k new)
  more_each [] k new known is = (is, tt)
  more_each (e ∷ table) k new known is = on (same_reference k e.0) refl (more_each table k new known.1 is)
    where
      on : (b : Bool) → same_reference k e.0 ≡ b
          → AllByRecursion (λ (e : Reference × MemberRef). e.1 ≡ becomes (ref_of e.0))
          (insert_entry same_reference table k new)
          → AllByRecursion (λ (e : Reference × MemberRef). e.1 ≡ becomes (ref_of e.0))
          (cond b ((e.0, new) ∷ table) (e ∷ insert_entry same_reference table k new))
      on true same more =
          (is ∙ ap (λ (r : Reference). becomes (ref_of r)) (same_references k e.0 same), known.1)
      on false same more = (known.0, more)

-- what is found is what becomes of the reference
pub found_renamed : (becomes : MemberRef → MemberRef) (table : List (Reference × MemberRef)) (k : Reference)
    (r new : MemberRef) → AreRenamed becomes table → lookup (same_reference k) table ≡ Some new → ref_of k ≡ r
    → new ≡ becomes r
found_renamed becomes table k r new known found is = found_each becomes table k new known.each found ∙ ap becomes is

-- whether or not one more was put in
pub kept_renamed : (becomes : MemberRef → MemberRef) (table grown : List (Reference × MemberRef)) (k : Reference)
    (r new : MemberRef) (b : Bool) → grown ≡ cond b (insert_entry same_reference table k new) table
    → AreRenamed becomes table → new ≡ becomes r → ref_of k ≡ r → AreRenamed becomes grown
kept_renamed becomes table grown k r new true is known becoming key =
    subst (AreRenamed becomes) (sym is)
    (record { each = more_each becomes table k new known.each (becoming ∙ ap becomes (sym key)) })
kept_renamed becomes table grown k r new false is known becoming key = subst (AreRenamed becomes) (sym is) known
