-- Right acts of a pass are two changes of a code, or none.
use Rattle.std.proofs.Common.{List, Option, Some, inl, inr, sym, subst}
use Rattle.std.specs.List.{AllByRecursion}
use Rattle.class_model.specs.declared.code.Code.{Code}
use Rattle.code_edit.specs.declared.act.Act.{Act}
use Rattle.edit_laws.specs.Acted.{IsActedOn}
use Rattle.edit_premises.specs.Changes.{Becomes, Changed}
use Rattle.edit_premises.proofs.Changes.{stays_so}

pub acted_becomes : (applied : List Act → Code → Code) (right : List Act → Code → Act → Type 0)
    → ((acts : List Act) (code : Code) → AllByRecursion (right acts code) acts
    → Becomes Changed 2 (Some code) (Some (applied acts code)))
    → (a b : Option Code) → IsActedOn applied right a b → Becomes Changed 2 a b
acted_becomes applied right changes a b (inl e) =
    subst (Becomes Changed 2 a) (sym e) (stays_so Changed 2 a)
acted_becomes applied right changes a b (inr h) =
    subst (λ x. Becomes Changed 2 x b) (sym h.2)
    (subst (Becomes Changed 2 (Some h.0)) (sym h.4) (changes h.1 h.0 h.3))
