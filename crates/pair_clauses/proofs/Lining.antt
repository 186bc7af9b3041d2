-- What lines of methods have told where one line more was gone over.
use Rattle.std.proofs.Common.{◌≡◌, ℕ, List, [], ◌∷◌, ◌++◌, map, ap, subst, ◌∙◌, append_assoc}
use Rattle.jv_base.specs.Types.{method_text}
use Rattle.mapping_file.specs.declared.mapping.MapMethod.{MapMethod}
use Rattle.new_names.specs.NewNames.{NameAndType}
use Rattle.pair_clauses.specs.Shape.{method_named, method_pairs, method_renamed}
use Rattle.pair_clauses.specs.bodies.Lines.{SeenMethods}
use Rattle.pair_clauses.specs.bodies.Seen.{HasMembers, TellsMethods}
use Rattle.pair_clauses.specs.declared.seen.SeenMembers.{SeenMembers}
use Rattle.pair_clauses.specs.declared.seen.SeenMethodPairs.{SeenMethodPairs}
use Rattle.pair_clauses.proofs.SeenLaw.{map_last}

module _ (seen : SeenMethodPairs) (own : SeenMembers) (line : MapMethod) (ty : List ℕ) (old new : NameAndType)
    (typed : ty ≡ method_text line.ty) (is_old : old ≡ (line.old, ty)) (is_new : new ≡ (line.new, ty)) where
  pub method_seen : (before : List (NameAndType × NameAndType)) (lines : List MapMethod)
      → TellsMethods seen ((before ++ method_pairs lines) ++ (old, new) ∷ [])
      → HasMembers own (map method_named lines ++ (line.old, ty) ∷ [])
      → SeenMethods seen own before (lines ++ line ∷ [])
  method_seen before lines told has =
      let named : old ≡ method_named line = is_old ∙ ap (λ (t : List ℕ). (line.old, t)) typed in
      let renamed : new ≡ method_renamed line = is_new ∙ ap (λ (t : List ℕ). (line.new, t)) typed in
      let all : (before ++ method_pairs lines) ++ (old, new) ∷ [] ≡ before ++ method_pairs (lines ++ line ∷ []) =
      append_assoc before (method_pairs lines) ((old, new) ∷ [])
      ∙ (λ i. before ++ (method_pairs lines ++ (named i, renamed i) ∷ []))
      ∙ ap (λ (ps : List (NameAndType × NameAndType)). before ++ ps)
      (map_last (λ (l : MapMethod). (method_named l, method_renamed l)) lines line) in
      let members : map method_named lines ++ (line.old, ty) ∷ [] ≡ map method_named (lines ++ line ∷ []) =
      ap (λ (t : List ℕ). map method_named lines ++ (line.old, t) ∷ []) typed
      ∙ map_last method_named lines line in
      record { pairs = subst (TellsMethods seen) all told; members = subst (HasMembers own) members has }
