-- Where the codes of two inputs differ in frames alone, CodeDiffers finds nothing in one if it finds nothing in the other.
use Rattle.std.proofs.Common.{ℕ, List, [], ◌∷◌, map, Bool, true, false, cond, Option, Some, None, refl, ap, ◌∙◌}
use Rattle.std.specs.List.{AllZip, filter_map, zip}
use Rattle.std.specs.Option.{option_map}
use Rattle.class_model.specs.declared.class.Class.{Class}
use Rattle.class_model.specs.declared.class.Method.{Method}
use Rattle.class_model.specs.declared.code.Code.{Code}
use Rattle.attribute_filter.specs.Filtered.{code_kept, without_line, without_lines}
use Rattle.attribute_filter.specs.declared.filter.AttributeFilter.{AttributeFilter}
use Rattle.class_rename.specs.Renamed.{renamed_handler, renamed_ins}
use Rattle.mapping_file.specs.declared.mapping.Mapping.{Mapping}
use Rattle.new_names.specs.NewNames.{names_of}
use Rattle.new_names.specs.declared.class_names.ClassNames.{ClassNames}
use Rattle.pair_clauses.specs.Codes.{AreSameCodes, ClassCodeDiffers, CodeDiffers, IsSameBody}
use Rattle.pair_clauses.specs.Finding.{FirstUnlike}
use Rattle.pair_clauses.specs.Members.{NewMethod, expected_methods, new_one, with_name}
use Rattle.pair_clauses.specs.Places.{place_of_method}
use Rattle.pair_clauses.specs.declared.place.Place.{Place}
use Rattle.pair_laws.proofs.OptimisedPairs.EditedBodies.{SameBodies}

bodies_kept : (filter : AttributeFilter) (a b : Option Code) → SameBodies a b
    → SameBodies (code_kept filter a) (code_kept filter b)
bodies_kept filter a b h = by filter.line_numbers a b h
  where
    by : (lines : Bool) (a b : Option Code) → SameBodies a b
        → SameBodies (cond lines a (option_map without_lines a)) (cond lines b (option_map without_lines b))
    by true a b h = h
    by false None None h = tt
    by false (Some a) (Some b) h = record { ins = ap (map without_line) h.ins; handlers = h.handlers }
    by false None (Some b) h = absurd h
    by false (Some a) None h = absurd h

module _ (mapping : Mapping) (filter : AttributeFilter) where
  same_codes : (a b out : Option Code) → SameBodies a b → AreSameCodes mapping b out → AreSameCodes mapping a out
  same_codes (Some a) (Some b) (Some out) h same = record {
    ins = ap (map (renamed_ins (names_of mapping))) h.ins ∙ same.ins;
    handlers = ap (map (renamed_handler (names_of mapping))) h.handlers ∙ same.handlers;
  }
  same_codes None None None h same = tt
  same_codes (Some a) (Some b) None h same = absurd same
  same_codes None None (Some out) h same = absurd same
  same_codes (Some a) None out h same = absurd h
  same_codes None (Some b) out h same = absurd h

  module _ (P Q : NewMethod → Place) where
    none_unlike : (ms os : List Method) → AllZip (λ (m o : Method). SameBodies m.code o.code) ms os
        → (new : List (Option (List ℕ))) (outs : List Method)
        → FirstUnlike (IsSameBody mapping filter) P (filter_map with_name (zip os new)) outs None
        → FirstUnlike (IsSameBody mapping filter) Q (filter_map with_name (zip ms new)) outs None
    none_unlike [] [] zip new outs h = refl
    none_unlike [] (o ∷ os) zip new outs h = absurd zip
    none_unlike (m ∷ ms) [] zip new outs h = absurd zip
    none_unlike (m ∷ ms) (o ∷ os) zip [] outs h = refl
    none_unlike (m ∷ ms) (o ∷ os) zip (None ∷ new) outs h = none_unlike ms os zip.1 new outs h
    none_unlike (m ∷ ms) (o ∷ os) zip (Some name ∷ new) [] h = absurd cc
    none_unlike (m ∷ ms) (o ∷ os) zip (Some name ∷ new) (out ∷ outs) h = (
      same_codes (code_kept filter m.code) (code_kept filter o.code) out.code (bodies_kept filter m.code o.code zip.0)
          h.0,
      none_unlike ms os zip.1 new outs h.1,
    )

  class_same : (c e : Class) → AllZip (λ (m o : Method). SameBodies m.code o.code) c.methods e.methods
      → (given : ClassNames) (o : Option Class)
      → ClassCodeDiffers mapping filter e (expected_methods e given) o None
      → ClassCodeDiffers mapping filter c (expected_methods c given) o None
  class_same c e zip given None h = refl
  class_same c e zip given (Some out) h =
      none_unlike (λ (m : NewMethod). place_of_method e m.0) (λ (m : NewMethod). place_of_method c m.0) c.methods
      e.methods zip given.methods out.methods h

  pub none_differs : (output : List Class) (a b : List Class)
      → AllZip (λ (c e : Class). AllZip (λ (m o : Method). SameBodies m.code o.code) c.methods e.methods) a b
      → (given : List ClassNames) → CodeDiffers mapping filter b given output None
      → CodeDiffers mapping filter a given output None
  none_differs output [] [] zip given h = refl
  none_differs output [] (e ∷ b) zip given h = absurd zip
  none_differs output (c ∷ a) [] zip given h = absurd zip
  none_differs output (c ∷ a) (e ∷ b) zip [] h = refl
  none_differs output (c ∷ a) (e ∷ b) zip (g ∷ given) h =
      (class_same c e zip.0 g (new_one output g) h.0, none_differs output a b zip.1 given h.1)
