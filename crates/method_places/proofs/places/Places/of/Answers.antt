-- Answers of `Places::of`: what its calls ask for, and what it promises.
use Rattle.std.proofs.Common.{◌∙◌, map}
use Rattle.std.specs.List.{filter_map}
use Rattle.method_places.specs.bodies.Places.{part_row}
use Rattle.method_places.specs.declared.places.Part.TheVariants.{Each, Open as OfOpen}
use Rattle.method_places.proofs.places.Places.of.Goals as goal

pub returns : goal.returns
returns c = record {
  names = c.in_ok-names.names;
  packages = c.in_ok-packages.ensures;
  sorted = c.in_ok-keys.ensures;
  each = c.in_ok-each.ensures
      ∙ (λ i. map (filter_map (part_row (c.as_slice-2.ensures i) (c.as_slice-3.ensures.value i) Each)) c.args.table.now);
  opening = c.in_ok-opening.ensures
      ∙ (λ i. map (filter_map (part_row (c.as_slice-4.ensures i) (c.as_slice-5.ensures.value i) OfOpen))
      c.args.table.now);
}
