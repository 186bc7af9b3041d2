-- Answers of `fits_changed`: what its calls ask for, and what it promises.
use Rattle.std.proofs.Common.{◌∙◌, sym, ap, Option}
use Rattle.std.specs.Option.{option_map}
use Rattle.type_verifier.specs.declared.declared.Declared.{Declared}
use Rattle.type_verifier.specs.bodies.Declared.{frame_of}
use Rattle.type_verifier.specs.bodies.Seen.{environment_of}
use Rattle.type_verifier.proofs.Handled.{known_else}
use Rattle.type_verifier.proofs.handlers.fits_changed.Goals as goal

pub are_assignable_in-requires : goal.are_assignable_in-requires
are_assignable_in-requires c = record {
  known = rw (c.as_slice.ensures, c.as_slice-locals.ensures, c.frame.ensures)
      (known_else (environment_of c.args.env.now) c.args.handler.now c.args.changed c.args.frame.now
      (frame_of c.in-Some.declared)
      c.requires.known
      (sym c.in_ok-declared.ensures ∙ ap (λ (o : Option Declared). option_map frame_of o) c.in-Some.is));
}
