use Rattle.std.proofs.Common.{◌≡◌, ◌++◌, length, ◌==◌}
use Rattle.std.specs.List.{slice_split}
use Rattle.std.specs.Option.{option_map}
use denote.Text.{Utf8}
use denote.Shadow.{shadow}
use Rattle.text_lines.specs.Members.{types_of}
use Rattle.text_lines.proofs.known.Known.argument_types.Given as goal

abbrev pub invariant-loop-first : goal.invariant-loop-first
invariant-loop-first l = record {
  utf8 : shadow (Utf8 l.rest);
  read : option_map (λ tys. l.types ++ tys) (types_of (slice_split (λ b. b == 44) l.rest))
      ≡ types_of (slice_split (λ b. b == 44) l.text);
}

abbrev pub decreases-loop-first : goal.decreases-loop-first
decreases-loop-first l = length l.rest
