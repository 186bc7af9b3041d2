-- Answers of `grow`: what its calls ask for, and what it promises.
use Rattle.std.proofs.Common.{◌+◌, ap, sym, ◌∙◌}
use Rattle.std.specs.Prelude.{slice_range}
use Rattle.jv_base.specs.bodies.DescriptorPlaces.{begun_at, grown_at, more_of}
use Rattle.jv_base.specs.Descriptors.{grown}
use Rattle.jv_base.specs.Names.{part_after}
use Rattle.jv_base.proofs.Places.{name_byte, name_goes_on}
use Rattle.jv_base.proofs.descriptors.grow.Goals as goal

pub returns-in-Name-2-clause-grown : goal.returns-in-Name-2-clause-grown
returns-in-Name-2-clause-grown c =
    let text = c.args.text.now in
    let at = c.args.at in
    let byte = c.args.byte in
    let dims = c.in-Name-2.dims in
    let from = c.in-Name-2.from in
    let in_part = c.in-Name-2.in_part in
    let placed = rw c.in-Name-2.is at c.requires.placed in
    ap (grown_at text (at + 1)) (c.more_name.ensures ∙ ap (more_of dims from) c.part_after.ensures)
    ∙ name_goes_on text dims from at byte (part_after in_part byte) placed.0 c.requires.within c.requires.byte
    ∙ sym (name_byte dims (slice_range text from at) in_part byte c.if-byte-eq59.false)
    ∙ sym (ap (λ b. grown (begun_at text at b) byte) c.in-Name-2.is)
