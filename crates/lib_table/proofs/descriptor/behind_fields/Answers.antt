-- Answers of `behind_fields`: what its calls ask for, and what it promises.
use Rattle.std.proofs.Common.{◌∙◌, sym, ap, drop, List, ℕ, ◌+◌, option_copied}
use Rattle.lib_table.specs.bodies.Stripping.{behind}
use Rattle.std.specs.List.{flat_map}
use Rattle.jv_base.specs.Types.{field_text}
use Rattle.lib_table.proofs.Behind.{behind_then, behind_stuck, fields_are}
use Rattle.lib_table.proofs.descriptor.behind_fields.Goals as goal

pub returns-in_err-rest : goal.returns-in_err-rest
returns-in_err-rest c =
    ap option_copied c.from_residual.ensures
    ∙ sym (sym c.loop-ty.invariant
    ∙ ap (λ (t : List ℕ). behind t c.loop-ty.rest.now)
    (fields_are c.args.types.now c.loop-ty.ty-index c.ty-item.result c.loop-ty-test.true c.ty-item.is)
    ∙ behind_stuck (field_text c.ty-item.result)
    (flat_map field_text (drop (c.loop-ty.ty-index + 1) c.args.types.now)) c.loop-ty.rest.now
    (sym c.in_err-rest.ensures))

pub loop-ty-preserved : goal.loop-ty-preserved
loop-ty-preserved c =
    sym (ap (λ (t : List ℕ). behind t c.loop-ty.rest.now)
    (fields_are c.args.types.now c.loop-ty.ty-index c.ty-item.result c.loop-ty-test.true c.ty-item.is)
    ∙ behind_then (field_text c.ty-item.result)
    (flat_map field_text (drop (c.loop-ty.ty-index + 1) c.args.types.now)) c.loop-ty.rest.now c.in_ok-rest.rest.now
    (sym c.in_ok-rest.ensures))
    ∙ c.loop-ty.invariant
