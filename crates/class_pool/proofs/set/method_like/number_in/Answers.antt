-- Answers of `number_in`: what its calls ask for, and what it promises.
use Rattle.std.proofs.Common.{◌∙◌, ◌+◌, ℕ, List, Some, None, slice_get, sym, ap}
use Rattle.std.specs.List.{position}
use Rattle.jv_base.specs.Types.{method_text}
use Rattle.class_model.specs.declared.class.Method.{Method}
use Rattle.lib_table.specs.Lookups as table
use Rattle.class_pool.proofs.LikeMethods.{number_like}
use Rattle.class_pool.proofs.set.method_like.number_in.Goals as goal

pub returns-in_err-position : goal.returns-in_err-position
returns-in_err-position c =
    c.from_residual.ensures
    ∙ number_like c.args.class.now c.args.library c.args.at None c.requires.there c.requires.method
    (sym c.in_err-position.was ∙ c.position_in.ensures
    ∙ ap (λ (ms : List Method). position
    (λ m. table.is_method m.name (method_text m.ty)
    (slice_get (table.class_at c.args.library).members c.args.at)) ms)
    c.as_slice.ensures)

pub returns : goal.returns
returns c =
    ap (λ (n : ℕ). Some (n + c.in_ok-position.position)) c.len.ensures
    ∙ number_like c.args.class.now c.args.library c.args.at
    (Some c.in_ok-position.position) c.requires.there c.requires.method
    (sym c.in_ok-position.was ∙ c.position_in.ensures
    ∙ ap (λ (ms : List Method). position
    (λ m. table.is_method m.name (method_text m.ty)
    (slice_get (table.class_at c.args.library).members c.args.at)) ms)
    c.as_slice.ensures)
