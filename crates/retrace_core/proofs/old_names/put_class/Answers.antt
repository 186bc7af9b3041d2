-- Answers of `put_class`: what its calls ask for, and what it promises.
use Rattle.std.proofs.Common.{List, ℕ, sym, ap, ◌∙◌}
use Rattle.std.specs.Option.{is_some}
use Rattle.jv_base.specs.External.{dotted}
use Rattle.retrace_core.specs.bodies.Linked.{kept_in}
use Rattle.retrace_core.specs.bodies.Tables.{TellsClass}
use Rattle.retrace_core.proofs.Telling.{copied_some, on_ok, still_tells, tells_more}
use Rattle.retrace_core.proofs.old_names.put_class.Goals as goal

pub returns-then-is_some : goal.returns-then-is_some
returns-then-is_some c = λ before told.
    let found = kept_in (λ k. k.items) c.args.table.now.entries in
    still_tells TellsClass (λ d. dotted d.new) found before c.args.class.now told
    (ap (λ (n : List ℕ). is_some (found n)) (sym (c.deref.ensures.value ∙ c.in_ok-new.ensures))
    ∙ ap is_some (sym c.class_named.ensures) ∙ copied_some c.class_named.result ∙ sym c.is_some.ensures
    ∙ c.if-is_some.true)

pub returns : goal.returns
returns c = λ before told.
    let found = kept_in (λ k. k.items) c.args.table.now.entries in
    on_ok c.keep.result c.keep.ensures (λ put.
    tells_more TellsClass (λ d. dotted d.new) found (kept_in (λ k. k.items) c.keep.new.table.entries)
    before c.in_ok-new.new.items c.in_ok-kept.kept c.args.class.now told
    (ap (λ (n : List ℕ). is_some (found n)) (sym (c.deref.ensures.value ∙ c.in_ok-new.ensures))
    ∙ ap is_some (sym c.class_named.ensures) ∙ copied_some c.class_named.result ∙ sym c.is_some.ensures
    ∙ c.if-is_some.false)
    c.in_ok-new.ensures put c.in_ok-kept.ensures)
