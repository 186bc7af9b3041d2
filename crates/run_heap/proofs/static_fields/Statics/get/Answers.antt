-- Answers of `Statics::get`: what its calls ask for, and what it promises.
use Rattle.std.proofs.Common.{◌∙◌, List, ap, sym}
use Rattle.std.proofs.lemmas.Result.{IfOk-weaker}
use Rattle.jvm_model.specs.Fields.{blank}
use Rattle.run_heap.specs.Held.{held, key_of}
use Rattle.run_heap.specs.declared.fields.Held.{Held}
use Rattle.run_heap.proofs.Keeping.{looked_for, looked_up}
use Rattle.run_heap.proofs.static_fields.Statics.get.Goals as goal

pub returns-in_ok-clone-in-Some : goal.returns-in_ok-clone-in-Some
returns-in_ok-clone-in-Some c = c.in_ok-clone-in-Some.ensures.cases
    ∙ sym (looked_up c.self.inside.values.entries c.names.result.now c.in-Some.value.now c.in-Some.ensures.value)
    ∙ ap (λ (hs : List Held). held hs (key_of c.names.result.now)) c.self.view_is
    ∙ ap (held c.args.self.now) c.names.ensures

pub returns-in-None : goal.returns-in-None
returns-in-None c = IfOk-weaker c.default_of.result _ _
    (λ value h. h ∙ ap blank (sym c.names.ensures)
    ∙ sym (looked_for c.self.inside.values.entries c.names.result.now c.in-None.ensures.value)
    ∙ ap (λ (hs : List Held). held hs (key_of c.names.result.now)) c.self.view_is
    ∙ ap (held c.args.self.now) c.names.ensures) c.default_of.ensures
