-- Answers of `Statics::set`: what its calls ask for, and what it promises.
use Rattle.std.proofs.Common.{◌∙◌, ap, map, List}
use Rattle.jvm_model.specs.Value.{Key, Value, set_key}
use Rattle.run_heap.specs.Held.{held, held_at, key_of}
use Rattle.run_heap.specs.declared.fields.Held.{Held}
use Rattle.run_heap.specs.declared.key.MemberNames.{MemberNames}
use Rattle.run_heap.proofs.Keeping.{inserted_is_set}
use Rattle.run_heap.proofs.static_fields.Statics.set.Goals as goal

pub returns : goal.returns
returns c = ap (λ (es : List (MemberNames × Value)). held (map held_at es)) c.in_ok-insert.ensures.entries
    ∙ inserted_is_set c.self.inside.values.entries c.key.inside.names c.args.value
    ∙ ap (λ (hs : List Held). set_key (held hs) (key_of c.key.inside.names) c.args.value) c.self.view_is
    ∙ ap (λ (k : Key). set_key (held c.args.self.now) k c.args.value) (c.key.view_is ∙ c.in_ok-key.ensures.cases)
