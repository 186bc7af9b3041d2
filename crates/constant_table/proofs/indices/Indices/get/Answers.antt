-- Answers of `Indices::get`: what its calls ask for, and what it promises.
use Rattle.std.proofs.Common.{Bool, ap, ◌∙◌}
use Rattle.std.specs.Map.{lookup}
use Rattle.constant_table.specs.declared.key.Key.{Key}
use Rattle.constant_table.proofs.SameKey.{order_is_same}
use Rattle.constant_table.proofs.Others.{other_at}
use Rattle.constant_table.proofs.indices.Indices.get.Goals as goal

pub returns-in_default : goal.returns-in_default
returns-in_default c =
    let indices = c.args.self.now in
    c.copied.ensures ∙ c.get-in_default.ensures.value
    ∙ ap (λ (f : Key → Key → Bool). lookup (f c.args.key) indices.others.entries) order_is_same
    ∙ other_at indices c.args.key c.in_default.not-Utf8 c.in_default.not-Class c.in_default.not-Str
