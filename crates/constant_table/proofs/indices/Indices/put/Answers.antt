-- Answers of `Indices::put`: what its calls ask for, and what it promises.
use Rattle.std.proofs.Common.{◌≡◌, Bool, cond, Some, subst}
use Rattle.std.specs.Map.{lookup}
use Rattle.constant_table.specs.declared.key.Key.{Key}
use Rattle.constant_table.proofs.SameKey.{order_is_same}
use Rattle.constant_table.proofs.Others.{other_put}
use Rattle.constant_table.proofs.indices.Indices.put.Goals as goal

pub returns-in_ok-insert-in_default : goal.returns-in_ok-insert-in_default
returns-in_ok-insert-in_default c =
    let old = c.args.self.now in
    record {
      kept = other_put old c.insert.new.self c.args.key c.args.index c.in_default.not-Utf8 c.in_default.not-Class
          c.in_default.not-Str
          (subst (λ (f : Key → Key → Bool). (q : Key)
          → lookup (f q) c.insert.new.self.entries
          ≡ cond (f c.args.key q) (Some c.args.index) (lookup (f q) old.others.entries))
          order_is_same c.in_ok-insert-in_default.ensures.updates.0);
      unchanged = tt;
    }
