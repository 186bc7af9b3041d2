-- Answers of `check_units`: what its calls ask for, and what it promises.
use Rattle.std.proofs.Common.{◌≤◌, length, rules}
use Rattle.class_model.specs.declared.limit.WriteLimit.TheVariants.{TextTooLong}
use Rattle.constant_table.proofs.Short.{short_fits}
use Rattle.constant_table.proofs.limits.check_units.Goals as goal

pub returns-then-len-le21845 : goal.returns-then-len-le21845
returns-then-len-le21845 c =
    let few : length c.args.units.now ≤ 21845 = search rules in
    short_fits (λ n. TextTooLong n) c.args.units.now few
