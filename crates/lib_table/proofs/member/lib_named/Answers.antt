-- Answers of `lib_named`: what its calls ask for, and what it promises.
use Rattle.std.proofs.Common.{rules}
use Rattle.lib_table.proofs.Classes.{named_there}
use Rattle.lib_table.proofs.member.lib_named.Goals as goal

pub returns : goal.returns
returns c = search (named_there c.classes.result.now c.args.name.now c.args.method c.classes.ensures, rules)
