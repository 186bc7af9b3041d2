-- Answers of `lib_method`: what its calls ask for, and what it promises.
use Rattle.lib_table.proofs.Classes.{members_of_row}
use Rattle.lib_table.proofs.member.lib_method.Goals as goal

pub row_of_method-requires : goal.row_of_method-requires
row_of_method-requires c = members_of_row c.row.result.now c.args.id c.row.ensures.told c.row.ensures.there
