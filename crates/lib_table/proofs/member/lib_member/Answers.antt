-- Answers of `lib_member`: what its calls ask for, and what it promises.
use Rattle.lib_table.proofs.Classes.{members_of_row}
use Rattle.lib_table.proofs.member.lib_member.Goals as goal

pub row_of_member-requires : goal.row_of_member-requires
row_of_member-requires c = members_of_row c.row.result.now c.args.id c.row.ensures.told c.row.ensures.there
