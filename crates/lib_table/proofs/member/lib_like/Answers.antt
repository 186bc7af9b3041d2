-- Answers of `lib_like`: what its calls ask for, and what it promises.
use Rattle.lib_table.proofs.Classes.{members_of_row}
use Rattle.lib_table.proofs.member.lib_like.Goals as goal

pub row_of_member-requires : goal.row_of_member-requires
row_of_member-requires c = members_of_row c.row-2.result.now c.args.id c.row-2.ensures.told c.row-2.ensures.there
