-- What is computed of the table.
use Rattle.std.proofs.Common.{◌≡◌, true, nat_lt, length, refl}
use Rattle.std.specs.List.{list_all}
use Rattle.std.specs.Option.{is_some}
use Rattle.lib_table.specs.Library.{library}
use Rattle.lib_table.specs.Lookups.{class_named}

pub count : length library ≡ 32
unfolding library
count = refl

-- each direct superinterface is in the table
pub interfaces_there : list_all (λ c. list_all (λ name. is_some (class_named name)) c.interfaces) library ≡ true
unfolding library
interfaces_there = refl

pub few_members : list_all (λ c. nat_lt (length c.members) 4294967296) library ≡ true
unfolding library
few_members = refl
