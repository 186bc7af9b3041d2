-- Answers of `taken_sets_are_proper`: what its calls ask for, and what it promises.
use Rattle.image_laws.proofs.TakenSet.Members.{own_declared}
use Rattle.image_laws.proofs.TakenSet.Names.{class_found, differ}
use Rattle.image_laws.proofs.TakenSet.Proper.{is_proper, open_interfaces}
use Rattle.image_laws.proofs.taken_set.taken_sets_are_proper.Goals as goal

pub returns : goal.returns
returns c = record {
  proper = is_proper;
  members = differ;
  names = class_found;
  own_members = own_declared;
  interfaces = open_interfaces;
}
