-- Answers of `method_text`: what its calls ask for, and what it promises.
use Rattle.class_rename.specs.Names.{names_in}
use Rattle.class_rename.specs.Renamed.{renamed_method_text}
use Rattle.class_rename.proofs.Known.{found_if}
use Rattle.class_rename.proofs.renamer.method_text.Goals as goal

pub known_method_text-requires : goal.known_method_text-requires
known_method_text-requires c = record {
  known = c.requires;
  found = found_if (renamed_method_text (names_in c.args.names.now)) c.args.table.now c.args.text.now
      c.in_ok-found.found c.requires c.in_ok-found.ensures;
}
