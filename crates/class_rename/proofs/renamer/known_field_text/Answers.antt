-- Answers of `known_field_text`: what its calls ask for, and what it promises.
use Rattle.std.proofs.Common.{◌∙◌, is_ok}
use Rattle.class_rename.specs.Names.{names_in}
use Rattle.class_rename.specs.Renamed.{renamed_field_text}
use Rattle.class_rename.proofs.Known.{if_ok, kept_known}
use Rattle.class_rename.proofs.renamer.known_field_text.Goals as goal

pub returns : goal.returns
returns c = record {
  known = kept_known (renamed_field_text (names_in c.args.names.now)) c.args.table.now
      c.remember.new.table
      c.args.text.now c.in_ok-new.new (is_ok c.remember.result) c.remember.ensures.table c.requires.known
      c.in_ok-new.ensures;
  text = if_ok c.remember.result (λ kept is. is ∙ c.in_ok-new.ensures) c.remember.ensures.same;
}
