-- Answers of `known_method_ref`: what its calls ask for, and what it promises.
use Rattle.std.proofs.Common.{◌∙◌, is_ok, sym}
use Rattle.class_rename.specs.Names.{names_in}
use Rattle.class_rename.specs.Renamed.{renamed_method_ref}
use Rattle.class_rename.proofs.Alike.{found_renamed, kept_renamed}
use Rattle.class_rename.proofs.references.known_method_ref.Goals as goal

pub returns-in-Some-clause-renamed : goal.returns-in-Some-clause-renamed
returns-in-Some-clause-renamed c =
    found_renamed (renamed_method_ref (names_in c.args.names.now)) c.args.table.now c.args.key c.args.r.now
    c.in-Some.known c.requires.table (sym c.in_ok-known.ensures ∙ c.in-Some.is) c.requires.key

pub returns-clause-table : goal.returns-clause-table
returns-clause-table c =
    kept_renamed (renamed_method_ref (names_in c.args.names.now)) c.args.table.now c.keep.new.table
    c.args.key c.args.r.now c.in_ok-new.new (is_ok c.keep.result) c.keep.ensures.table c.requires.table
    c.in_ok-new.ensures.renamed c.requires.key
