-- Answers of `written_named`: what its calls ask for, and what it promises.
use Rattle.std.proofs.Common.{List, map, subst, sym}
use Rattle.std.specs.List.{AllByRecursion}
use Rattle.attribute_filter.specs.Filtered.{filtered}
use Rattle.class_model.specs.declared.class.Class.{Class}
use Rattle.class_rename.specs.Names.{names_in}
use Rattle.class_rename.specs.Renamed.{renamed}
use Rattle.class_laws.specs.SpellingLaws.{IsWritable}
use Rattle.set_shrink.proofs.Kept.{ordered_writable}
use Rattle.set_shrink.proofs.renaming.written_named.Goals as goal

pub files_of-requires-clause-writable : goal.files_of-requires-clause-writable
files_of-requires-clause-writable g c κs within =
    let filter = c.in_ok-filter.filter in
    subst (λ (cs : List Class). AllByRecursion IsWritable (map (filtered filter) cs)) (sym c.in_ok-classes.ensures)
    (ordered_writable filter (map (renamed (names_in c.args.names.now)) c.args.kept) c.in_ok-filter.ensures.name
    c.requires.writable)
