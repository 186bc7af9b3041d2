-- Answers of `Renamer::method_ref`: what its calls ask for, and what it promises.
use Rattle.std.proofs.Common.{subst}
use Rattle.std.specs.Prelude.{◌≡◌, IfOk}
use Rattle.class_rename.specs.Names.{Tables, names_in}
use Rattle.class_rename.specs.Renamed.{renamed_method_ref}
use Rattle.class_rename.proofs.renamer.Renamer.method_ref.Goals as goal

pub returns-clause-renamed : goal.returns-clause-renamed
returns-clause-renamed c =
    subst (λ (t : Tables). IfOk c.method_ref.result (λ new. new ≡ renamed_method_ref (names_in t) c.args.r.now))
    c.self.view_is c.method_ref.ensures.renamed
