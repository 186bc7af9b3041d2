-- Answers of `SharedFiles::is`: what its calls ask for, and what it promises.
use Rattle.std.proofs.Common.{◌≡◌, ◌∙◌, sym}
use Rattle.batch_command.proofs.SameFiles.{files_Decides}
use Rattle.batch_command.proofs.shared_files.SharedFiles.is.Goals as goal

pub returns : goal.returns
returns c same =
    sym c.self.view_is ∙ sym c.deref.ensures ∙ (files_Decides _ _ _ c.eq.ensures).0 same ∙ c.deref-2.ensures
    ∙ c.other.view_is
