-- The codes of a set that files are taken as are sound.
use Rattle.std.proofs.Common.{◌≡◌, List, Option, Some, None, refl}
use Rattle.std.specs.Prelude.{IfSome}
use Rattle.jv_base.proofs.Lists.{all_at, all_from}
use Rattle.tree_io.specs.declared.file_at.FileAt.{FileAt}
use Rattle.class_laws.specs.SpellingLaws.{IsWritable}
use Rattle.class_model.specs.declared.class.Class.{Class}
use Rattle.class_model.specs.declared.code.Code.{Code}
use Rattle.code_edit.specs.SoundCode.{IsSound}
use Rattle.flow_laws.proofs.LastGoes.{typed_sound}
use Rattle.set_read.specs.Accepted.{IsAccepted}
use Rattle.set_read.proofs.Writable.{accepted_are_writable}
use Rattle.pair_edits.specs.Sound.{AreSound, HasSoundCode, HasSoundCodes}

if_some : (o : Option Code) → ((code : Code) → o ≡ Some code → IsSound code) → IfSome o IsSound
if_some None h = tt
if_some (Some code) h = h code refl

pub accepted_sound : (files : List FileAt) (classes : List Class) → IsAccepted files classes → AreSound classes
accepted_sound files classes accepted = all_from HasSoundCodes classes (λ n c at.
    all_from HasSoundCode c.methods (λ k m in_methods.
    if_some m.code (λ code has. typed_sound classes n c k m code
    (all_at IsWritable classes n c (accepted_are_writable files classes accepted) at).well_formed at in_methods has
    accepted.typed)))
