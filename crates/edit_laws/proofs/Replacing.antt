-- One code that is replaced is an instance of any number.
use Rattle.std.proofs.Common.{Some, Bool, true, false, ◌≡◌, inl, inr, refl, ap, ◌∙◌}
use Rattle.std.specs.Prelude.{if◌then◌else◌}
use Rattle.std.specs.Bool.{Decides}
use Rattle.class_model.specs.declared.code.Code.{Code}
use Rattle.jvm_model.specs.Premise.{Stands}
use Rattle.jvm_model.specs.Program.{View}
use Rattle.jvm_model.specs.Value.{Key, same_key}
use Rattle.jvm_model.proofs.Keys.{key_Decides}
use Rattle.edit_laws.specs.Replaced.{replaced}

pub replaced_stands : (puts : Code → Code → Type 0) (v : View) (m : Key) (old new : Code)
    → v.code m ≡ Some old
    → puts old new → (k : Key) → Stands puts (v.code k) ((replaced v m new).code k)
replaced_stands puts v m old new has put k = by (same_key k m) (key_Decides k m)
  where
    by : (b : Bool) → Decides b (k ≡ m) → Stands puts (v.code k) (if b then Some new else v.code k)
    by true d = inr (old, new, ap v.code (d.0 refl) ∙ has, refl, put)
    by false d = inl refl
