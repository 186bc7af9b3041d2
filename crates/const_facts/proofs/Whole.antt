-- A sound code, told as the worklist needs it.
use Rattle.std.proofs.Common.{List, [], ◌∷◌, length, ◌<◌}
use Rattle.std.specs.List.{All, AllByRecursion}
use Rattle.std.proofs.lemmas.List.Elements.{All-cons, All-nil}
use Rattle.class_model.specs.declared.code.Code.{Code}
use Rattle.class_model.specs.declared.code.Handler.{Handler}
use Rattle.class_model.specs.declared.code.Ins.{Ins}
use Rattle.code_edit.specs.Flow.{targets}
use Rattle.code_edit.specs.SoundCode.{IsPlaced, IsSound}
use Rattle.const_facts.specs.Worklist.{IsWhole}
use Rattle.jv_base.proofs.Lists.{all_from, all_weaker}

all_of : {A : Type 0} (P : A → Type 0) (xs : List A) → AllByRecursion P xs → All P xs
all_of P [] h = All-nil P
all_of P (x ∷ xs) h = All-cons P x xs h.0 (all_of P xs h.1)

pub is_whole : (code : Code) → IsSound code → length code.ins < 4294967295 → IsWhole code
is_whole code sound few = record {
  some = sound.some;
  few = few;
  targets = all_of (λ (i : Ins). All (λ t. t < length code.ins) (targets i.op)) code.ins
      (all_from (λ (i : Ins). All (λ t. t < length code.ins) (targets i.op)) code.ins
      (λ at i e. all_of (λ t. t < length code.ins) (targets i.op) (sound.jump at i e)));
  handlers = all_of (λ (h : Handler). h.entry < length code.ins) code.handlers
      (all_weaker (IsPlaced (length code.ins)) (λ (h : Handler). h.entry < length code.ins)
      (λ h p. p.2) code.handlers sound.handlers);
}
