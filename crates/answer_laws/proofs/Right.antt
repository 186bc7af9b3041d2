-- Acts that are legal are right.
use Rattle.std.proofs.Common.{List}
use Rattle.jv_base.proofs.Lists.{all_from}
use Rattle.class_model.specs.declared.code.Code.{Code}
use Rattle.code_edit.specs.Legal.{AreLegal, AreRightActs, IsRightAct}
use Rattle.code_edit.specs.declared.act.Act.{Act}
use Rattle.code_edit.specs.declared.act.Pass.{Pass}

pub legal_right : (p : Pass) (acts : List Act) (code : Code) → AreLegal p acts code → AreRightActs p acts code
legal_right p acts code h = all_from (IsRightAct p acts code) acts (λ k a at. (h k a at).0)
