-- Answers of `library`: what its calls ask for, and what it promises.
use Rattle.std.proofs.Common.{ap, refl, sym}
use Rattle.std.proofs.lemmas.Result.{IfOk-weaker}
use Rattle.jvm_model.specs.Answers.{of_some}
use Rattle.jvm_model.specs.Calls.{acted, called}
use Rattle.jvm_model.specs.Library.{act}
use Rattle.jvm_model.specs.Program.{Library}
use Rattle.run_heap.specs.Answers.{Changes}
use Rattle.run_heap.specs.Worlds.{world_of}
use Rattle.run_heap.proofs.Due.{as_due, of_library}
use Rattle.run_library.specs.Acts.{done_of}
use Rattle.run_library.specs.Rows.{method_of}
use Rattle.run_heap.proofs.acting.library.Goals as goal

pub returns-in-Some : goal.returns-in-Some
returns-in-Some c =
    let is = rw c.in-Some.is at c.in_ok-act.ensures in
    IfOk-weaker _
    (λ a. Changes a c.args.world.now c.acted.new.world (λ w. acted w (done_of is.0 c.in-Some.act)))
    (λ a. Changes a c.args.world.now c.acted.new.world
    (λ w. called w c.args.operands.now (Library (method_of c.args.row))))
    (λ a h. as_due a c.args.world.now c.acted.new.world
    (λ w. acted w (done_of is.0 c.in-Some.act))
    (λ w. called w c.args.operands.now (Library (method_of c.args.row)))
    (λ inits. of_library (world_of inits c.args.world.now) (method_of c.args.row) c.args.operands.now is.0
    c.in-Some.act (is.1 inits) is.2) h)
    (c.acted.ensures is.0 is.1)

pub returns-in-None : goal.returns-in-None
returns-in-None c = (
  λ inits. sym (ap (of_some (λ operands. acted (world_of inits c.args.world.now) (act (method_of c.args.row) operands)))
      ((rw c.in-None.is at c.in_ok-act.ensures) inits)),
  λ inits. refl,
)
