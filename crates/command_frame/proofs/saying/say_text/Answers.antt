-- Answers of `say_text`: what its calls ask for, and what it promises.
use Rattle.std.proofs.Common.{Err, subst, inl, inr}
use Rattle.tree_io.specs.declared.faults.PutFault.{PutFault}
use Rattle.command_frame.specs.Output.{Hands, output}
use Rattle.command_frame.proofs.saying.say_text.Goals as goal

pub returns-in-Err-Failed-clause-said : goal.returns-in-Err-Failed-clause-said
returns-in-Err-Failed-clause-said g c =
    let old = output (g.S.Sink.written c.args.out.now) (g.S.Sink.faults c.args.out.now) (g.S.Sink.log c.args.out.now) in
    let mid = output (g.S.Sink.written c.put.new.self) (g.S.Sink.faults c.put.new.self) (g.S.Sink.log c.put.new.self) in
    let answered : Hands c.args.text.now (Err c.in-Err-Failed.field-0) old mid =
    (c.in-Err-Failed.ensures.log, c.in-Err-Failed.ensures.takes) in
    let handed = subst (λ (f : PutFault). Hands c.args.text.now (Err f) old mid) c.in-Err-Failed.field-0-is answered in
    inr (inl (
      c.say_device.ensures.said.0,
      record {
        mid = mid;
        handed = handed;
        line = c.say_device.ensures.said.1;
        later = c.say_device.ensures.later;
      },
    ))

pub returns-in-Err-OutOfMemory-clause-said : goal.returns-in-Err-OutOfMemory-clause-said
returns-in-Err-OutOfMemory-clause-said g c =
    let old = output (g.S.Sink.written c.args.out.now) (g.S.Sink.faults c.args.out.now) (g.S.Sink.log c.args.out.now) in
    let mid = output (g.S.Sink.written c.put.new.self) (g.S.Sink.faults c.put.new.self) (g.S.Sink.log c.put.new.self) in
    let answered : Hands c.args.text.now (Err c.in-Err-OutOfMemory.field-0) old mid =
    (c.in-Err-OutOfMemory.ensures.log, c.in-Err-OutOfMemory.ensures.takes) in
    let handed = subst (λ (f : PutFault). Hands c.args.text.now (Err f) old mid) c.in-Err-OutOfMemory.field-0-is
    answered in
    inr (inr (c.say_no_memory.ensures.0, record { mid = mid; handed = handed; line = c.say_no_memory.ensures.1 }))
