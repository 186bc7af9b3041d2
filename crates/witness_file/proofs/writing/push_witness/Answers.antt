-- Answers of `push_witness`: what its calls ask for, and what it promises.
use Rattle.witness_file.proofs.Texts.{witness_pushed}
use Rattle.witness_file.proofs.writing.push_witness.Goals as goal

pub returns : goal.returns
returns c = witness_pushed c.push_methods.result c.args.w.now c.as_slice.result.now c.args.out.now.items
    c.extend_from_slice.new.self.items
    c.push_methods.new.out.items c.as_slice.ensures c.in_ok-extend_from_slice.ensures.items c.push_methods.ensures
