-- Answers of `write_witness`: what its calls ask for, and what it promises.
use Rattle.std.proofs.Common.{◌++◌, ◌∙◌, ap}
use Rattle.witness_file.specs.WitnessReading.{read_witness}
use Rattle.witness_file.specs.Witnesses.{witness_text}
use Rattle.witness_file.proofs.WitnessLaw.{read_again, written_back}
use Rattle.witness_file.proofs.writing.write_witness.Goals as goal

pub returns-clause-read_back : goal.returns-clause-read_back
returns-clause-read_back c = λ is texts. ap read_witness (c.from_vec.ensures ∙ c.in_ok-push_witness.ensures
    ∙ ap (λ t. t ++ witness_text c.args.w.now) c.new-out.ensures.items) ∙ written_back c.args.w.now is texts

pub returns-clause-again : goal.returns-clause-again
returns-clause-again c = λ text h. ap read_witness (c.from_vec.ensures ∙ c.in_ok-push_witness.ensures
    ∙ ap (λ t. t ++ witness_text c.args.w.now) c.new-out.ensures.items) ∙ read_again text c.args.w.now h
