-- Answers of `write_mapping`: what its calls ask for, and what it promises.
use Rattle.std.proofs.Common.{◌++◌, ◌∙◌, ap}
use Rattle.mapping_file.specs.MapReading.{read_mapping}
use Rattle.mapping_file.specs.Mappings.{mapping_text}
use Rattle.mapping_file.proofs.MapLaw.{read_again, written_back}
use Rattle.mapping_file.proofs.writing.write_mapping.Goals as goal

pub returns-clause-read_back : goal.returns-clause-read_back
returns-clause-read_back c = λ is. ap read_mapping (c.from_vec.ensures ∙ c.in_ok-push_mapping.ensures
    ∙ ap (λ t. t ++ mapping_text c.args.map.now) c.new-out.ensures.items) ∙ written_back c.args.map.now is

pub returns-clause-again : goal.returns-clause-again
returns-clause-again c = λ text h. ap read_mapping (c.from_vec.ensures ∙ c.in_ok-push_mapping.ensures
    ∙ ap (λ t. t ++ mapping_text c.args.map.now) c.new-out.ensures.items) ∙ read_again text c.args.map.now h
