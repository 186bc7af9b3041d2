-- Answers of `batch_in`: what its calls ask for, and what it promises.
use Rattle.std.proofs.Common.{codes, map, sym, ap, ◌∙◌}
use Rattle.std.specs.Option.{option_map}
use Rattle.clap.specs.Matches.{found_of}
use Rattle.clap.specs.Walk.{rows_of}
use Rattle.clap.proofs.WalkLemmas.{first_value-rows}
use Rattle.command_words.specs.Batch.{batch_named}
use Rattle.command_words.proofs.ClapLaws.{all_values, answers, batch_both, batch_name_alone, batch_no_name}
use Rattle.command_words.proofs.batch.batch_in.Goals as goal

pub returns-in_default : goal.returns-in_default
returns-in_default c =
    sym (batch_no_name (rows_of (found_of c.args.matches.now))
    (sym (ap (option_map (λ s. s.now)) (sym c.in_default.is) ∙ c.get_str.ensures ∙ first_value-rows
    (found_of c.args.matches.now) (codes "command"))))

pub returns-in-Some-get_strs : goal.returns-in-Some-get_strs
returns-in-Some-get_strs c =
    let rows = rows_of (found_of c.args.matches.now) in
    let operands = map (λ s. s.now) c.in-Some-get_strs.operands.now in
    answers c.batch_named.result _ _ c.batch_named.ensures
    (ap (batch_named c.in-Some.name.now operands) c.workers_in-workers.ensures
    ∙ sym (batch_both rows c.in-Some.name.now operands
    (sym (ap (option_map (λ s. s.now)) (sym c.in-Some.is) ∙ c.get_str.ensures ∙ first_value-rows
    (found_of c.args.matches.now) (codes "command")))
    (sym (ap (option_map (λ s. map (λ v. v.now) s.now)) (sym c.in-Some-get_strs.is)
    ∙ c.get_strs.ensures ∙ all_values (found_of c.args.matches.now) (codes "operands")))))

pub returns-in-None : goal.returns-in-None
returns-in-None c =
    let rows = rows_of (found_of c.args.matches.now) in
    sym (batch_name_alone rows c.in-Some.name.now
    (sym (ap (option_map (λ s. s.now)) (sym c.in-Some.is) ∙ c.get_str.ensures ∙ first_value-rows
    (found_of c.args.matches.now) (codes "command")))
    (sym (ap (option_map (λ s. map (λ v. v.now) s.now)) (sym c.in-None.is)
    ∙ c.get_strs.ensures ∙ all_values (found_of c.args.matches.now) (codes "operands"))))
