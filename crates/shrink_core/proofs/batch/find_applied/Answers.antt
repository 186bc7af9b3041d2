-- Answers of `find_applied`: what its calls ask for, and what it promises.
use Rattle.std.proofs.Common.{◌≡◌, Option, Result, Ok, refl}
use Rattle.std.proofs.lemmas.Result.{err_from_is_err_and}
use Rattle.tree_io.specs.Files.{Files}
use Rattle.batch_command.specs.declared.work.JobConfig.{JobConfig}
use Rattle.batch_list.specs.declared.line.JobFiles.{JobFiles}
use Rattle.command_frame.proofs.Steps.{first_stops, then_made}
use Rattle.command_frame.specs.declared.refusal.Refusal.{Refusal}
use Rattle.command_steps.specs.Texts.{IsEarlier}
use Rattle.keep_rules.specs.declared.rules.Rules.{Rules}
use Rattle.mapping_file.specs.declared.mapping.Mapping.{Mapping}
use Rattle.shrink_core.proofs.batch.find_applied.Goals as goal

-- the job has this earlier mapping
abbrev Given : JobFiles → Rules → Option Mapping → Result JobConfig Refusal → Type 0
Given files rules earlier due = due ≡ Ok (record { files = files; rules = rules; earlier = earlier })

pub returns-in_err-earlier-clause-found : goal.returns-in_err-earlier-clause-found
returns-in_err-earlier-clause-found g c =
    let p = err_from_is_err_and c.from_residual.result c.from_residual.ensures.1 in
    let rules = c.args.rules in
    rw (p.1, p.2) (first_stops (λ (fs : Files). IsEarlier fs rules.apply) (λ (fs : Files). Given c.args.files rules)
    c.in_err-earlier.field-0.0 _ _ c.in_err-earlier.ensures.found)

pub returns-clause-found : goal.returns-clause-found
returns-clause-found g c =
    let rules = c.args.rules in
    then_made (λ (fs : Files). IsEarlier fs rules.apply) (Given c.args.files rules) c.in_ok-earlier.earlier _ _
    c.in_ok-earlier.ensures.found
    (Ok (record { files = c.args.files; rules = rules; earlier = c.in_ok-earlier.earlier })) refl
