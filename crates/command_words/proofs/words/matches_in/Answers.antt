-- Answers of `matches_in`: what its calls ask for, and what it promises.
use Rattle.std.proofs.Common.{map}
use Rattle.clap.specs.Simple.{app_of}
use Rattle.command_words.proofs.ClapLaws.{reads_err, reads_ok, refused_reads}
use Rattle.command_words.proofs.words.matches_in.Goals as goal

pub returns-in-Ok : goal.returns-in-Ok
returns-in-Ok c =
    reads_ok (app_of c.in_ok-line.line) (map (λ t. t.now) c.args.words.now) c.try_get_matches_from.result
    c.in-Ok.matches c.in-Ok.is
    c.in_ok-line.ensures c.try_get_matches_from.ensures.kinds c.try_get_matches_from.ensures.matches

pub returns-in-Err : goal.returns-in-Err
returns-in-Err c =
    refused_reads (map (λ t. t.now) c.args.words.now) c.refused.result c.refused.ensures.none c.refused.ensures.kind
    (λ other. reads_err (app_of c.in_ok-line.line) (map (λ t. t.now) c.args.words.now) c.try_get_matches_from.result
    c.in-Err.error c.in-Err.is c.in_ok-line.ensures c.try_get_matches_from.ensures.kinds other)
