-- The command line, in the words of clap's own definitions (the project's own: how the commands are called).
use Rattle.std.specs.Prelude.{true, [], ◌∷◌, Some, pos, codes}
use Rattle.clap.specs.Lexer.{usize_max}
use Rattle.clap.specs.Simple.{on_top}
use Rattle.clap.specs.Words.{App, Rule, new_app, new_rule, with_rule}
use Rattle.clap.specs.declared.builder.value_parser.ValueParser.TheVariants as vp

-- the name of a command, which is required
abbrev pub command_rule : Rule
command_rule = record (new_rule (codes "command")) { required = true }

-- any number of operands
abbrev pub operands_rule : Rule
operands_rule = record (new_rule (codes "operands")) {
  range = Some (record { start_inclusive = 0; end_inclusive = usize_max });
}

-- how many workers there are: `--workers`, from 1 to 64, and 4 where it isn't given
abbrev pub workers_rule : Rule
workers_rule = record (new_rule (codes "workers")) {
  long = Some (codes "workers");
  parser = Some (vp.Signed (pos 1) (pos 64));
  value_names = 1;
  defaults = codes "4" ∷ [];
}

-- the words behind the program's name
abbrev pub command_line : App
command_line = with_rule (with_rule (with_rule
    (on_top (λ s. record s { no_binary_name = true }) (new_app (codes "cixorradde")))
    command_rule) operands_rule) workers_rule
