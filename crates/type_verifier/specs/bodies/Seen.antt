-- The environment as the code holds it (only the proof of the bodies needs it).
use Rattle.type_verifier.specs.declared.environment.Env.{Env}
use Rattle.type_verifier.specs.Environment.{Environment}

abbrev pub environment_of : Env → Environment
environment_of env = record {
  classes = env.set.now;
  own = env.own;
  class = env.class.now;
  number = env.number;
  method = env.method.now;
  code = env.code.now;
}
