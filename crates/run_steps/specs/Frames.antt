-- A frame of the code as one of the machine (JVMS 2.6).
use Rattle.jvm_model.specs.State.{Body as Seen}
use Rattle.run_steps.specs.declared.body.Body.{Body}
use Rattle.run_values.specs.Slots.{slots_of}

-- the same frame, its local variables as a function of their slots
abbrev pub body_of : Body → Seen
body_of b = record { at = b.at; locals = slots_of b.locals; stack = b.stack }
