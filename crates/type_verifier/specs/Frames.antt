-- The frames of type checking (JVMS 4.10.1.4, 4.10.1.6): what each word of the locals holds, the operand stack with its
-- top first, and whether the object that a constructor makes isn't initialised yet (flagThisUninit).
use Rattle.std.specs.Prelude.{ℕ, ◌-◌, Bool, true, false, List, [], ◌∷◌, ◌++◌, length, replicate, reverse}
use Rattle.std.specs.List.{flat_map, list_any}
use Rattle.class_model.specs.declared.frame.Frame.{Frame}
use Rattle.class_model.specs.declared.frame.VType.{VType}
use Rattle.class_model.specs.declared.frame.VType.TheVariants as vtype
use Rattle.type_verifier.specs.declared.frame.TypeFrame.{TypeFrame}

-- what the words of a local hold: behind a long stands Top (JVMS 4.10.1.6, expandTypeList)
abbrev pub local_words : VType → List VType
local_words vtype.Long = vtype.Long ∷ vtype.Top ∷ []
local_words ty = ty ∷ []

-- Tops up to so many words (JVMS 4.10.1.6, expandToLength)
abbrev pub padded : ℕ → List VType → List VType
padded max_locals words = words ++ replicate (max_locals - length words) vtype.Top

-- the locals word by word, Tops behind the last (JVMS 4.10.1.6)
abbrev pub expanded : ℕ → List VType → List VType
expanded max_locals types = padded max_locals (flat_map local_words types)

-- the type of `this` before another constructor was called on it (JVMS 4.10.1.2)
abbrev pub is_uninit_this : VType → Bool
is_uninit_this vtype.UninitThis = true
is_uninit_this _ = false

-- the frame of these locals and this stack, which is told from the bottom; it has the flag where `this` isn't
-- initialised (JVMS 4.10.1.4, 4.10.1.6)
abbrev pub framed : ℕ → List VType → List VType → TypeFrame
framed max_locals locals stack = record {
  locals = expanded max_locals locals;
  stack = reverse stack;
  marked = list_any is_uninit_this locals;
}

-- the frame that is declared (JVMS 4.7.4)
abbrev pub declared_frame : ℕ → Frame → TypeFrame
declared_frame max_locals frame = framed max_locals frame.locals frame.stack
