-- Sets whose codes control can't leave but by a return or a throw (JVMS 4.9.2).
use Rattle.std.specs.Prelude.{List, IfSome}
use Rattle.std.specs.List.{AllByRecursion}
use Rattle.class_model.specs.declared.class.Class.{Class}
use Rattle.class_model.specs.declared.class.Method.{Method}
use Rattle.code_edit.specs.SoundCode.{IsSound}

-- a method has a sound code, if it has one
abbrev pub HasSoundCode : Method → Type 0
HasSoundCode m = IfSome m.code IsSound

-- so has each of a class
abbrev pub HasSoundCodes : Class → Type 0
HasSoundCodes c = AllByRecursion HasSoundCode c.methods

-- and each class of a set
abbrev pub AreSound : List Class → Type 0
AreSound classes = AllByRecursion HasSoundCodes classes
