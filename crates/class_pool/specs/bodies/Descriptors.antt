-- The descriptors of the methods of a class (JVMS 4.3.3; only the proof of ClassSet needs it).
use Rattle.std.specs.Prelude.{ℕ, List, map}
use Rattle.jv_base.specs.Types.{method_text}
use Rattle.class_model.specs.declared.class.Class.{Class}
use Rattle.class_model.specs.declared.class.Method.{Method}

-- the descriptor of a method
abbrev pub text_of : Method → List ℕ
text_of m = method_text m.ty

-- in the order of the methods
abbrev pub method_texts : Class → List (List ℕ)
method_texts c = map text_of c.methods
