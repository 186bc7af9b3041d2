-- The set in which a method has another code (the project's own: a code is tried before it is taken).
use Rattle.std.specs.Prelude.{ℕ, zero, suc, List, [], ◌∷◌, Some}
use Rattle.class_model.specs.declared.class.Class.{Class}
use Rattle.class_model.specs.declared.class.Method.{Method}
use Rattle.class_model.specs.declared.code.Code.{Code}

-- a list with its element of this number changed, where there is one
abbrev pub changed_at : {X : Type 0} → ℕ → (X → X) → List X → List X
changed_at number change [] = []
changed_at zero change (x ∷ xs) = change x ∷ xs
changed_at (suc number) change (x ∷ xs) = x ∷ changed_at number change xs

-- a method with this code in place of its own
abbrev pub method_with_code : Code → Method → Method
method_with_code code m = record {
  flags = m.flags;
  name = m.name;
  ty = m.ty;
  code = Some code;
  throws = m.throws;
  synthetic = m.synthetic;
  deprecated = m.deprecated;
}

-- a class whose method of this number has this code
abbrev pub class_with_code : ℕ → Code → Class → Class
class_with_code number code c = record {
  flags = c.flags;
  name = c.name;
  super_name = c.super_name;
  interfaces = c.interfaces;
  fields = c.fields;
  methods = changed_at number (method_with_code code) c.methods;
  source = c.source;
  synthetic = c.synthetic;
  deprecated = c.deprecated;
  left_out = c.left_out;
}

-- a set in which the method of this class and number has this code
abbrev pub set_with_code : List Class → ℕ → ℕ → Code → List Class
set_with_code classes own number code = changed_at own (class_with_code number code) classes
