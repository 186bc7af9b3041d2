-- Sets that differ in the codes of their methods alone (the project's own).
use Rattle.std.specs.Prelude.{◌≡◌, ℕ, List, map, Option, Some, None, slice_get}
use Rattle.std.specs.List.{AllZip}
use Rattle.class_model.specs.declared.class.Class.{Class}
use Rattle.class_model.specs.declared.class.Method.{Method}
use Rattle.class_model.specs.declared.code.Code.{Code}

-- a method without its code
abbrev pub bare_method : Method → Method
bare_method m = record m { code = None }

-- a class without the codes of its methods
abbrev pub bare : Class → Class
bare c = record c { methods = map bare_method c.methods }

-- two sets differ in the codes of their methods alone
abbrev pub DifferInCodes : List Class → List Class → Type 0
DifferInCodes a b = map bare a ≡ map bare b

-- so the codes of the methods at each place of both sets are related
abbrev pub CodesAre : (Option Code → Option Code → Type 0) → List Class → List Class → Type 0
CodesAre related a b =
    (n : ℕ) (c e : Class) → slice_get a n ≡ Some c → slice_get b n ≡ Some e
    → AllZip (λ (m o : Method). related m.code o.code) c.methods e.methods
