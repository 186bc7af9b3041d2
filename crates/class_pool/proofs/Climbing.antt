-- A class and its superclasses.
use Rattle.std.proofs.Common.{◌≡◌, ◌∙◌, ℕ, zero, suc, ◌-◌, ◌<◌, List, [], ◌∷◌, length, Option, Some, None, refl, sym}
use Rattle.std.proofs.Common.{ap, subst, arith}
use Rattle.std.specs.Iterator.{YieldsFirst, MakesProgress, item_count}
use Rattle.std.specs.List.{All}
use Rattle.std.specs.Option.{IfSome, option_map_or}
use Rattle.std.proofs.lemmas.List.Elements.{All-cons, All-nil}
use Rattle.class_model.specs.declared.class.Class.{Class}
use Rattle.class_pool.specs.declared.id.ClassId.{ClassId}
use Rattle.class_pool.specs.Hierarchy.{IsClass, superclass}
use Rattle.class_pool.specs.Walk.{upwards}
use Rattle.class_pool.proofs.Declaring.{superclass_there}

-- a class, and those further up
pub upwards_step : (n : ℕ) (classes : List Class) (c : ClassId) → 0 < n
    → upwards n classes c ≡ c ∷ option_map_or (upwards (n - 1) classes) (superclass classes c) []
unfolding upwards
upwards_step zero classes c some = absurd (omega (arith, some))
upwards_step (suc n) classes c some =
    ap (λ (m : ℕ). c ∷ option_map_or (upwards m classes) (superclass classes c) []) (omega arith)

-- no class further up
pub upwards_none : (classes : List Class) (next : Option ClassId) → option_map_or (upwards zero classes) next [] ≡ []
unfolding upwards
upwards_none classes (Some c) = refl
upwards_none classes None = refl

pub up_there : (n : ℕ) (classes : List Class)
    → ((c : ClassId) → IsClass classes c → All (IsClass classes) (upwards n classes c)) → (o : Option ClassId)
    → IfSome o (IsClass classes)
    → All (IsClass classes) (option_map_or (upwards n classes) o [])
up_there n classes others (Some c) there = others c there
up_there n classes others None there = All-nil (IsClass classes)

pub upwards_there : (n : ℕ) (classes : List Class) (c : ClassId) → IsClass classes c
    → All (IsClass classes) (upwards n classes c)
unfolding upwards
upwards_there zero classes c there = All-nil (IsClass classes)
upwards_there (suc n) classes c there =
    All-cons (IsClass classes) c _ there
    (up_there n classes (upwards_there n classes) (superclass classes c) (superclass_there classes c))

-- the next class is the first one, and those further up are left
pub yields : (n : ℕ) (classes : List Class) (old : List ClassId) (next above r : Option ClassId) (c : ClassId)
    → (n ≡ 0 → ⊥) → option_map_or (upwards n classes) next [] ≡ old
    → next ≡ Some c → r ≡ next → above ≡ superclass classes c
    → YieldsFirst (λ s. s) old r (option_map_or (upwards (n - 1) classes) above [])
yields n classes old next above r c some view is result up =
    subst (λ (o : Option ClassId). YieldsFirst (λ s. s) old o (option_map_or (upwards (n - 1) classes) above []))
    (sym (result ∙ is))
    (sym view ∙ ap (λ (o : Option ClassId). option_map_or (upwards n classes) o []) is
    ∙ upwards_step n classes c (omega (arith, some))
    ∙ ap (λ (o : Option ClassId). c ∷ option_map_or (upwards (n - 1) classes) o []) (sym up))

-- ---- iterators that show the list of what is left

pub goes : {A : Type 0} (old new : List A) (r : Option A) → YieldsFirst (λ (s : List A). s) old r new
    → MakesProgress (λ (s : List A). Unit {0}) (item_count {A = A} (λ (s : List A). s)) old r new
goes old new (Some x) step = record { on = λ _. (tt, tt, omega (arith, ap length step)); keeps = tt; rests = λ _. tt }
goes old new None step = record { on = λ _. tt; keeps = tt; rests = λ _. tt }
