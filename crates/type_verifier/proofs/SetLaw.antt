-- Methods and sets are taken exactly where they are typed, and a fault is the first one.
use Rattle.std.proofs.Common.{◌≡◌, ◌<◌, ◌⊎◌, inl, inr, ⊎_elim, ℕ, List, Option, Some, None, Result, Ok, Err, refl, sym}
use Rattle.std.proofs.Common.{ap, subst, ◌∙◌, arith}
use Rattle.std.specs.Prelude.{slice_get}
use Rattle.std.specs.List.{enumerate_from}
use Rattle.std.specs.Option.{option_map_or}
use Rattle.std.proofs.lemmas.Bool.{cases_lt}
use Rattle.link_check.proofs.First.{first_flat, From, from_list, none_in}
use Rattle.class_model.specs.declared.class.Class.{Class}
use Rattle.class_model.specs.declared.class.Method.{Method}
use Rattle.class_model.specs.declared.code.Code.{Code}
use Rattle.jv_base.specs.Outcome.{IsDue}
use Rattle.jv_base.specs.declared.outcome.Or.{Or}
use Rattle.jv_base.specs.declared.outcome.Or.TheVariants as or
use Rattle.jv_base.proofs.Options.{one_value}
use Rattle.class_pool.specs.Resolution.{first}
use Rattle.type_verifier.specs.declared.fault.TypeFault.{TypeFault}
use Rattle.type_verifier.specs.Environment.{Environment}
use Rattle.type_verifier.specs.Typed.{IsFirstFault, Typed}
use Rattle.type_verifier.specs.Verified.{AreTyped, IsBefore, IsMethodFault, IsPlace, IsSetFault, IsTypedAt}
use Rattle.type_verifier.specs.Verified.{IsTypedMethod, JudgesMethod, environment}
use Rattle.type_verifier.specs.bodies.FirstFaults.{fault_of, fault_of_set, faults_of, method_checked}
use Rattle.type_verifier.specs.bodies.Walked.{code_checked}
use Rattle.type_verifier.proofs.TypedLaw.{first_where_no, never_both, one_fault, typed_where_yes, yes_where_typed}

abbrev Answer : Type 0
Answer = Result (Unit {0}) TypeFault

-- ---- what stands at a place

no_fault : (r : Answer) → fault_of r ≡ None → r ≡ Ok tt
no_fault (Ok u) h = refl
no_fault (Err f) h = absurd cc

is_fault : (r : Answer) (f : TypeFault) → fault_of r ≡ Some f → r ≡ Err f
is_fault (Ok u) f h = absurd cc
is_fault (Err g) f h = ap (λ (x : TypeFault). let R : Answer = Err x in R) cc

-- ---- one method

method_typed : (classes : List Class) (own number : ℕ) (c : Class) (m : Method)
    → method_checked classes own c number m ≡ Ok tt
    → IsTypedMethod classes own c number m
method_typed classes own number c m h code is =
    typed_where_yes (environment classes own c number m code)
    (sym (ap (λ (o : Option Code). option_map_or (λ d. code_checked (environment classes own c number m d)) o
    (Ok tt)) is) ∙ h)

by_code : (classes : List Class) (own number : ℕ) (c : Class) (m : Method) (o : Option Code) → m.code ≡ o
    → IsTypedMethod classes own c number m
    → (let R : Answer = option_map_or (λ code. code_checked (environment classes own c number m code)) o (Ok tt) in R)
    ≡ Ok tt
by_code classes own number c m None e typed = refl
by_code classes own number c m (Some code) e typed =
    yes_where_typed (environment classes own c number m code) (typed code e)

-- a typed method is taken
pub typed_method : (classes : List Class) (own number : ℕ) (c : Class) (m : Method) → slice_get classes own ≡ Some c
    → slice_get c.methods number ≡ Some m → IsTypedAt classes own number → method_checked classes own c number m ≡ Ok tt
typed_method classes own number c m there is typed = by_code classes own number c m m.code refl (typed c there m is)

-- what holds of the method that stands at a place holds there
pub typed_there : (classes : List Class) (own number : ℕ) (c : Class) (m : Method) → slice_get classes own ≡ Some c
    → slice_get c.methods number ≡ Some m → IsTypedMethod classes own c number m → IsTypedAt classes own number
typed_there classes own number c m there is typed d at n named code has =
    let class : c ≡ d = one_value (slice_get classes own) c d there at in
    let method : m ≡ n = one_value (slice_get d.methods number) m n
    (ap (λ (x : Class). slice_get x.methods number) (sym class) ∙ is) named in
    subst (λ (e : Environment). Typed e) (λ i. environment classes own (class i) number (method i) code)
    (typed code (ap (λ (x : Method). x.code) method ∙ has))

fault_there : (classes : List Class) (own number : ℕ) (c : Class) (m : Method) (f : TypeFault) (o : Option Code)
    → m.code ≡ o → slice_get classes own ≡ Some c → slice_get c.methods number ≡ Some m
    → (let R : Answer = option_map_or (λ code. code_checked (environment classes own c number m code)) o (Ok tt) in R)
    ≡ Err f
    → IsMethodFault classes own number f
fault_there classes own number c m f None has there is h = absurd cc
fault_there classes own number c m f (Some code) has there is h =
    (c, there, m, is, code, has, first_where_no (environment classes own c number m code) f h)

-- what is answered is what holds of the method
pub method_judged : (classes : List Class) (own number : ℕ) (c : Class) (m : Method)
    (r : Result (Unit {0}) (Or TypeFault)) → slice_get classes own ≡ Some c → slice_get c.methods number ≡ Some m
    → IsDue r (method_checked classes own c number m) → JudgesMethod r classes own number
method_judged classes own number c m (Ok u) there is h =
    typed_there classes own number c m there is (method_typed classes own number c m h)
method_judged classes own number c m (Err (or.Fault f)) there is h =
    fault_there classes own number c m f m.code refl there is h
method_judged classes own number c m (Err or.OutOfMemory) there is h = tt

-- no method is both typed and at fault
apart : (classes : List Class) (own number : ℕ) (f : TypeFault) → IsTypedAt classes own number
    → IsMethodFault classes own number f → ⊥
apart classes own number f typed a =
    never_both (environment classes own a.0 number a.2 a.4) f (typed a.0 a.1 a.2 a.3 a.4 a.5) a.6

-- a method has one first fault
one_method_fault : (classes : List Class) (own number : ℕ) (f g : TypeFault) → IsMethodFault classes own number f
    → IsMethodFault classes own number g → f ≡ g
one_method_fault classes own number f g a b =
    let c : Class = a.0 in
    let m : Method = a.2 in
    let code : Code = a.4 in
    let class : b.0 ≡ c = one_value (slice_get classes own) b.0 c b.1 a.1 in
    let method : b.2 ≡ m = one_value (slice_get c.methods number) b.2 m
    (ap (λ (x : Class). slice_get x.methods number) (sym class) ∙ b.3) a.3 in
    let coded : b.4 ≡ code = one_value m.code b.4 code (ap (λ (x : Method). x.code) (sym method) ∙ b.5) a.5 in
    one_fault (environment classes own c number m code) f g a.6
    (subst (λ (e : Environment). IsFirstFault e g)
    (λ i. environment classes own (class i) number (method i) (coded i)) b.6)

-- the place of a method's fault is that of the method
placed : (classes : List Class) (own number : ℕ) (f : TypeFault) → IsMethodFault classes own number f
    → (own ≡ f.class) × (number ≡ f.method)
placed classes own number f a =
    let e = (a.6).0 in
    (sym (ap (λ (x : TypeFault). x.class) e), sym (ap (λ (x : TypeFault). x.method) e))

-- ---- sets

-- a set without a fault has typed methods alone
pub set_typed : (classes : List Class) → fault_of_set classes ≡ None → AreTyped classes
set_typed classes h own number c there m is =
    let none = sym (first_flat (λ (p : ℕ × Class). faults_of classes p.0 p.1) (enumerate_from 0 classes)) ∙ h in
    let of_class =
    none_in (λ (p : ℕ × Class). first (faults_of classes p.0 p.1)) 0 classes none own own c (omega arith) there in
    let of_method = none_in (λ (p : ℕ × Method). fault_of (method_checked classes own c p.0 p.1)) 0 c.methods of_class
    number number m (omega arith) is in
    method_typed classes own number c m (no_fault (method_checked classes own c number m) of_method)

-- all methods of a class without a fault are typed
class_typed : (classes : List Class) (own : ℕ) (c : Class) → slice_get classes own ≡ Some c
    → first (faults_of classes own c) ≡ None → (number : ℕ) → IsTypedAt classes own number
class_typed classes own c there none number d at m is =
    let class : c ≡ d = one_value (slice_get classes own) c d there at in
    let of_class : first (faults_of classes own d) ≡ None =
    ap (λ (x : Class). first (faults_of classes own x)) (sym class) ∙ none in
    let of_method = none_in (λ (p : ℕ × Method). fault_of (method_checked classes own d p.0 p.1)) 0 d.methods of_class
    number number m (omega arith) is in
    method_typed classes own number d m (no_fault (method_checked classes own d number m) of_method)

abbrev ClassFrom : List Class → TypeFault → Type 0
ClassFrom classes f = From (λ (p : ℕ × Class). first (faults_of classes p.0 p.1)) 0 classes f

abbrev MethodFrom : List Class → ℕ → Class → TypeFault → Type 0
MethodFrom classes own c f = From (λ (p : ℕ × Method). fault_of (method_checked classes own c p.0 p.1)) 0 c.methods f

-- all methods of the classes before the one at fault are typed
class_before : (classes : List Class) (f : TypeFault) (of_class : ClassFrom classes f) (own number : ℕ)
    → own < of_class.number → IsTypedAt classes own number
class_before classes f of_class own number lt c there =
    let less : own < of_class.at = omega (arith, lt, of_class.counted) in
    class_typed classes own c there (of_class.before own own c (omega arith) less there) number c there

-- all methods before the one at fault in its class are typed
method_before : (classes : List Class) (own : ℕ) (c : Class) (f : TypeFault) → slice_get classes own ≡ Some c
    → (of_method : MethodFrom classes own c f) (number : ℕ) → number < of_method.number → IsTypedAt classes own number
method_before classes own c f there of_method number lt d at m is =
    let class : c ≡ d = one_value (slice_get classes own) c d there at in
    let in_class : slice_get c.methods number ≡ Some m = ap (λ (x : Class). slice_get x.methods number) class ∙ is in
    let less : number < of_method.at = omega (arith, lt, of_method.counted) in
    let none = of_method.before number number m (omega arith) less in_class in
    typed_there classes own number c m there in_class
    (method_typed classes own number c m (no_fault (method_checked classes own c number m) none)) d at m is

before_it : (classes : List Class) (f : TypeFault) (of_class : ClassFrom classes f) (c : Class)
    → slice_get classes of_class.number ≡ Some c → (of_method : MethodFrom classes of_class.number c f)
    → (own number : ℕ) → IsBefore own number of_class.number of_method.number → IsTypedAt classes own number
before_it classes f of_class c there of_method own number (inl lt) = class_before classes f of_class own number lt
before_it classes f of_class c there of_method own number (inr (e, lt)) =
    subst (λ (k : ℕ). IsTypedAt classes k number) (sym e)
    (method_before classes of_class.number c f there of_method number lt)

-- the fault of a method is that of the set, where all methods before that one are typed
of_place : (classes : List Class) (own number : ℕ) (f : TypeFault) → IsMethodFault classes own number f
    → ((other place : ℕ) → IsBefore other place own number → IsTypedAt classes other place) → IsSetFault classes f
of_place classes own number f fault typed =
    let places = placed classes own number f fault in
    subst (λ (k : ℕ). IsMethodFault classes k f.method f
    × ((other place : ℕ) → IsBefore other place k f.method → IsTypedAt classes other place)) places.0
    (subst (λ (k : ℕ). IsMethodFault classes own k f
    × ((other place : ℕ) → IsBefore other place own k → IsTypedAt classes other place)) places.1 (fault, typed))

-- the first fault of a set
pub set_fault : (classes : List Class) (f : TypeFault) → fault_of_set classes ≡ Some f → IsSetFault classes f
set_fault classes f h =
    let of_class = from_list (λ (p : ℕ × Class). first (faults_of classes p.0 p.1)) 0 classes f
    (sym (first_flat (λ (p : ℕ × Class). faults_of classes p.0 p.1) (enumerate_from 0 classes)) ∙ h) in
    let own : ℕ = of_class.number in
    let c : Class = of_class.element in
    let of_method =
    from_list (λ (p : ℕ × Method). fault_of (method_checked classes own c p.0 p.1)) 0 c.methods f of_class.gives in
    let number : ℕ = of_method.number in
    let m : Method = of_method.element in
    let at_class : of_class.at ≡ own = omega (arith, of_class.counted) in
    let at_method : of_method.at ≡ number = omega (arith, of_method.counted) in
    let there : slice_get classes own ≡ Some c =
    subst (λ (x : ℕ). slice_get classes x ≡ Some c) at_class of_class.stands in
    let is : slice_get c.methods number ≡ Some m =
    subst (λ (x : ℕ). slice_get c.methods x ≡ Some m) at_method of_method.stands in
    of_place classes own number f
    (fault_there classes own number c m f m.code refl there is
    (is_fault (method_checked classes own c number m) f of_method.gives))
    (before_it classes f of_class c there of_method)

-- each set is typed, or has a first fault
decided : (classes : List Class) (o : Option TypeFault) → fault_of_set classes ≡ o
    → AreTyped classes ⊎ ((f : TypeFault) × IsSetFault classes f)
decided classes None e = inl (set_typed classes e)
decided classes (Some f) e = inr (f, set_fault classes f e)

pub typed_or_fault : (classes : List Class) → AreTyped classes ⊎ ((f : TypeFault) × IsSetFault classes f)
typed_or_fault classes = decided classes (fault_of_set classes) refl

-- the place of the fault of a set is one of it
pub fault_place : (classes : List Class) (f : TypeFault) → IsSetFault classes f → IsPlace classes f
fault_place classes f (fault, before) = (fault.0, fault.1, fault.2, fault.3)

-- no set is both typed and at fault
pub set_apart : (classes : List Class) (f : TypeFault) → AreTyped classes → IsSetFault classes f → ⊥
set_apart classes f typed (fault, before) = apart classes f.class f.method f (typed f.class f.method) fault

-- of two faults none comes before the other
not_before : (classes : List Class) (f g : TypeFault) → IsSetFault classes f → IsSetFault classes g
    → IsBefore f.class f.method g.class g.method → ⊥
not_before classes f g a b less = apart classes f.class f.method f (b.1 f.class f.method less) a.0

one_in_class : (classes : List Class) (f g : TypeFault) → IsSetFault classes f → IsSetFault classes g
    → f.class ≡ g.class
    → f.method ≡ g.method → f ≡ g
one_in_class classes f g a b class method =
    one_method_fault classes f.class f.method f g a.0
    (subst (λ (k : ℕ). IsMethodFault classes k f.method g) (sym class)
    (subst (λ (k : ℕ). IsMethodFault classes g.class k g) (sym method) b.0))

-- a set has one first fault
pub one_set_fault : (classes : List Class) (f g : TypeFault) → IsSetFault classes f → IsSetFault classes g → f ≡ g
one_set_fault classes f g a b =
    ⊎_elim (λ (low : f.class < g.class). absurd (not_before classes f g a b (inl low)))
    (λ high. ⊎_elim (λ (low : g.class < f.class). absurd (not_before classes g f b a (inl low)))
    (λ also. (let class : f.class ≡ g.class = omega (arith, high, also) in
    ⊎_elim (λ (low : f.method < g.method). absurd (not_before classes f g a b (inr (class, low))))
    (λ under. ⊎_elim (λ (low : g.method < f.method). absurd (not_before classes g f b a (inr (sym class, low))))
    (λ over. one_in_class classes f g a b class (omega (arith, under, over))) (cases_lt g.method f.method))
    (cases_lt f.method g.method)))
    (cases_lt g.class f.class)) (cases_lt f.class g.class)
