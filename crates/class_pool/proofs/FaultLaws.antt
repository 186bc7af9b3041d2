-- The rounds of faults.
use Rattle.std.proofs.Common.{◌≡◌, ℕ, zero, suc, ◌<◌, Bool, true, false, not, nat_eq, cond, List, [], ◌∷◌, ◌++◌, length}
use Rattle.std.proofs.Common.{get_or, take, drop, codes, Ordering, Less, Equal, Greater, Option, Some, None, Result, Ok}
use Rattle.std.proofs.Common.{refl, sym, ap, subst, ◌∙◌, arith}
use Rattle.std.specs.Cmp.Lexicographic.{pointwise, slice_cmp}
use Rattle.std.specs.Ordering.{nat_cmp, is_lt, is_eq}
use Rattle.std.specs.Option.{option_map_or, option_and_then}
use Rattle.std.proofs.lemmas.List.{length-map, get_or-map}
use Rattle.std.proofs.lemmas.Map.Text.{is_eq-slice_cmp}
use Rattle.jv_base.specs.Names.{is_text}
use Rattle.jv_base.proofs.Equality.{text_Decides}
use Rattle.class_model.specs.declared.class.Class.{Class}
use Rattle.lib_table.specs.bodies.Stripping.{behind}
use Rattle.lib_table.proofs.Behind.{behind_is, behind_append, behind_whole}
use Rattle.class_pool.specs.declared.fault.NamedClass.{NamedClass}
use Rattle.class_pool.specs.declared.fault.PoolFault.{PoolFault}
use Rattle.class_pool.specs.declared.fault.PoolKind.{PoolKind}
use Rattle.class_pool.specs.Faults.{Ascends, classes_of, fault_of, first_fault, name_fault, name_faults}
use Rattle.class_pool.specs.bodies.Faults.{NamesDiffer}

whole_of : (o : Option (List ℕ)) (b : List ℕ)
    → option_map_or (λ rest. nat_eq (length rest) 0) (option_and_then (behind b) o) false
    ≡ option_map_or (λ rest. is_text rest b) o false
whole_of None b = refl
whole_of (Some rest) b = sym (behind_whole rest b)

-- a text that has two parts
path_split : (p a b : List ℕ) → is_text p (a ++ b) ≡ option_map_or (λ rest. is_text rest b) (behind a p) false
path_split p a b =
    behind_whole p (a ++ b) ∙ ap (λ (o : Option (List ℕ)). option_map_or (λ rest. nat_eq (length rest) 0) o false)
    (behind_append a b p) ∙ whole_of (behind a p) b

pub path_some : (p a b rest : List ℕ) → pointwise nat_eq (take (length a) p) a ≡ true → rest ≡ drop (length a) p
    → is_text p (a ++ b) ≡ is_text rest b
path_some p a b rest begins is =
    path_split p a b
    ∙ ap (λ (o : Option (List ℕ)). option_map_or (λ r. is_text r b) o false)
    (behind_is a p ∙ ap (λ (t : Bool). cond t (Some (drop (length a) p)) None) begins)
    ∙ ap (λ (r : List ℕ). is_text r b) (sym is)

pub path_none : (p a b : List ℕ) → pointwise nat_eq (take (length a) p) a ≡ false → is_text p (a ++ b) ≡ false
path_none p a b begins =
    path_split p a b ∙ ap (λ (o : Option (List ℕ)). option_map_or (λ r. is_text r b) o false)
    (behind_is a p ∙ ap (λ (t : Bool). cond t (Some (drop (length a) p)) None) begins)

-- the same of a text, its front and its end that were read
pub path_is_some : (p a b text front end rest : List ℕ) (r : Bool) → text ≡ p → front ≡ a → end ≡ b
    → pointwise nat_eq (take (length front) text) front ≡ true → rest ≡ drop (length front) text
    → r ≡ pointwise nat_eq rest end → r ≡ is_text p (a ++ b)
path_is_some p a b text front end rest r text-is front-is end-is begins is same =
    same ∙ sym (path_some text front end rest begins is) ∙ ap (λ (t : List ℕ). is_text t (front ++ end)) text-is
    ∙ ap (λ (t : List ℕ). is_text p (t ++ end)) front-is ∙ ap (λ (t : List ℕ). is_text p (a ++ t)) end-is

pub path_is_none : (p a b text front : List ℕ) → text ≡ p → front ≡ a
    → pointwise nat_eq (take (length front) text) front ≡ false → false ≡ is_text p (a ++ b)
path_is_none p a b text front text-is front-is begins =
    sym (path_none text front b begins) ∙ ap (λ (t : List ℕ). is_text t (front ++ b)) text-is
    ∙ ap (λ (t : List ℕ). is_text p (t ++ b)) front-is

-- where there is no fault, each one has none
none_first : (c : Class) (k : Option PoolKind) (others : Result (Unit {0}) PoolFault) → fault_of c k others ≡ Ok tt
    → (k ≡ None) × (others ≡ Ok tt)
none_first c None others h = (refl, h)
none_first c (Some k) others h = absurd cc

pub none_at : {A : Type 0} (class : A → Class) (kind : A → Option PoolKind) (xs : List A) (i : ℕ) (d : A)
    → first_fault class kind xs ≡ Ok tt → i < length xs → kind (get_or xs i d) ≡ None
none_at class kind [] i d h within = absurd (omega (arith, within))
none_at class kind (x ∷ xs) zero d h within = (none_first (class x) (kind x) (first_fault class kind xs) h).0
none_at class kind (x ∷ xs) (suc i) d h within = none_at class kind xs i d
    (none_first (class x) (kind x) (first_fault class kind xs) h).1 (omega (arith, within))

path_right : (t : Bool) (o : Option PoolKind) (k : PoolKind) → cond (not t) (Some k) o ≡ None → t ≡ true
path_right true o k h = refl
path_right false o k h = absurd cc

pub path_is : (f : NamedClass) → name_fault f ≡ None → f.path ≡ f.class.name ++ codes ".class"
path_is f h = (text_Decides f.path (f.class.name ++ codes ".class")).0 (path_right _ _ _ h)

not_both : (o : Ordering) → is_lt o ≡ true → is_eq o ≡ true → ⊥
not_both Less lt eq = absurd cc
not_both Equal lt eq = absurd cc
not_both Greater lt eq = absurd cc

not_less : (p : List ℕ) → is_lt (slice_cmp nat_cmp p p) ≡ true → ⊥
not_less p h = not_both (slice_cmp nat_cmp p p) h (is_eq-slice_cmp p p ∙ (text_Decides p p).1 refl)

-- ascending paths that follow the names have different names
pub names_differ : (files : List NamedClass) → Ascends files → name_faults files ≡ Ok tt
    → NamesDiffer (classes_of files)
names_differ files ascend right i j d less within same =
    let fd : NamedClass = record { path = []; class = d } in
    let j-in : j < length files = omega (arith, within, length-map files (λ (f : NamedClass). f.class)) in
    let i-in : i < length files = omega (arith, less, j-in) in
    let at : (k : ℕ) → k < length files
    → get_or (classes_of files) k d
    ≡ (get_or files k fd).class = λ k k-in. get_or-map (λ (f : NamedClass). f.class) files k fd d k-in in
    let path : (k : ℕ) → k < length files
    → (get_or files k fd).path ≡ (get_or (classes_of files) k d).name ++ codes ".class" =
    λ k k-in. path_is (get_or files k fd) (none_at (λ (f : NamedClass). f.class) name_fault files k fd right k-in)
    ∙ ap (λ (c : Class). c.name ++ codes ".class") (sym (at k k-in)) in
    let equal : (get_or files i fd).path ≡ (get_or files j fd).path = path i i-in
    ∙ ap (λ (n : List ℕ). n ++ codes ".class") same ∙ sym (path j j-in) in
    not_less (get_or files j fd).path
    (subst (λ (p : List ℕ). is_lt (slice_cmp nat_cmp p (get_or files j fd).path) ≡ true) equal
    (ascend i j fd less j-in))
