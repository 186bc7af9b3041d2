-- What runs where a method of the library is called that no class of the set has.
use Rattle.std.proofs.Common.{◌≡◌, ℕ, zero, suc, ◌-◌, ◌≤◌, ◌<◌, Bool, true, false, cond, List, [], ◌∷◌, ◌++◌}
use Rattle.std.proofs.Common.{length, slice_get, is_some, Option, Some, None, IfSome, refl, sym, ap, subst, ◌∙◌}
use Rattle.std.proofs.Common.{arith, ◌⊎◌, ⊎_elim, inl, inr}
use Rattle.std.specs.List.{AllByRecursion, cons_option, find}
use Rattle.std.specs.Option.{ForSome, option_and_then, option_map, option_map_or}
use Rattle.std.proofs.lemmas.Bool.{cases_lt}
use Rattle.std.proofs.lemmas.Option.{same_Some}
use Rattle.class_model.specs.declared.class.Class.{Class}
use Rattle.class_pool.specs.Found.{NameAndType, declared_by, declared_in, is_instance_method, named_at}
use Rattle.class_pool.specs.Items.{item_in}
use Rattle.class_pool.specs.Members.{declared_at, member_named}
use Rattle.class_pool.specs.Resolution.{first, is_interface_in}
use Rattle.class_pool.specs.Selection.{first_instance, overriding, overriding_from}
use Rattle.class_pool.specs.Selection.{selected}
use Rattle.class_pool.specs.Hierarchy.{superclass}
use Rattle.class_pool.specs.Walk.{same_class, superclasses_from, upwards}
use Rattle.class_pool.specs.declared.id.ClassId.{ClassId}
use Rattle.class_pool.specs.declared.id.ClassId.TheVariants.{Prog, Lib}
use Rattle.class_pool.specs.declared.id.MemberAt.{MemberAt}
use Rattle.require_sys.specs.Requires.{Item, OfMember, is_program, numbers}
use Rattle.item_numbers.specs.bodies.Alone.{AreAlone, AreNone, AreUndeclared, IsAlone}
use Rattle.item_numbers.specs.bodies.Selecting.{called_item}
use Rattle.item_numbers.specs.bodies.Wanting.{Wanted, wanting}
use Rattle.lib_table.specs.Lookups.{super_of}
use Rattle.class_pool.proofs.EachOnce.{same_is}
use Rattle.class_pool.proofs.Climbing.{upwards_step}
use Rattle.item_numbers.proofs.Gathering.{nothing}

abbrev IsOfLibrary : MemberAt → Type 0
IsOfLibrary x = is_program x.class ≡ false

no_some : (o : Option MemberAt) → is_some o ≡ false → o ≡ None
no_some None e = refl
no_some (Some x) e = absurd cc

-- ---- the methods of one name and descriptor

library_one : (id : ℕ) (o : Option ℕ) (xs : List MemberAt) → AllByRecursion IsOfLibrary xs
    → AllByRecursion IsOfLibrary (cons_option (option_map (λ n. record { class = Lib id; index = n }) o) xs)
library_one id None xs h = h
library_one id (Some k) xs h = (refl, h)

library_all : (classes : List Class) (named : NameAndType) (cs : List ClassId) → AreUndeclared classes named cs
    → AllByRecursion IsOfLibrary (declared_by classes named cs)
library_all classes named [] h = tt
library_all classes named (Prog n ∷ cs) h =
    subst (λ (o : Option MemberAt). AllByRecursion IsOfLibrary (cons_option o (declared_by classes named cs)))
    (sym (no_some _ h.0)) (library_all classes named cs h.1)
library_all classes named (Lib id ∷ cs) h =
    library_one id (declared_at classes (Lib id) named.0 named.1) (declared_by classes named cs)
    (library_all classes named cs h.1)

-- no class of the set declares it
undeclared_all : (classes : List Class) (named : NameAndType)
    → ((n : ℕ) → is_some (declared_in classes named (Prog n)) ≡ false) → (cs : List ClassId)
    → AreUndeclared classes named cs
undeclared_all classes named none [] = tt
undeclared_all classes named none (Prog n ∷ cs) = (none n, undeclared_all classes named none cs)
undeclared_all classes named none (Lib id ∷ cs) = (tt, undeclared_all classes named none cs)

-- ---- the one that runs

found_kept : (p : MemberAt → Bool) (xs : List MemberAt) → AllByRecursion IsOfLibrary xs
    → IfSome (find p xs) IsOfLibrary
found_kept p [] h = tt
found_kept p (x ∷ xs) h = by (p x) (found_kept p xs h.1)
  where
    by : (b : Bool) → IfSome (find p xs) IsOfLibrary → IfSome (cond b (Some x) (find p xs)) IsOfLibrary
    by true r = h.0
    by false r = r

first_kept : (xs : List MemberAt) → AllByRecursion IsOfLibrary xs → IfSome (first xs) IsOfLibrary
first_kept [] h = tt
first_kept (x ∷ xs) h = h.0

one_kept : (b : Bool) (x : MemberAt) (xs : List MemberAt) → IsOfLibrary x → AllByRecursion IsOfLibrary xs
    → AllByRecursion IsOfLibrary (cond b (x ∷ xs) xs)
one_kept true x xs h r = (h, r)
one_kept false x xs h r = r

overriding_kept : (classes : List Class) (m : MemberAt) (xs : List MemberAt) → AllByRecursion IsOfLibrary xs
    → AllByRecursion IsOfLibrary (overriding classes m xs)
overriding_kept classes m [] h = tt
overriding_kept classes m (x ∷ xs) h = one_kept _ x (overriding classes m xs) h.0 (overriding_kept classes m xs h.1)

either_kept : (b : Bool) (one two : Option MemberAt) → IfSome one IsOfLibrary → IfSome two IsOfLibrary
    → IfSome (cond b one two) IsOfLibrary
either_kept true one two h k = h
either_kept false one two h k = k

selected_kept : (classes : List Class) (n : ℕ) (m : MemberAt)
    → AreUndeclared classes (named_at classes m) (superclasses_from classes (Prog n))
    → IfSome (selected classes (Prog n) m) IsOfLibrary
selected_kept classes n m none =
    let alike = library_all classes (named_at classes m) (superclasses_from classes (Prog n)) none in
    either_kept (is_interface_in classes m.class) (first_instance classes (Prog n) (named_at classes m))
    (first (overriding_from classes (Prog n) m))
    (found_kept (is_instance_method classes)
    (declared_by classes (named_at classes m) (superclasses_from classes (Prog n))) alike)
    (first_kept (overriding_from classes (Prog n) m)
    (overriding_kept classes m (declared_by classes (named_at classes m) (superclasses_from classes (Prog n))) alike))

-- ---- it has no number

no_item : (classes : List Class) (c : ClassId) (k : ℕ) → is_program c ≡ false → item_in classes c k ≡ None
no_item classes (Lib id) k e = refl
no_item classes (Prog n) k e = absurd cc

no_number : (classes : List Class) (o : Option MemberAt) → IfSome o IsOfLibrary
    → numbers classes (cons_option (option_map OfMember o) []) ≡ []
no_number classes None h = refl
no_number classes (Some x) h = ap (λ (o : Option ℕ). cons_option o []) (no_item classes x.class x.index h)

none_wanted : (w : Wanted) (items : List Item) → numbers w.classes items ≡ [] → w ≡ wanting w items
none_wanted w items none =
    nothing w ∙ ap (λ (t : List ℕ). record { classes = w.classes; numbers = w.numbers ++ t }) (sym none)

-- nothing is wanted where a method is called that no class of the set among these has
pub outside_run : (w : Wanted) (n : ℕ) (m : MemberAt) (b : Bool)
    → AreUndeclared w.classes (named_at w.classes m) (superclasses_from w.classes (Prog n))
    → w ≡ wanting w (cond b (cons_option (called_item w.classes n m) []) [])
outside_run w n m true none =
    none_wanted w (cons_option (called_item w.classes n m) [])
    (no_number w.classes (selected w.classes (Prog n) m) (selected_kept w.classes n m none))
outside_run w n m false none = nothing w

pub alone_run : (w : Wanted) (n : ℕ) (m : MemberAt) (b : Bool) → IsAlone w.classes m
    → w ≡ wanting w (cond b (cons_option (called_item w.classes n m) []) [])
alone_run w n m b alone =
    outside_run w n m b (undeclared_all w.classes (named_at w.classes m) alone.none (superclasses_from w.classes
    (Prog n)))

-- ---- a walk over the classes above

library_only : (classes : List Class) (named : NameAndType) (k id : ℕ)
    → AreUndeclared classes named (upwards k classes (Lib id))
unfolding upwards
library_only classes named zero id = tt
library_only classes named (suc k) id = (tt, by (super_of id) (λ other. library_only classes named k other))
  where
    by : (o : Option ℕ) → ((other : ℕ) → AreUndeclared classes named (upwards k classes (Lib other)))
        → AreUndeclared classes named (option_map_or (upwards k classes) (option_map Lib o) [])
    by None rest = tt
    by (Some other) rest = rest other

ended : (classes : List Class) (named : NameAndType) (k : ℕ) (o : Option ClassId)
    → IfSome o (λ c. is_program c ≡ false) → AreUndeclared classes named (option_map_or (upwards k classes) o [])
ended classes named k None h = tt
ended classes named k (Some (Lib id)) h = library_only classes named k id
ended classes named k (Some (Prog n)) h = absurd cc

-- one more class has none
one_up : (classes : List Class) (named : NameAndType) (k c : ℕ) (r : Option MemberAt) → 0 < k
    → r ≡ declared_in classes named (Prog c) → is_some r ≡ false
    → AreUndeclared classes named (option_map_or (upwards (k - 1) classes) (superclass classes (Prog c)) [])
    → AreUndeclared classes named (upwards k classes (Prog c))
one_up classes named k c r some is none rest =
    subst (AreUndeclared classes named) (sym (upwards_step k classes (Prog c) some))
    (sym (ap is_some is) ∙ none, rest)

pub undeclared_end : (classes : List Class) (named : NameAndType) (k c : ℕ) (r : Option MemberAt)
    (above : Option ClassId) → 0 < k → r ≡ declared_in classes named (Prog c) → is_some r ≡ false
    → above ≡ superclass classes (Prog c) → IfSome above (λ x. is_program x ≡ false)
    → AreUndeclared classes named (upwards k classes (Prog c))
undeclared_end classes named k c r above some is none up end =
    one_up classes named k c r some is none
    (subst (λ (o : Option ClassId). AreUndeclared classes named (option_map_or (upwards (k - 1) classes) o [])) up
    (ended classes named (k - 1) above end))

pub undeclared_on : (classes : List Class) (named : NameAndType) (k c d : ℕ) (r : Option MemberAt)
    (above : Option ClassId) → 0 < k → r ≡ declared_in classes named (Prog c) → is_some r ≡ false
    → above ≡ superclass classes (Prog c) → above ≡ Some (Prog d)
    → AreUndeclared classes named (upwards (k - 1) classes (Prog d))
    → AreUndeclared classes named (upwards k classes (Prog c))
undeclared_on classes named k c d r above some is none up to rest =
    one_up classes named k c r some is none
    (subst (λ (o : Option ClassId). AreUndeclared classes named (option_map_or (upwards (k - 1) classes) o []))
    (sym to ∙ up) rest)

pub undeclared_stop : (classes : List Class) (named : NameAndType) (k : ℕ) (c : ClassId) → k ≡ 0
    → AreUndeclared classes named (upwards k classes c)
unfolding upwards
undeclared_stop classes named zero c e = tt
undeclared_stop classes named (suc k) c e = absurd (omega (arith, e))

-- ---- how it is found

-- a class that isn't there has no member
past_get : (xs : List Class) (n : ℕ) → length xs ≤ n → slice_get xs n ≡ None
past_get [] n over = refl
past_get (x ∷ xs) zero over = absurd (omega (arith, over))
past_get (x ∷ xs) (suc n) over = past_get xs n (omega (arith, over))

past : (classes : List Class) (named : NameAndType) (n : ℕ) → length classes ≤ n
    → is_some (declared_in classes named (Prog n)) ≡ false
past classes named n over =
    ap (λ (o : Option Class). is_some {T = MemberAt} (option_map (λ (k : ℕ). record { class = Prog n; index = k })
    (option_and_then (λ (c : Class). member_named c named.0 named.1) o))) (past_get classes n over)

pub all_none : (classes : List Class) (named : NameAndType) → AreNone classes named (length classes) → (n : ℕ)
    → is_some (declared_in classes named (Prog n)) ≡ false
all_none classes named none n =
    ⊎_elim (λ low. none n low) (λ over. past classes named n over) (cases_lt n (length classes))

-- ---- a list of flags

pub none_flagged : (classes : List Class) (c : ClassId) (flags : List Bool) → flags ≡ [] → AreAlone classes c flags
none_flagged classes c flags is k e = absurd (let h = sym (ap (λ (t : List Bool). slice_get t k) is) ∙ e in cc)

last_or_before : (xs : List Bool) (b : Bool) (k : ℕ) → slice_get (xs ++ b ∷ []) k ≡ Some false
    → (slice_get xs k ≡ Some false) ⊎ ((k ≡ length xs) × (b ≡ false))
last_or_before [] b zero e = inr (refl, same_Some b false e)
last_or_before [] b (suc k) e = absurd cc
last_or_before (x ∷ xs) b zero e = inl e
last_or_before (x ∷ xs) b (suc k) e =
    ⊎_elim (λ h. inl h) (λ h. inr (ap suc h.0, h.1)) (last_or_before xs b k e)

-- one more flag
pub flag_more : (classes : List Class) (id at : ℕ) (flags new : List Bool) (b : Bool) → AreAlone classes (Lib id) flags
    → length flags ≡ at → (b ≡ false → IsAlone classes (record { class = Lib id; index = at })) → new ≡ flags ++ b ∷ []
    → AreAlone classes (Lib id) new
flag_more classes id at flags new b alone long one put k e =
    ⊎_elim (λ before. alone k before)
    (λ last. subst (λ (i : ℕ). IsAlone classes (record { class = Lib id; index = i })) (sym (last.0 ∙ long))
    (one last.1))
    (last_or_before flags b k (sym (ap (λ (t : List Bool). slice_get t k) put) ∙ e))

-- a member of the class whose flags they are
pub alone_found : (classes : List Class) (object : Option ClassId) (flags given : List Bool) (c : ClassId)
    (m : MemberAt) → ForSome object (λ x. AreAlone classes x flags) → object ≡ Some c
    → same_class c m.class ≡ true → given ≡ flags → slice_get given m.index ≡ Some false → IsAlone classes m
alone_found classes object flags given c m all is same one said =
    subst (λ (x : ClassId). IsAlone classes (record { class = x; index = m.index })) (same_is c m.class same)
    (all c is m.index (subst (λ (t : List Bool). slice_get t m.index ≡ Some false) one said))
