-- The same files are never taken as two sets, nor refused for two faults, nor both.
use Rattle.std.proofs.Common.{◌≡◌, ⊎_elim, inl, inr, ℕ, ◌+◌, ◌<◌, List, [], ◌∷◌, ◌++◌, length, slice_get}
use Rattle.std.proofs.Common.{Option, Some, None, Result, Ok, Err, refl, sym, ap, subst, ◌∙◌, arith}
use Rattle.std.specs.List.{AllByRecursion}
use Rattle.std.proofs.lemmas.Bool.{cases_lt}
use Rattle.std.proofs.lemmas.Option.{slice_get_within}
use Rattle.jv_base.specs.declared.outcome.Or.TheVariants as or
use Rattle.jv_base.proofs.Options.{one_value}
use Rattle.jv_base.proofs.Lists.{heads, tails}
use Rattle.tree_io.specs.declared.file_at.FileAt.{FileAt}
use Rattle.format_reading.specs.declared.fault.FormatFault.{FormatFault}
use Rattle.class_model.specs.ReadingClass.{class_read}
use Rattle.class_model.specs.declared.class.Class.{Class}
use Rattle.class_pool.specs.Faults.{Builds, IsFirstCycle, classes_of, first_faults}
use Rattle.class_pool.specs.Supertypes.{NoCycle}
use Rattle.class_pool.specs.declared.fault.NamedClass.{NamedClass}
use Rattle.class_pool.specs.declared.fault.PoolFault.{PoolFault}
use Rattle.class_pool.specs.declared.fault.PoolKind.TheVariants.{Cycle}
use Rattle.class_laws.proofs.ClassLaw.{class_read-only, one_class}
use Rattle.link_check.specs.Profile.{links_checked}
use Rattle.link_check.specs.declared.fault.ProfileFault.{ProfileFault}
use Rattle.report_text.specs.Spelled.{class_text, member_texts}
use Rattle.type_verifier.proofs.SetLaw.{one_set_fault, set_apart}
use Rattle.type_verifier.specs.Verified.{AreTyped}
use Rattle.type_verifier.specs.declared.fault.TypeFault.{TypeFault}
use Rattle.set_read.specs.Accepted.{AreRead, BreaksClassRule, BreaksRule, IsClassFile, IsUnread, NamesMember}
use Rattle.set_read.specs.Accepted.{NamesMethod, NamesPlace, Spells, named_pool_fault}
use Rattle.set_read.specs.OneSet.{IsOneFault, IsOneSet, NotBoth}
use Rattle.set_read.specs.declared.fault.RuleFault.{RuleFault}
use Rattle.set_read.specs.declared.fault.SetFault.{SetFault}
use Rattle.set_read.specs.declared.fault.SetFault.TheVariants.{Format, Rule}

-- ---- results

same_fault : {V X : Type 0} (r : Result V X) (x y : X) → r ≡ Err x → r ≡ Err y → x ≡ y
same_fault r x y h k = cc

no_fault : {V X : Type 0} (r : Result V X) (v : V) (x : X) → r ≡ Ok v → r ≡ Err x → ⊥
no_fault r v x h k = absurd cc

-- ---- the classes of files

same_class : (f : FileAt) (one other : NamedClass) → Spells f one → Spells f other → one ≡ other
same_class f one other h k =
    let path : one.path ≡ other.path = h.0 ∙ sym k.0 in
    let class : one.class ≡ other.class = one_class f.bytes one.class other.class h.1 k.1 in
    λ i. record { path = path i; class = class i }

-- files spell one list of classes at most
same_classes : (files : List FileAt) (one other : List NamedClass) → AreRead files one → AreRead files other
    → one ≡ other
same_classes [] [] [] h k = refl
same_classes (f ∷ files) (n ∷ one)
    (m ∷ other) h k = λ i. same_class f n m h.0 k.0 i ∷ same_classes files one other h.1 k.1 i
same_classes [] (n ∷ one) other h k = absurd h
same_classes [] [] (m ∷ other) h k = absurd k
same_classes (f ∷ files) [] other h k = absurd h
same_classes (f ∷ files) (n ∷ one) [] h k = absurd k

-- ---- the first file that spells no class

-- a file at which reading ends with a fault spells no class
spells_none : (f : FileAt) (fault : FormatFault) → class_read f.bytes ≡ Err fault → IsClassFile f → ⊥
spells_none f fault h k = no_fault (class_read f.bytes) k.0 fault (class_read-only f.bytes k.0 k.1) h

-- the first element that isn't of a kind is one
first_one : {X : Type 0} (P : X → Type 0) (before : List X) (x : X) (after others : List X) (y : X) (rest : List X)
    → before ++ x ∷ after ≡ others ++ y ∷ rest → AllByRecursion P before → AllByRecursion P others → (P x → ⊥)
    → (P y → ⊥) → x ≡ y
first_one P [] x after [] y rest e h k no_x no_y = heads x y after rest e
first_one P (b ∷ before) x after [] y rest e h k no_x no_y = absurd (no_y (subst P (heads b y _ rest e) h.0))
first_one P [] x after (o ∷ others) y rest e h k no_x no_y = absurd (no_x (subst P (sym (heads x o after _ e)) k.0))
first_one P (b ∷ before) x after (o ∷ others) y rest e h k no_x no_y =
    first_one P before x after others y rest (tails b o _ _ e) h.1 k.1 no_x no_y

same_file : (files : List FileAt) (path other : List ℕ) (fault second : FormatFault) → (h : IsUnread files path fault)
    → (k : IsUnread files other second) → h.file ≡ k.file
same_file files path other fault second h k =
    first_one IsClassFile h.before h.file h.after k.before k.file k.after (sym h.split ∙ k.split) h.readable k.readable
    (spells_none h.file fault h.unread) (spells_none k.file second k.unread)

same_unread : (files : List FileAt) (path other : List ℕ) (fault second : FormatFault) → IsUnread files path fault
    → IsUnread files other second
    → (let F : SetFault = Format path fault in F) ≡ Format other second
same_unread files path other fault second h k =
    let file = same_file files path other fault second h k in
    let paths : path ≡ other = h.named ∙ (ap (λ (f : FileAt). f.path) file ∙ sym k.named) in
    let faults : fault ≡ second =
    same_fault (class_read k.file.bytes) fault second
    (ap (λ (f : FileAt). class_read f.bytes) (sym file) ∙ h.unread) k.unread in
    λ i. Format (paths i) (faults i)

-- files of which each spells a class
one_spelled : (before : List FileAt) (f : FileAt) (after : List FileAt) (named : List NamedClass)
    → AreRead (before ++ f ∷ after) named
    → IsClassFile f
one_spelled [] f after (n ∷ named) h = (n.class, h.0.1)
one_spelled (b ∷ before) f after (n ∷ named) h = one_spelled before f after named h.1
one_spelled [] f after [] h = absurd h
one_spelled (b ∷ before) f after [] h = absurd h

not_unread : (files : List FileAt) (named : List NamedClass) (path : List ℕ) (fault : FormatFault) → AreRead files named
    → IsUnread files path fault → ⊥
not_unread files named path fault read h =
    spells_none h.file fault h.unread
    (one_spelled h.before h.file h.after named (subst (λ (fs : List FileAt). AreRead fs named) h.split read))

-- ---- the rules that make classes a set

abbrev fault_of_cycle : Class → PoolFault
fault_of_cycle c = record { class = c.name; kind = Cycle }

same_cycle : (classes : List Class) (fault other : PoolFault) → IsFirstCycle classes fault → IsFirstCycle classes other
    → fault ≡ other
same_cycle classes fault other (n, c, at, is, cyclic, least) (m, d, there, named, again, first) =
    let number : n ≡ m = ⊎_elim (λ (low : n < m). absurd (first n low cyclic))
    (λ high. ⊎_elim (λ (low : m < n). absurd (least m low again)) (λ also. omega (arith, high, also)) (cases_lt m n))
    (cases_lt n m) in
    let class : c ≡ d = one_value (slice_get classes m) c d (ap (slice_get classes) (sym number) ∙ at) there in
    is ∙ (ap fault_of_cycle class ∙ sym named)

-- a set of classes that has no fault has none
no_pool_fault : (named : List NamedClass) (fault : PoolFault) → first_faults named ≡ Ok tt → NoCycle (classes_of named)
    → Builds (Err (or.Fault fault)) named → ⊥
no_pool_fault named fault first acyclic (inl e) = no_fault (first_faults named) tt fault first e
no_pool_fault named fault first acyclic (inr (ok, (n, c, at, is, cyclic, least))) =
    acyclic n (slice_get_within (classes_of named) n c at) cyclic

same_pool_fault : (named : List NamedClass) (fault other : PoolFault) → Builds (Err (or.Fault fault)) named
    → Builds (Err (or.Fault other)) named → fault ≡ other
same_pool_fault named fault other (inl e) (inl d) = same_fault (first_faults named) fault other e d
same_pool_fault named fault other (inl e) (inr d) = absurd (no_fault (first_faults named) tt fault d.0 e)
same_pool_fault named fault other (inr e) (inl d) = absurd (no_fault (first_faults named) tt other e.0 d)
same_pool_fault named fault other (inr e) (inr d) = same_cycle (classes_of named) fault other e.1 d.1

-- ---- the rules for the classes of a set

same_member : (c : Class) (number : Option ℕ) (one other : Option (List ℕ)) → NamesMember c number one
    → NamesMember c number other
    → one ≡ other
same_member c None None None h k = refl
same_member c (Some n) (Some one) (Some other) h k = ap Some (one_value (slice_get (member_texts c) n) one other h k)
same_member c None (Some one) other h k = absurd h
same_member c None None (Some other) h k = absurd k
same_member c (Some n) None other h k = absurd h
same_member c (Some n) (Some one) None h k = absurd k

same_place : (classes : List Class) (fault : ProfileFault) (one other : RuleFault) → NamesPlace classes fault one
    → NamesPlace classes fault other → one ≡ other
same_place classes fault one other h k =
    let class : h.class ≡ k.class = one_value (slice_get classes fault.class) h.class k.class h.there k.there in
    let name : one.class ≡ other.class = h.name ∙ (ap class_text class ∙ sym k.name) in
    let member : one.member ≡ other.member =
    same_member k.class fault.member one.member other.member
    (subst (λ (c : Class). NamesMember c fault.member one.member) class h.member) k.member in
    let kind : one.kind ≡ other.kind = h.kind ∙ sym k.kind in
    λ i. record { class = name i; member = member i; kind = kind i }

same_method : (classes : List Class) (fault : TypeFault) (one other : RuleFault) → NamesMethod classes fault one
    → NamesMethod classes fault other → one ≡ other
same_method classes fault one other h k =
    let class : h.class ≡ k.class = one_value (slice_get classes fault.class) h.class k.class h.there k.there in
    let name : one.class ≡ other.class = h.name ∙ (ap class_text class ∙ sym k.name) in
    let member : one.member ≡ other.member =
    same_member k.class (Some (length k.class.fields + fault.method)) one.member other.member
    (subst (λ (c : Class). NamesMember c (Some (length c.fields + fault.method)) one.member) class h.member) k.member in
    let kind : one.kind ≡ other.kind = h.kind ∙ sym k.kind in
    λ i. record { class = name i; member = member i; kind = kind i }

-- a set breaks one rule for its classes first
same_class_rule : (classes : List Class) (one other : RuleFault) → BreaksClassRule classes one
    → BreaksClassRule classes other → one ≡ other
same_class_rule classes one other (inl h) (inl k) =
    let fault : h.0 ≡ k.0 = same_fault (links_checked classes) h.0 k.0 h.1 k.1 in
    same_place classes k.0 one other (subst (λ (f : ProfileFault). NamesPlace classes f one) fault h.2) k.2
same_class_rule classes one other (inl h) (inr k) = absurd (no_fault (links_checked classes) tt h.0 k.1 h.1)
same_class_rule classes one other (inr h) (inl k) = absurd (no_fault (links_checked classes) tt k.0 h.1 k.1)
same_class_rule classes one other (inr h) (inr k) =
    let fault : h.0 ≡ k.0 = one_set_fault classes h.0 k.0 h.2 k.2 in
    same_method classes k.0 one other (subst (λ (f : TypeFault). NamesMethod classes f one) fault h.3) k.3

-- the classes break one rule first
same_rule : (named : List NamedClass) (one other : RuleFault) → BreaksRule named one → BreaksRule named other
    → one ≡ other
same_rule named one other (inl h) (inl k) = h.2
    ∙ (ap named_pool_fault (same_pool_fault named h.0 k.0 h.1 k.1) ∙ sym k.2)
same_rule named one other (inl h) (inr k) = absurd (no_pool_fault named h.0 k.0.0 k.0.1 h.1)
same_rule named one other (inr h) (inl k) = absurd (no_pool_fault named k.0 h.0.0 h.0.1 k.1)
same_rule named one other (inr h) (inr k) = same_class_rule (classes_of named) one other h.1 k.1

-- ---- the laws

pub one_set : IsOneSet
one_set files classes other h k = h.are ∙ (ap classes_of (same_classes files h.named k.named h.read k.read) ∙ sym k.are)

pub one_fault : IsOneFault
one_fault files (Format path fault) (Format other second) h k = same_unread files path other fault second h k
one_fault files (Format path fault) (Rule told) h k = absurd (not_unread files k.0 path fault k.1 h)
one_fault files (Rule told) (Format path fault) h k = absurd (not_unread files h.0 path fault h.1 k)
one_fault files (Rule told) (Rule other) h k =
    let named : h.0 ≡ k.0 = same_classes files h.0 k.0 h.1 k.1 in
    ap Rule (same_rule k.0 told other (subst (λ (n : List NamedClass). BreaksRule n told) named h.2) k.2)

class_rule_broken : (classes : List Class) (told : RuleFault) → links_checked classes ≡ Ok tt → AreTyped classes
    → BreaksClassRule classes told → ⊥
class_rule_broken classes told linked typed (inl h) = no_fault (links_checked classes) tt h.0 linked h.1
class_rule_broken classes told linked typed (inr h) = set_apart classes h.0 typed h.2

rule_broken : (named : List NamedClass) (told : RuleFault) → first_faults named ≡ Ok tt → NoCycle (classes_of named)
    → links_checked (classes_of named) ≡ Ok tt → AreTyped (classes_of named) → BreaksRule named told → ⊥
rule_broken named told first acyclic linked typed (inl h) = no_pool_fault named h.0 first acyclic h.1
rule_broken named told first acyclic linked typed (inr h) = class_rule_broken (classes_of named) told linked typed h.1

pub not_both : NotBoth
not_both files classes (Format path fault) h k = not_unread files h.named path fault h.read k
not_both files classes (Rule told) h k =
    let named : k.0 ≡ h.named = same_classes files k.0 h.named k.1 h.read in
    rule_broken h.named told h.first (subst NoCycle h.are h.acyclic)
    (subst (λ (cs : List Class). links_checked cs ≡ Ok tt) h.are h.linked) (subst AreTyped h.are h.typed)
    (subst (λ (n : List NamedClass). BreaksRule n told) named k.2)
