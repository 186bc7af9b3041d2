-- Pairs that are counted while they grow, and those of the classes above a class, one by one.
use Rattle.std.proofs.Common.{◌≡◌, ℕ, zero, suc, ◌<◌, ◌≤◌, Bool, true, false, cond, List, [], ◌∷◌, ◌++◌, length}
use Rattle.std.proofs.Common.{map, get_or, take, refl, sym, ap, subst, ◌∙◌, arith, append_assoc, append-nil, ◌+◌, ◌==◌}
use Rattle.std.specs.List.{filter, filter_map, flat_map}
use Rattle.std.proofs.lemmas.Bool.{eqb-true}
use Rattle.std.proofs.lemmas.List.{map_push}
use Rattle.std.proofs.lemmas.List.Concat.{flat_map-append}
use Rattle.mark_core.specs.declared.system.Pair.{Pair}
use Rattle.class_model.specs.Flags.{is_interface}
use Rattle.class_model.specs.declared.class.Class.{Class}
use Rattle.class_pool.specs.declared.id.ClassId.{ClassId}
use Rattle.class_pool.specs.declared.id.ClassId.TheVariants.{Prog}
use Rattle.require_sys.specs.Requires.{class_pairs, is_inheritable, members_of, program_supers}
use Rattle.require_sys.proofs.Steps.{more_of}
use Rattle.item_numbers.specs.bodies.Selecting.{pair_with, pairs_in}
use Rattle.item_numbers.specs.bodies.Tops.{IsTop}
use Rattle.item_numbers.proofs.SupersLaw.{flat_of}
use Rattle.override_pairs.specs.bodies.Counting.{AddsPairs, HasPairs}
use Rattle.override_pairs.specs.declared.pairs.Pairs.{Pairs}

-- ---- one step after the other

pub no_pair : (old : Pairs) → AddsPairs old [] old
no_pair old due h = subst (λ (t : List Pair). HasPairs t old) (sym (append-nil due)) h

pub both_pairs : (old now new : Pairs) (a b : List Pair) → AddsPairs old a now → AddsPairs now b new
    → AddsPairs old (a ++ b) new
both_pairs old now new a b first second due h =
    subst (λ (t : List Pair). HasPairs t new) (append_assoc due a b) (second (due ++ a) (first due h))

-- ---- the classes above a class, one by one

pub one_above : {Y : Type 0} (g : ClassId → List Y) (xs : List ℕ) (i x : ℕ) → i < length xs → x ≡ get_or xs i x
    → flat_map g (map Prog (take (i + 1) xs)) ≡ flat_map g (map Prog (take i xs)) ++ g (Prog x)
one_above g xs i x lt at =
    ap (λ (t : List ℕ). flat_map g (map Prog t)) (more_of xs i x lt at)
    ∙ ap (flat_map g) (map_push Prog (take i xs) x)
    ∙ flat_map-append g (map Prog (take i xs)) (Prog x ∷ [])
    ∙ ap (λ t. flat_map g (map Prog (take i xs)) ++ t) (append-nil (g (Prog x)))

pub pairs_more : (classes : List Class) (n t : ℕ) (xs : List ℕ) (i x : ℕ) (old now new : Pairs) → i < length xs
    → x ≡ get_or xs i x → AddsPairs old (flat_map (pairs_in classes n t) (map Prog (take i xs))) now
    → AddsPairs now (pairs_in classes n t (Prog x)) new
    → AddsPairs old (flat_map (pairs_in classes n t) (map Prog (take (i + 1) xs))) new
pairs_more classes n t xs i x old now new lt at so_far one =
    subst (λ (ps : List Pair). AddsPairs old ps new) (sym (one_above (pairs_in classes n t) xs i x lt at))
    (both_pairs old now new (flat_map (pairs_in classes n t) (map Prog (take i xs)))
    (pairs_in classes n t (Prog x)) so_far one)

taken : (xs : List ℕ) (i : ℕ) → length xs ≤ i → take i xs ≡ xs
taken [] zero over = refl
taken [] (suc i) over = refl
taken (x ∷ xs) zero over = absurd (omega (arith, over))
taken (x ∷ xs) (suc i) over = ap (λ t. x ∷ t) (taken xs i (omega (arith, over)))

pub pairs_all : (classes : List Class) (n t : ℕ) (xs : List ℕ) (i : ℕ) (old new : Pairs) → length xs ≤ i
    → AddsPairs old (flat_map (pairs_in classes n t) (map Prog (take i xs))) new
    → AddsPairs old (flat_map (pairs_in classes n t) (map Prog xs)) new
pairs_all classes n t xs i old new over all =
    subst (λ (ys : List ℕ). AddsPairs old (flat_map (pairs_in classes n t) (map Prog ys)) new) (taken xs i over) all

pub none_above : {Y : Type 0} (g : ClassId → List Y) (xs : List ℕ) (b : Bool) → b ≡ (length xs == 0) → b ≡ true
    → [] ≡ flat_map g (map Prog xs)
none_above g [] b is none = refl
none_above g (x ∷ xs) b is none =
    absurd (let e = eqb-true (length (x ∷ xs)) 0 (sym is ∙ none) in omega (arith, e))

pub class_is : (classes : List Class) (n t : ℕ) (c : Class) (numbers : List ℕ) → is_interface c.flags.0 ≡ false
    → IsTop classes n t → map Prog numbers ≡ program_supers classes (Prog t)
    → flat_map (pairs_in classes n t) (map Prog numbers) ≡ class_pairs classes (n, c)
class_is classes n t c numbers class top same =
    ap (flat_map (pairs_in classes n t)) same
    ∙ flat_of (pair_with classes n t) (is_inheritable classes) (members_of classes) (program_supers classes (Prog t))
    ∙ sym (top.pairs n)
    ∙ sym (ap (λ (b : Bool). cond b [] (filter_map (pair_with classes n n) (filter (is_inheritable classes)
    (flat_map (members_of classes) (program_supers classes (Prog n)))))) class)

pub interface_is : (classes : List Class) (n : ℕ) (c : Class) → is_interface c.flags.0 ≡ true
    → [] ≡ class_pairs classes (n, c)
interface_is classes n c is =
    sym (ap (λ (b : Bool). cond b [] (filter_map (pair_with classes n n) (filter (is_inheritable classes)
    (flat_map (members_of classes) (program_supers classes (Prog n)))))) is)
