-- Cycles, by marks and by ranks.
use Rattle.std.proofs.Common.{◌≡◌, ⊎_elim, ℕ, ◌<◌, ◌≤◌, Bool, Result, Ok, Err, inl, inr, IsTrue, nat_lt}
use Rattle.std.proofs.Common.{List, ◌∷◌}
use Rattle.std.proofs.Common.{length, slice_get, Option, Some, None, IfSome, sym, ap, subst, ◌∙◌, arith}
use Rattle.std.specs.Prelude.{OnOk}
use Rattle.std.specs.List.{All}
use Rattle.std.proofs.lemmas.Bool.{ltb-true, lt-ltb}
use Rattle.std.proofs.lemmas.Option.{slice_get_cases}
use Rattle.std.proofs.lemmas.List.Elements.{All-weaker}
use Rattle.mark_core.specs.declared.system.System.{System}
use Rattle.mark_core.specs.Marks.{Marks, needs_of, set_of}
use Rattle.class_model.specs.declared.class.Class.{Class}
use Rattle.jv_base.specs.declared.outcome.Or.{Or}
use Rattle.jv_base.specs.declared.outcome.Or.TheVariants.{Fault, OutOfMemory}
use Rattle.class_pool.specs.declared.fault.NamedClass.{NamedClass}
use Rattle.class_pool.specs.declared.fault.PoolFault.{PoolFault}
use Rattle.class_pool.specs.Faults.{Builds, classes_of, first_faults, IsFirstCycle, name_faults}
use Rattle.class_pool.specs.bodies.Faults.{FindsCycle}
use Rattle.class_pool.specs.Faults.{super_faults, then_super_faults}
use Rattle.class_pool.specs.declared.id.ClassId.{ClassId}
use Rattle.class_pool.specs.declared.id.ClassId.TheVariants.{Prog, Lib}
use Rattle.mark_core.specs.Ranks.{IsRanked, IsRankedBefore, NoneRises, rank_of}
use Rattle.class_pool.specs.bodies.Cycles.{PassesHierarchy, PassesNames}
use Rattle.class_pool.specs.bodies.Numbers.{IsHierarchy, above}
use Rattle.class_pool.specs.Ranks.{HasRanks}
use Rattle.class_pool.specs.Supertypes.{IsClosed, IsCyclic, IsProperSub, NoCycle, direct}
use Rattle.class_pool.proofs.Above.{direct_of, direct_none, down, library_up, lifted, no_needs, up}
use Rattle.class_pool.proofs.Ranking.{has_ranks, is_lower}
use Rattle.class_pool.proofs.SupersLaws.{not_itself}

-- a test of numbers that needs keep is, lifted, one that direct supertypes keep
lifted_closed : (classes : List Class) (sys : System) (set : ℕ → Bool) → IsHierarchy classes sys
    → ((n : ℕ) → n < length classes → IsTrue (set n) → All (λ m. IsTrue (set m)) (needs_of sys n))
    → IsClosed classes (lifted set)
lifted_closed classes sys set h keeps (Prog n) has =
    ⊎_elim
    (λ p. subst (All (λ b. IsTrue (lifted set b))) (sym (direct_of classes n p.0 p.2))
    (up classes set (p.0.super_name ∷ p.0.interfaces)
    (subst (All (λ m. IsTrue (set m))) (h.needs n p.0 p.2) (keeps n p.1 has))))
    (λ p. subst (All (λ b. IsTrue (lifted set b))) (sym (direct_none classes n p.1))
    (λ k d within. absurd (omega (arith, within))))
    (slice_get_cases classes n).1
lifted_closed classes sys set h keeps (Lib id) has = library_up classes set id

-- a test of classes that direct supertypes keep is one of numbers that needs keep
dropped_closed : (classes : List Class) (sys : System) (set : ClassId → Bool) → IsHierarchy classes sys
    → IsClosed classes set → (n : ℕ) → IsTrue (set (Prog n))
    → All (λ m. IsTrue (set (Prog m))) (needs_of sys n)
dropped_closed classes sys set h closed n has =
    ⊎_elim
    (λ p. subst (All (λ m. IsTrue (set (Prog m)))) (sym (h.needs n p.0 p.2))
    (down classes set (p.0.super_name ∷ p.0.interfaces)
    (subst (All (λ b. IsTrue (set b))) (direct_of classes n p.0 p.2) (closed (Prog n) has))))
    (λ p. subst (All (λ m. IsTrue (set (Prog m)))) (sym (no_needs classes sys n h p.0))
    (λ k d within. absurd (omega (arith, within))))
    (slice_get_cases classes n).1

-- the marks that begin above a class are its proper supertypes
pub marked_proper : (classes : List Class) (sys : System) (marks : List Bool) (n m : ℕ) (c : Class)
    → IsHierarchy classes sys → slice_get classes n ≡ Some c → sys.seeds ≡ above classes c → Marks sys marks
    → IsTrue (set_of marks m) → IsProperSub classes (Prog n) (Prog m)
marked_proper classes sys marks n m c h is seeds told has set starts closed =
    told.least m has (λ x. set (Prog x)) (record {
      seeds = subst (All (λ x. IsTrue (set (Prog x)))) (sym seeds)
          (down classes set (c.super_name ∷ c.interfaces)
          (subst (All (λ b. IsTrue (set b))) (direct_of classes n c is) starts));
      needs = dropped_closed classes sys set h closed;
      pairs = λ k d within. absurd (omega (arith, within, ap length h.pairs));
    })

pub proper_marked : (classes : List Class) (sys : System) (marks : List Bool) (n m : ℕ) (c : Class)
    → IsHierarchy classes sys → slice_get classes n ≡ Some c → sys.seeds ≡ above classes c → Marks sys marks
    → IsProperSub classes (Prog n) (Prog m) → IsTrue (set_of marks m)
proper_marked classes sys marks n m c h is seeds told proper =
    proper (lifted (set_of marks))
    (subst (All (λ b. IsTrue (lifted (set_of marks) b))) (sym (direct_of classes n c is))
    (up classes (set_of marks) (c.super_name ∷ c.interfaces)
    (subst (All (λ x. IsTrue (set_of marks x))) seeds told.closed.seeds)))
    (lifted_closed classes sys (set_of marks) h (λ x within has. told.closed.needs x has))

-- where no rank rises towards the supertypes, a class that stands above its own is not its own proper supertype
unranked : (classes : List Class) (sys : System) (ranks : List ℕ) (n : ℕ) → IsHierarchy classes sys
    → NoneRises sys.needs ranks → n < length classes
    → All (λ m. rank_of ranks m < rank_of ranks n) (needs_of sys n) → IsCyclic classes n → ⊥
unranked classes sys ranks n h rises within lower cyclic =
    let low : ℕ → Bool = λ m. nat_lt (rank_of ranks m) (rank_of ranks n) in
    let keeps : (x : ℕ) → x < length classes → IsTrue (low x) → All (λ m. IsTrue (low m)) (needs_of sys x) =
    λ x x-in has. All-weaker (λ m. rank_of ranks m ≤ rank_of ranks x) (λ m. IsTrue (low m))
    (λ m no-higher. lt-ltb (rank_of ranks m) (rank_of ranks n)
    (omega (arith, no-higher, ltb-true (rank_of ranks x) (rank_of ranks n) has)))
    (needs_of sys x) (rises x (omega (arith, x-in, h.lists))) in
    let start : All (λ m. IsTrue (low m)) (needs_of sys n) =
    All-weaker (λ m. rank_of ranks m < rank_of ranks n) (λ m. IsTrue (low m))
    (λ m less. lt-ltb (rank_of ranks m) (rank_of ranks n) less) (needs_of sys n) lower in
    let own : IsTrue (low n) =
    ⊎_elim
    (λ p. cyclic (lifted low)
    (subst (All (λ b. IsTrue (lifted low b))) (sym (direct_of classes n p.0 p.2))
    (up classes low (p.0.super_name ∷ p.0.interfaces) (subst (All (λ m. IsTrue (low m))) (h.needs n p.0 p.2) start)))
    (lifted_closed classes sys low h keeps))
    (λ p. absurd (omega (arith, within, p.0)))
    (slice_get_cases classes n).1 in
    let below : rank_of ranks n < rank_of ranks n = ltb-true (rank_of ranks n) (rank_of ranks n) own in
    absurd (omega (arith, below))

-- so none is that comes before the first that doesn't
pub first_of_ranks : (classes : List Class) (sys : System) (ranks : List ℕ) (o : Option ℕ) → IsHierarchy classes sys
    → NoneRises sys.needs ranks → IfSome o (λ first. first < sys.n)
    → IfSome o (λ first. IsRankedBefore first sys.needs ranks)
    → IfSome o (λ first. (m : ℕ) → m < first → IsCyclic classes m → ⊥)
first_of_ranks classes sys ranks (Some first) h rises within falls =
    λ m before cyclic. unranked classes sys ranks m h rises (omega (arith, before, within, h.count))
    (falls m before) cyclic
first_of_ranks classes sys ranks None h rises within falls = falls

-- ranks of the items are ranks of the classes
pub ranked : (classes : List Class) (sys : System) (ranks : List ℕ) → IsHierarchy classes sys
    → IsRanked sys.needs ranks → HasRanks classes
ranked classes sys ranks h falls = has_ranks classes (rank_of ranks) most low
  where
    most : (n : ℕ) → n < length classes → rank_of ranks n ≤ length classes
    most n within = let few = (falls n (omega (arith, within, h.lists))).0 in omega (arith, few, h.lists)

    low : (n : ℕ) → n < length classes → All (λ b. IsTrue (is_lower (rank_of ranks) n b)) (direct classes (Prog n))
    low n within =
        let lower : All (λ m. rank_of ranks m < rank_of ranks n) (needs_of sys n) =
        (falls n (omega (arith, within, h.lists))).1 in
        let tested : All (λ m. IsTrue (nat_lt (rank_of ranks m) (rank_of ranks n))) (needs_of sys n) =
        All-weaker (λ m. rank_of ranks m < rank_of ranks n) (λ m. IsTrue (nat_lt (rank_of ranks m) (rank_of ranks n)))
        (λ m less. lt-ltb (rank_of ranks m) (rank_of ranks n) less) (needs_of sys n) lower in
        ⊎_elim
        (λ p. subst (All (λ b. IsTrue (is_lower (rank_of ranks) n b))) (sym (direct_of classes n p.0 p.2))
        (up classes (λ m. nat_lt (rank_of ranks m) (rank_of ranks n)) (p.0.super_name ∷ p.0.interfaces)
        (subst (All (λ m. IsTrue (nat_lt (rank_of ranks m) (rank_of ranks n)))) (h.needs n p.0 p.2) tested)))
        (λ p. absurd (omega (arith, within, p.0)))
        (slice_get_cases classes n).1

-- where ranks fall, there is no cycle
pub none_cyclic : (classes : List Class) → HasRanks classes → NoCycle classes
none_cyclic classes ranks n within cyclic = not_itself classes ranks (Prog n) within cyclic

-- what is due where the first two rounds have no fault
pub first_are : (files : List NamedClass) (set : List Class) → name_faults files ≡ Ok tt → super_faults set ≡ Ok tt
    → set ≡ classes_of files → first_faults files ≡ Ok tt
first_are files set names supers is = ap (then_super_faults files) names
    ∙ subst (λ (cs : List Class). super_faults cs ≡ Ok tt) is supers

-- what is due where the first round has a fault
pub names_built : (files : List NamedClass) (e : Or PoolFault) → PassesNames files (Err e) → Builds (Err e) files
names_built files (Fault f) names = inl (ap (then_super_faults files) names)
names_built files OutOfMemory names = tt

-- and where another one has
pub hierarchy_built : (files : List NamedClass) (set : List Class) (e : Or PoolFault) → name_faults files ≡ Ok tt
    → set ≡ classes_of files → PassesHierarchy set (Err e) → Builds (Err e) files
hierarchy_built files set (Fault f) names is found =
    ⊎_elim
    (λ supers.
    inl
    (ap (then_super_faults files) names ∙ subst (λ (cs : List Class). super_faults cs ≡ Err f) is supers))
    (λ cycle.
    inr (first_are files set names cycle.0 is, subst (λ (cs : List Class). IsFirstCycle cs f) is cycle.1))
    found
hierarchy_built files set OutOfMemory names is found = tt

-- what the search for cycles finds after a round without fault
pub cycles_passed : (set : List Class) (r : Result (Unit {0}) (Or PoolFault)) → super_faults set ≡ Ok tt
    → FindsCycle set r → OnOk r (HasRanks set) → PassesHierarchy set r
cycles_passed set (Ok t) supers found ranks = (supers, ranks)
cycles_passed set (Err (Fault f)) supers found ranks = inr (supers, found)
cycles_passed set (Err OutOfMemory) supers found ranks = tt
