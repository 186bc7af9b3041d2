-- Methods that are looked at in parts.
use Rattle.std.proofs.Common.{◌≡◌, ◌≤◌, ◌<◌, ℕ, ◌+◌, List, [], ◌∷◌, ◌++◌, refl, sym, ap, subst, ◌∙◌, arith}
use Rattle.std.proofs.Common.{append_assoc, length, length-append, map, Result, Ok, Err}
use Rattle.std.specs.Borrow.{Bor}
use Rattle.std.specs.List.{All, AllByRecursion, AllZip, flat_map}
use Rattle.std.specs.Prelude.{Contains, IfOk, MatchResult}
use Rattle.std.specs.declared.alloc.Global.{Global}
use Rattle.std.specs.declared.vec.Vec.{Vec}
use Rattle.std.proofs.lemmas.List.{append-nil}
use Rattle.std.proofs.lemmas.List.Elements.{All-cons, All-nil}
use Rattle.rayon.proofs.ToStd.{chunks_of-concat}
use Rattle.rayon.specs.Lists.{chunks_of}
use Rattle.jv_base.proofs.Lists.{all_split}
use Rattle.jv_base.specs.declared.outcome.OutOfMemory.{OutOfMemory}
use Rattle.class_model.specs.declared.class.Class.{Class}
use Rattle.pass_driver.specs.Optimised.{AreDone, code_for, entry_for, fallback_for}
use Rattle.pass_driver.specs.bodies.Parts.{ArePartsDone, CanBeDone, IsPartDone}
use Rattle.pass_driver.specs.bodies.Spotted.{IsSpot}
use Rattle.pass_driver.specs.declared.optimising.NewCode.{NewCode}
use Rattle.pass_driver.specs.declared.optimising.Optimised.{Optimised}
use Rattle.pass_driver.specs.declared.spots.Spot.{Spot}
use Rattle.pass_driver.proofs.Spotting.{few_for}
use Rattle.witness_file.specs.declared.witness.MethodWitness.{MethodWitness}

-- what holds of all elements holds of those of each piece
pub all_pieces : {X : Type 0} (P : X → Type 0) (pieces : List (List X))
    → AllByRecursion P (flat_map (λ (l : List X). l) pieces) → All (AllByRecursion P) pieces
all_pieces P [] h = All-nil (AllByRecursion P)
all_pieces {X} P (p ∷ pieces) h =
    let both = all_split P p (flat_map (λ (l : List X). l) pieces) h in
    All-cons (AllByRecursion P) p pieces both.0 (all_pieces P pieces both.1)

-- ---- what calls in threads gave

all_given : {X Y : Type 0} (E : Type 0) (R : X → Y → Type 0) (xs : List X) (ys : List Y)
    → AllZip (λ (x : X) (r : Result Y E). IfOk r (R x)) xs (map Ok ys) → AllZip R xs ys
all_given E R [] [] h = tt
all_given E R [] (y ∷ ys) h = absurd h
all_given E R (x ∷ xs) [] h = absurd h
all_given E R (x ∷ xs) (y ∷ ys) h = (h.0, all_given E R xs ys h.1)

-- what `collect` gives of results
pub collected : {X Y : Type 0} (E : Type 0) (R : X → Y → Type 0) (xs : List X) (rs : List (Result Y E))
    (all : Result (Vec Y Global) E) → AllZip (λ (x : X) (r : Result Y E). IfOk r (R x)) xs rs
    → MatchResult all (λ (v : Vec Y Global). (ys : List Y) × (rs ≡ map Ok ys) × (v.items ≡ ys))
    (λ (e : E). Contains rs (Err e))
    → IfOk all (λ (v : Vec Y Global). AllZip R xs v.items)
collected {X} {Y} E R xs rs (Ok v) each gives =
    subst (λ (ys : List Y). AllZip R xs ys) (sym gives.2)
    (all_given E R xs gives.0 (subst (λ (l : List (Result Y E)). AllZip (λ (x : X) (r : Result Y E). IfOk r (R x)) xs l)
    gives.1 each))
collected E R xs rs (Err e) each gives = tt

-- what has to hold of a piece of the spots, however a reference shows it
pub pieces_can : (known classes : List Class) (spots : List Spot) (size : ℕ) → 0 < size
    → CanBeDone known classes spots
    → All (λ (v : List Spot). (x : Bor (List Spot)) → x.now ≡ v → CanBeDone known classes x.now) (chunks_of size spots)
pieces_can known classes spots size some can =
    let each = all_pieces (IsSpot classes) (chunks_of size spots)
    (subst (AllByRecursion (IsSpot classes)) (sym (chunks_of-concat size spots some)) can.1) in
    λ k d lt x e. (can.0, subst (AllByRecursion (IsSpot classes)) (sym e) (each k d lt), can.2, can.3)

-- ---- parts

module _ (classes : List Class) where
  -- pieces that were done are parts of the whole
  pub parted : (pieces : List (List Spot)) (parts : List Optimised) → AllZip (IsPartDone classes) pieces parts
      → ArePartsDone classes (flat_map (λ (l : List Spot). l) pieces) parts
  parted [] [] h = refl
  parted [] (o ∷ parts) h = absurd h
  parted (p ∷ pieces) [] h = absurd h
  parted (p ∷ pieces) (o ∷ parts) h =
      (p, flat_map (λ (l : List Spot). l) pieces, refl, h.0, parted pieces parts h.1)

  pub parts_of : (spots : List Spot) (size : ℕ) → 0 < size → (all : Result (Vec Optimised Global) OutOfMemory)
      → IfOk all (λ (v : Vec Optimised Global). AllZip (IsPartDone classes) (chunks_of size spots) v.items)
      → IfOk all (λ (v : Vec Optimised Global). ArePartsDone classes spots v.items)
  parts_of spots size some (Ok v) h =
      subst (λ (l : List Spot). ArePartsDone classes l v.items) (chunks_of-concat size spots some)
      (parted (chunks_of size spots) v.items h)
  parts_of spots size some (Err e) h = tt

  -- no more methods keep their own code than there are
  pub done_few : (spots : List Spot) (codes : List NewCode) (entries : List MethodWitness) (count : ℕ)
      → AreDone classes spots codes entries count → count ≤ length spots
  done_few [] codes entries count h = let none = h.2 in omega (arith, none)
  done_few (s ∷ spots) codes entries count h =
      let one = few_for h.4 in
      let others = done_few spots h.6 h.7 h.8 h.12 in
      let sum = h.11 in
      omega (arith, one, others, sum)

  -- spots, and others behind them
  pub done_both : (spots more : List Spot) (codes : List NewCode) (entries : List MethodWitness) (count : ℕ)
      (later : List NewCode) (behind : List MethodWitness) (rest : ℕ) → AreDone classes spots codes entries count
      → AreDone classes more later behind rest
      → AreDone classes (spots ++ more) (codes ++ later) (entries ++ behind) (count + rest)
  done_both [] more codes entries count later behind rest h k =
      let none : rest ≡ count + rest = let zero = h.2 in omega (arith, zero) in
      subst (λ (n : ℕ). AreDone classes more (codes ++ later) (entries ++ behind) n) none
      (subst (λ (l : List MethodWitness). AreDone classes more (codes ++ later) (l ++ behind) rest) (sym h.1)
      (subst (λ (l : List NewCode). AreDone classes more (l ++ later) behind rest) (sym h.0) k))
  done_both (s ∷ spots) more codes entries count later behind rest h k = (
    h.0,
    h.1,
    h.2,
    h.3,
    h.4,
    h.5,
    h.6 ++ later,
    h.7 ++ behind,
    h.8 + rest,
    ap (λ (l : List NewCode). l ++ later) h.9 ∙ append_assoc (code_for s h.4) h.6 later,
    ap (λ (l : List MethodWitness). l ++ behind) h.10 ∙ append_assoc (entry_for h.0 h.1 h.4) h.7 behind,
    (let sum = h.11 in omega (arith, sum)),
    done_both spots more h.6 h.7 h.8 later behind rest h.12 k,
  )

-- ---- parts joined in order

-- some spots were done, and those of the other parts are the rest
pub record IsJoining (classes : List Class) (spots : List Spot) (o : Optimised) (parts : List Optimised) : Type 0 where
  pub before : List Spot
  pub after : List Spot
  pub are : spots ≡ before ++ after
  pub done : IsPartDone classes before o
  pub others : ArePartsDone classes after parts

pub joins_none : (classes : List Class) (spots : List Spot) (o : Optimised) (parts : List Optimised)
    → IsPartDone classes [] o → ArePartsDone classes spots parts → IsJoining classes spots o parts
joins_none classes spots o parts none h = record { before = []; after = spots; are = refl; done = none; others = h }

module _ (classes : List Class) (spots : List Spot) (o part : Optimised) (parts : List Optimised)
    (j : IsJoining classes spots o (part ∷ parts)) where
  -- both counts together are no more than the spots
  pub joins_few : o.fallback + part.fallback ≤ length spots
  joins_few =
      let one = done_few classes j.before o.codes o.witness.methods o.fallback j.done in
      let two = done_few classes j.others.0 part.codes part.witness.methods part.fallback j.others.3 in
      let all = ap (λ (l : List Spot). length l) j.are ∙ length-append j.before j.after in
      let rest = ap (λ (l : List Spot). length l) j.others.2 ∙ length-append j.others.0 j.others.1 in
      omega (arith, one, two, all, rest)

  pub joins_more : (new : Optimised) → new.codes ≡ o.codes ++ part.codes
      → new.witness.methods ≡ o.witness.methods ++ part.witness.methods → new.fallback ≡ o.fallback + part.fallback
      → IsJoining classes spots new parts
  joins_more new codes entries fallback = record {
    before = j.before ++ j.others.0;
    after = j.others.1;
    are = j.are ∙ ap (λ (l : List Spot). j.before ++ l) j.others.2
        ∙ sym (append_assoc j.before j.others.0 j.others.1);
    done = subst (λ (n : ℕ). AreDone classes (j.before ++ j.others.0) new.codes new.witness.methods n) (sym fallback)
        (subst (λ (l : List MethodWitness). AreDone classes (j.before ++ j.others.0) new.codes l
        (o.fallback + part.fallback)) (sym entries)
        (subst (λ (l : List NewCode). AreDone classes (j.before ++ j.others.0) l
        (o.witness.methods ++ part.witness.methods) (o.fallback + part.fallback)) (sym codes)
        (done_both classes j.before j.others.0 o.codes o.witness.methods o.fallback part.codes part.witness.methods
        part.fallback j.done j.others.3)));
    others = j.others.4;
  }

pub joins_all : (classes : List Class) (spots : List Spot) (o : Optimised) → IsJoining classes spots o []
    → IsPartDone classes spots o
joins_all classes spots o j =
    subst (λ (l : List Spot). IsPartDone classes l o)
    (sym (j.are ∙ ap (λ (l : List Spot). j.before ++ l) j.others ∙ append-nil j.before)) j.done
