-- What holds of a list's elements, and of its parts.
use Rattle.std.proofs.Common.{◌≡◌, ℕ, ◌+◌, ◌<◌, List, [], ◌∷◌, ◌++◌}
use Rattle.std.proofs.Common.{subst, rules}
use Rattle.std.specs.List.{All, Contains}
use Rattle.std.proofs.lemmas.List.Elements.{All-weaker, All-contains}
use Rattle.std.proofs.lemmas.List.Elements.{All-contains_itself}
use Rattle.std.proofs.lemmas.List.Elements.{Contains-append_left, Contains-append_right, All-cons}
use Rattle.std.proofs.lemmas.List.Elements.{All-nil, All-map}
use Rattle.std.proofs.lemmas.List.Elements.{All-head, All-tail}
use Rattle.std.specs.Prelude.{Result, Ok, Err, OnOk, Bool, true, false, nat_lt}
use Rattle.std.specs.Prelude.{if◌then◌else◌}
use Rattle.class_model.specs.declared.op.Case.{Case}
use Rattle.class_model.specs.declared.op.Op.{Op}
use Rattle.code_edit.specs.Flow.{goes_elsewhere, next_of, targets}
use Rattle.const_facts.specs.declared.held.Held.{Held}
use Rattle.const_facts.specs.declared.work.Work.{Work}
use Rattle.const_facts.specs.declared.held.Held.TheVariants.{Varies}
use Rattle.const_facts.specs.Order.{AtMost}
use Rattle.const_facts.specs.Worklist.{Flows, Grows, case_targets, held_at}
use Rattle.const_facts.proofs.Lowering.{flows_grow}

module _ {X : Type 0} (P : X → Type 0) where
  pub all_front : (xs ys : List X) → All P (xs ++ ys) → All P xs
  all_front xs ys all = All-weaker (Contains xs) P
      (λ x has. All-contains P (xs ++ ys) x all (Contains-append_left xs ys x has)) xs
      (All-contains_itself xs)

  pub all_back : (xs ys : List X) → All P (xs ++ ys) → All P ys
  all_back xs ys all = All-weaker (Contains ys) P
      (λ x has. All-contains P (xs ++ ys) x all (Contains-append_right xs ys x has)) ys
      (All-contains_itself ys)

  pub all_one : (x : X) → P x → All P (x ∷ [])
  all_one x p = All-cons P x [] p (All-nil P)

-- of the targets of cases
pub cases_from : (P : ℕ → Type 0) (cases : List Case) → All P (case_targets cases)
    → All (λ (k : Case). P k.to) cases
cases_from P [] all = All-nil (λ (k : Case). P k.to)
cases_from P (k ∷ ks) all = All-cons (λ (k : Case). P k.to) k ks
    (All-head P k.to (case_targets ks) all)
    (cases_from P ks (All-tail P k.to (case_targets ks) all))

pub cases_to : (P : ℕ → Type 0) (cases : List Case) → All (λ (k : Case). P k.to) cases
    → All P (case_targets cases)
cases_to P cases all = All-map P (λ (k : Case). k.to) cases all

pub all_flow : (a b : Work) (out : Held) (xs : List ℕ) → Grows a b → All (Flows a out) xs
    → All (Flows b out) xs
all_flow a b out xs grows all = All-weaker (Flows a out) (Flows b out)
    (λ t f. flows_grow a b out t grows f) xs all

first_of : (P : ℕ → Type 0) (b c : Bool) (x : ℕ) → b ≡ false → c ≡ true
    → All P (if b then [] else if c then x ∷ [] else []) → P x
first_of P false true x e f all = All-head P x [] all
first_of P false false x e f all = absurd cc
first_of P true c x e f all = absurd cc

below_tells : (a n : ℕ) → a < n → nat_lt a n ≡ true
below_tells a n lt = search rules

-- the next index, where control goes on there
pub next_there : (P : ℕ → Type 0) (n at : ℕ) (o : Op) → goes_elsewhere o ≡ false → at + 1 < n
    → All P (next_of n at o) → P (at + 1)
next_there P n at o goes lt all =
    first_of P (goes_elsewhere o) (nat_lt (at + 1) n) (at + 1) goes (below_tells (at + 1) n lt) all

pub varies_grow : (a b : Work) (i : ℕ) → Grows a b → held_at a i ≡ Varies → held_at b i ≡ Varies
varies_grow a b i grows e = subst (λ x. AtMost x (held_at b i)) e (grows.falls i)

pub on_ok : {T E : Type 0} {P Q : Type 0} → (P → Q) → (r : Result T E) → OnOk r P → OnOk r Q
on_ok f (Ok x) h = f h
on_ok f (Err e) h = tt

-- an instruction with one target
pub single : (P : ℕ → Type 0) (o v : Op) (to : ℕ) → o ≡ v → targets v ≡ to ∷ [] → All P (targets o)
    → All P (to ∷ [])
single P o v to e t all = subst (All P) t (subst (λ x. All P (targets x)) e all)

pub on_ok2 : {T E : Type 0} {P Q S : Type 0} → (P → Q → S) → (r : Result T E) → OnOk r P → OnOk r Q
    → OnOk r S
on_ok2 f (Ok x) h k = f h k
on_ok2 f (Err e) h k = tt
