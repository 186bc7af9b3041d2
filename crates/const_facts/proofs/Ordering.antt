-- The order of what is known, and what is known where two ways meet.
use Rattle.std.proofs.Common.{◌≡◌, ◌≢◌, ◌+◌, ◌≤◌, ℤ, Bool, true, false, inl, inr, ⊎_elim}
use Rattle.std.proofs.Common.{refl, sym, ap, subst, arith}
use Rattle.std.specs.Prelude.{if◌then◌else◌}
use Rattle.std.specs.Ordering.{int_eq}
use Rattle.std.specs.Cmp.{signed_Decides}
use Rattle.code_edit.specs.declared.change.Change.{Change}
use Rattle.code_edit.specs.declared.change.Change.TheVariants.{Keeps, Becomes, Adds, Clobbers}
use Rattle.const_facts.specs.declared.held.Held.{Held}
use Rattle.const_facts.specs.declared.held.Held.TheVariants.{Unreached, Always, Varies}
use Rattle.const_facts.specs.Order.{AtMost, meet, rank, through}

pub at_most_refl : (a : Held) → AtMost a a
at_most_refl Unreached = tt
at_most_refl (Always a) = inl refl
at_most_refl Varies = refl

pub at_most_same : (a b : Held) → b ≡ a → AtMost a b
at_most_same a b e = subst (λ x. AtMost a x) (sym e) (at_most_refl a)

pub at_most_trans : (a b c : Held) → AtMost a b → AtMost b c → AtMost a c
at_most_trans Unreached b c h k = tt
at_most_trans (Always a) b c h k =
    ⊎_elim (λ e. subst (λ x. AtMost x c) e k) (λ e. inr (subst (λ x. AtMost x c) e k)) h
at_most_trans Varies b c h k = subst (λ x. AtMost x c) h k

met_one : (a : ℤ) (t : Bool) → AtMost (Always a) (if t then Always a else Varies)
met_one a true = inl refl
met_one a false = inr refl

met_other : (a b : ℤ) (t : Bool) → (t ≡ true → a ≡ b)
    → AtMost (Always b) (if t then Always a else Varies)
met_other a b true same = inl (ap (λ x. Always x) (same refl))
met_other a b false same = inr refl

met_least : (a b c : ℤ) (t : Bool) → (a ≡ b → t ≡ true) → Always c ≡ Always a → Always c ≡ Always b
    → AtMost (if t then Always a else Varies) (Always c)
met_least a b c true same one other = inl one
met_least a b c false same one other =
    let e : a ≡ b = (cc) in let f : false ≡ true = same e in cc

pub meet_one : (a b : Held) → AtMost a (meet a b)
meet_one Unreached b = tt
meet_one (Always a) Unreached = inl refl
meet_one (Always a) (Always b) = met_one a (int_eq a b)
meet_one (Always a) Varies = inr refl
meet_one Varies b = refl

pub meet_other : (a b : Held) → AtMost b (meet a b)
meet_other Unreached b = at_most_refl b
meet_other (Always a) Unreached = tt
meet_other (Always a) (Always b) = met_other a b (int_eq a b) (signed_Decides a b).0
meet_other (Always a) Varies = refl
meet_other Varies Unreached = tt
meet_other Varies (Always b) = inr refl
meet_other Varies Varies = refl

-- what neither way rules out isn't ruled out where they meet
pub meet_least : (a b : Held) (c : ℤ) → AtMost a (Always c) → AtMost b (Always c)
    → AtMost (meet a b) (Always c)
meet_least Unreached b c one other = other
meet_least (Always a) Unreached c one other = one
meet_least (Always a) (Always b) c one other =
    ⊎_elim
    (λ e. ⊎_elim (λ f. met_least a b c (int_eq a b) (signed_Decides a b).1 e f)
    (λ f. absurd (cc)) other)
    (λ e. absurd (cc)) one
meet_least (Always a) Varies c one other = absurd (cc)
meet_least Varies b c one other = one

pub meet_known : (a b : Held) → b ≢ Unreached → meet a b ≢ Unreached
meet_known a b known e =
    let h : AtMost b Unreached = subst (λ x. AtMost b x) e (meet_other a b) in
    below_unreached b h known
  where
    below_unreached : (x : Held) → AtMost x Unreached → x ≢ Unreached → ⊥
    below_unreached Unreached k n = n refl
    below_unreached (Always z) k n = ⊎_elim (λ f. (cc)) (λ f. (cc)) k
    below_unreached Varies k n = (cc)

-- what falls has a lower rank
pub rank_falls : (a b : Held) → AtMost a b → a ≢ b → rank b + 1 ≤ rank a
rank_falls Unreached Unreached h n = absurd (n refl)
rank_falls Unreached (Always b) h n = omega arith
rank_falls Unreached Varies h n = omega arith
rank_falls (Always a) b h n =
    ⊎_elim (λ e. absurd (n (sym e))) (λ e. subst (λ x. rank x + 1 ≤ 1) (sym e) (omega arith)) h
rank_falls Varies b h n = absurd (n (sym h))

-- what was known stays known
pub stays_known : (a b : Held) → a ≢ Unreached → AtMost a b → b ≢ Unreached
stays_known Unreached b n h = absurd (n refl)
stays_known (Always a) b n h = λ e. ⊎_elim (λ f. (cc)) (λ f. (cc)) h
stays_known Varies b n h = λ e. (cc)

pub through_known : (ch : Change) (a : Held) → a ≢ Unreached → through ch a ≢ Unreached
through_known Keeps a n = n
through_known (Becomes v) a n = λ e. (cc)
through_known (Adds k) Unreached n = n
through_known (Adds k) (Always a) n = λ e. (cc)
through_known (Adds k) Varies n = n
through_known Clobbers a n = λ e. (cc)
