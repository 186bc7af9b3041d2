-- The worklist after something new is known at one index.
use Rattle.std.proofs.Common.{◌≡◌, ◌≢◌, ◌⊎◌, ℕ, ◌+◌, ◌<◌, ◌≤◌, IsTrue, [], ◌∷◌, ◌++◌}
use Rattle.std.proofs.Common.{length, get_or}
use Rattle.std.proofs.Common.{set, inl, inr, ⊎_elim, refl, subst, sym, ◌∙◌, ap, arith, length-set}
use Rattle.std.proofs.Common.{get_or-set_same, get_or-set_other}
use Rattle.std.proofs.lemmas.Bool.{cases_eq}
use Rattle.std.proofs.lemmas.List.{length_push}
use Rattle.std.specs.List.{All, Contains, sum_by}
use Rattle.std.proofs.lemmas.List.Elements.{All-push, All-weaker, Contains-append_left}
use Rattle.std.proofs.lemmas.List.Elements.{Contains-push}
use Rattle.std.proofs.lemmas.List.Sums.{sum_by-set}
use Rattle.class_model.specs.declared.code.Code.{Code}
use Rattle.const_facts.specs.declared.held.Held.{Held}
use Rattle.const_facts.specs.declared.held.Held.TheVariants.{Unreached, Always}
use Rattle.const_facts.specs.declared.work.Work.{Work}
use Rattle.const_facts.specs.Order.{AtMost, meet, rank}
use Rattle.const_facts.specs.Worklist.{Due, Flows, Grows, IsAbove, Waits, held_at}
use Rattle.const_facts.proofs.Ordering.{at_most_same, at_most_trans, meet_known, meet_least}
use Rattle.const_facts.proofs.Ordering.{meet_one, meet_other}
use Rattle.const_facts.proofs.Ordering.{rank_falls, stays_known}

pub grows_trans : (a b c : Work) → Grows a b → Grows b c → Grows a c
grows_trans a b c first then = record {
  falls = λ i. at_most_trans (held_at a i) (held_at b i) (held_at c i) (first.falls i)
      (then.falls i);
  waits = λ i w. then.waits i (first.waits i w);
  fresh = λ i. ⊎_elim (λ e. ⊎_elim (λ f. inl (e ∙ f)) (λ f. inr (then.waits i f)) (first.fresh i))
      inr (then.fresh i);
  left = omega (arith, first.left, then.left);
}

pub grows_refl : (a : Work) → Grows a a
grows_refl a = record {
  falls = λ i. at_most_same (held_at a i) (held_at a i) refl;
  waits = λ i w. w;
  fresh = λ i. inl refl;
  left = omega arith;
}

pub flows_grow : (a b : Work) (out : Held) (to : ℕ) → Grows a b → Flows a out to → Flows b out to
flows_grow a b out to grows flows = at_most_trans out (held_at a to) (held_at b to) flows
    (grows.falls to)

module _ (code : Code) (slot : ℕ) (old new : Work) (to : ℕ) (out now : Held)
    (above : IsAbove code slot old) (lt : to < length code.ins)
    (held : new.held.items ≡ set old.held.items to now)
    (waiting : new.waiting.items ≡ old.waiting.items ++ to ∷ [])
    (is : now ≡ meet (held_at old to) out) (known : out ≢ Unreached) where
  inside : to < length old.held.items
  inside = subst (λ k. to < k) (sym above.count) lt

  there : held_at new to ≡ now
  there = ap (λ l. get_or l to Unreached) held
      ∙ get_or-set_same old.held.items to now Unreached inside

  cases : (i : ℕ) → ((i ≡ to) × (held_at new i ≡ now)) ⊎ (held_at new i ≡ held_at old i)
  cases i = ⊎_elim
      (λ same. inl (same, subst (λ k. held_at new k ≡ now) (sym same) there))
      (λ other. inr (ap (λ l. get_or l i Unreached) held
      ∙ get_or-set_other old.held.items to i now Unreached other))
      (cases_eq i to)

  at_now : AtMost (held_at old to) now
  at_now = subst (λ x. AtMost (held_at old to) x) (sym is) (meet_one (held_at old to) out)

  falls : (i : ℕ) → AtMost (held_at old i) (held_at new i)
  falls i = ⊎_elim
      (λ p. subst (λ x. AtMost (held_at old i) x) (sym p.1)
      (subst (λ k. AtMost (held_at old k) now) (sym p.0) at_now))
      (λ e. at_most_same (held_at old i) (held_at new i) e)
      (cases i)

  waits : (i : ℕ) → Waits old i → Waits new i
  waits i w = subst (λ l. Contains l i) (sym waiting)
      (Contains-append_left old.waiting.items (to ∷ []) i w)

  waits_itself : Waits new to
  waits_itself = subst (λ l. Contains l to) (sym waiting) (Contains-push old.waiting.items to)

  now_known : now ≢ Unreached
  now_known e = meet_known (held_at old to) out known (sym is ∙ e)

  pub lowered_above : Due code slot out to → IsAbove code slot new
  lowered_above due = record {
    count = ap length held ∙ (length-set old.held.items to now ∙ above.count);
    below = subst (λ l. All (λ i. i < length code.ins) l) (sym waiting)
        (All-push (λ i. i < length code.ins) old.waiting.items to above.below lt);
    known = subst (λ l. All (λ i. held_at new i ≢ Unreached) l) (sym waiting)
        (All-push (λ i. held_at new i ≢ Unreached) old.waiting.items to
        (All-weaker (λ i. held_at old i ≢ Unreached) (λ i. held_at new i ≢ Unreached)
        (λ i k. stays_known (held_at old i) (held_at new i) k (falls i)) old.waiting.items
        above.known)
        (λ e. now_known (sym there ∙ e)));
    due = λ i facts supported c fact. ⊎_elim
        (λ p. subst (λ x. AtMost x (Always c)) (sym (p.1 ∙ is))
        (meet_least (held_at old to) out c
        (above.due to facts supported c (subst (λ k. IsTrue (facts k c)) p.0 fact))
        (due facts supported c (subst (λ k. IsTrue (facts k c)) p.0 fact))))
        (λ e. subst (λ x. AtMost x (Always c)) (sym e) (above.due i facts supported c fact))
        (cases i);
  }

  pub lowered_grows : held_at old to ≢ now → Grows old new
  lowered_grows other = record {
    falls = falls;
    waits = waits;
    fresh = λ i. ⊎_elim (λ p. inr (subst (λ k. Waits new k) (sym p.0) waits_itself)) inl (cases i);
    left =
        let moved : sum_by rank (set old.held.items to now) + rank (held_at old to)
        ≡ sum_by rank old.held.items + rank now = sum_by-set rank old.held.items to now Unreached
        inside in
        let sums : sum_by rank new.held.items ≡ sum_by rank (set old.held.items to now) = ap
        (sum_by rank) held in
        let less : rank now + 1 ≤ rank (held_at old to) = rank_falls
        (held_at old to) now at_now other in
        let longer : length new.waiting.items ≡ length old.waiting.items + 1 = ap length waiting
        ∙ length_push old.waiting.items to in
        omega (arith, moved, sums, less, longer);
  }

  pub lowered_flows : Flows new out to
  lowered_flows = subst (λ x. AtMost out x) (sym (there ∙ is)) (meet_other (held_at old to) out)
