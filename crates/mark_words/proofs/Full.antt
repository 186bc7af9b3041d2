-- What a view knows that stands for all seats.
use Rattle.std.proofs.Common.{◌≡◌, ℕ, suc, ◌+◌, ◌<◌, ◌≤◌, Bool, true, false, IsTrue, List, [], ◌∷◌}
use Rattle.std.proofs.Common.{length, get_or, set, ⊎_elim, subst, sym, ◌∙◌, ap, refl, arith}
use Rattle.std.proofs.Common.{None}
use Rattle.std.proofs.lemmas.Bool.{cases_eq}
use Rattle.std.specs.List.{All, Contains}
use Rattle.std.proofs.lemmas.List.Elements.{All-contains, All-weaker, All-contains_itself}
use mathlib.Core.Option.{some, some-injective}
use lib.ListN.{get_elem?}
use Rattle.atomic_table.specs.Table.{State}
use Rattle.atomic_table.proofs.Lists.{set_else}
use Rattle.mark_machine.specs.declared.machine.View.{View}
use Rattle.mark_machine.specs.Counts.{bit, sums, count, times, in_hand, total, EachView}
use Rattle.mark_machine.specs.Machine.{nobody}
use Rattle.mark_machine.specs.Invariant.{notes, finishes, holds_of}
use Rattle.mark_machine.proofs.Counts.{total_set, total_at, each_set, sums_le, sums_times, times_from_contains}
use Rattle.mark_machine.proofs.Counts.{contains_from_times}
use Rattle.mark_machine.proofs.Keeps.{finished_taken}
use Rattle.mark_words.specs.declared.rule.Plan.{Plan}
use Rattle.mark_words.specs.Words.{machine_of, mark_word, taken_word, has_bit}
use Rattle.mark_words.specs.Rule.{Ruled}
use Rattle.mark_words.specs.Plays.{IsFull, IsDone}

total_none : (f : View → ℕ) (vs : List View) → EachView (λ v. f v ≡ 0) vs → total f vs ≡ 0
total_none f [] h = refl
total_none f (u ∷ us) h = let a : total f us ≡ 0 = total_none f us (λ i v e. h (suc i) v e) in
    let b : f u ≡ 0 = h 0 u refl in omega (arith, a, b)

bit_of_true : (b : Bool) (n : ℕ) → (IsTrue b → 1 ≤ n) → bit b ≤ n
bit_of_true true n h = h refl
bit_of_true false n h = omega arith

none : {X : Type 0} (x : X) → Contains [] x → ⊥
none x (k, lt, e) = omega (arith, lt)

module _ (p : Plan) (s : State (Unit {0}) View) (rule : Ruled p s) (id : ℕ) (v : View) (at : get_elem? s.views id
    ≡ some v) where
  pub unseen : (x : ℕ) → has_bit (get_or s.words (mark_word x) 0) x ≡ false → Contains v.seen x → ⊥
  unseen x f c = (let e : false ≡ true = sym f ∙ rule.inv.seen_marked id v at x c in cc)

  pub unfinished : (x : ℕ) → has_bit (get_or s.words (taken_word x) 0) x ≡ false → Contains v.finished x → ⊥
  unfinished x f c = (let e : false ≡ true = sym f ∙ finished_taken p.system.value (machine_of s.words s.views)
      rule.inv id v at x c in cc)

  module _ (live : 0 < v.seats) (full : IsFull v) where
    no_seats : total (λ (u : View). u.seats) (set s.views id nobody) ≡ 0
    no_seats =
        let a : total (λ (u : View). u.seats) (set s.views id nobody) + v.seats ≡ total (λ (u : View). u.seats)
        s.views + 0 = total_set (λ (u : View). u.seats) s.views id v nobody at in
        let b : total (λ (u : View). u.seats) s.views ≡ p.seats = rule.seats in
        let d : v.all ≡ p.seats = rule.each_all id v at live in
        omega (arith, a, b, d, full)

    others : EachView (λ u. u ≡ nobody) (set s.views id nobody)
    others j u e = each_set (λ t. t.seats ≡ 0 → t ≡ nobody) s.views id nobody rule.spent (λ z. refl) j u e
        (let a : u.seats ≤ total (λ (t : View). t.seats) (set s.views id nobody) = total_at (λ (t : View). t.seats)
        (set s.views id nobody) j u e in let b : total (λ (t : View). t.seats) (set s.views id nobody)
        ≡ 0 = no_seats in omega (arith, a, b))

    total_full : (f : View → ℕ) → f nobody ≡ 0 → total f s.views ≡ f v
    total_full f z =
        let a : total f (set s.views id nobody) + f v ≡ total f s.views + f nobody = total_set f s.views id v nobody
        at in
        let b : total f (set s.views id nobody) ≡ 0 = total_none f (set s.views id nobody)
        (λ j u e. ap f (others j u e) ∙ z) in
        omega (arith, a, b, z)

    pub is_seen : (x : ℕ) → IsTrue (has_bit (get_or s.words (mark_word x) 0) x) → Contains v.seen x
    is_seen x h =
        let r = rule.inv.marked_seen x h in
        ⊎_elim
        (λ e. subst (λ (u : View). Contains u.seen x)
        (sym (some-injective v r.1 (sym at ∙ (ap (get_elem? s.views) (sym e) ∙ r.2)))) r.3)
        (λ ne. absurd (none x (subst (λ (u : View). Contains u.seen x)
        (others r.0 r.1 (set_else s.views id r.0 nobody ne ∙ r.2)) r.3)))
        (cases_eq r.0 id)

    pub is_finished : (x : ℕ) → v.hand ≡ None → IsTrue (has_bit (get_or s.words (taken_word x) 0) x)
        → Contains v.finished x
    is_finished x none_in t =
        let a : total (holds_of x) s.views ≡ bit (has_bit (get_or s.words (taken_word x) 0) x) = rule.inv.held x in
        let b : total (holds_of x) s.views ≡ holds_of x v = total_full (holds_of x) refl in
        let d : in_hand x v.hand ≡ 0 = ap (in_hand x) none_in in
        let e : bit (has_bit (get_or s.words (taken_word x) 0) x) ≡ 1 = ap bit t in
        contains_from_times x v.finished (omega (arith, a, b, d, e))

    pub is_idle : IsDone v → get_or s.words 0 0 ≡ 0
    is_idle done =
        let n : ℕ = p.system.value.n in
        let marked : ℕ → Bool = λ x. has_bit (get_or s.words (mark_word x) 0) x in
        let a : get_or s.words 0 0 + total finishes s.views ≡ total notes s.views + count n marked =
        rule.inv.pending in
        let b : total finishes s.views ≡ length v.finished = total_full finishes refl in
        let d : total notes s.views ≡ notes v = total_full notes refl in
        let st : bit v.standing ≡ 0 = ap bit done.1 in
        let re : bit v.reserved ≡ 0 = ap bit done.2 in
        let below : All (λ x. x < n) v.finished = All-weaker (Contains v.finished) (λ x. x < n)
        (λ x c. (rule.inv.within x (rule.inv.taken_marked x (taken_of x c))).1) v.finished
        (All-contains_itself v.finished) in
        let e : sums n (λ x. times x v.finished) ≡ length v.finished = sums_times n v.finished below in
        let f : count n marked ≤ sums n (λ x. times x v.finished) = sums_le n (λ x. bit (marked x))
        (λ x. times x v.finished)
        (λ x. bit_of_true (marked x) (times x v.finished)
        (λ h. (let g : 0 < times x v.finished = times_from_contains x v.finished
        (All-contains (Contains v.finished) v.seen x done.3 (is_seen x h)) in omega (arith, g)))) in
        omega (arith, a, b, d, st, re, e, f)
      where
        taken_of : (x : ℕ) → Contains v.finished x → IsTrue (has_bit (get_or s.words (taken_word x) 0) x)
        taken_of x c = finished_taken p.system.value (machine_of s.words s.views) rule.inv id v at x c
