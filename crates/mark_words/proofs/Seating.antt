-- The rule at the start, where a seat is handed out, and where two become one.
use Rattle.std.proofs.Common.{◌≡◌, ℕ, zero, suc, ◌+◌, ◌-◌, ◌%◌, ◌<◌, ◌≤◌, false}
use Rattle.std.proofs.Common.{[], ◌∷◌, ◌++◌, length, get_or, set, replicate}
use Rattle.std.proofs.Common.{subst, sym, ◌∙◌, ap, refl, arith, eqb, None}
use mathlib.Core.Option.{some-injective, some-ne-none}
use Rattle.std.proofs.lemmas.List.{length-replicate}
use Rattle.std.proofs.lemmas.Nat.Bits.{bit_at-zero}
use Rattle.atomic_table.specs.Table.{Splits, Joins, opening}
use Rattle.mark_machine.specs.declared.machine.View.{View}
use Rattle.mark_core.specs.Valid.{Valid}
use Rattle.mark_machine.specs.Counts.{total, EachView}
use Rattle.mark_machine.specs.Machine.{Machine, nobody, first_of, one_less, newcomer, joined}
use Rattle.mark_machine.specs.Invariant.{Inv}
use Rattle.mark_machine.proofs.Counts.{total_set, total_push, each_set}
use Rattle.mark_machine.proofs.Keeps.{keeps}
use Rattle.mark_machine.proofs.Events.{reseated}
use Rattle.mark_machine.proofs.Runs.{start_keeps}
use Rattle.mark_machine.proofs.Seats.{push_keeps, join_keeps, each_push, total_two}
use Rattle.mark_words.specs.declared.rule.Plan.{Plan}
use Rattle.mark_words.specs.Words.{machine_of, mark_word, taken_word, has_bit, word_count}
use Rattle.mark_words.specs.Rule.{Ruled, first_view}

zeros : (k i : ℕ) → get_or (replicate k (let z : ℕ = 0 in z)) i 0 ≡ (let z : ℕ = 0 in z)
zeros zero i = refl
zeros (suc k) zero = refl
zeros (suc k) (suc i) = zeros k i

no_bit : (x : ℕ) → has_bit 0 x ≡ false
no_bit x = ap (λ b. eqb b 1) (bit_at-zero (x % 64))

one_view : (P : View → Type 0) (v : View) → P v → EachView P (v ∷ [])
one_view P v h zero u e = subst P (some-injective v u e) h
one_view P v h (suc j) u e = absurd (some-ne-none u (sym e))

pub starts : (p : Plan) (k : ℕ) → Valid p.system.value → p.system.value.n < 4294967296 → 1 ≤ p.seats → p.seats ≤ 65
    → k + 1 ≡ word_count p.system.value.n
    → Ruled p (opening (1 ∷ replicate k 0) [] (first_view p))
starts p k valid narrow some_seat few wide =
    let start : Machine = record {
      marked = λ x. false;
      taken = λ x. false;
      pending = 1;
      views = first_of
          p.seats ∷ [];
    } in
    let inv : Inv p.system.value start = start_keeps p.system.value start (0, p.seats, refl) in
    record {
      valid = valid;
      narrow = narrow;
      wide = (let z : ℕ = 0 in let a : length (replicate k z) ≡ k = length-replicate k z in omega (arith, a, wide));
      inv = subst (Inv p.system.value) (λ i. record {
        marked = λ x. sym (at_zero x (mark_word x) (omega arith)) i;
        taken = λ x. sym (at_zero x (taken_word x) (omega arith)) i;
        pending = 1;
        views = first_of p.seats ∷ [];
      })
          inv;
      seats = omega arith;
      few = few;
      spent = one_view (λ u. u.seats ≡ 0 → u ≡ nobody) (first_of p.seats) (λ z. absurd (omega (arith, z, some_seat)));
      each_all = one_view (λ u. 0 < u.seats → u.all ≡ p.seats) (first_of p.seats) (λ z. refl);
    }
  where
    at_zero : (x j : ℕ) → 0 < j → has_bit (get_or (1 ∷ replicate k 0) j 0) x ≡ false
    at_zero x zero h = absurd (omega (arith, h))
    at_zero x (suc j) h = ap (λ w. has_bit w x) (zeros k j) ∙ no_bit x

module _ (p : Plan) (id : ℕ) (v : View) where
  pub splits : 1 < v.seats → Splits (Ruled p) id v (one_less v) (newcomer v)
  splits more s rule at =
      let n = p.system.value in
      let before : Machine = machine_of s.words s.views in
      let w : View = one_less v in
      let mid : Inv n (machine_of s.words (set s.views id w)) = keeps n before rule.inv id v w at before.marked
      before.taken before.pending (reseated n before rule.valid rule.inv id v at (v.seats - 1)) in
      let seats : (f : View → ℕ) → total f (set s.views id w) + f v ≡ total f s.views + f w = λ f. total_set f
      s.views id v w at in
      let all_is : v.all ≡ p.seats = rule.each_all id v at (omega (arith, more)) in
      record {
        valid = rule.valid;
        narrow = rule.narrow;
        wide = rule.wide;
        inv = push_keeps n (machine_of s.words (set s.views id w)) mid 1 v.all;
        seats =
            let a : total (λ (u : View). u.seats) (set s.views id w) + v.seats ≡ total (λ (u : View). u.seats)
            s.views + (v.seats - 1) = seats (λ u. u.seats) in
            let b : total (λ (u : View). u.seats) (set s.views id w ++ newcomer v ∷ [])
            ≡ total (λ (u : View). u.seats) (set s.views id w) + 1 = total_push (λ (u : View). u.seats)
            (set s.views id w) (newcomer v) in
            let d : total (λ (u : View). u.seats) s.views ≡ p.seats = rule.seats in
            omega (arith, a, b, d, more);
        few = rule.few;
        spent = each_push (λ u. u.seats ≡ 0 → u ≡ nobody) (set s.views id w) (newcomer v)
            (each_set (λ u. u.seats ≡ 0 → u ≡ nobody) s.views id w rule.spent
            (λ z. absurd (omega (arith, z, more)))) (λ z. absurd (omega (arith, z)));
        each_all = each_push (λ u. 0 < u.seats → u.all ≡ p.seats) (set s.views id w) (newcomer v)
            (each_set (λ u. 0 < u.seats → u.all ≡ p.seats) s.views id w rule.each_all (λ z. all_is)) (λ z. all_is);
      }

  pub joins : (other : ℕ) (w : View) → 0 < v.seats → w.hand ≡ None → w.reserved ≡ false → w.standing ≡ false
      → Joins (Ruled p) id v other w (joined v w) nobody
  joins other w live hand note standing s rule at ne beside =
      let n = p.system.value in
      record {
        valid = rule.valid;
        narrow = rule.narrow;
        wide = rule.wide;
        inv = join_keeps n (machine_of s.words s.views) rule.inv id other v w at ne beside hand note standing;
        seats =
            let a : total (λ (u : View). u.seats) (set (set s.views id (joined v w)) other nobody) + v.seats + w.seats
            ≡ total (λ (u : View). u.seats) s.views + (v.seats + w.seats) + 0 =
            total_two (λ (u : View). u.seats) s.views id other v w (joined v w) nobody at beside in
            let d : total (λ (u : View). u.seats) s.views ≡ p.seats = rule.seats in
            omega (arith, a, d);
        few = rule.few;
        spent = each_set (λ u. u.seats ≡ 0 → u ≡ nobody) (set s.views id (joined v w)) other nobody
            (each_set (λ u. u.seats ≡ 0 → u ≡ nobody) s.views id (joined v w) rule.spent
            (λ z. absurd (omega (arith, z, live)))) (λ z. refl);
        each_all = each_set (λ u. 0 < u.seats → u.all ≡ p.seats) (set s.views id (joined v w)) other nobody
            (each_set (λ u. 0 < u.seats → u.all ≡ p.seats) s.views id (joined v w) rule.each_all
            (λ z. rule.each_all id v at live)) (λ z. absurd (omega (arith, z)));
      }

pub opened_words : (c k : ℕ) → c ≡ k + 1 → set (replicate c (let z : ℕ = 0 in z)) 0 1 ≡ 1 ∷ replicate k 0
opened_words c k e = let f : c ≡ suc k = omega (arith, e) in subst (λ n. set (replicate n (let z : ℕ = 0 in z)) 0 1
    ≡ 1 ∷ replicate k 0) (sym f) refl
