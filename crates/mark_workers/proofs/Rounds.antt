-- The rounds of the sweep.
use Rattle.std.proofs.Common.{◌≡◌, ◌≢◌, ℕ, ◌+◌, ◌<◌, ◌≤◌, Bool, true, false, List, [], ◌∷◌, ◌++◌, inl}
use Rattle.std.proofs.Common.{⊎_elim, subst, sym}
use Rattle.std.proofs.Common.{Option, ◌∙◌, ap, refl, arith, eqb, eq-eqb, ne_eqb}
use Rattle.std.proofs.lemmas.Bool.{cases_eq}
use Rattle.std.specs.List.{Contains}
use Rattle.std.proofs.lemmas.List.Elements.{All-contains_itself, All-weaker, Contains-push_cases}
use Rattle.mark_machine.specs.declared.machine.View.{View}
use Rattle.mark_machine.specs.declared.machine.Event.TheVariants.{LookAt, Take}
use Rattle.mark_machine.specs.Machine.{view_after, looking}
use Rattle.mark_machine.specs.Counts.{bit, sums, times}
use Rattle.mark_machine.proofs.Counts.{count_more, times_push, contains_from_times}
use Rattle.mark_words.specs.Plays.{IsDone, IsFull}
use Rattle.mark_workers.specs.Work.{Did}
use Rattle.mark_workers.specs.Ready.{IsFree}
use Rattle.mark_workers.specs.Sweep.{Rests, Visited, left_of, IsSwept}
use Rattle.mark_workers.proofs.Kept.{below_push}
use Rattle.mark_workers.proofs.Taking.{free_done}

-- a marked item that was taken before
pub taken_before : (n : ℕ) (v m t : View) (x : ℕ) → x < n → Rests n v → m ≡ view_after v (LookAt x) true
    → t ≡ view_after m (Take x) true → (IsFull m → Contains m.finished x) → Visited n v x false t
taken_before n v m t x lt r em et full = subst (Visited n v x false) (sym et)
    (subst (λ (k : View). (IsFull k → Contains k.finished x) → Visited n v x false (view_after k (Take x) true))
    (sym em)
    (λ f. (
      ((r.0.0, r.0.1, r.0.2, below_push n x v.seen lt r.0.3), r.1),
      refl,
      Contains-push_cases v.seen x,
      λ c. f r.1,
    )) full)

-- an item that was taken now, and done
pub taken_now : (n : ℕ) (v m t w : View) (x : ℕ) → x < n → Rests n v → m ≡ view_after v (LookAt x) true
    → t ≡ view_after m (Take x) false → (Contains m.finished x → ⊥) → Did n t x w → Visited n v x true w
taken_now n v m t w x lt r em et fresh did =
    let is : t ≡ view_after (view_after v (LookAt x) true) (Take x) false =
    et ∙ ap (λ (k : View). view_after k (Take x) false) em in
    let d : Did n (view_after (view_after v (LookAt x) true) (Take x) false) x w =
    subst (λ (k : View). Did n k x w) is did in (
      (free_done n v m t w x lt r.0 em et did, d.seats ∙ r.1 ∙ sym d.all),
      subst (λ (k : View). Contains k.finished x → ⊥) em fresh,
      d.finished,
    )

-- an item that wasn't marked
pub not_marked : (n : ℕ) (v w : View) (x : ℕ) → Rests n v → w ≡ view_after v (LookAt x) false
    → (Contains v.seen x → ⊥) → Visited n v x false w
not_marked n v w x r e unseen = subst (Visited n v x false) (sym e)
    (subst (λ (o : Option ℕ). Visited n v x false
    (record (looking v o x) { log = (view_after v (LookAt x) false).log }))
    (sym r.0.0) (r, refl, λ y h. inl h, λ c. absurd (unseen c)))

same_times : (y x : ℕ) (l : List ℕ) → y ≢ x → times y (l ++ x ∷ []) ≡ times y l
same_times y x l n =
    let a : times y (l ++ x ∷ []) ≡ times y l + bit (eqb x y) = times_push y x l in
    let b : bit (eqb x y) ≡ 0 = ap bit (ne_eqb x y (λ e. n (sym e))) in
    omega (arith, a, b)

left_less : (n x : ℕ) (v w : View) → x < n → (Contains v.finished x → ⊥) → w.finished ≡ v.finished ++ x ∷ []
    → left_of n w < left_of n v
left_less n x v w lt fresh e =
    let l : List ℕ = v.finished in
    let was : ℕ → Bool = λ y. eqb (times y l) 0 in
    let now : ℕ → Bool = λ y. eqb (times y (l ++ x ∷ [])) 0 in
    let here : times x (l ++ x ∷ []) ≢ 0 = λ z.
    (let a : times x (l ++ x ∷ []) ≡ times x l + bit (eqb x x) = times_push x x l in
    let b : bit (eqb x x) ≡ 1 = ap bit (eq-eqb x x refl) in
    omega (arith, a, b, z)) in
    let none : times x l ≡ 0 = ⊎_elim (λ z. z) (λ ne. absurd (fresh (contains_from_times x l (omega (arith, ne)))))
    (cases_eq (times x l) 0) in
    let more : sums n (λ y. bit (was y)) ≡ sums n (λ y. bit (now y)) + 1 =
    count_more n x now was (λ y ne. ap (λ k. eqb k 0) (sym (same_times y x l ne)))
    (ne_eqb (times x (l ++ x ∷ [])) 0 here) (eq-eqb (times x l) 0 none) lt in
    let same : left_of n w ≡ sums n (λ y. bit (now y)) = ap (λ k. sums n (λ y. bit (eqb (times y k) 0))) e in
    omega (arith, more, same)

left_same : (n : ℕ) (v w : View) → w.finished ≡ v.finished → left_of n w ≡ left_of n v
left_same n v w e = ap (λ k. sums n (λ y. bit (eqb (times y k) 0))) e

swept_more : (n m : ℕ) (v w : View) → Visited n v m false w → IsSwept m v → IsSwept (m + 1) w
swept_more n m v w h swept x lt c = ⊎_elim
    (λ e. subst (λ k. Contains w.finished k) (sym e) (h.3 (subst (Contains w.seen) e c)))
    (λ ne. ⊎_elim (λ a. subst (λ l. Contains l x) (sym h.1) (swept x (omega (arith, lt, ne)) a))
    (λ e. absurd (ne (sym e))) (h.2 x c))
    (cases_eq x m)

-- one step of a round
pub round_step : (n m : ℕ) (u v w : View) (took b now : Bool) → m < n → Visited n v m b w
    → now ≡ (elim b [ true ↦ true | false ↦ took ]) → (took ≡ false → IsSwept m v) → left_of n v ≤ left_of n u
    → (took ≡ true → left_of n v < left_of n u)
    → Rests n w × (now ≡ false → IsSwept (m + 1) w) × (left_of n w ≤ left_of n u)
    × (now ≡ true → left_of n w < left_of n u)
round_step n m u v w took true now lt h e swept le less =
    let a : left_of n w < left_of n v = left_less n m v w lt h.1 h.2 in
    (h.0, (λ f. absurd (let g : true ≡ false = sym e ∙ f in cc)), omega (arith, a, le), λ t. omega (arith, a, le))
round_step n m u v w took false now lt h e swept le less =
    let a : left_of n w ≡ left_of n v = left_same n v w h.1 in (
      h.0,
      (λ f. swept_more n m v w h (swept (sym e ∙ f))),
      omega (arith, a, le),
      λ t. (let b : left_of n v < left_of n u = less (sym e ∙ t) in omega (arith, a, b)),
    )

-- a view that has swept is done
pub swept_done : (n : ℕ) (v : View) → IsFree n v → IsSwept n v → IsDone v
swept_done n v free swept = (
  free.0,
  free.2,
  free.1,
  All-weaker (Contains v.seen) (Contains v.finished)
      (λ x c. swept x (free.3 x c) c) v.seen (All-contains_itself v.seen),
)
