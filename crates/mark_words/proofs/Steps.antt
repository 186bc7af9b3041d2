-- Each step keeps the rule of the table.
use Rattle.std.proofs.Common.{◌≡◌, ℕ, zero, suc, ◌+◌, ◌-◌, ◌*◌, ◌/◌, ◌%◌, ◌^◌, ◌<◌, ◌≤◌, Bool, true, false}
use Rattle.std.proofs.Common.{if◌then◌else◌, IsTrue, List, length, get_or, set, ⊎_elim}
use Rattle.std.proofs.Common.{subst, sym, ◌∙◌, ap, refl, arith, eqb, bit_or, get_or-set_same}
use Rattle.std.proofs.Common.{get_or-set_other, length-set, Option, Some, None}
use Rattle.std.proofs.lemmas.Bool.{cases_eq}
use mathlib.Core.Option.{some, none}
use prog.Atomic.{either}
use Rattle.atomic_table.proofs.Lists.{exchanged}
use Rattle.std.proofs.lemmas.List.{set-get_or}
use lib.ListN.{get_elem?}
use Rattle.atomic_table.specs.Table.{State, Me, keeps as nothing, step, Allows}
use Rattle.mark_machine.specs.declared.machine.View.{View}
use Rattle.mark_machine.specs.declared.machine.Event.{Event}
use Rattle.mark_machine.specs.declared.machine.Event.TheVariants.{Reserve, Claim, GiveBack, Take, LookAt, Finish}
use Rattle.mark_machine.specs.declared.machine.Event.TheVariants.{SeeIdle}
use Rattle.mark_machine.specs.Counts.{bit, count, total}
use Rattle.mark_machine.specs.Machine.{Machine, Allowed, view_after, found_by, marked_after, taken_after}
use Rattle.mark_machine.specs.Machine.{pending_after, looking, finishing, nobody}
use Rattle.mark_machine.specs.Invariant.{Inv, notes, finishes}
use Rattle.mark_machine.proofs.Counts.{total_set, total_le, total_add, each_set, bit_le}
use Rattle.mark_machine.proofs.Keeps.{keeps}
use Rattle.mark_machine.proofs.Events.{event, gives_pending, finish_pending}
use Rattle.mark_words.specs.declared.rule.Plan.{Plan}
use Rattle.mark_words.specs.Words.{mark_word, taken_word, mask, has_bit, word_count, machine_of}
use Rattle.mark_words.specs.Rule.{Ruled}
use Rattle.mark_words.specs.Plays.{does, claiming, taking, looking_at}
use Rattle.mark_words.specs.Plays.{seeing_idle}
use Rattle.std.specs.List.{Contains}
use Rattle.mark_words.specs.Plays.{IsFull}
use Rattle.mark_words.proofs.Full.{unseen, is_seen, is_finished, is_idle, unfinished}
use Rattle.mark_words.proofs.Bits.{or_set, mark_same, taken_same, word_within, mark_not_taken}

abbrev pub Table : Type 0
Table = State (Unit {0}) View

-- an event leaves the number of seats
looking_seats : (v : View) (o : Option ℕ) (y : ℕ) → ((looking v o y).seats ≡ v.seats) × ((looking v o y).all ≡ v.all)
looking_seats v None y = (refl, refl)
looking_seats v (Some x) y = (refl, refl)

finishing_seats : (v : View) (o : Option ℕ) → ((finishing v o).seats ≡ v.seats) × ((finishing v o).all ≡ v.all)
finishing_seats v None = (refl, refl)
finishing_seats v (Some x) = (refl, refl)

pick : (b : Bool) (v w u : View) → (w.seats ≡ v.seats) × (w.all ≡ v.all) → (u.seats ≡ v.seats) × (u.all ≡ v.all)
    → ((if b then w else u).seats ≡ v.seats) × ((if b then w else u).all ≡ v.all)
pick true v w u p q = p
pick false v w u p q = q

pub same_seats : (v : View) (e : Event) (b : Bool) → ((view_after v e b).seats ≡ v.seats)
    × ((view_after v e b).all ≡ v.all)
same_seats v Reserve b = (refl, refl)
same_seats v (Claim x) true = (refl, refl)
same_seats v (Claim x) false = (refl, refl)
same_seats v GiveBack b = pick v.reserved v (record v { reserved = false }) (record v { standing = false })
    (refl, refl) (refl, refl)
same_seats v (Take x) true = (refl, refl)
same_seats v (Take x) false = (refl, refl)
same_seats v (LookAt y) true = (refl, refl)
same_seats v (LookAt y) false = looking_seats v v.hand y
same_seats v Finish b = finishing_seats v v.hand
same_seats v SeeIdle true = (refl, refl)
same_seats v SeeIdle false = (refl, refl)

count_le : (n : ℕ) (set : ℕ → Bool) → count n set ≤ n
count_le zero set = omega arith
count_le (suc n) set = let a : count n set ≤ n = count_le n set in let b : bit (set n) ≤ 1 = bit_le (set n) in
    omega (arith, a, b)

module _ (p : Plan) (s : Table) (rule : Ruled p s) where
  -- pending and one more fit a word
  pub pending_small : get_or s.words 0 0 + 1 < 2 ^ 64
  pending_small =
      let standing : View → ℕ = λ v. bit v.standing in
      let reserved : View → ℕ = λ v. bit v.reserved in
      let seats : View → ℕ = λ v. v.seats in
      let n : ℕ = p.system.value.n in
      let a : get_or s.words 0 0 + total finishes s.views ≡ total notes s.views + count n
      (λ x. has_bit (get_or s.words (mark_word x) 0) x) = rule.inv.pending in
      let b : total notes s.views ≡ total standing s.views + total reserved s.views = total_add standing reserved
      s.views in
      let d : total standing s.views ≤ 1 = rule.inv.one_standing in
      let e : total reserved s.views ≤ total seats s.views = total_le reserved seats s.views
      (λ id v at. ⊎_elim (λ z. subst (λ (u : View). bit u.reserved ≤ u.seats) (sym (rule.spent id v at z))
      (omega arith))
      (λ ne. (let f : bit v.reserved ≤ 1 = bit_le v.reserved in omega (arith, f, ne))) (cases_eq v.seats 0)) in
      let g : total seats s.views ≡ p.seats = rule.seats in
      let h : p.seats ≤ 65 = rule.few in
      let i : n < 4294967296 = rule.narrow in
      let j : count n (λ x. has_bit (get_or s.words (mark_word x) 0) x) ≤ n = count_le n
      (λ x. has_bit (get_or s.words (mark_word x) 0) x) in
      omega (arith, a, b, d, e, g, h, i, j)

  module _ (id : ℕ) (v : View) (at : get_elem? s.views id ≡ some v) (live : 0 < v.seats) where
    pub step_ruled : (e : Event) → Allowed p.system.value v e → (found : Bool)
        → found ≡ found_by (machine_of s.words s.views) e → (words : List ℕ) → length words ≡ length s.words
        → ((x : ℕ) → has_bit (get_or words (mark_word x) 0) x ≡ marked_after (machine_of s.words s.views) e x)
        → ((x : ℕ) → has_bit (get_or words (taken_word x) 0) x ≡ taken_after (machine_of s.words s.views) e x)
        → get_or words 0 0 ≡ pending_after (machine_of s.words s.views) e
        → Ruled p (record { words = words; homes = s.homes; views = set s.views id (view_after v e found) })
    step_ruled e a found is words len marks takes pend =
        let before : Machine = machine_of s.words s.views in
        let w : View = view_after v e found in
        let seats : View → ℕ = λ u. u.seats in
        let same = same_seats v e found in
        let by : Inv p.system.value (record {
          marked = marked_after before e;
          taken = taken_after before e;
          pending = pending_after before e;
          views = set s.views id (view_after v e (found_by before e));
        }) =
        keeps p.system.value before rule.inv id v (view_after v e (found_by before e)) at
        (marked_after before e) (taken_after before e) (pending_after before e)
        (event p.system.value before rule.valid rule.inv id v at e a) in
        let at_found : Inv p.system.value (record {
          marked = marked_after before e;
          taken = taken_after before e;
          pending = pending_after before e;
          views = set s.views id (view_after v e found);
        }) =
        subst (λ b. Inv p.system.value (record {
          marked = marked_after before e;
          taken = taken_after before e;
          pending = pending_after before e;
          views = set s.views id (view_after v e b);
        })) (sym is) by in
        let path : record {
          marked = marked_after before e;
          taken = taken_after before e;
          pending = pending_after
              before e;
          views = set s.views id w;
        } ≡ machine_of words (set s.views id w) =
        λ i. record {
          marked = λ x. sym (marks x) i;
          taken = λ x. sym (takes x) i;
          pending = sym pend i;
          views =
              set s.views id w;
        } in
        record {
          valid = rule.valid;
          narrow = rule.narrow;
          wide = len ∙ rule.wide;
          inv = subst (Inv p.system.value) path at_found;
          seats = (let a : total seats (set s.views id w) + v.seats ≡ total seats s.views + w.seats = total_set
              seats s.views id v w at in let b : total seats s.views ≡ p.seats = rule.seats in
              let d : w.seats ≡ v.seats = same.0 in omega (arith, a, b, d));
          few = rule.few;
          spent = each_set (λ u. u.seats ≡ 0 → u ≡ nobody) s.views id w rule.spent
              (λ z. (let d : w.seats ≡ v.seats = same.0 in absurd (omega (arith, z, d, live))));
          each_all = each_set (λ u. 0 < u.seats → u.all ≡ p.seats) s.views id w rule.each_all (λ z. same.1
              ∙ rule.each_all id v at live);
        }

-- a word that is set to what it was
same_word : (words : List ℕ) (i n j : ℕ) → get_or words i 0 ≡ n → get_or (set words i n) j 0 ≡ get_or words j 0
same_word words i n j e = subst (λ k. get_or (set words i k) j 0 ≡ get_or words j 0) e
    (ap (λ l. get_or l j 0) (set-get_or words i 0))

module _ (p : Plan) (slots id : ℕ) (me : Me (Unit {0}) View) (live : 0 < me.0.seats) where
  -- an event that changes pending
  pending_step : (e : Event) (f : ℕ → ℕ) (i : ℕ) → i ≡ 0 → Allowed p.system.value me.0 e
      → ((s : Table) → found_by (machine_of s.words s.views) e ≡ false)
      → ((s : Table) (x : ℕ) → marked_after (machine_of s.words s.views) e x
      ≡ has_bit (get_or s.words (mark_word x) 0) x)
      → ((s : Table) (x : ℕ) → taken_after (machine_of s.words s.views) e x
      ≡ has_bit (get_or s.words (taken_word x) 0) x)
      → ((s : Table) → Ruled p s → get_elem? s.views id ≡ some me.0 → get_or s.words 0 0 < 18446744073709551616
      → f (get_or s.words 0 0) ≡ pending_after (machine_of s.words s.views) e)
      → Allows (Ruled p) slots id me 0 f (λ r m'. does e false me m')
  pending_step e f i z a found marks takes pend s rule homes at fits =
      let n : ℕ = f (get_or s.words 0 0) in
      let wide : 0 < length s.words = (let w : length s.words ≡ word_count p.system.value.n = rule.wide in
      omega (arith, w)) in (
        view_after me.0 e false,
        nothing,
        tt,
        step_ruled p s rule id me.0 at live e a false (sym (found s)) (set s.words 0 n) (length-set s.words 0 n)
            (λ x. ap (λ k. has_bit k x) (get_or-set_other s.words 0 (mark_word x) n 0 (λ h. omega (arith, h)))
            ∙ sym (marks s x))
            (λ x. ap (λ k. has_bit k x) (get_or-set_other s.words 0 (taken_word x) n 0 (λ h. omega (arith, h)))
            ∙ sym (takes s x))
            (get_or-set_same s.words 0 n 0 wide ∙ pend s rule at fits),
        refl,
      )

  pub reserves : Allowed p.system.value me.0 Reserve → Allows (Ruled p) slots id me 0 (λ n. (n + 1) % 2 ^ 64)
      (λ r m'. does Reserve false me m')
  reserves a = pending_step Reserve (λ n. (n + 1) % 2 ^ 64) 0 refl a (λ s. refl) (λ s x. refl) (λ s x. refl)
      (λ s rule at fits. (let small : get_or s.words 0 0 + 1 < 2 ^ 64 = pending_small p s rule in
      omega (arith, small)))

  pub gives_back : Allowed p.system.value me.0 GiveBack → Allows (Ruled p) slots id me 0
      (λ n. (n + (2 ^ 64 - 1)) % 2 ^ 64) (λ r m'. does GiveBack false me m')
  gives_back a = pending_step GiveBack (λ n. (n + (2 ^ 64 - 1)) % 2 ^ 64) 0 refl a (λ s. refl) (λ s x. refl)
      (λ s x. refl)
      (λ s rule at fits. (let pos : 0 < get_or s.words 0 0 = gives_pending p.system.value
      (machine_of s.words s.views) rule.valid rule.inv id me.0 at a in omega (arith, pos, fits)))

  pub finishes_item : Allowed p.system.value me.0 Finish → Allows (Ruled p) slots id me 0
      (λ n. (n + (2 ^ 64 - 1)) % 2 ^ 64) (λ r m'. does Finish false me m')
  finishes_item a = pending_step Finish (λ n. (n + (2 ^ 64 - 1)) % 2 ^ 64) 0 refl a (λ s. refl) (λ s x. refl)
      (λ s x. refl)
      (λ s rule at fits. (let pos : 0 < get_or s.words 0 0 = finish_pending p.system.value
      (machine_of s.words s.views) rule.valid rule.inv id me.0 at a in omega (arith, pos, fits)))

  pub sees_idle : Allows (Ruled p) slots id me 0 (λ n. n) (seeing_idle (step slots 0 0 0 none) me)
  sees_idle s rule homes at fits =
      let r : ℕ = get_or s.words 0 0 in (
        view_after me.0 SeeIdle (eqb r 0),
        nothing,
        tt,
        step_ruled p s rule id me.0 at live SeeIdle tt (eqb r 0) refl (set s.words 0 r) (length-set s.words 0 r)
            (λ x. ap (λ k. has_bit k x) (same_word s.words 0 r (mark_word x) refl))
            (λ x. ap (λ k. has_bit k x) (same_word s.words 0 r (taken_word x) refl))
            (same_word s.words 0 r 0 refl),
        (refl, λ full done. is_idle p s rule id me.0 at live full done),
      )

  -- the claim of x by fetch_or
  pub claims : (x : ℕ) → x < p.system.value.n → Allowed p.system.value me.0 (Claim x)
      → Allows (Ruled p) slots id me (mark_word x) (λ n. bit_or n (mask x))
      (claiming (step slots (mark_word x) (mask x) 0 none) me)
  claims x below a s rule homes at fits =
      let w : ℕ = bit_or (get_or s.words (mark_word x) 0) (mask x) in
      let within : mark_word x < length s.words = (let k : 2 * (x / 64) + 2 < word_count p.system.value.n =
      word_within p.system.value.n x below in let d : length s.words ≡ word_count p.system.value.n =
      rule.wide in omega (arith, k, d)) in
      let found : Bool = has_bit (get_or s.words (mark_word x) 0) x in (
        view_after me.0 (Claim x) found,
        nothing,
        tt,
        step_ruled p s rule id me.0 at live (Claim x) a found refl (set s.words (mark_word x) w)
            (length-set s.words (mark_word x) w)
            (or_set 1 s.words x within)
            (λ y. ap (λ k. has_bit k y) (get_or-set_other s.words (mark_word x) (taken_word y) w 0
            (λ h. mark_not_taken x y (sym h))))
            (get_or-set_other s.words (mark_word x) 0 w 0 (λ h. omega (arith, h))),
        λ y word bits. subst (λ z. does (Claim z) (has_bit (get_or s.words (mark_word x) 0) z) me
            (view_after me.0 (Claim x) found, me.1)) (mark_same x y word bits) refl,
      )

  pub takes : (x : ℕ) → x < p.system.value.n → Allowed p.system.value me.0 (Take x)
      → Allows (Ruled p) slots id me (taken_word x) (λ n. bit_or n (mask x))
      (taking (step slots (taken_word x) (mask x) 0 none) me)
  takes x below a s rule homes at fits =
      let w : ℕ = bit_or (get_or s.words (taken_word x) 0) (mask x) in
      let within : taken_word x < length s.words = (let k : 2 * (x / 64) + 2 < word_count p.system.value.n =
      word_within p.system.value.n x below in let d : length s.words ≡ word_count p.system.value.n =
      rule.wide in omega (arith, k, d)) in
      let found : Bool = has_bit (get_or s.words (taken_word x) 0) x in (
        view_after me.0 (Take x) found,
        nothing,
        tt,
        step_ruled p s rule id me.0 at live (Take x) a found refl (set s.words (taken_word x) w)
            (length-set s.words (taken_word x) w)
            (λ y. ap (λ k. has_bit k y) (get_or-set_other s.words (taken_word x) (mark_word y) w 0
            (λ h. mark_not_taken y x h)))
            (or_set 2 s.words x within)
            (get_or-set_other s.words (taken_word x) 0 w 0 (λ h. omega (arith, h))),
        λ y word bits. subst (λ z. does (Take z) (has_bit (get_or s.words (taken_word x) 0) z) me
            (view_after me.0 (Take x) found, me.1)
            × (IsFull me.0 → IsTrue (has_bit (get_or s.words (taken_word x) 0) z) → Contains me.0.finished z)
            × (has_bit (get_or s.words (taken_word x) 0) z ≡ false → Contains me.0.finished z → ⊥))
            (taken_same x y word bits)
            (refl, (λ full t. is_finished p s rule id me.0 at live full x a.0 t), unfinished p s rule id me.0 at x),
      )

  -- the look at x by a compare-exchange of its mask with itself
  pub looks_at : (x : ℕ) → x < p.system.value.n
      → Allows (Ruled p) slots id me (mark_word x) (λ n. either (eqb n (mask x)) (mask x) n)
      (looking_at (step slots (mark_word x) (mask x) (mask x) none) me)
  looks_at x below s rule homes at fits =
      let r : ℕ = get_or s.words (mark_word x) 0 in
      let n : ℕ = either (eqb r (mask x)) (mask x) r in
      let same : r ≡ n = exchanged r (mask x) (mask x) (λ k. r ≡ k) (λ e. e) (λ ne. refl) in
      let found : Bool = has_bit r x in (
        view_after me.0 (LookAt x) found,
        nothing,
        tt,
        step_ruled p s rule id me.0 at live (LookAt x) below found refl (set s.words (mark_word x) n)
            (length-set s.words (mark_word x) n)
            (λ y. ap (λ k. has_bit k y) (same_word s.words (mark_word x) n (mark_word y) same))
            (λ y. ap (λ k. has_bit k y) (same_word s.words (mark_word x) n (taken_word y) same))
            (same_word s.words (mark_word x) n 0 same),
        λ y word bits. subst (λ z. does (LookAt z) (has_bit (get_or s.words (mark_word x) 0) z) me
            (view_after me.0 (LookAt x) found, me.1) × (has_bit (get_or s.words (mark_word x) 0) z ≡ false
            → Contains me.0.seen z → ⊥) × (IsFull me.0 → IsTrue (has_bit (get_or s.words (mark_word x) 0) z)
            → Contains me.0.seen z)) (mark_same x y word bits)
            (refl, unseen p s rule id me.0 at x, λ full t. is_seen p s rule id me.0 at live full x t),
      )
