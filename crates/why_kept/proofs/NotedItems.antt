-- What is noted of items, need by need and pair by pair.
use Rattle.std.proofs.Common.{◌≡◌, ◌+◌, ◌<◌, ◌≤◌, ◌==◌, ◌&&◌, ◌||◌, ℕ, zero, suc, Bool, true, false, cond, List, [], ◌∷◌, ◌++◌}
use Rattle.std.proofs.Common.{◌∙◌, refl, sym, subst, ap, arith, ⊎_elim, length, get_or, replicate, set, take, take_all, length-set}
use Rattle.std.proofs.Common.{get_or-set_same, get_or-set_other}
use Rattle.std.specs.Prelude.{Option, Some, None}
use Rattle.std.specs.List.{find, list_any, range_with_len}
use Rattle.std.specs.Option.{option_or}
use Rattle.std.proofs.lemmas.Bool.{cases_eq, eq-eqb, ne_eqb}
use Rattle.std.proofs.lemmas.List.{get_or-replicate, length-replicate, take_more}
use Rattle.std.proofs.lemmas.List.Folds.{find-append}
use Rattle.mark_core.specs.Marks.{needs_of}
use Rattle.mark_core.specs.declared.system.Pair.{Pair}
use Rattle.mark_core.specs.declared.system.System.{System}
use Rattle.why_kept.specs.Levels.{level_of, level_of_pair}
use Rattle.why_kept.specs.Steps.{by_need, by_pair, follows_from, is_needed_by}
use Rattle.why_kept.specs.bodies.Noting.{AreNoted, by_needs, by_pairs, is_among, is_seed, note_if, noted_at}
use Rattle.why_kept.specs.declared.reasons.By.{By}
use Rattle.why_kept.specs.declared.reasons.By.TheVariants as by

-- ---- one note

same_both : (b : Bool) (x : By) → cond b x x ≡ x
same_both true x = refl
same_both false x = refl

not_again : (b : Bool) (new old : By) → is_seed old ≡ false → note_if b new old ≡ old
not_again true new old is = ap (λ t. cond t new old) is
not_again false new old is = refl

-- nothing is noted twice
note_twice : (a b : Bool) (new old : By) → is_seed new ≡ false
    → note_if b new (note_if a new old) ≡ note_if (a || b) new old
note_twice true b new by.Seed is = same_both (b && is_seed new) new
note_twice true b new (by.Need y) is = not_again b new (by.Need y) refl
note_twice true b new (by.Pair y z) is = not_again b new (by.Pair y z) refl
note_twice false b new old is = refl

and_true : (b : Bool) → (b && true) ≡ b
and_true true = refl
and_true false = refl

pub and_false : (b : Bool) → (b && false) ≡ false
and_false true = refl
and_false false = refl

-- an item was noted where a test holds
pub noted_item : (n item : ℕ) (test : Bool) (new : By) (old after : List By) → length old ≡ n → item < n
    → after ≡ set old item (note_if test new (noted_at old item))
    → AreNoted n (λ x. note_if (test && (item == x)) new (noted_at old x)) after
noted_item n item test new old after count lt is = record {
  count = ap length is ∙ (length-set old item (note_if test new (noted_at old item)) ∙ count);
  each = λ x within. ⊎_elim
      (λ same.
      let here : noted_at after x ≡ note_if test new (noted_at old item) = ap (λ l. get_or l x by.Seed) is
      ∙ (ap (λ k. get_or (set old item (note_if test new (noted_at old item))) k by.Seed) same
      ∙ get_or-set_same old item (note_if test new (noted_at old item)) by.Seed
      (subst (λ k. item < k) (sym count) lt)) in
      here ∙ (ap (λ k. note_if test new (noted_at old k)) (sym same)
      ∙ ap (λ t. note_if t new (noted_at old x)) (sym (ap (λ t. test && t) (eq-eqb item x (sym same)) ∙ and_true test))))
      (λ other.
      let there : noted_at after x ≡ noted_at old x = ap (λ l. get_or l x by.Seed) is
      ∙ get_or-set_other old item x (note_if test new (noted_at old item)) by.Seed other in
      there ∙ sym (ap (λ t. note_if t new (noted_at old x))
      (ap (λ t. test && t) (ne_eqb item x (λ e. other (sym e))) ∙ and_false test)))
      (cases_eq x item);
}

-- ---- all needs and pairs

pub range_more : (a n : ℕ) → range_with_len a (n + 1) ≡ range_with_len a n ++ (a + n) ∷ []
range_more a n = (let e : n + 1 ≡ suc n = omega arith in ap (range_with_len a) e) ∙ more a n
  where
    more : (b m : ℕ) → range_with_len b (suc m) ≡ range_with_len b m ++ (b + m) ∷ []
    more b zero = ap (λ k. k ∷ []) (let e : b ≡ b + 0 = omega arith in e)
    more b (suc m) = ap (λ l. b ∷ l) (more (b + 1) m
        ∙ ap (λ k. range_with_len (b + 1) m ++ k ∷ []) (let e : b + 1 + m ≡ b + suc m = omega arith in e))

need_step : (f : Option ℕ) (b : Bool) (m : ℕ)
    → note_if b (by.Need m) (by_need f by.Seed) ≡ by_need (option_or f (cond b (Some m) None)) by.Seed
need_step (Some y) true m = refl
need_step (Some y) false m = refl
need_step None true m = refl
need_step None false m = refl

pair_step : (f : Option ℕ) (g : Option Pair) (b : Bool) (p : Pair)
    → note_if b (by.Pair p.one p.two) (by_need f (by_pair g)) ≡ by_need f (by_pair (option_or g (cond b (Some p) None)))
pair_step (Some y) g true p = refl
pair_step (Some y) g false p = refl
pair_step None (Some q) true p = refl
pair_step None (Some q) false p = refl
pair_step None None true p = refl
pair_step None None false p = refl

module _ (sys : System) (levels : List ℕ) where
  pub needs_more : (m x : ℕ)
      → note_if (is_needed_by sys levels x m) (by.Need m) (by_needs sys levels m x) ≡ by_needs sys levels (m + 1) x
  needs_more m x =
      need_step (find (is_needed_by sys levels x) (range_with_len 0 m)) (is_needed_by sys levels x m) m
      ∙ ap (λ f. by_need f by.Seed) (sym (ap (find (is_needed_by sys levels x)) (range_more 0 m
      ∙ ap (λ k. range_with_len 0 m ++ k ∷ []) (let e : 0 + m ≡ m = omega arith in e))
      ∙ find-append (is_needed_by sys levels x) (range_with_len 0 m) (m ∷ [])))

  pub pairs_more : (m x : ℕ) (d : Pair) → m < length sys.pairs
      → note_if (follows_from sys levels x (get_or sys.pairs m d))
      (by.Pair (get_or sys.pairs m d).one (get_or sys.pairs m d).two) (by_pairs sys levels m x)
      ≡ by_pairs sys levels (m + 1) x
  pairs_more m x d lt =
      let p : Pair = get_or sys.pairs m d in
      pair_step (find (is_needed_by sys levels x) (range_with_len 0 sys.n))
      (find (follows_from sys levels x) (take m sys.pairs)) (follows_from sys levels x p) p
      ∙ ap (λ g. by_need (find (is_needed_by sys levels x) (range_with_len 0 sys.n)) (by_pair g))
      (sym (ap (find (follows_from sys levels x)) (take_more sys.pairs m d lt)
      ∙ find-append (follows_from sys levels x) (take m sys.pairs) (p ∷ [])))

-- ---- the needs of one item

or_false : (b : Bool) → (b || false) ≡ b
or_false true = refl
or_false false = refl

or_behind : (b all some last : Bool) → all ≡ (some || last) → (b || all) ≡ ((b || some) || last)
or_behind true all some last is = refl
or_behind false all some last is = is

any_more : (p : ℕ → Bool) (xs : List ℕ) (y : ℕ) → list_any p (xs ++ y ∷ []) ≡ (list_any p xs || p y)
any_more p [] y = or_false (p y)
any_more p (x ∷ xs) y = or_behind (p x) (list_any p (xs ++ y ∷ [])) (list_any p xs) (p y) (any_more p xs y)

and_or : (p q r : Bool) → (p && (q || r)) ≡ ((p && q) || (p && r))
and_or true q r = refl
and_or false q r = refl

module _ (sys : System) (levels : List ℕ) (item : ℕ) (needs : List ℕ) where
  -- the next need is the item, and has the level behind
  abbrev IsThis : ℕ → ℕ → Bool
  IsThis z x = (level_of sys levels z == level_of sys levels item + 1) && (z == x)

  this_is : (z x : ℕ) → ((level_of sys levels x == level_of sys levels item + 1) && (x == z)) ≡ IsThis z x
  this_is z x = ⊎_elim
      (λ same. ap (λ k. (level_of sys levels k == level_of sys levels item + 1) && (k == z)) same
      ∙ ap (λ k. (level_of sys levels z == level_of sys levels item + 1) && (z == k)) (sym same))
      (λ other. ap (λ t. (level_of sys levels x == level_of sys levels item + 1) && t) (ne_eqb x z other)
      ∙ (and_false (level_of sys levels x == level_of sys levels item + 1)
      ∙ sym (ap (λ t. (level_of sys levels z == level_of sys levels item + 1) && t) (ne_eqb z x (λ e. other (sym e)))
      ∙ and_false (level_of sys levels z == level_of sys levels item + 1))))
      (cases_eq x z)

  among_more : (m x d : ℕ) → m < length needs
      → is_among sys levels item needs (m + 1) x ≡ (is_among sys levels item needs m x || IsThis (get_or needs m d) x)
  among_more m x d lt =
      let z : ℕ = get_or needs m d in
      let near : Bool = (level_of sys levels x == level_of sys levels item + 1) in
      ap (λ l. near && list_any (λ y. x == y) l) (take_more needs m d lt)
      ∙ (ap (λ t. near && t) (any_more (λ y. x == y) (take m needs) z)
      ∙ (and_or near (list_any (λ y. x == y) (take m needs)) (x == z)
      ∙ ap (λ t. (near && list_any (λ y. x == y) (take m needs)) || t) (this_is z x)))

  -- one more need was noted where its level is the one behind
  pub among_step : (n m d : ℕ) (old cur after : List By) → m < length needs
      → AreNoted n (λ x. note_if (is_among sys levels item needs m x) (by.Need item) (noted_at old x)) cur
      → AreNoted n (λ x. note_if (IsThis (get_or needs m d) x) (by.Need item) (noted_at cur x)) after
      → AreNoted n (λ x. note_if (is_among sys levels item needs (m + 1) x) (by.Need item) (noted_at old x)) after
  among_step n m d old cur after lt before noted = record {
    count = noted.count;
    each = λ x within.
        noted.each x within
        ∙ (ap (note_if (IsThis (get_or needs m d) x) (by.Need item)) (before.each x within)
        ∙ (note_twice (is_among sys levels item needs m x) (IsThis (get_or needs m d) x) (by.Need item) (noted_at old x) refl
        ∙ ap (λ t. note_if t (by.Need item) (noted_at old x)) (sym (among_more m x d lt))));
  }

-- the next need was noted, as the code tests it
pub among_noted : (sys : System) (levels : List ℕ) (item : ℕ) (needs slice : List ℕ) (n m t u : ℕ) (old cur after : List By)
    → slice ≡ needs → m < length slice → t ≡ level_of sys levels (get_or slice m 0) → u ≡ level_of sys levels item
    → AreNoted n (λ x. note_if (is_among sys levels item needs m x) (by.Need item) (noted_at old x)) cur
    → AreNoted (length cur) (λ x. note_if ((t == u + 1) && (get_or slice m 0 == x)) (by.Need item) (noted_at cur x)) after
    → AreNoted n (λ x. note_if (is_among sys levels item needs (m + 1) x) (by.Need item) (noted_at old x)) after
among_noted sys levels item needs slice n m t u old cur after same lt is_t is_u before noted =
    among_step sys levels item needs n m 0 old cur after (subst (λ l. m < length l) same lt) before (record {
      count = noted.count ∙ before.count;
      each = λ x within.
          noted.each x (subst (λ k. x < k) (sym before.count) within)
          ∙ ap (λ s. note_if s (by.Need item) (noted_at cur x))
          (ap (λ (k : ℕ). (k == u + 1) && (get_or slice m 0 == x)) is_t
          ∙ (ap (λ (k : ℕ). (level_of sys levels (get_or slice m 0) == k + 1) && (get_or slice m 0 == x)) is_u
          ∙ ap (λ (l : List ℕ). (level_of sys levels (get_or l m 0) == level_of sys levels item + 1)
          && (get_or l m 0 == x)) same));
    })

-- a pair is noted for its consequence
pub follows_is : (sys : System) (levels : List ℕ) (p : Pair) (x : ℕ)
    → ((level_of sys levels p.derived == level_of_pair sys levels p + 1) && (p.derived == x)) ≡ follows_from sys levels x p
follows_is sys levels p x = ⊎_elim
    (λ same.
    let is = eq-eqb p.derived x same in
    ap (λ t. (level_of sys levels p.derived == level_of_pair sys levels p + 1) && t) is
    ∙ (and_true (level_of sys levels p.derived == level_of_pair sys levels p + 1)
    ∙ (ap (λ k. level_of sys levels k == level_of_pair sys levels p + 1) same
    ∙ sym (ap (λ t. t && (level_of sys levels x == level_of_pair sys levels p + 1)) is))))
    (λ other.
    let is = ne_eqb p.derived x other in
    ap (λ t. (level_of sys levels p.derived == level_of_pair sys levels p + 1) && t) is
    ∙ (and_false (level_of sys levels p.derived == level_of_pair sys levels p + 1)
    ∙ sym (ap (λ t. t && (level_of sys levels x == level_of_pair sys levels p + 1)) is)))
    (cases_eq p.derived x)

pub pair_noted : (sys : System) (levels : List ℕ) (p : Pair) (n t u : ℕ) (old after : List By) → length old ≡ n
    → t ≡ level_of sys levels p.derived → u ≡ level_of_pair sys levels p
    → AreNoted (length old) (λ x. note_if ((t == u + 1) && (p.derived == x)) (by.Pair p.one p.two) (noted_at old x)) after
    → AreNoted n (λ x. note_if (follows_from sys levels x p) (by.Pair p.one p.two) (noted_at old x)) after
pair_noted sys levels p n t u old after count is_t is_u noted = record {
  count = noted.count ∙ count;
  each = λ x within.
      noted.each x (subst (λ k. x < k) (sym count) within)
      ∙ ap (λ s. note_if s (by.Pair p.one p.two) (noted_at old x))
      (ap (λ (k : ℕ). (k == u + 1) && (p.derived == x)) is_t
      ∙ (ap (λ (k : ℕ). (level_of sys levels p.derived == k + 1) && (p.derived == x)) is_u ∙ follows_is sys levels p x));
}

-- no need is noted yet
pub among_first : (sys : System) (levels : List ℕ) (item : ℕ) (needs : List ℕ) (n : ℕ) (old : List By) → length old ≡ n
    → AreNoted n (λ x. note_if (is_among sys levels item needs 0 x) (by.Need item) (noted_at old x)) old
among_first sys levels item needs n old count = record {
  count = count;
  each = λ x lt. sym (ap (λ t. note_if t (by.Need item) (noted_at old x))
      (and_false (level_of sys levels x == level_of sys levels item + 1)));
}

-- all needs are
pub among_all : (sys : System) (levels : List ℕ) (item : ℕ) (n m : ℕ) (old cur : List By)
    → length (needs_of sys item) ≤ m
    → AreNoted n (λ x. note_if (is_among sys levels item (needs_of sys item) m x) (by.Need item) (noted_at old x)) cur
    → AreNoted n (λ x. note_if (is_needed_by sys levels x item) (by.Need item) (noted_at old x)) cur
among_all sys levels item n m old cur le noted = record {
  count = noted.count;
  each = λ x lt.
      noted.each x lt
      ∙ ap (λ (l : List ℕ). note_if ((level_of sys levels x == level_of sys levels item + 1) && list_any (λ y. x == y) l)
      (by.Need item) (noted_at old x)) (take_all m (needs_of sys item) le);
}

-- nothing is noted at first
pub noted_first : (n : ℕ) (sources : List By) → sources ≡ replicate n by.Seed → AreNoted n (λ x. by.Seed) sources
noted_first n sources is = record {
  count = ap length is ∙ length-replicate n by.Seed;
  each = λ x lt. ap (λ l. get_or l x by.Seed) is ∙ get_or-replicate n x by.Seed by.Seed lt;
}
