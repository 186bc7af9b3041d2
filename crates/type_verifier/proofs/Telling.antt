-- What is noted of the types that fit in the locals where handlers begin, from instruction to instruction.
use Rattle.std.proofs.Common.{◌≡◌, ◌⊎◌, ◌≤◌, ◌<◌, ℕ, zero, suc, ◌+◌, ◌-◌, Bool, true, false, not, ◌||◌, nat_eq, nat_le}
use Rattle.std.proofs.Common.{nat_lt, IsTrue, List, [], length, get_or, Option, Some, None, inl, inr, refl, sym}
use Rattle.std.proofs.Common.{ap, subst, ◌∙◌, arith, ⊎_elim}
use Rattle.std.specs.Prelude.{IfSome}
use Rattle.std.specs.Cmp.Lexicographic.{pointwise}
use Rattle.std.specs.List.{list_any}
use Rattle.std.proofs.lemmas.Bool.{le-leb, lt-ltb, ltb-true, and_parts, both_ways}
use Rattle.std.proofs.lemmas.Bool.Decides.{eqb_tells, leb_tells}
use Rattle.std.proofs.lemmas.List.{drop_all}
use Rattle.std.proofs.lemmas.List.Folds.{list_any_at}
use Rattle.class_model.specs.declared.code.Handler.{Handler}
use Rattle.class_model.specs.declared.frame.VType.{VType}
use Rattle.class_model.specs.declared.frame.VType.TheVariants as vtype
use Rattle.type_verifier.specs.declared.changed.Changed.{Changed}
use Rattle.type_verifier.specs.declared.fitting.Fitting.{Fitting}
use Rattle.type_verifier.specs.declared.fitting.Noted.{Noted}
use Rattle.type_verifier.specs.declared.frame.TypeFrame.{TypeFrame}
use Rattle.type_verifier.specs.Assignable.{is_assignable}
use Rattle.type_verifier.specs.Environment.{Environment, declared_frame_at}
use Rattle.type_verifier.specs.Walk.{covers, satisfies, satisfies_handlers}
use Rattle.type_verifier.specs.bodies.Asked.{covers_behind, covers_first, handler_at, no_handler, satisfies_behind}
use Rattle.type_verifier.specs.bodies.Noting.{AreFitting, AreNoted, FitsBehind, FitsWord, HasNoted, IsCount}
use Rattle.type_verifier.specs.bodies.Noting.{IsInDoubt, IsTold, Notes, word_of}
use Rattle.type_verifier.specs.bodies.Since.{AreElse, IsKnown, IsSince}
use Rattle.type_verifier.proofs.Asking.{all_behind, known_of}
use Rattle.type_verifier.proofs.Handled.{fits_before, holds_at, implied, is_true, known_else, known_fits, known_free}
use Rattle.type_verifier.proofs.Handled.{known_within, parts}
use Rattle.type_verifier.proofs.Noting.{front_at, pointwise_at, pointwise_from, rest_at}

-- ---- which handlers cover what

module _ (at : ℕ) (h : Handler) where
  -- what covers the next instruction and this one
  covers_this : covers_behind (at + 1) h ≡ true → covers at h ≡ true
  covers_this cov =
      let b = and_parts (nat_lt h.from (at + 1)) (nat_lt (at + 1) h.to) cov in
      let begun = ltb-true h.from (at + 1) b.0 in
      let ends = ltb-true (at + 1) h.to b.1 in
      let le : nat_le h.from at ≡ true = le-leb h.from at (omega (arith, begun)) in
      let lt : nat_lt at h.to ≡ true = lt-ltb at h.to (omega (arith, ends)) in
      rw (le, lt) refl

  -- it covers this one as the first, or the one before too
  covers_how : covers_behind (at + 1) h ≡ true → (covers_first at h ≡ true) ⊎ (covers_behind at h ≡ true)
  covers_how cov =
      let b = and_parts (nat_lt h.from (at + 1)) (nat_lt (at + 1) h.to) cov in
      let begun = ltb-true h.from (at + 1) b.0 in
      let ends = ltb-true (at + 1) h.to b.1 in
      ⊎_elim
      (λ e. let is : nat_eq at h.from ≡ true = e.0 in let this = covers_this cov in inl (rw (is, this) refl))
      (λ n.
      let ne = n.1 in
      let less : nat_lt h.from at ≡ true = lt-ltb h.from at (omega (arith, begun, ne)) in
      let more : nat_lt at h.to ≡ true = lt-ltb at h.to (omega (arith, ends)) in
      inr (rw (less, more) refl))
      (eqb_tells at h.from)

  -- what covers this one and the one before
  covers_last : 0 < at → covers_behind at h ≡ true → covers (at - 1) h ≡ true
  covers_last some cov =
      let b = and_parts (nat_lt h.from at) (nat_lt at h.to) cov in
      let begun = ltb-true h.from at b.0 in
      let ends = ltb-true at h.to b.1 in
      let le : nat_le h.from (at - 1) ≡ true = le-leb h.from (at - 1) (omega (arith, begun)) in
      let lt : nat_lt (at - 1) h.to ≡ true = lt-ltb (at - 1) h.to (omega (arith, ends)) in
      rw (le, lt) refl

-- lists that are related but for these places, and at these too
else_at : {X : Type 0} (E : X → X → Bool) (c : Changed) (xs ys : List X) (d : X) → AreElse E c xs ys
    → ((i : ℕ) → c.from ≤ i → i < c.to → i < length xs → E (get_or xs i d) (get_or ys i d) ≡ true)
    → pointwise E xs ys ≡ true
else_at E c xs ys d e each = pointwise_from E xs ys d e.long (λ i lt. ⊎_elim
    (λ t. ⊎_elim
    (λ r. rest_at E c.to xs ys i d e.rest r.1 lt)
    (λ r. each i t.1 r.1 lt)
    (leb_tells c.to i))
    (λ t. front_at E c.from xs ys i d e.front t.1 lt)
    (leb_tells c.from i))

module _ (env : Environment) where
  -- ---- what is told

  satisfies_at : (at : ℕ) (f : TypeFrame) (n : ℕ) → IsTrue (satisfies_handlers env at f) → n < length env.code.handlers
      → covers at (handler_at env.code n) ≡ true → satisfies env f (handler_at env.code n) ≡ true
  satisfies_at at f n s lt cov =
      let h = handler_at env.code n in
      implied env (covers at h) (satisfies env f h)
      (holds_at env (λ x. not (covers at x) || satisfies env f x) env.code.handlers n no_handler
      (is_true (satisfies_handlers env at f) s) lt) cov

  -- a handler was satisfied by a frame that differs in these words, and what they hold fits there
  told_handler : (f : TypeFrame) (doubt : Changed) (h : Handler) → IsKnown env h doubt f
      → ((word : ℕ) → doubt.from ≤ word → word < doubt.to → word < length f.locals
      → FitsWord env h word (word_of f.locals word)) → satisfies env f h ≡ true
  told_handler f doubt h k fits = by (declared_frame_at env h.entry) refl
    where
      by : (o : Option TypeFrame) → declared_frame_at env h.entry ≡ o → satisfies env f h ≡ true
      by None e = known_free env h doubt f k e
      by (Some d) e =
          let E : VType → VType → Bool = is_assignable env.classes in
          let rest = known_else env h doubt f d k e in
          let long = rest.long in
          known_fits env h doubt f d k e
          ∙ else_at E doubt f.locals d.locals vtype.Top rest (λ word begun ends less.
          fits word begun ends less (known_within env h doubt f k) d e (omega (arith, long, less)))

module _ (env : Environment) (at : ℕ) (f : TypeFrame) (fitting : Fitting) (are : AreFitting env at fitting) where
  -- each handler that covers this instruction and the one before was satisfied by a frame of as many words
  known_counted : IsCount env at (length f.locals) → f.marked ≡ false → (n : ℕ) → n < length env.code.handlers
      → covers_behind at (handler_at env.code n) ≡ true
      → IsKnown env (handler_at env.code n) (record { from = 0; to = length f.locals }) f
  known_counted count free n lt cov =
      let h = handler_at env.code n in
      let b = count.1 in
      let s = satisfies_at env (at - 1) b n count.2 lt (covers_last at h count.0 cov) in
      let long : length b.locals ≡ length f.locals = count.3 in (
        b,
        s,
        record {
          ordered = omega arith;
          long = sym long;
          front = refl;
          rest = drop_all (length f.locals) f.locals (omega arith)
              ∙ sym (drop_all (length f.locals) b.locals (omega (arith, long)));
          marked = free ∙ sym (parts env b h s).free;
        },
      )

  known_doubt : (since : Option Changed) (doubt : Changed) → IsSince env at since f → IsInDoubt fitting f since doubt
      → (n : ℕ) → n < length env.code.handlers → covers_behind at (handler_at env.code n) ≡ true
      → IsKnown env (handler_at env.code n) doubt f
  known_doubt since doubt s (inl e) n lt cov =
      known_of env at doubt f (subst (λ (o : Option Changed). IsSince env at o f) e s) n lt cov
  known_doubt since doubt s (inr q) n lt cov =
      subst (λ (c : Changed). IsKnown env (handler_at env.code n) c f) (sym q.3)
      (known_counted (subst (λ (o : Option ℕ). IfSome o (IsCount env at)) q.1 are.count) q.2 n lt cov)

  pub told_behind : (since : Option Changed) → IsSince env at since f → IsTold fitting f since
      → satisfies_behind env at f ≡ true
  told_behind since s t = all_behind env at f (λ n lt cov.
      told_handler env f t.0 (handler_at env.code n) (known_doubt since t.0 s t.1 n lt cov)
      (λ word begun ends less. are.noted word (word_of f.locals word) (t.2 word begun ends less) n lt cov))

module _ (env : Environment) where
  -- ---- what is noted at the next instruction

  pub none_noted : (at : ℕ) (noted : List (Option Noted)) → noted ≡ [] → AreNoted env at noted
  none_noted at noted none word ty has = absurd (empty (record { word = word; ty = ty }) has.0
      (ap (λ (l : List (Option Noted)). get_or l has.0 None) (sym none) ∙ has.1))
    where
      empty : (n : Noted) (i : ℕ) → get_or (let l : List (Option Noted) = [] in l) i None ≡ Some n → ⊥
      empty n zero e = absurd cc
      empty n (suc i) e = absurd cc

  -- before the first one
  pub fitting_begun : (fitting : Fitting) → fitting.count ≡ None → fitting.noted.items ≡ [] → AreFitting env 0 fitting
  fitting_begun fitting count none = record {
    count = subst (λ (o : Option ℕ). IfSome o (IsCount env 0)) (sym count) tt;
    noted = none_noted 0 fitting.noted.items none;
  }

  -- no handler covers this one as the first
  pub noted_still : (at : ℕ) (noted : List (Option Noted)) → AreNoted env at noted
      → list_any (λ (h : Handler). nat_eq at h.from) env.code.handlers ≡ false → AreNoted env (at + 1) noted
  noted_still at noted are none word ty has n lt cov = ⊎_elim
      (λ first.
      let h = handler_at env.code n in
      let is = (and_parts (nat_eq at h.from) (covers at h) first).0 in
      absurd (both_ways (list_any (λ (x : Handler). nat_eq at x.from) env.code.handlers) none
      (list_any_at (λ (x : Handler). nat_eq at x.from) env.code.handlers n no_handler lt is)))
      (λ behind. are word ty has n lt behind)
      (covers_how at (handler_at env.code n) cov)

  -- ---- what a frame has that satisfies its handlers

  frame_fits : (at : ℕ) (f : TypeFrame) → IsTrue (satisfies_handlers env at f) → (word : ℕ) → word < length f.locals
      → FitsBehind env (at + 1) word (word_of f.locals word)
  frame_fits at f s word less n lt cov within d is there =
      let h = handler_at env.code n in
      let p = parts env f h (satisfies_at env at f n s lt (covers_this at h cov)) in
      pointwise_at (is_assignable env.classes) f.locals d.locals word vtype.Top vtype.Top
      (fits_before env h f d p is).0 less

  pub went_on : (at : ℕ) (f : TypeFrame) (now new : List (Option Noted)) (fitting : Fitting)
      → IsTrue (satisfies_handlers env at f) → AreNoted env (at + 1) now → Notes now new f.locals
      → fitting.count ≡ Some (length f.locals) → fitting.noted.items ≡ new → AreFitting env (at + 1) fitting
  went_on at f now new fitting s are notes count is =
      let n : at ≡ at + 1 - 1 = omega arith in
      let counted : IsCount env (at + 1) (length f.locals) =
      (omega arith, f, subst (λ (k : ℕ). IsTrue (satisfies_handlers env k f)) n s, refl) in
      record {
        count = subst (λ (o : Option ℕ). IfSome o (IsCount env (at + 1))) (sym count) counted;
        noted = λ word ty has. ⊎_elim
            (λ was. are word ty was)
            (λ h. subst (FitsBehind env (at + 1) word) (sym h.1) (frame_fits at f s word h.0))
            (notes word ty (subst (λ (l : List (Option Noted)). HasNoted l word ty) is has));
      }
