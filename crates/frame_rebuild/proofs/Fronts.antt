-- What locals become depends on those before them alone: a front that two frames share becomes a
-- front that both share.
use Rattle.std.proofs.Common.{◌≡◌, ℕ, zero, suc, ◌+◌, ◌-◌, ◌≤◌, Bool, true, false, cond, List, [], ◌∷◌, ◌++◌}
use Rattle.std.proofs.Common.{length, take, drop, refl, sym, ap, subst, ◌∙◌, arith, append_assoc}
use Rattle.std.specs.Prelude.{slice_get}
use Rattle.std.specs.Option.{unwrap_or}
use Rattle.std.proofs.lemmas.List.{length-append, take-append-drop, take_at}
use Rattle.std.proofs.lemmas.List.Sums.{sum_by-append, sum_by-cons}
use Rattle.class_model.specs.Frames.{words_of_type, words_of_types}
use Rattle.class_model.specs.declared.frame.VType.{VType}
use Rattle.class_model.specs.declared.frame.VType.TheVariants as vtype
use Rattle.frame_rebuild.specs.Carried.{moved_local, moved_locals, moved_type, tops}
use Rattle.frame_rebuild.specs.bodies.Ends.{end_behind, ends_from, last_end, no_end}
use Rattle.frame_rebuild.specs.declared.locals.End.{End}

module _ (lives cut : ℕ → Bool) where
  -- ---- fronts

  pub moved_joined : (slot : ℕ) (xs ys : List VType)
      → moved_locals lives cut slot (xs ++ ys)
      ≡ moved_locals lives cut slot xs ++ moved_locals lives cut (slot + words_of_types xs) ys
  unfolding moved_locals
  moved_joined slot [] ys =
      let start : slot ≡ slot + 0 = omega arith in ap (λ (n : ℕ). moved_locals lives cut n ys) start
  moved_joined slot (x ∷ xs) ys =
      let head = moved_local lives cut slot x in
      let next : slot + words_of_type x + words_of_types xs ≡ slot + words_of_types (x ∷ xs) =
      (let sum = sum_by-cons words_of_type x xs in omega (arith, sum)) in
      ap (λ (l : List VType). head ++ l) (moved_joined (slot + words_of_type x) xs ys)
      ∙ sym (append_assoc head (moved_locals lives cut (slot + words_of_type x) xs)
      (moved_locals lives cut (slot + words_of_type x + words_of_types xs) ys))
      ∙ ap (λ (n : ℕ). head ++ moved_locals lives cut (slot + words_of_type x) xs
      ++ moved_locals lives cut n ys) next

  -- behind all of these
  abbrev behind : End → List VType → End
  behind e xs = record {
    items = e.items + length (moved_locals lives cut e.slot xs);
    slot = e.slot + words_of_types xs;
  }

  tops_long : (ty : VType) → length (tops ty) ≡ words_of_type ty
  tops_long vtype.Long = refl
  tops_long vtype.Top = refl
  tops_long vtype.Int = refl
  tops_long vtype.Null = refl
  tops_long vtype.UninitThis = refl
  tops_long (vtype.Object ty) = refl
  tops_long (vtype.Uninit k) = refl

  local_long : (slot : ℕ) (ty : VType)
      → length (moved_local lives cut slot ty) ≡ cond (cut slot) (words_of_type ty) 1
  local_long slot ty = by (cut slot)
    where
      by : (b : Bool)
          → length (cond b (tops ty) (moved_type lives ty ∷ [])) ≡ cond b (words_of_type ty) 1
      by true = tops_long ty
      by false = refl

  some_words : (ty : VType) → 1 ≤ words_of_type ty
  some_words vtype.Long = omega arith
  some_words vtype.Top = omega arith
  some_words vtype.Int = omega arith
  some_words vtype.Null = omega arith
  some_words vtype.UninitThis = omega arith
  some_words (vtype.Object ty) = omega arith
  some_words (vtype.Uninit k) = omega arith

  -- there are no more of them than they take words
  pub moved_few : (slot : ℕ) (xs : List VType)
      → length (moved_locals lives cut slot xs) ≤ words_of_types xs
  unfolding moved_locals
  moved_few slot [] = omega arith
  moved_few slot (x ∷ xs) =
      let rest = moved_locals lives cut (slot + words_of_type x) xs in
      let sum = sum_by-cons words_of_type x xs in
      let joined = length-append (moved_local lives cut slot x) rest in
      let here : length (moved_local lives cut slot x) ≤ words_of_type x =
      (let long = local_long slot x in let least = by (cut slot) in omega (arith, long, least)) in
      let others = moved_few (slot + words_of_type x) xs in
      omega (arith, sum, joined, here, others)
    where
      by : (b : Bool) → cond b (words_of_type x) 1 ≤ words_of_type x
      by true = omega arith
      by false = some_words x

  -- ---- ends

  pub take_ends : (n : ℕ) (e : End) (xs : List VType)
      → take n (ends_from cut e xs) ≡ ends_from cut e (take n xs)
  unfolding ends_from
  take_ends zero e xs = refl
  take_ends (suc n) e [] = refl
  take_ends (suc n) e (x ∷ xs) =
      ap (λ (l : List End). end_behind cut e x ∷ l) (take_ends n (end_behind cut e x) xs)

  step : (e : End) (x : VType) (xs : List VType)
      → behind (end_behind cut e x) xs ≡ behind e (x ∷ xs)
  unfolding moved_locals
  step e x xs =
      let rest = moved_locals lives cut (e.slot + words_of_type x) xs in
      let sum = sum_by-cons words_of_type x xs in
      let joined = length-append (moved_local lives cut e.slot x) rest in
      let long = local_long e.slot x in
      let items : e.items + cond (cut e.slot) (words_of_type x) 1 + length rest
      ≡ e.items + length (moved_local lives cut e.slot x ++ rest) = omega (arith, joined, long) in
      let slot : e.slot + words_of_type x + words_of_types xs ≡ e.slot + words_of_types (x ∷ xs) =
      omega (arith, sum) in
      λ i. record { items = items i; slot = slot i }

  pub ends_joined : (e : End) (xs ys : List VType)
      → ends_from cut e (xs ++ ys) ≡ ends_from cut e xs ++ ends_from cut (behind e xs) ys
  unfolding ends_from moved_locals
  ends_joined e [] ys =
      let items : e.items ≡ e.items + 0 = omega arith in
      let slot : e.slot ≡ e.slot + 0 = omega arith in
      λ i. ends_from cut (record { items = items i; slot = slot i }) ys
  ends_joined e (x ∷ xs) ys =
      let next = end_behind cut e x in
      ap (λ (l : List End). next ∷ l) (ends_joined next xs ys
      ∙ ap (λ (f : End). ends_from cut next xs ++ ends_from cut f ys) (step e x xs))

  own_behind : (f : End) → f ≡ behind f []
  unfolding moved_locals
  own_behind f =
      let items : f.items ≡ f.items + 0 = omega arith in
      let slot : f.slot ≡ f.slot + 0 = omega arith in
      λ i. record { items = items i; slot = slot i }

  -- the last of ends is behind all locals
  last_behind : (e d : End) (x : VType) (xs : List VType)
      → unwrap_or (slice_get (ends_from cut e (x ∷ xs)) (length xs)) d ≡ behind e (x ∷ xs)
  unfolding ends_from moved_locals
  last_behind e d x [] = own_behind (end_behind cut e x) ∙ step e x []
  last_behind e d x (y ∷ ys) =
      last_behind (end_behind cut e x) d y ys ∙ step e x (y ∷ ys)

  ends_long : (e : End) (xs : List VType) → length (ends_from cut e xs) ≡ length xs
  unfolding ends_from
  ends_long e [] = refl
  ends_long e (x ∷ xs) = ap suc (ends_long (end_behind cut e x) xs)

  pub last_is : (xs : List VType) → last_end (ends_from cut no_end xs) ≡ behind no_end xs
  unfolding ends_from moved_locals
  last_is [] = refl
  last_is (x ∷ xs) =
      let at : length (ends_from cut no_end (x ∷ xs)) - 1 ≡ length xs =
      (let long = ends_long no_end (x ∷ xs) in omega (arith, long)) in
      ap (λ (n : ℕ). unwrap_or (slice_get (ends_from cut no_end (x ∷ xs)) n) no_end) at
      ∙ last_behind no_end no_end x xs

  -- ---- one local more

  pub none_moved : (slot : ℕ) → [] ≡ moved_locals lives cut slot []
  unfolding moved_locals
  none_moved slot = refl

  pub none_ends : (e : End) → [] ≡ ends_from cut e []
  unfolding ends_from
  none_ends e = refl

  -- What is left of locals begins with one of them.
  module _ (e next : End) (ty : VType) (tys all : List VType) (begins : all ≡ ty ∷ tys)
      (is : next ≡ end_behind cut e ty) where
    pub more_moved : (done more whole : List VType)
        → done ++ moved_locals lives cut e.slot all ≡ whole
        → more ≡ done ++ moved_local lives cut e.slot ty
        → more ++ moved_locals lives cut next.slot tys ≡ whole
    unfolding moved_locals
    more_moved done more whole so_far put =
        (λ i. put i ++ moved_locals lives cut (is i).slot tys)
        ∙ append_assoc done (moved_local lives cut e.slot ty)
        (moved_locals lives cut (e.slot + words_of_type ty) tys)
        ∙ ap (λ (l : List VType). done ++ moved_locals lives cut e.slot l) (sym begins) ∙ so_far

    pub more_ends : (done more whole : List End) → done ++ ends_from cut e all ≡ whole
        → more ≡ done ++ next ∷ [] → more ++ ends_from cut next tys ≡ whole
    unfolding ends_from
    more_ends done more whole so_far put =
        ap (λ (l : List End). l ++ ends_from cut next tys) put
        ∙ append_assoc done (next ∷ []) (ends_from cut next tys)
        ∙ (λ i. done ++ is i ∷ ends_from cut (is i) tys)
        ∙ ap (λ (l : List VType). done ++ ends_from cut e l) (sym begins) ∙ so_far

    pub more_items : e.items ≤ e.slot → next.items ≤ next.slot
    more_items few =
        let items : next.items ≡ e.items + cond (cut e.slot) (words_of_type ty) 1 =
        ap (λ (x : End). x.items) is in
        let slot : next.slot ≡ e.slot + words_of_type ty = ap (λ (x : End). x.slot) is in
        let least = by (cut e.slot) in
        omega (arith, items, slot, least, few)
      where
        by : (b : Bool) → cond b (words_of_type ty) 1 ≤ words_of_type ty
        by true = omega arith
        by false = some_words ty

    pub more_words : e.slot + words_of_types all ≤ 65535
        → next.slot + words_of_types tys ≤ 65535
    more_words few =
        let slot : next.slot ≡ e.slot + words_of_type ty = ap (λ (x : End). x.slot) is in
        let sum = sum_by-cons words_of_type ty tys in
        let whole : words_of_types all ≡ words_of_types (ty ∷ tys) = ap words_of_types begins in
        omega (arith, slot, sum, whole, few)

  -- ---- a frame behind another

  -- Of two lists of locals a front is the same.
  module _ (before here : List VType) (n : ℕ) (same : take n before ≡ take n here) where
    abbrev front : List VType
    front = take n here

    pub front_ends : (ends : List End) → ends ≡ ends_from cut no_end before
        → take n ends ≡ ends_from cut no_end front
    front_ends ends is =
        ap (take n) is ∙ take_ends n no_end before ∙ ap (ends_from cut no_end) same

    pub front_end : (ends : List End) → ends ≡ ends_from cut no_end before
        → last_end (take n ends) ≡ behind no_end front
    front_end ends is = ap last_end (front_ends ends is) ∙ last_is front

    split : before ≡ front ++ drop n before
    split = sym (take-append-drop n before) ∙ ap (λ (l : List VType). l ++ drop n before) same

    -- what the front becomes is a front of what the locals before became
    pub front_moved : moved_locals lives cut 0 before
        ≡ moved_locals lives cut 0 front
        ++ moved_locals lives cut (words_of_types front) (drop n before)
    front_moved =
        let start : 0 + words_of_types front ≡ words_of_types front = omega arith in
        ap (moved_locals lives cut 0) split ∙ moved_joined 0 front (drop n before)
        ∙ ap (λ (m : ℕ). moved_locals lives cut 0 front ++ moved_locals lives cut m (drop n before))
        start

    -- and what is left of that when the rest was taken away
    pub front_left : (e : End) → e ≡ behind no_end front → (k : ℕ)
        → k ≡ length (moved_locals lives cut 0 before) - e.items
        → take (length (moved_locals lives cut 0 before) - k) (moved_locals lives cut 0 before)
        ≡ moved_locals lives cut 0 front
    front_left e is k count =
        let rest = moved_locals lives cut (words_of_types front) (drop n before) in
        let items : e.items ≡ 0 + length (moved_locals lives cut 0 front) = ap (λ (x : End). x.items) is in
        let long : length (moved_locals lives cut 0 before)
        ≡ length (moved_locals lives cut 0 front) + length rest =
        ap (λ (l : List VType). length l) front_moved
        ∙ length-append (moved_locals lives cut 0 front) rest in
        let left : length (moved_locals lives cut 0 before) - k
        ≡ length (moved_locals lives cut 0 front) = omega (arith, items, long, count) in
        ap (λ (m : ℕ). take m (moved_locals lives cut 0 before)) left
        ∙ ap (take (length (moved_locals lives cut 0 front))) front_moved
        ∙ take_at (moved_locals lives cut 0 front) rest (length (moved_locals lives cut 0 front)) refl

    -- with the rest of the other list it is what that becomes
    pub whole_moved : (e : End) → e ≡ behind no_end front
        → moved_locals lives cut 0 front ++ moved_locals lives cut e.slot (drop n here)
        ≡ moved_locals lives cut 0 here
    whole_moved e is =
        ap (λ (x : End). moved_locals lives cut 0 front ++ moved_locals lives cut x.slot (drop n here)) is
        ∙ sym (moved_joined 0 front (drop n here))
        ∙ ap (moved_locals lives cut 0) (take-append-drop n here)

    pub whole_ends : (e : End) → e ≡ behind no_end front
        → ends_from cut no_end front ++ ends_from cut e (drop n here) ≡ ends_from cut no_end here
    whole_ends e is =
        ap (λ (x : End). ends_from cut no_end front ++ ends_from cut x (drop n here)) is
        ∙ sym (ends_joined no_end front (drop n here))
        ∙ ap (ends_from cut no_end) (take-append-drop n here)

    -- the front becomes no more items than it takes words
    pub front_items : (e : End) → e ≡ behind no_end front → e.items ≤ e.slot
    front_items e is =
        let items : e.items ≡ 0 + length (moved_locals lives cut 0 front) = ap (λ (x : End). x.items) is in
        let slot : e.slot ≡ 0 + words_of_types front = ap (λ (x : End). x.slot) is in
        let few = moved_few 0 front in
        omega (arith, items, slot, few)

    pub front_words : (e : End) → e ≡ behind no_end front → words_of_types here ≤ 65535
        → e.slot + words_of_types (drop n here) ≤ 65535
    front_words e is few =
        let slot : e.slot ≡ 0 + words_of_types front = ap (λ (x : End). x.slot) is in
        let sum : words_of_types here ≡ words_of_types front + words_of_types (drop n here) =
        ap words_of_types (sym (take-append-drop n here))
        ∙ sum_by-append words_of_type front (drop n here) in
        omega (arith, slot, sum, few)

    -- the front became no more than there is
    pub front_within : (ends : List End) → ends ≡ ends_from cut no_end before
        → (locals : List VType)
        → locals ≡ moved_locals lives cut 0 before → (last_end (take n ends)).items ≤ length locals
    front_within ends are locals is =
        let rest = moved_locals lives cut (words_of_types front) (drop n before) in
        let items : (last_end (take n ends)).items ≡ 0 + length (moved_locals lives cut 0 front) =
        ap (λ (x : End). x.items) (front_end ends are) in
        let long : length locals ≡ length (moved_locals lives cut 0 front) + length rest =
        ap (λ (l : List VType). length l) (is ∙ front_moved)
        ∙ length-append (moved_locals lives cut 0 front) rest in
        omega (arith, items, long)

    -- what is left of it, and what the rest of the other list becomes
    pub whole_built : (e : End) → e ≡ behind no_end front → (built rest more : List VType)
        → built ≡ moved_locals lives cut 0 before → rest ≡ drop n here
        → more ≡ moved_locals lives cut e.slot rest
        → take (length built - (length built - e.items)) built ++ more
        ≡ moved_locals lives cut 0 here
    whole_built e is built rest more built_is rest_is more_is =
        let old = moved_locals lives cut 0 before in
        (λ i. take (length (built_is i) - (length (built_is i) - e.items)) (built_is i) ++ more)
        ∙ ap (λ (l : List VType). l ++ more) (front_left e is (length old - e.items) refl)
        ∙ ap (λ (l : List VType). moved_locals lives cut 0 front ++ l)
        (more_is ∙ ap (moved_locals lives cut e.slot) rest_is)
        ∙ whole_moved e is
