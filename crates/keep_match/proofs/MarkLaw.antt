-- Marks of one more rule.
use Rattle.std.proofs.Common.{◌≡◌, ℕ, ◌+◌, ◌<◌, ◌≤◌, zero, suc, Bool, true, false, ◌&&◌, List, [], ◌∷◌, ◌++◌}
use Rattle.std.proofs.Common.{length, set, take, get_or, slice_get, Some, refl, sym, ap, ◌∙◌, subst, arith, ◌⊎◌}
use Rattle.std.proofs.Common.{inl, inr, get_or-set_other, get_or-set_same, length-append, replicate}
use Rattle.std.proofs.lemmas.Bool.{cases_eq}
use Rattle.std.proofs.lemmas.List.{length-set, set-get_or, take_more}
use Rattle.std.proofs.lemmas.Option.{slice_get-get_or}
use Rattle.jv_base.proofs.Lists.{found_at}
use Rattle.class_model.specs.declared.class.Class.{Class}
use Rattle.keep_rules.specs.declared.rules.Filter.{Filter}
use Rattle.keep_rules.specs.declared.rules.Keep.{Keep}
use Rattle.keep_match.specs.Filters.{accepts}
use Rattle.keep_match.specs.bodies.Marks.{AreAdded, AreLiteral, AreMarked, AreNames, AreRows, HasRows, IsDone}
use Rattle.keep_match.specs.bodies.Marks.{IsMarking, IsNamed, IsNumber, IsPut, IsUnnamed, marked, members_kept, or_each}
use Rattle.keep_match.specs.bodies.Marks.{row_at}
use Rattle.class_pool.specs.Count.{items_of}
use Rattle.keep_match.specs.Matches.{matches_but_name, matches_class, matches_class_name}
use Rattle.keep_match.specs.Seeds.{are_kept, are_members_met, keeps_class, keeps_classes}
use Rattle.keep_match.proofs.NameLaw.{accepted_named, get_below}
use Rattle.keep_match.proofs.RowLaw.{is_marked, kept_more, kept_none, kept_width, marked_twice, marked_width}
use Rattle.keep_match.proofs.RowLaw.{not_marked}

-- ---- what a rule keeps, where it keeps classes

pub class_kept : (classes : List Class) (n : ℕ) (c : Class) (k : Keep) → keeps_classes k ≡ true
    → accepts (λ pattern. matches_class_name pattern c.name) k.spec.names ≡ true
    → keeps_class classes n c k ≡ (matches_but_name k.spec classes n c && are_members_met k.kind k.spec.members c)
unfolding keeps_class matches_class
class_kept classes n c k on named =
    ap (λ (b : Bool). (b && (accepts (λ pattern. matches_class_name pattern c.name) k.spec.names
    && matches_but_name k.spec classes n c)) && are_members_met k.kind k.spec.members c) on
    ∙ ap (λ (b : Bool). (b && matches_but_name k.spec classes n c) && are_members_met k.kind k.spec.members c) named

pub class_unnamed : (classes : List Class) (n : ℕ) (c : Class) (k : Keep) → keeps_classes k ≡ true
    → accepts (λ pattern. matches_class_name pattern c.name) k.spec.names ≡ false → keeps_class classes n c k ≡ false
unfolding keeps_class matches_class
class_unnamed classes n c k on named =
    ap (λ (b : Bool). (b && (accepts (λ pattern. matches_class_name pattern c.name) k.spec.names
    && matches_but_name k.spec classes n c)) && are_members_met k.kind k.spec.members c) on
    ∙ ap (λ (b : Bool). (b && matches_but_name k.spec classes n c) && are_members_met k.kind k.spec.members c) named

pub class_off : (classes : List Class) (n : ℕ) (c : Class) (k : Keep) → keeps_classes k ≡ false
    → keeps_class classes n c k ≡ false
unfolding keeps_class
class_off classes n c k off =
    ap (λ (b : Bool). (b && matches_class k.spec classes n c) && are_members_met k.kind k.spec.members c) off

-- ---- rows that are marked one after the other

same_class : {A : Type 0} (xs : List A) (n : ℕ) (x y : A) → slice_get xs n ≡ Some x → slice_get xs n ≡ Some y → x ≡ y
same_class xs n x y h k = cc

module _ (classes : List Class) (k : Keep) (old now new : List (List Bool)) (m : ℕ) (d : Class)
    (at : slice_get classes m ≡ Some d) (count : length old ≡ length classes) (within : m < length classes)
    (so_far : IsMarking classes k old now)
    (put : IsPut classes k now new m) where
  here : row_at new m ≡ marked classes m d k (row_at now m)
  here =
      let lt : m < length now = omega (arith, so_far.count) in
      ap (λ (rows : List (List Bool)). row_at rows m) (put d at)
      ∙ get_or-set_same now m (marked classes m d k (row_at now m)) [] lt

  there : (n : ℕ) → (n ≡ m → ⊥) → row_at new n ≡ row_at now n
  there n other =
      ap (λ (rows : List (List Bool)). row_at rows n) (put d at)
      ∙ get_or-set_other now m n (marked classes m d k (row_at now m)) [] other

  put_length : length new ≡ length now
  put_length = ap length (put d at) ∙ length-set now m (marked classes m d k (row_at now m))

  -- the class is done
  done_here : row_at new m ≡ marked classes m d k (row_at old m)
  done_here = elim (so_far.each m d at) [
    | inl e ↦ here ∙ ap (marked classes m d k) e
    | inr e ↦ here ∙ ap (marked classes m d k) e ∙ marked_twice classes m d k (row_at old m)
  ]

  pub done_put : IsDone classes k old new m
  done_put c is =
      let same = same_class classes m d c at is in
      done_here ∙ ap (λ (x : Class). marked classes m x k (row_at old m)) same

  pub done_stays : (n : ℕ) → IsDone classes k old now n → IsDone classes k old new n
  done_stays n done = elim (cases_eq n m) [
    | inl e ↦ subst (λ (j : ℕ). IsDone classes k old new j) (sym e) done_put
    | inr other ↦ λ c is. there n other ∙ done c is
  ]

  pub marking_put : IsMarking classes k old new
  marking_put = record {
    count = put_length ∙ so_far.count;
    each = λ n c is. by n c is (cases_eq n m);
  }
    where
      by : (n : ℕ) (c : Class) → slice_get classes n ≡ Some c → (n ≡ m) ⊎ (n ≡ m → ⊥)
          → (row_at new n ≡ row_at old n) ⊎ (row_at new n ≡ marked classes n c k (row_at old n))
      by n c is (inl e) = inr (subst (λ (j : ℕ). IsDone classes k old new j) (sym e) done_put c is)
      by n c is (inr other) = elim (so_far.each n c is) [
        | inl e ↦ inl (there n other ∙ e)
        | inr e ↦ inr (there n other ∙ e)
      ]

pub marking_none : (classes : List Class) (k : Keep) (old : List (List Bool)) → IsMarking classes k old old
marking_none classes k old = record { count = refl; each = λ n c is. inl refl }

-- a class that the rule doesn't keep is done
pub done_not : (classes : List Class) (k : Keep) (old new : List (List Bool)) (n : ℕ) → IsMarking classes k old new
    → ((c : Class) → slice_get classes n ≡ Some c → keeps_class classes n c k ≡ false) → IsDone classes k old new n
done_not classes k old new n h off c is = elim (h.each n c is) [
  | inl e ↦ e ∙ sym (not_marked classes n c k (row_at old n) (off c is))
  | inr e ↦ e
]

pub all_marked : (classes : List Class) (k : Keep) (old new : List (List Bool)) → IsMarking classes k old new
    → ((n : ℕ) → n < length classes → IsDone classes k old new n) → AreMarked classes k old new
all_marked classes k old new h done = record { count = h.count; each = done }

-- a row that stays is put at its place
pub row_kept : (classes : List Class) (n : ℕ) (c : Class) (k : Keep) (rows : List (List Bool))
    → keeps_class classes n c k ≡ false → rows ≡ set rows n (marked classes n c k (row_at rows n))
row_kept classes n c k rows off =
    sym (ap (λ (r : List Bool). set rows n r) (not_marked classes n c k (row_at rows n) off) ∙ set-get_or rows n [])

-- ---- rows stay as wide

pub rows_stay : (classes : List Class) (k : Keep) (old new : List (List Bool)) → AreRows classes old
    → IsMarking classes k old new → AreRows classes new
rows_stay classes k old new h m = record {
  count = m.count ∙ h.count;
  widths = λ n c at. elim (m.each n c at) [
    | inl e ↦ ap length e ∙ h.widths n c at
    | inr e ↦ ap length e ∙ marked_width classes n c k (row_at old n) ∙ h.widths n c at
  ];
}

pub rows_wide : (classes : List Class) (ks : List Keep) (rows : List (List Bool)) → HasRows classes ks rows
    → AreRows classes rows
rows_wide classes ks rows h = record {
  count = h.count;
  widths = λ n c at. ap length (h.each n c at) ∙ kept_width ks classes n c;
}

-- ---- classes that are added

pub added_put : (classes : List Class) (k : Keep) (now new : List (List Bool)) (m : ℕ) (d : Class)
    → slice_get classes m ≡ Some d → m < length classes → IsPut classes k now new m
    → AreAdded classes k now new (λ n. n ≡ m)
added_put classes k now new m d at within put = record {
  marking = λ old count h. marking_put classes k old now new m d at count within h put;
  stays = λ old n count h done. done_stays classes k old now new m d at count within h put n done;
  done = λ old n count h e. subst (λ (j : ℕ). IsDone classes k old new j) (sym e)
      (done_put classes k old now new m d at count within h put);
}

pub added_none : (classes : List Class) (k : Keep) (now : List (List Bool)) (m : ℕ)
    → ((c : Class) → slice_get classes m ≡ Some c → keeps_class classes m c k ≡ false)
    → AreAdded classes k now now (λ n. n ≡ m)
added_none classes k now m off = record {
  marking = λ old count h. h;
  stays = λ old n count h done. done;
  done = λ old n count h e. subst (λ (j : ℕ). IsDone classes k old now j) (sym e) (done_not classes k old now m h off);
}

pub added_named : (classes : List Class) (k : Keep) (now new : List (List Bool)) (name : List ℕ) (m : ℕ)
    → IsNumber classes name m → AreAdded classes k now new (λ n. n ≡ m)
    → AreAdded classes k now new (IsNamed classes name)
added_named classes k now new name m number h = record {
  marking = h.marking;
  stays = h.stays;
  done = λ old n count so_far named. h.done old n count so_far (number.only n named.0 named.1 named.2);
}

pub added_unnamed : (classes : List Class) (k : Keep) (now : List (List Bool)) (name : List ℕ) → IsUnnamed classes name
    → AreAdded classes k now now (IsNamed classes name)
added_unnamed classes k now name none = record {
  marking = λ old count h. h;
  stays = λ old n count h done. done;
  done = λ old n count h named. absurd (none n named.0 named.1 named.2);
}

-- ---- all classes in turn

pub each_more : (classes : List Class) (k : Keep) (old now new : List (List Bool)) (i : ℕ) → length old ≡ length classes
    → IsMarking classes k old now → ((n : ℕ) → n < i → IsDone classes k old now n)
    → AreAdded classes k now new (λ n. n ≡ i)
    → IsMarking classes k old new × ((n : ℕ) → n < i + 1 → IsDone classes k old new n)
each_more classes k old now new i count h done more = (more.marking old count h, λ n lt. by n lt (cases_eq n i))
  where
    by : (n : ℕ) → n < i + 1 → (n ≡ i) ⊎ (n ≡ i → ⊥) → IsDone classes k old new n
    by n lt (inl e) = more.done old n count h e
    by n lt (inr other) = more.stays old n count h (done n (omega arith))

-- the classes that the first patterns name are done
abbrev pub AreDone : List Class → Keep → List (List Bool) → List (List Bool) → ℕ → Type 0
AreDone classes k old new i = (j n : ℕ) (f : Filter) → j < i → slice_get k.spec.names j ≡ Some f
    → IsNamed classes f.pattern n → IsDone classes k old new n

pub named_more : (classes : List Class) (k : Keep) (old now new : List (List Bool)) (i : ℕ) (f : Filter)
    → length old ≡ length classes → slice_get k.spec.names i ≡ Some f → IsMarking classes k old now
    → AreDone classes k old now i → AreAdded classes k now new (IsNamed classes f.pattern)
    → IsMarking classes k old new × AreDone classes k old new (i + 1)
named_more classes k old now new i f count at h done more =
    (more.marking old count h, λ j n g lt at_g named. by j n g lt at_g named (cases_eq j i))
  where
    by : (j n : ℕ) (g : Filter) → j < i + 1 → slice_get k.spec.names j ≡ Some g → IsNamed classes g.pattern n
        → (j ≡ i) ⊎ (j ≡ i → ⊥) → IsDone classes k old new n
    by j n g lt at_g named (inl e) =
        let same : g ≡ f = same_class k.spec.names i g f (ap (slice_get k.spec.names) (sym e) ∙ at_g) at in
        more.done old n count h (named.0, named.1, named.2 ∙ ap (λ (x : Filter). x.pattern) same)
    by j n g lt at_g named (inr other) = more.stays old n count h (done j n g (omega arith) at_g named)

pub named_all : (classes : List Class) (k : Keep) (old new : List (List Bool)) (names : List (List ℕ))
    → keeps_classes k ≡ true → AreLiteral (length k.spec.names) k.spec.names
    → AreNames classes (length classes) names → IsMarking classes k old new
    → AreDone classes k old new (length k.spec.names) → AreMarked classes k old new
named_all classes k old new names on literal known h done = all_marked classes k old new h (λ n lt c at.
    by n c at lt (accepts (λ pattern. matches_class_name pattern c.name) k.spec.names) refl)
  where
    by : (n : ℕ) (c : Class) → slice_get classes n ≡ Some c → n < length classes → (b : Bool)
        → accepts (λ pattern. matches_class_name pattern c.name) k.spec.names ≡ b
        → row_at new n ≡ marked classes n c k (row_at old n)
    by n c at lt true holds =
        let found = accepted_named k.spec.names literal c (known.texts n c lt at) holds in
        done found.0 n found.1 (get_below k.spec.names found.0 found.1 found.2) found.2 (c, at, found.3) c at
    by n c at lt false no_ = done_not classes k old new n h (λ d is.
        ap (λ (x : Class). keeps_class classes n x k) (same_class classes n d c is at)
        ∙ class_unnamed classes n c k on no_) c at

pub off_marked : (classes : List Class) (k : Keep) (rows : List (List Bool)) → keeps_classes k ≡ false
    → AreMarked classes k rows rows
off_marked classes k rows off = all_marked classes k rows rows (marking_none classes k rows) (λ n lt.
    done_not classes k rows rows n (marking_none classes k rows) (λ c is. class_off classes n c k off))

-- ---- one rule after the other

pub rules_more : (classes : List Class) (ks : List Keep) (i : ℕ) (k : Keep) (old new : List (List Bool))
    → i < length ks → get_or ks i k ≡ k → HasRows classes (take i ks) old → AreMarked classes k old new
    → HasRows classes (take (i + 1) ks) new
rules_more classes ks i k old new lt at h more = record {
  count = more.count ∙ h.count;
  each = λ n c is.
      let below : n < length classes = get_below classes n c is in
      more.each n below c is ∙ ap (marked classes n c k) (h.each n c is)
      ∙ sym (kept_more classes n c (take i ks) k)
      ∙ ap (λ (js : List Keep). are_kept js classes (n, c)) (ap (λ (x : Keep). take i ks ++ (x ∷ [])) (sym at)
      ∙ sym (take_more ks i k lt));
}

pub rules_all : (classes : List Class) (ks : List Keep) (i : ℕ) (rows : List (List Bool)) → length ks ≤ i
    → HasRows classes (take i ks) rows → HasRows classes ks rows
rules_all classes ks i rows le h = subst (λ (js : List Keep). HasRows classes js rows) (take_long ks i le) h
  where
    take_long : {A : Type 0} (xs : List A) (n : ℕ) → length xs ≤ n → take n xs ≡ xs
    take_long [] zero le = refl
    take_long [] (suc n) le = refl
    take_long (x ∷ xs) zero le = absurd (omega arith)
    take_long (x ∷ xs) (suc n) le = ap (λ (t : List _). x ∷ t) (take_long xs n (omega arith))

-- ---- rows without marks

front_at : (rows : List (List Bool)) (r : List Bool) (n : ℕ) → n < length rows
    → row_at (rows ++ (r ∷ [])) n ≡ row_at rows n
front_at [] r n lt = absurd (omega arith)
front_at (x ∷ rows) r zero lt = refl
front_at (x ∷ rows) r (suc n) lt = front_at rows r n (omega arith)

last_at : (rows : List (List Bool)) (r : List Bool) → row_at (rows ++ (r ∷ [])) (length rows) ≡ r
last_at [] r = refl
last_at (x ∷ rows) r = last_at rows r

-- the rows of the first classes
abbrev pub AreUnmarked : List Class → ℕ → List (List Bool) → Type 0
AreUnmarked classes i rows = (length rows ≡ i) × ((n : ℕ) (c : Class) → n < i → slice_get classes n ≡ Some c
    → row_at rows n ≡ are_kept [] classes (n, c))

pub unmarked_more : (classes : List Class) (i : ℕ) (rows : List (List Bool)) (r : List Bool) (c : Class)
    → AreUnmarked classes i rows → slice_get classes i ≡ Some c → r ≡ replicate (items_of c) false
    → AreUnmarked classes (i + 1) (rows ++ (r ∷ []))
unmarked_more classes i rows r c h at e = (
  length-append rows (r ∷ []) ∙ ap (λ (k : ℕ). k + 1) h.0,
  λ n d lt is. by n d lt is (cases_eq n i),
)
  where
    by : (n : ℕ) (d : Class) → n < i + 1 → slice_get classes n ≡ Some d → (n ≡ i) ⊎ (n ≡ i → ⊥)
        → row_at (rows ++ (r ∷ [])) n ≡ are_kept [] classes (n, d)
    by n d lt is (inl same) =
        let one = same_class classes i c d at (ap (slice_get classes) (sym same) ∙ is) in
        ap (row_at (rows ++ (r ∷ []))) (same ∙ sym h.0) ∙ last_at rows r ∙ e
        ∙ ap (λ (x : Class). replicate (items_of x) false) one ∙ sym (kept_none classes n d)
    by n d lt is (inr other) =
        let below : n < i = omega arith in
        front_at rows r n (omega (arith, h.0)) ∙ h.1 n d below is

pub unmarked_all : (classes : List Class) (i : ℕ) (rows : List (List Bool)) → i ≡ length classes
    → AreUnmarked classes i rows → HasRows classes [] rows
unmarked_all classes i rows e h = record {
  count = h.0 ∙ e;
  each = λ n c is. h.1 n c (let b = get_below classes n c is in omega (arith, b, e)) is;
}

-- the marks of a class that is kept
pub put_kept : (classes : List Class) (k : Keep) (old new : List (List Bool)) (n : ℕ) (c : Class) (row : List Bool)
    → slice_get classes n ≡ Some c → keeps_class classes n c k ≡ true → new ≡ set old n row
    → row ≡ or_each (row_at old n) (true ∷ members_kept k.spec.members c) → IsPut classes k old new n
put_kept classes k old new n c row at holds e is d at_d =
    e ∙ ap (set old n) (is ∙ sym (is_marked classes n c k (row_at old n) holds)
    ∙ ap (λ (x : Class). marked classes n x k (row_at old n)) (same_class classes n c d at at_d))

pub put_none : (classes : List Class) (k : Keep) (old : List (List Bool)) (n : ℕ) (c : Class)
    → slice_get classes n ≡ Some c → keeps_class classes n c k ≡ false → IsPut classes k old old n
put_none classes k old n c at off d at_d =
    row_kept classes n d k old (ap (λ (x : Class). keeps_class classes n x k) (same_class classes n d c at_d at) ∙ off)

-- ---- what calls tell

pub value_there : {A : Type 0} (xs ys : List A) (n : ℕ) (x : A) → xs ≡ ys → n < length xs → x ≡ get_or xs n x
    → slice_get ys n ≡ Some x
value_there xs ys n x e lt is =
    ap (λ (zs : List _). slice_get zs n) (sym e) ∙ slice_get-get_or xs n x lt ∙ ap Some (sym is)

module _ (classes : List Class) (k : Keep) (m : ℕ) (d : Class) (name : List ℕ) (names : List Filter)
    (at : slice_get classes m ≡ Some d) (on : keeps_classes k ≡ true) (e : name ≡ d.name)
    (f : names ≡ k.spec.names) where
  said_of : (b : Bool) → b ≡ accepts (λ pattern. matches_class_name pattern name) names → (c : Class)
      → slice_get classes m ≡ Some c → accepts (λ pattern. matches_class_name pattern c.name) k.spec.names ≡ b
  said_of b said c is =
      let same = same_class classes m d c at is in
      sym (said ∙ (λ i. accepts (λ pattern. matches_class_name pattern (e i)) (f i))
      ∙ ap (λ (x : Class). accepts (λ pattern. matches_class_name pattern x.name) k.spec.names) same)

  pub named_at : true ≡ accepts (λ pattern. matches_class_name pattern name) names → (c : Class)
      → slice_get classes m ≡ Some c → accepts (λ pattern. matches_class_name pattern c.name) k.spec.names ≡ true
  named_at said c is = said_of true said c is

  pub unnamed_at : (now : List (List Bool)) → false ≡ accepts (λ pattern. matches_class_name pattern name) names
      → AreAdded classes k now now (λ n. n ≡ m)
  unnamed_at now said = added_none classes k now m (λ c is. class_unnamed classes m c k on (said_of false said c is))

pub added_found : (classes : List Class) (k : Keep) (now new : List (List Bool)) (name : List ℕ) (m : ℕ)
    → IsNumber classes name m → IsPut classes k now new m → AreAdded classes k now new (IsNamed classes name)
added_found classes k now new name m number put =
    let d = found_at classes m number.there in
    added_named classes k now new name m number (added_put classes k now new m d.0 d.1 number.there put)

pub each_all : (classes : List Class) (k : Keep) (old new : List (List Bool)) (i : ℕ) → length classes ≤ i
    → IsMarking classes k old new → ((n : ℕ) → n < i → IsDone classes k old new n) → AreMarked classes k old new
each_all classes k old new i le h done = all_marked classes k old new h (λ n lt. done n (omega arith))

any_default : {A : Type 0} (xs : List A) (n : ℕ) (a b : A) → n < length xs → get_or xs n a ≡ get_or xs n b
any_default [] n a b lt = absurd (omega arith)
any_default (x ∷ xs) zero a b lt = refl
any_default (x ∷ xs) (suc n) a b lt = any_default xs n a b (omega arith)

-- the row that is lent is that of the class
pub row_lent : (classes : List Class) (rows : List (List Bool)) (n : ℕ) (row : List Bool) → AreRows classes rows
    → n < length classes → row ≡ get_or rows n row → row ≡ row_at rows n
row_lent classes rows n row h lt is = is ∙ any_default rows n row [] (omega (arith, h.count))

pub row_width : (classes : List Class) (rows : List (List Bool)) (n : ℕ) (c : Class) (row : List Bool)
    → AreRows classes rows → n < length classes → slice_get classes n ≡ Some c → row ≡ get_or rows n row
    → length row ≡ items_of c
row_width classes rows n c row h lt at is = ap length (row_lent classes rows n row h lt is) ∙ h.widths n c at

pub unmarked_put : (classes : List Class) (i : ℕ) (rows more : List (List Bool)) (r : List Bool) (c : Class)
    → AreUnmarked classes i rows → slice_get classes i ≡ Some c → r ≡ replicate (items_of c) false
    → more ≡ rows ++ (r ∷ []) → AreUnmarked classes (i + 1) more
unmarked_put classes i rows more r c h at e f =
    subst (λ (xs : List (List Bool)). AreUnmarked classes (i + 1) xs) (sym f) (unmarked_more classes i rows r c h at e)
