-- Methods that lead to the next with their new name.
use Rattle.std.proofs.Common.{◌≡◌, ◌≤◌, ◌<◌, ◌+◌, ℕ, zero, suc, Bool, true, false, cond, List, [], ◌∷◌, ◌++◌}
use Rattle.std.proofs.Common.{◌-◌, ltb, length, drop, slice_get, Option, Some, refl, sym, ap, subst, ◌∙◌, arith}
use Rattle.std.specs.Borrow.{Bor}
use Rattle.std.specs.BTreeMap.{BTreeMap}
use Rattle.std.specs.Option.{unwrap_or}
use Rattle.std.specs.Prelude.{IfSome}
use Rattle.std.proofs.lemmas.Bool.{ltb-true, ltb-false}
use Rattle.std.proofs.lemmas.List.{append-nil, drop_all, drop_more, length-append}
use Rattle.std.proofs.lemmas.Option.{get_or_from_slice_get, same_Some, slice_get_within}
use Rattle.jv_base.specs.Names.{is_text}
use Rattle.jv_base.proofs.Equality.{same_text, text_sym}
use Rattle.mapping_file.specs.declared.mapping.MapMethod.{MapMethod}
use Rattle.retrace_core.specs.OldNames.{candidates}
use Rattle.retrace_core.specs.bodies.Linked.{AreLinked, Leads, first_in, kept_in}

-- what is left at a place begins with the method there
begins : (methods : List MapMethod) (k : ℕ) (m : MapMethod) → slice_get methods k ≡ Some m
    → drop k methods ≡ m ∷ drop (k + 1) methods
begins methods k m at =
    drop_more methods k m (slice_get_within methods k m at)
    ∙ ap (λ (y : MapMethod). y ∷ drop (k + 1) methods) (get_or_from_slice_get methods k m m at)

-- the end leads nowhere
pub leads_nowhere : (methods : List MapMethod) (name : List ℕ) → Leads methods name (length methods) (length methods)
leads_nowhere methods name = record {
  behind = omega arith;
  within = omega arith;
  same = refl;
  here = beyond methods;
}
  where
    beyond : (ms : List MapMethod) → IfSome (slice_get ms (length ms)) (λ m. is_text name m.new ≡ true)
    beyond [] = tt
    beyond (m ∷ ms) = beyond ms

-- a method is led to by its own name
pub leads_here : (methods : List MapMethod) (name : List ℕ) (k : ℕ) (m : MapMethod) → k < length methods
    → slice_get methods k ≡ Some m → is_text name m.new ≡ true → Leads methods name k k
leads_here methods name k m low at is = record {
  behind = omega arith;
  within = omega (arith, low);
  same = refl;
  here = subst (λ (o : Option MapMethod). IfSome o (λ d. is_text name d.new ≡ true)) (sym at) is;
}

-- a method of another name is passed over
pub leads_over : (methods : List MapMethod) (name : List ℕ) (k place : ℕ) (m : MapMethod) → slice_get methods k ≡ Some m
    → is_text name m.new ≡ false → Leads methods name (k + 1) place → Leads methods name k place
leads_over methods name k place m at isnt l =
    let behind = l.behind in
    record {
      behind = omega (arith, behind);
      within = l.within;
      same = ap (λ (ms : List MapMethod). candidates ms name) (begins methods k m at)
          ∙ ap (λ (b : Bool). cond b (m ∷ candidates (drop (k + 1) methods) name)
          (candidates (drop (k + 1) methods) name)) isnt
          ∙ l.same;
      here = l.here;
    }

-- the methods with a name, up to a place and behind it
pub record Walked (methods : List MapMethod) (name : List ℕ) (found : List MapMethod) (place : ℕ) : Type 0 where
  pub within : place ≤ length methods
  pub all : found ++ candidates (drop place methods) name ≡ candidates methods name
  pub here : IfSome (slice_get methods place) (λ m. is_text name m.new ≡ true)

pub walk_begins : (methods : List MapMethod) (name : List ℕ) (place : ℕ) → Leads methods name 0 place
    → Walked methods name [] place
walk_begins methods name place l = record { within = l.within; all = sym l.same; here = l.here }

pub walk_on : (methods found : List MapMethod) (name : List ℕ) (place next : ℕ) (m : MapMethod)
    → slice_get methods place ≡ Some m → Walked methods name found place → Leads methods m.new (place + 1) next
    → Walked methods name (found ++ m ∷ []) next
walk_on methods found name place next m at walked l =
    let is : is_text name m.new ≡ true = subst (λ (o : Option MapMethod). IfSome o (λ d. is_text name d.new ≡ true)) at
    walked.here in
    let same : m.new ≡ name = sym (same_text name m.new is) in
    let there = subst (λ (n : List ℕ). Leads methods n (place + 1) next) same l in
    record {
      within = there.within;
      all = append_one found m (candidates (drop next methods) name)
          ∙ ap (λ (ms : List MapMethod). found ++ m ∷ ms) (sym there.same)
          ∙ ap (λ (b : Bool). found ++ cond b (m ∷ candidates (drop (place + 1) methods) name)
          (candidates (drop (place + 1) methods) name)) (sym is)
          ∙ ap (λ (ms : List MapMethod). found ++ candidates ms name) (sym (begins methods place m at))
          ∙ walked.all;
      here = there.here;
    }
  where
    append_one : (xs : List MapMethod) (x : MapMethod) (ys : List MapMethod) → (xs ++ x ∷ []) ++ ys ≡ xs ++ x ∷ ys
    append_one [] x ys = refl
    append_one (z ∷ xs) x ys = ap (λ (l : List MapMethod). z ∷ l) (append_one xs x ys)

-- at the end all were found
pub walk_ends : (methods found : List MapMethod) (name : List ℕ) (place : ℕ) → length methods ≤ place
    → Walked methods name found place → found ≡ candidates methods name
walk_ends methods found name place end walked =
    sym (append-nil found)
    ∙ ap (λ (ms : List MapMethod). found ++ candidates ms name) (sym (drop_all place methods end)) ∙ walked.all

-- ---- a method before others

get_before : (xs : List ℕ) (y i : ℕ) → i < length xs → slice_get (xs ++ y ∷ []) i ≡ slice_get xs i
get_before [] y i h = absurd (omega (arith, h))
get_before (x ∷ xs) y zero h = refl
get_before (x ∷ xs) y (suc i) h = get_before xs y i (omega (arith, h))

get_last : (xs : List ℕ) (y : ℕ) → slice_get (xs ++ y ∷ []) (length xs) ≡ Some y
get_last [] y = refl
get_last (x ∷ xs) y = get_last xs y

-- at the end nothing has to be linked
pub none_linked : (methods : List MapMethod) (firsts : BTreeMap (Bor (List ℕ)) ℕ) → firsts.entries ≡ []
    → AreLinked methods (length methods) firsts []
none_linked methods firsts none = record {
  first = λ name. subst (λ (es : List (Bor (List ℕ) × ℕ)).
      Leads methods name (length methods) (first_in (λ k. k.now) es name (length methods))) (sym none)
      (leads_nowhere methods name);
  next = λ k place m at le get. absurd cc;
  count = omega arith;
}

module _ (methods : List MapMethod) (left : ℕ) (m : MapMethod) (firsts later : BTreeMap (Bor (List ℕ)) ℕ)
    (nexts : List ℕ) (low : left < length methods) (at : slice_get methods left ≡ Some m)
    (old : AreLinked methods (left + 1) firsts nexts)
    (put : (name : List ℕ) → kept_in (λ k. k.now) later.entries name
    ≡ cond (is_text m.new name) (Some left) (kept_in (λ k. k.now) firsts.entries name)) where
  abbrev was : List ℕ → ℕ
  was name = first_in (λ k. k.now) firsts.entries name (length methods)

  abbrev behind : List ℕ
  behind = nexts ++ was m.new ∷ []

  first_by : (name : List ℕ) (b : Bool) → is_text m.new name ≡ b
      → Leads methods name left (unwrap_or (cond b (Some left) (kept_in (λ k. k.now) firsts.entries name)) (length methods))
  first_by name true is = leads_here methods name left m low at (text_sym name m.new ∙ is)
  first_by name false is = leads_over methods name left (was name) m at (text_sym name m.new ∙ is) (old.first name)

  first_now : (name : List ℕ) → Leads methods name left (first_in (λ k. k.now) later.entries name (length methods))
  first_now name =
      subst (λ (o : Option ℕ). Leads methods name left (unwrap_or o (length methods))) (sym (put name))
      (first_by name (is_text m.new name) refl)

  -- the method itself leads to where its name led before
  next_here : (k place : ℕ) (d : MapMethod) → slice_get methods k ≡ Some d → k ≡ left
      → slice_get behind (length methods - 1 - k) ≡ Some place → Leads methods d.new (k + 1) place
  next_here k place d there same get =
      let seam : length methods - 1 - k ≡ length nexts = omega (arith, same, old.count) in
      let is : was m.new ≡ place = same_Some (was m.new) place (sym (get_last nexts (was m.new))
      ∙ ap (slice_get behind) (sym seam) ∙ get) in
      let one : m ≡ d = same_Some m d (sym at ∙ ap (slice_get methods) (sym same) ∙ there) in
      subst (λ (e : MapMethod). Leads methods e.new (k + 1) place) one
      (subst (λ (p : ℕ). Leads methods m.new (k + 1) p) is
      (subst (λ (n : ℕ). Leads methods m.new (n + 1) (was m.new)) (sym same) (old.first m.new)))

  -- each other one leads to where it led before
  next_behind : (k place : ℕ) (d : MapMethod) → slice_get methods k ≡ Some d → left < k
      → slice_get behind (length methods - 1 - k) ≡ Some place → Leads methods d.new (k + 1) place
  next_behind k place d there more get =
      let within : k < length methods = slice_get_within methods k d there in
      let early : length methods - 1 - k < length nexts = omega (arith, more, within, old.count) in
      old.next k place d there (omega (arith, more))
      (sym (get_before nexts (was m.new) (length methods - 1 - k) early) ∙ get)

  next_by : (k place : ℕ) (d : MapMethod) (b : Bool) → ltb left k ≡ b → slice_get methods k ≡ Some d → left ≤ k
      → slice_get behind (length methods - 1 - k) ≡ Some place → Leads methods d.new (k + 1) place
  next_by k place d true t there le get = next_behind k place d there (ltb-true left k t) get
  next_by k place d false t there le get =
      let ge : k ≤ left = ltb-false left k t in
      next_here k place d there (omega (arith, le, ge)) get

  -- a method is linked before those behind it
  pub link_more : AreLinked methods left later behind
  link_more = record {
    first = first_now;
    next = λ k place d there le get. next_by k place d (ltb left k) refl there le get;
    count = omega (arith, length-append nexts (was m.new ∷ []), old.count);
  }
