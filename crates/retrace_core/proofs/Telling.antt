-- Tables that tell of texts, filled one by one.
use Rattle.std.proofs.Common.{◌≡◌, ℕ, Bool, true, false, cond, List, [], ◌∷◌, ◌++◌, Option, Some, None, refl, sym, ap}
use Rattle.std.proofs.Common.{subst, ◌∙◌, Result, Ok, Err}
use Rattle.std.specs.BTreeMap.{insert_entry}
use Rattle.std.specs.Cmp.Lexicographic.{slice_cmp}
use Rattle.std.specs.List.{find}
use Rattle.std.specs.Map.{lookup}
use Rattle.std.specs.Option.{is_some, option_copied, option_or}
use Rattle.std.specs.Prelude.{OnOk}
use Rattle.std.specs.Ordering.{is_eq, match_ordering, nat_cmp}
use Rattle.std.specs.declared.cmp.Ordering.{Ordering}
use Rattle.std.specs.declared.cmp.Ordering.TheVariants.{Less, Equal, Greater}
use Rattle.std.proofs.lemmas.List.Folds.{find-append}
use Rattle.std.proofs.lemmas.Map.Lookups.{exact_bytes}
use Rattle.std.proofs.lemmas.Map.Text.{is_eq-slice_cmp}
use Rattle.jv_base.specs.Names.{is_text}
use Rattle.jv_base.proofs.Equality.{same_text, text_is, text_sym}
use Rattle.std.specs.Borrow.{Bor}
use Rattle.retrace_core.specs.bodies.Linked.{is_key}
use Rattle.retrace_core.specs.bodies.Tables.{Answers, Tells}

-- a name is a key where it is its text
key_is : (name key : List ℕ) → is_key name key ≡ is_text key name
key_is name key = is_eq-slice_cmp name key ∙ text_sym name key

abbrev order : {K : Type 0} → (K → List ℕ) → K → K → Ordering
order see x y = slice_cmp nat_cmp (see x) (see y)

-- what is found behind an entry that was put
abbrev Puts : {K V : Type 0} → (K → List ℕ) → List ℕ → K → V → List (K × V) → List (K × V) → Type 0
Puts see name k v new old = lookup (λ x. is_key name (see x)) new
    ≡ cond (is_text (see k) name) (Some v) (lookup (λ x. is_key name (see x)) old)

both_found : {V : Type 0} (b t : Bool) (v w : V) (o : Option V) → b ≡ t
    → cond b (Some v) o ≡ cond t (Some v) (cond b (Some w) o)
both_found true true v w o h = refl
both_found false false v w o h = refl
both_found true false v w o h = absurd cc
both_found false true v w o h = absurd cc

either_found : {V : Type 0} (b t : Bool) (v w : V) (o : Option V) → (b ≡ true → t ≡ true → ⊥)
    → cond b (Some w) (cond t (Some v) o) ≡ cond t (Some v) (cond b (Some w) o)
either_found true true v w o h = absurd (h refl refl)
either_found true false v w o h = refl
either_found false t v w o h = refl

pub put_found : {K V : Type 0} (see : K → List ℕ) (k : K) (v : V) (es : List (K × V)) (name : List ℕ)
    → Puts see name k v (insert_entry (order see) es k v) es
put_found see k v [] name = ap (λ (b : Bool). cond b (Some v) None) (key_is name (see k))
put_found {K} {V} see k v (e ∷ es) name = by (slice_cmp nat_cmp (see k) (see e.0)) refl (put_found see k v es name)
  where
    by : (o : Ordering) → slice_cmp nat_cmp (see k) (see e.0) ≡ o
        → Puts see name k v (insert_entry (order see) es k v) es
        → Puts see name k v (match_ordering o ((k, v) ∷ e ∷ es) ((e.0, v) ∷ es) (e ∷ insert_entry (order see) es k v))
        (e ∷ es)
    by Less is more =
        ap (λ (b : Bool). cond b (Some v) (lookup (λ (x : K). is_key name (see x)) (e ∷ es))) (key_is name (see k))
    by Equal is more =
        let same : see k ≡ see e.0 = exact_bytes (see k) (see e.0) is in
        both_found (is_key name (see e.0)) (is_text (see k) name) v e.1 (lookup (λ (x : K). is_key name (see x)) es)
        (key_is name (see e.0) ∙ ap (λ (t : List ℕ). is_text t name) (sym same))
    by Greater is more =
        ap (λ (o : Option V). cond (is_key name (see e.0)) (Some e.1) o) more
        ∙ either_found (is_key name (see e.0)) (is_text (see k) name) v e.1 (lookup (λ (x : K). is_key name (see x)) es)
        (λ b t. apart (same_text (see k) name t ∙ sym (same_text (see e.0) name (sym (key_is name (see e.0)) ∙ b))))
      where
        apart : see k ≡ see e.0 → ⊥
        apart same =
            let eq : is_eq (slice_cmp nat_cmp (see k) (see e.0)) ≡ true = is_eq-slice_cmp (see k) (see e.0)
            ∙ text_is _ _ same in
            let not_eq : is_eq (slice_cmp nat_cmp (see k) (see e.0)) ≡ false = ap is_eq is in
            let bad : true ≡ false = sym eq ∙ not_eq in absurd cc

module _ {V C : Type 0} (same : V → C → Type 0) (called : C → List ℕ) where
  kept_at : (q : List ℕ) (c : C) (f : List ℕ → Option V) (o : Option C) (b : Bool) → is_text q (called c) ≡ b
      → Answers same (f q) o → is_some (f (called c)) ≡ true → Answers same (f q) (option_or o (cond b (Some c) None))
  kept_at q c f (Some x) b e h k = h
  kept_at q c f None false e h k = h
  kept_at q c f None true e h k =
      absurd (gone (f q) h (ap (λ (t : List ℕ). is_some (f t)) (same_text q (called c) e) ∙ k))
    where
      gone : (o : Option V) → Answers same o None → is_some o ≡ true → ⊥
      gone None h k = absurd cc
      gone (Some x) h k = h

  -- one more that is called as one before is never the first
  pub still_tells : (f : List ℕ → Option V) (cs : List C) (c : C) → Tells same called f cs
      → is_some (f (called c)) ≡ true
      → Tells same called f (cs ++ c ∷ [])
  still_tells f cs c h k =
      λ q. subst (Answers same (f q)) (sym (find-append (λ (d : C). is_text q (called d)) cs (c ∷ [])))
      (kept_at q c f (find (λ (d : C). is_text q (called d)) cs) (is_text q (called c)) refl (h q) k)

  more_at : (q : List ℕ) (c : C) (v : V) (f : List ℕ → Option V) (o : Option C) (b : Bool) → is_text q (called c) ≡ b
      → Answers same (f q) o → is_some (f (called c)) ≡ false → same v c
      → Answers same (cond b (Some v) (f q)) (option_or o (cond b (Some c) None))
  more_at q c v f (Some x) false e h k s = h
  more_at q c v f None false e h k s = h
  more_at q c v f None true e h k s = s
  more_at q c v f (Some x) true e h k s =
      absurd (there (f q) h (ap (λ (t : List ℕ). is_some (f t)) (same_text q (called c) e) ∙ k))
    where
      there : (o : Option V) → Answers same o (Some x) → is_some o ≡ false → ⊥
      there None h k = h
      there (Some y) h k = absurd cc

  -- one more that is called as none before
  pub tells_more : (f g : List ℕ → Option V) (cs : List C) (name : List ℕ) (v : V) (c : C) → Tells same called f cs
      → is_some (f (called c)) ≡ false → name ≡ called c
      → ((q : List ℕ) → g q ≡ cond (is_text name q) (Some v) (f q)) → same v c
      → Tells same called g (cs ++ c ∷ [])
  tells_more f g cs name v c h absent key put s = λ q.
      let is : g q ≡ cond (is_text q (called c)) (Some v) (f q) =
      put q ∙ ap (λ (b : Bool). cond b (Some v) (f q)) (text_sym name q ∙ ap (is_text q) key) in
      subst (λ (o : Option V). Answers same o (find (λ (d : C). is_text q (called d)) (cs ++ c ∷ []))) (sym is)
      (subst (Answers same (cond (is_text q (called c)) (Some v) (f q)))
      (sym (find-append (λ (d : C). is_text q (called d)) cs (c ∷ [])))
      (more_at q c v f (find (λ (d : C). is_text q (called d)) cs) (is_text q (called c)) refl (h q) absent s))

-- what a table answers is of what is found
pub answers_some : {V C : Type 0} (same : V → C → Type 0) (v : V) (o : Option V) (f : Option C) → Some v ≡ o
    → Answers same o f
    → (c : C) × (f ≡ Some c) × same v c
answers_some same v (Some w) (Some c) is h = let e : w ≡ v = cc in (c, refl, subst (λ x. same x c) e h)
answers_some same v (Some w) None is h = absurd h
answers_some same v None f is h = absurd cc

-- where it answers nothing, none is found
pub answers_none : {V C : Type 0} (same : V → C → Type 0) (o : Option V) (f : Option C) → None ≡ o → Answers same o f
    → f ≡ None
answers_none same None None is h = refl
answers_none same None (Some c) is h = absurd h
answers_none same (Some w) f is h = absurd cc

-- what was copied is there where it was lent
pub copied_some : {X : Type 0} (r : Option (Bor X)) → is_some (option_copied r) ≡ is_some r
copied_some None = refl
copied_some (Some x) = refl

-- what follows where a call succeeded
pub on_ok : {X E P Q : Type 0} (r : Result X E) → OnOk r P → (P → Q) → OnOk r Q
on_ok (Ok x) p f = f p
on_ok (Err e) p f = tt
