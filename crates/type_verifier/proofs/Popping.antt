-- Several values from the stack, one after the other.
use Rattle.std.proofs.Common.{◌≡◌, ◌≤◌, ◌<◌, ℕ, suc, ◌+◌, ◌-◌, List, [], ◌∷◌, ◌++◌, length, get_or, drop, take, map}
use Rattle.std.proofs.Common.{reverse, replicate, Ok, Err, sym, ap, ◌∙◌, arith}
use Rattle.std.proofs.lemmas.List.{drop_all, take_more, reverse-append}
use Rattle.jv_base.specs.Outcome.{◌>>=◌}
use Rattle.jv_base.proofs.Lists.{rest_is}
use Rattle.class_model.specs.declared.class.Class.{Class}
use Rattle.type_verifier.specs.declared.fault.TypeKind.{TypeKind}
use Rattle.type_verifier.specs.declared.frame.TypeFrame.{TypeFrame}
use Rattle.type_verifier.specs.Effects.{Checked, all_popped, popped}
use Rattle.type_verifier.specs.Rules.{Wanted}
use Rattle.type_verifier.proofs.Lists.{append_map}

module _ (classes : List Class) where
  after : (first : Checked) (others : List Wanted) (g : TypeFrame) → first ≡ Ok g
      → (first >>= all_popped classes others) ≡ all_popped classes others g
  after first others g h = ap (λ (c : Checked). c >>= all_popped classes others) h

  fails : (first : Checked) (others : List Wanted) (kind : TypeKind) → first ≡ Err kind
      → (first >>= all_popped classes others) ≡ Err kind
  fails first others kind h = ap (λ (c : Checked). c >>= all_popped classes others) h

  -- ---- the first of a list of values, which is gone over from its front

  module _ {X : Type 0} (wanted : X → Wanted) where
    pub front_more : (xs : List X) (i : ℕ) (x : X) (f g : TypeFrame) (total : Checked) → i < length xs
        → x ≡ get_or xs i x
        → popped classes (wanted x) f ≡ Ok g → all_popped classes (map wanted (drop i xs)) f ≡ total
        → all_popped classes (map wanted (drop (i + 1) xs)) g ≡ total
    front_more xs i x f g total lt is h so_far =
        sym (ap (λ (r : List X). all_popped classes (map wanted r) f) (rest_is xs i x lt is)
        ∙ after (popped classes (wanted x) f) (map wanted (drop (i + 1) xs)) g h) ∙ so_far

    pub front_fails : (xs : List X) (i : ℕ) (x : X) (f : TypeFrame) (kind : TypeKind) (total : Checked) → i < length xs
        → x ≡ get_or xs i x → popped classes (wanted x) f ≡ Err kind
        → all_popped classes (map wanted (drop i xs)) f ≡ total
        → total ≡ Err kind
    front_fails xs i x f kind total lt is h so_far =
        sym so_far ∙ ap (λ (r : List X). all_popped classes (map wanted r) f) (rest_is xs i x lt is)
        ∙ fails (popped classes (wanted x) f) (map wanted (drop (i + 1) xs)) kind h

    pub front_all : (xs : List X) (i : ℕ) (f : TypeFrame) (total : Checked) → length xs ≤ i
        → all_popped classes (map wanted (drop i xs)) f ≡ total → total ≡ Ok f
    front_all xs i f total le so_far =
        sym so_far ∙ ap (λ (r : List X). all_popped classes (map wanted r) f) (drop_all i xs le)

    -- ---- the same from its back

    back_is : (xs : List X) (i : ℕ) (x : X) → i < length xs → x ≡ get_or xs i x
        → reverse (map wanted (take (i + 1) xs)) ≡ wanted x ∷ reverse (map wanted (take i xs))
    back_is xs i x lt is =
        ap (λ (r : List X). reverse (map wanted r))
        (take_more xs i x lt ∙ ap (λ (y : X). take i xs ++ y ∷ []) (sym is))
        ∙ ap reverse (append_map wanted (take i xs) (x ∷ []))
        ∙ reverse-append (map wanted (take i xs)) (wanted x ∷ [])

    pub back_more : (xs : List X) (left i : ℕ) (x : X) (f g : TypeFrame) (total : Checked) → left ≡ i + 1
        → i < length xs
        → x ≡ get_or xs i x → popped classes (wanted x) f ≡ Ok g
        → all_popped classes (reverse (map wanted (take left xs))) f ≡ total
        → all_popped classes (reverse (map wanted (take i xs))) g ≡ total
    back_more xs left i x f g total e lt is h so_far =
        sym (ap (λ (n : ℕ). all_popped classes (reverse (map wanted (take n xs))) f) e
        ∙ ap (λ (ws : List Wanted). all_popped classes ws f) (back_is xs i x lt is)
        ∙ after (popped classes (wanted x) f) (reverse (map wanted (take i xs))) g h) ∙ so_far

    pub back_fails : (xs : List X) (left i : ℕ) (x : X) (f : TypeFrame) (kind : TypeKind) (total : Checked)
        → left ≡ i + 1
        → i < length xs → x ≡ get_or xs i x → popped classes (wanted x) f ≡ Err kind
        → all_popped classes (reverse (map wanted (take left xs))) f ≡ total → total ≡ Err kind
    back_fails xs left i x f kind total e lt is h so_far =
        sym so_far ∙ ap (λ (n : ℕ). all_popped classes (reverse (map wanted (take n xs))) f) e
        ∙ ap (λ (ws : List Wanted). all_popped classes ws f) (back_is xs i x lt is)
        ∙ fails (popped classes (wanted x) f) (reverse (map wanted (take i xs))) kind h

  -- ---- one kind of value so many times

  pub times_more : (wanted : Wanted) (count counter : ℕ) (f g : TypeFrame) (total : Checked) → counter < count
      → popped classes wanted f ≡ Ok g → all_popped classes (replicate (count - counter) wanted) f ≡ total
      → all_popped classes (replicate (count - (counter + 1)) wanted) g ≡ total
  times_more wanted count counter f g total lt h so_far =
      let k : ℕ = count - (counter + 1) in
      let n : count - counter ≡ suc k = omega (arith, lt) in
      sym (ap (λ (m : ℕ). all_popped classes (replicate m wanted) f) n
      ∙ after (popped classes wanted f) (replicate k wanted) g h) ∙ so_far
