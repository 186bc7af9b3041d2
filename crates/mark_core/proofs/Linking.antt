-- The index of the pairs after one more place.
use Rattle.std.proofs.Common.{◌≡◌, ◌≢◌, ℕ, ◌+◌, ◌*◌, ◌/◌, ◌%◌, ◌<◌, [], ◌∷◌, length, get_or, ⊎_elim, subst, sym, ◌∙◌}
use Rattle.std.proofs.Common.{ap, arith, refl, get_or-set_same, get_or-set_other, length-set}
use Rattle.std.proofs.lemmas.Bool.{cases_eq}
use Rattle.std.proofs.lemmas.List.{length_push, get_or_push, get_or_append_left}
use Rattle.mark_core.specs.declared.system.System.{System}
use Rattle.mark_core.specs.declared.pair_index.PairIndex.{PairIndex}
use Rattle.mark_core.specs.bodies.PairIndex.{pair_at, item_at, front_of, link_of, IsIndexOf, LinksNext}

pub first_place : (sys : System) (k : ℕ) → item_at sys (2 * k) ≡ (pair_at sys k).one
first_place sys k =
    let even : 2 * k % 2 ≡ 0 = omega arith in
    let half : 2 * k / 2 ≡ k = omega arith in
    rw (even, half) refl

pub second_place : (sys : System) (k : ℕ) → item_at sys (2 * k + 1) ≡ (pair_at sys k).two
second_place sys k =
    let odd : (2 * k + 1) % 2 ≡ 1 = omega arith in
    let half : (2 * k + 1) / 2 ≡ k = omega arith in
    rw (odd, half) refl

module _ (sys : System) (m x : ℕ) (old new : PairIndex) (index : IsIndexOf sys m old) (at : item_at sys m ≡ x)
    (lt : x < sys.n) (next : LinksNext old new x) where
  here : front_of new x ≡ m + 1
  here =
      ap (λ l. get_or l x 0) next.fronts
      ∙ (get_or-set_same old.fronts.items x (length old.links.items + 1) 0 (subst (λ k. x < k) (sym index.items) lt)
      ∙ ap (λ k. k + 1) index.places)

  else : (y : ℕ) → y ≢ x → front_of new y ≡ front_of old y
  else y other = ap (λ l. get_or l y 0) next.fronts
      ∙ get_or-set_other old.fronts.items x y (length old.links.items + 1) 0 other

  link_before : (q : ℕ) → q < m → link_of new q ≡ link_of old q
  link_before q before =
      ap (λ l. get_or l q 0) next.links
      ∙ get_or_append_left old.links.items (front_of old x ∷ []) 0 q (subst (λ k. q < k) (sym index.places) before)

  link_here : link_of new m ≡ front_of old x
  link_here = ap (λ l. get_or l m 0) next.links ∙ get_or_push old.links.items (front_of old x) 0 m index.places

  front_has : (p : ℕ) → p < m + 1 → p < front_of new (item_at sys p)
  front_has p within = ⊎_elim
      (λ same. subst (λ y. p < front_of new y) (sym same) (subst (λ k. p < k) (sym here) within))
      (λ other. ⊎_elim
      (λ last. absurd (other (ap (item_at sys) last ∙ at)))
      (λ before. subst (λ k. p < k) (sym (else (item_at sys p) other))
      (index.front_has p (omega (arith, within, before))))
      (cases_eq p m))
      (cases_eq (item_at sys p) x)

  front_ends : (y p : ℕ) → front_of new y ≡ p + 1 → (p < m + 1) × (item_at sys p ≡ y)
  front_ends y p is = ⊎_elim
      (λ same.
      let last : p ≡ m = (let e : m + 1 ≡ p + 1 = sym here ∙ (ap (front_of new) (sym same) ∙ is) in omega (arith, e)) in
      (omega (arith, last), ap (item_at sys) last ∙ (at ∙ sym same)))
      (λ other. let ends = index.front_ends y p (sym (else y other) ∙ is) in
      (let before : p < m = ends.0 in omega (arith, before), ends.1))
      (cases_eq y x)

  link_has : (p q : ℕ) → p < q → q < m + 1 → item_at sys p ≡ item_at sys q → p < link_of new q
  link_has p q before within same = ⊎_elim
      (λ last.
      let item : item_at sys p ≡ x = same ∙ (ap (item_at sys) last ∙ at) in
      subst (λ k. p < k) (sym (ap (link_of new) last ∙ (link_here ∙ ap (front_of old) (sym item))))
      (index.front_has p (omega (arith, before, last))))
      (λ other. let q_before : q < m = omega (arith, within, other) in
      subst (λ k. p < k) (sym (link_before q q_before)) (index.link_has p q before q_before same))
      (cases_eq q m)

  link_ends : (p q : ℕ) → q < m + 1 → link_of new q ≡ p + 1 → (p < q) × (item_at sys p ≡ item_at sys q)
  link_ends p q within is = ⊎_elim
      (λ last. let ends = index.front_ends x p (sym link_here ∙ (ap (link_of new) (sym last) ∙ is)) in
      (let before : p < m = ends.0 in omega (arith, before, last), ends.1 ∙ sym (ap (item_at sys) last ∙ at)))
      (λ other. let q_before : q < m = omega (arith, within, other) in index.link_ends p q q_before
      (sym (link_before q q_before) ∙ is))
      (cases_eq q m)

  pub index_after : IsIndexOf sys (m + 1) new
  index_after = record {
    items = ap length next.fronts ∙ (length-set old.fronts.items x (length old.links.items + 1) ∙ index.items);
    places = ap length next.links ∙ (length_push old.links.items (front_of old x) ∙ ap (λ k. k + 1) index.places);
    front_has = front_has;
    front_ends = front_ends;
    link_has = link_has;
    link_ends = link_ends;
  }
