-- What an item makes due has a derivation that is one deeper.
use Rattle.std.proofs.Common.{◌≡◌, ◌+◌, ◌<◌, ◌≤◌, max, ℕ, ◌∙◌, refl, sym, subst, ap, arith, ⊎_elim, get_or}
use Rattle.std.specs.List.{All, Contains}
use Rattle.std.proofs.lemmas.List.Elements.{Contains-get_or}
use Rattle.mark_core.specs.Marks.{needs_of}
use Rattle.mark_core.specs.declared.system.Pair.{Pair}
use Rattle.mark_core.specs.declared.system.System.{System}
use Rattle.why_kept.specs.bodies.Searching.{IsNext, IsSound, level_in}
use Rattle.why_kept.specs.declared.search.Search.{Search}
use Rattle.why_kept.specs.Derivations.{IsDerivedAt, depth_of, item_of, need, pair, pair_of, seed}

pub seed_derived : (sys : System) (x : ℕ) → Contains sys.seeds x → IsDerivedAt sys x 0
seed_derived sys x listed = record { tree = seed x; derives = listed; item = refl; deep = refl }

pub need_derived : (sys : System) (x y d : ℕ) → IsDerivedAt sys y d → Contains (needs_of sys y) x → IsDerivedAt sys x (d + 1)
need_derived sys x y d by listed = record {
  tree = need x by.tree;
  derives = (subst (λ z. Contains (needs_of sys z) x) (sym by.item) listed, by.derives);
  item = refl;
  deep = ap (λ k. k + 1) by.deep;
}

pub pair_derived : (sys : System) (p : Pair) (d e : ℕ) → IsDerivedAt sys p.one d → IsDerivedAt sys p.two e
    → Contains sys.pairs p → IsDerivedAt sys p.derived (max d e + 1)
pair_derived sys p d e one two listed = record {
  tree = pair p.derived one.tree two.tree;
  derives = (
    subst (λ z. Contains sys.pairs (pair_of z (item_of two.tree) p.derived)) (sym one.item)
        (subst (λ z. Contains sys.pairs (pair_of p.one z p.derived)) (sym two.item) listed),
    one.derives,
    two.derives,
  );
  item = refl;
  deep = ap (λ k. max k (depth_of two.tree) + 1) one.deep ∙ ap (λ k. max d k + 1) two.deep;
}

-- ---- while the search goes on

pub needs_due : (sys : System) (search : Search) (level x : ℕ) → IsSound sys level search → level_in sys search x + 1 ≡ level
    → level ≤ sys.n → All (λ y. IsDerivedAt sys y level) (needs_of sys x)
needs_due sys search level x sound before le k d lt =
    subst (IsDerivedAt sys (get_or (needs_of sys x) k d)) before
    (need_derived sys (get_or (needs_of sys x) k d) x (level_in sys search x)
    (sound.derived x (omega (arith, before, le))) (Contains-get_or (needs_of sys x) k d lt))

pub pair_due : (sys : System) (search : Search) (level : ℕ) (p : Pair) → IsSound sys level search → level ≤ sys.n
    → Contains sys.pairs p → IsNext sys search level p → level_in sys search p.one < level
    → level_in sys search p.two < level → IsDerivedAt sys p.derived level
pair_due sys search level p sound le listed next one two =
    let deep : max (level_in sys search p.one) (level_in sys search p.two) + 1 ≡ level =
    ⊎_elim (λ e. omega (arith, e, one, two)) (λ e. omega (arith, e, one, two)) next in
    subst (IsDerivedAt sys p.derived) deep
    (pair_derived sys p (level_in sys search p.one) (level_in sys search p.two)
    (sound.derived p.one (omega (arith, one, le))) (sound.derived p.two (omega (arith, two, le))) listed)
