-- What is the same at a node without a key and above it, and above a node and at its parent, is the same at places that
-- are the same for the key.
use Rattle.std.proofs.Common.{◌≡◌, ◌∙◌, ℕ, List, Option, Some, slice_get, sym, ap}
use Rattle.tree_notes.specs.Notes.{HasKey, IsSame, back, both, one, parent, passed}
use Rattle.tree_notes.specs.declared.nearest.Up.{Up}
use Rattle.tree_notes.specs.declared.nearest.Up.TheVariants.{Above, At}

module _ (parents : List (Option ℕ)) (keys : List (List ℕ)) (key : ℕ) {A : Type 0} (f : Up → A)
    (lacking : (n : ℕ) → (HasKey keys n key → ⊥) → f (At n) ≡ f (Above n))
    (under : (n p : ℕ) → slice_get parents n ≡ Some (Some p) → f (Above n) ≡ f (At p)) where
  pub same_by : (u v : Up) → IsSame parents keys key u v → f u ≡ f v
  same_by u v (one e) = ap f e
  same_by u v (passed n lacks a b) = ap f a ∙ lacking n lacks ∙ sym (ap f b)
  same_by u v (parent n p is a b) = ap f a ∙ under n p is ∙ sym (ap f b)
  same_by u v (back a b h) = sym (same_by a b h)
  same_by u v (both a b d h g) = same_by a b h ∙ same_by b d g
