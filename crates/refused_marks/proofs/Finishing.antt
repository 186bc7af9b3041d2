-- What an item asks for that needs nothing and stands first in the only pair.
use Rattle.std.proofs.Common.{◌≡◌, ◌≢◌, List, [], ◌∷◌, subst, sym}
use Rattle.std.specs.List.{All, Contains}
use Rattle.std.proofs.lemmas.List.Elements.{All-cons, All-nil, Contains-push}
use Rattle.mark_core.specs.declared.system.Pair.{Pair}
use Rattle.mark_machine.specs.Machine.{PairSeen}
use Rattle.mark_machine.specs.declared.machine.View.{View}
use Rattle.mark_workers.specs.Work.{Looked}

pub nothing_needed : {A : Type 0} {items : List A} (P : A → Type 0) → items ≡ [] → All P items
nothing_needed P none = subst (All P) (sym none) (All-nil P)

pub only_pair : (pairs : List Pair) (pair : Pair) → pairs ≡ pair ∷ [] → Contains pairs pair
only_pair pairs pair is = subst (λ ps. Contains ps pair) (sym is) (Contains-push [] pair)

pub only_seen : (pairs : List Pair) (pair : Pair) (w : View) → pairs ≡ pair ∷ [] → pair.two ≢ pair.one
    → Looked w pair.one pair.two pair → All (PairSeen w pair.one) pairs
only_seen pairs pair w is apart seen =
    subst (All (PairSeen w pair.one)) (sym is)
    (All-cons (PairSeen w pair.one) pair [] ((λ e. seen), (λ e. absurd (apart e))) (All-nil (PairSeen w pair.one)))
