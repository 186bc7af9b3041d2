-- What is left of a set that files are taken as does what the set does.
use Rattle.std.proofs.Common.{◌≡◌, Bool, true, false, cond, List, Option, Some, None, refl, subst}
use Rattle.std.specs.List.{Contains}
use Rattle.std.specs.Option.{option_and_then, option_map_or}
use Rattle.class_model.specs.declared.class.Class.{Class}
use Rattle.member_shrink.specs.Shrunk.{shrunk}
use Rattle.jvm_model.specs.Same.{Names, Renamed, Same, chain, own_names}
use Rattle.jvm_model.specs.Value.{Key}
use Rattle.jvm_model.proofs.Compose.{same_trans}
use Rattle.set_view.specs.ViewOf.{member_of, view_of}
use Rattle.image_laws.specs.ShrunkImage.Keeping.{is_member_kept}
use Rattle.removal_laws.specs.RemovalSame.KeptNames.{kept_names}
use Rattle.removal_laws.proofs.RemovalSame.SameNames.{removal_same}
use Rattle.removal_laws.specs.RemovalAccepted.Laws.{left_and_filtered}
use Rattle.removal_laws.proofs.FilteredSame.Doing.{filtered_does_the_same}
use Rattle.removal_laws.specs.AcceptedSets.Laws.{LeftDoesTheSame}
use Rattle.removal_laws.proofs.AcceptedSets.Taken.{are_taken}

stays : {A : Type 0} (o : Option A) → option_and_then Some o ≡ o
stays None = refl
stays (Some x) = refl

-- names that go on to themselves
chain_own : (n : Names) → chain n own_names ≡ n
chain_own n = λ i. record {
  class = λ x. stays (n.class x) i;
  field = λ k. stays (n.field k) i;
  method = λ k. stays (n.method k) i;
}

-- entries that are kept stand for themselves
entries_stay : (classes : List Class) (marks : List Bool) (entries : List Key)
    → Renamed (kept_names classes marks) entries entries
entries_stay classes marks entries entry other there =
    by (option_map_or (is_member_kept classes marks) (member_of classes entry) false)
  where
    by : (t : Bool) → cond t (Some entry) None ≡ Some other → Contains entries other
    by true e = let same : entry ≡ other = cc in subst (Contains entries) same there
    by false e = absurd cc

pub left_does_the_same : LeftDoesTheSame
left_does_the_same files classes rules marks filter readable accepted closed entries kept =
    subst (λ (n : Names). Same (view_of classes) (view_of (left_and_filtered filter classes marks)) n entries)
    (chain_own (kept_names classes marks))
    (same_trans (view_of classes) (view_of (shrunk classes marks)) (view_of (left_and_filtered filter classes marks))
    (kept_names classes marks) own_names entries entries (entries_stay classes marks entries)
    (removal_same classes rules marks (are_taken files classes readable accepted) closed entries kept)
    (filtered_does_the_same filter (shrunk classes marks) entries))
