-- A set of classes under new names is taken again.
use Rattle.std.proofs.Common.{◌<◌, ℕ, List, sym, subst}
use Rattle.class_model.specs.declared.class.Class.{Class}
use Rattle.class_pool.specs.Count.{item_count}
use Rattle.class_rename.specs.Names.{Names}
use Rattle.removal_laws.proofs.RemovalLinks.Places.{none_broken}
use Rattle.image_laws.specs.TakenSet.TakenSet.{IsTaken}
use Rattle.pair_laws.specs.RenamedTaken.Laws.{RenamedBuilds, RenamedIsTaken, RenamedKeepsCount, RenamedKeepsLinks}
use Rattle.pair_laws.specs.RenamedTaken.NewSet.{IsNewSet}
use Rattle.pair_laws.proofs.RenamedTaken.Built.{built_new, count_same, no_other}
use Rattle.pair_laws.proofs.RenamedTaken.Formed.{formed}
use Rattle.pair_laws.proofs.RenamedTaken.Known.{known_types}
use Rattle.pair_laws.proofs.RenamedTaken.Ranks.{ranks_new}
use Rattle.pair_laws.proofs.RenamedTaken.Rules.{breaks_none}
use Rattle.pair_laws.proofs.RenamedTaken.Setting.{HasPlaces, placed_at}

-- each class has its place
pub places_of : (names : Names) (xs ys : List Class) → IsTaken xs → IsNewSet names xs ys → HasPlaces names xs ys
places_of names xs ys taken new = placed_at names xs ys taken (known_types xs taken) new

pub links_right : RenamedKeepsLinks
links_right names classes out taken new =
    let p = places_of names classes out taken new in
    none_broken out (breaks_none names p.0 p.1 classes out p.2)

pub same_count : RenamedKeepsCount
same_count = count_same

few : (names : Names) (classes out : List Class) → IsTaken classes → IsNewSet names classes out
    → item_count out < 4294967295
few names classes out taken new =
    subst (λ (n : ℕ). n < 4294967295) (sym (count_same names classes out new)) taken.few

pub built_again : RenamedBuilds
built_again names classes out files taken new are =
    let p = places_of names classes out taken new in
    record {
      ascend = are.ascend;
      few = subst (λ (cs : List Class). item_count cs < 4294967295) (sym are.classes_are)
          (few names classes out taken new);
      built = built_new names p.0 p.1 classes out p.2 files are;
      no_fault = no_other names p.0 p.1 classes out p.2 files are;
    }

pub taken_again : RenamedIsTaken
taken_again names classes out files taken new are =
    let p = places_of names classes out taken new in
    record {
      files = files;
      ascend = are.ascend;
      built = built_new names p.0 p.1 classes out p.2 files are;
      few = few names classes out taken new;
      ranks = ranks_new names p.0 p.1 classes out p.2;
      formed = formed names p.0 p.1 classes out p.2;
      linked = links_right names classes out taken new;
    }
