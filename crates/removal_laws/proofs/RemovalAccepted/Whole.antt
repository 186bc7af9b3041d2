-- What is left, without the attributes that aren't kept, is taken and typed again.
use Rattle.std.proofs.Common.{◌≡◌, Bool, List, map, Ok, sym, subst}
use Rattle.std.specs.Prelude.{IfSome}
use Rattle.std.specs.Str.{IsUtf8}
use Rattle.mark_core.specs.Marks.{Closed}
use Rattle.class_model.specs.WellFormed.{IsWellFormed}
use Rattle.class_model.specs.declared.class.Class.{Class}
use Rattle.class_pool.specs.Faults.{Builds}
use Rattle.class_pool.specs.Items.{class_item}
use Rattle.class_pool.specs.declared.fault.NamedClass.{NamedClass}
use Rattle.attribute_filter.specs.Filtered.{filtered}
use Rattle.attribute_filter.specs.declared.filter.AttributeFilter.{AttributeFilter}
use Rattle.member_shrink.specs.Shrunk.{is_marked, shrunk}
use Rattle.require_sys.specs.Requires.{requires}
use Rattle.require_sys.specs.declared.kept.KeptByRules.{KeptByRules}
use Rattle.image_laws.specs.TakenSet.TakenSet.{IsTaken}
use Rattle.image_laws.proofs.TakenSet.Proper.{names_right}
use Rattle.removal_laws.proofs.RemovalLinks.Left.{classes_right, fields_right, methods_kept, stays}
use Rattle.removal_laws.specs.RemovalBuilds.FilesLeft.{files_left}
use Rattle.removal_laws.proofs.RemovalBuilds.Again.{few_left, is_built}
use Rattle.removal_laws.proofs.RemovalBuilds.Formed.{formed_left}
use Rattle.removal_laws.proofs.RemovalBuilds.RanksLeft.{ranks_left}
use Rattle.removal_laws.proofs.RemovalBuilds.Rounds.{ascend_left, names_left, supers_left}
use Rattle.removal_laws.proofs.RemovalTyped.Typing.{typed_again}
use Rattle.removal_laws.proofs.FilteredSet.Building.{IsBuilt, at_each, built_again, taken_again}
use Rattle.removal_laws.proofs.FilteredSet.LinkKinds.{BreaksNone}
use Rattle.removal_laws.proofs.FilteredSet.Typing as typing
use Rattle.removal_laws.specs.RemovalAccepted.Laws.{FilteredRemovalKeepsTaken, FilteredRemovalKeepsTyped}
use Rattle.removal_laws.specs.RemovalAccepted.Laws.{left_and_filtered}

module _ (classes : List Class) (rules : KeptByRules) (marks : List Bool)
    (closed : Closed (requires classes rules) (is_marked marks)) (taken : IsTaken classes) where
  -- what is left is built, and follows the format
  built_left : IsBuilt (shrunk classes marks)
  built_left = record {
    files = files_left taken.files marks;
    ascend = ascend_left taken.files marks taken.ascend;
    built = is_built classes rules marks closed taken;
    names = names_left taken.files marks (names_right classes taken);
    supers = supers_left classes rules marks closed taken;
    few = few_left classes rules marks closed taken;
    ranks = ranks_left classes rules marks closed taken;
    formed = at_each IsWellFormed (shrunk classes marks)
        (λ j d at.
        let s = stays classes rules marks closed taken j d at in
        subst IsWellFormed (sym s.is)
        (formed_left marks (class_item classes s.n) s.class (taken.formed s.n s.class s.there)));
  }

  -- and breaks no rule for links, but maybe one for the classes of an Exceptions that isn't kept
  links_left : (filter : AttributeFilter) → filter.exceptions ≡ rules.exceptions
      → BreaksNone filter (shrunk classes marks)
  links_left filter same = record {
    class = classes_right classes rules marks closed taken;
    field = fields_right classes rules marks closed taken;
    method = methods_kept classes rules marks closed taken filter.exceptions same;
  }

-- the files of what is left, with those attributes alone, make the set
pub files_built : (classes : List Class) (rules : KeptByRules) (marks : List Bool) (filter : AttributeFilter)
    → (taken : IsTaken classes) → Closed (requires classes rules) (is_marked marks) → IfSome filter.source_name IsUtf8
    → Builds (Ok (left_and_filtered filter classes marks))
    (map (λ (file : NamedClass). let f : NamedClass = record {
      path = file.path;
      class = filtered filter file.class;
    } in f) (files_left taken.files marks))
unfolding built_left
files_built classes rules marks filter taken closed utf8 =
    built_again filter utf8 (shrunk classes marks) (built_left classes rules marks closed taken)

pub taken_left : FilteredRemovalKeepsTaken
taken_left classes rules marks filter taken closed same utf8 =
    taken_again filter utf8 (shrunk classes marks) (built_left classes rules marks closed taken)
    (links_left classes rules marks closed taken filter same)

pub typed_left : FilteredRemovalKeepsTyped
typed_left classes rules marks filter taken typed closed =
    typing.all_typed filter (shrunk classes marks) (typed_again classes rules marks taken typed closed)
