-- Where a run of a program may begin (the project's own: what an entry is).
use Rattle.std.specs.Prelude.{◌≡◌, ℕ, true, List, Some}
use Rattle.std.specs.List.{Contains}
use Rattle.class_model.specs.declared.class.Class.{Class}
use Rattle.class_pool.specs.Items.{item_of}
use Rattle.class_pool.specs.declared.id.MemberAt.{MemberAt}
use Rattle.keep_rules.specs.declared.rules.Rules.{Rules}
use Rattle.rule_system.specs.Required.{required}
use Rattle.jvm_model.specs.Value.{Key}
use Rattle.set_view.specs.ViewOf.{is_startable, member_of}

-- a static method of the program with plain parameters that rules keep in any case
pub record IsEntry (input : List Class) (rules : Rules) (k : Key) : Type 0 where
  pub startable : is_startable input k ≡ true
  pub member : MemberAt
  pub item : ℕ
  pub member_is : member_of input k ≡ Some member
  pub item_is : item_of input member ≡ Some item
  pub seed : Contains (required input rules).seeds item

-- each of these is one
abbrev pub AreEntries : List Class → Rules → List Key → Type 0
AreEntries input rules entries = (k : Key) → Contains entries k → IsEntry input rules k
