-- An entry is a seed, and seeds have lines.
use Rattle.std.proofs.Common.{◌≡◌, Bool, true, false, cond, List, Some, None, refl, sym, ap, subst, ◌∙◌}
use Rattle.std.specs.Prelude.{IsSome, IsTrue}
use Rattle.std.specs.Option.{option_map_or}
use Rattle.std.proofs.lemmas.List.Elements.{All-contains}
use Rattle.class_model.specs.declared.class.Class.{Class}
use Rattle.keep_rules.specs.declared.rules.Rules.{Rules}
use Rattle.mapping_file.specs.declared.mapping.Mapping.{Mapping}
use Rattle.new_names.specs.NewNames.{names_of}
use Rattle.mark_core.specs.Marks.{set_of}
use Rattle.jvm_model.specs.Value.{Key}
use Rattle.image_laws.proofs.ViewImage.Naming.{member_is}
use Rattle.rule_system.specs.Required.{kept_by_rules, required}
use Rattle.image_laws.specs.ShrunkImage.Keeping.{is_member_kept}
use Rattle.removal_laws.proofs.RemovalImage.Marked.{member_kept, stands_there}
use Rattle.image_laws.specs.TakenSet.TakenSet.{IsTaken}
use Rattle.pair_laws.specs.RenamedSame.NewKeys.{kept_key, new_key}
use Rattle.pair_laws.specs.PairSame.Entries.{IsEntry}
use Rattle.pair_laws.specs.PairSame.Laws.{EntriesHaveLines}
use Rattle.pair_laws.specs.PairSame.Pairs.{IsPair}
use Rattle.pair_laws.proofs.PairSame.Expected.{closed, lined}

module _ (input output : List Class) (mapping : Mapping) (rules : Rules) (taken : IsTaken input)
    (pair : IsPair input output mapping rules) where
  abbrev marks : List Bool
  marks = lined input output mapping rules taken pair

  entry_kept : (k : Key) → IsEntry input rules k → IsSome (kept_key (names_of mapping) input marks k)
  entry_kept k e =
      let c = closed input output mapping rules taken pair in
      let marked : set_of marks e.item ≡ true = All-contains (λ x. IsTrue (set_of marks x)) (required input rules).seeds
      e.item c.seeds e.seed in
      let found = member_is input k e.member e.member_is in
      let there = stands_there input (kept_by_rules input rules) marks c (k.name, k.descriptor) e.member found.stands in
      let kept : is_member_kept input marks e.member ≡ true =
      member_kept input (kept_by_rules input rules) marks c e.member there
      (ap (λ o. option_map_or (set_of marks) o true) e.item_is ∙ marked) in
      subst (λ o. IsSome (cond (option_map_or (is_member_kept input marks) o false)
      (Some (new_key (names_of mapping) k)) None)) (sym e.member_is)
      (subst (λ (b : Bool). IsSome (cond b (Some (new_key (names_of mapping) k)) None)) (sym kept) refl)

pub entries_kept : EntriesHaveLines
entries_kept input output mapping rules taken pair entries are k h =
    entry_kept input output mapping rules taken pair k (are k h)
