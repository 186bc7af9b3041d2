-- A pair is one with other codes that name nothing more.
use Rattle.std.proofs.Common.{◌≡◌, List, None, sym, ap, subst, ◌∙◌}
use Rattle.mark_core.specs.Marks.{Closed, set_of}
use Rattle.class_model.specs.declared.class.Class.{Class}
use Rattle.keep_rules.specs.declared.rules.Rules.{Rules}
use Rattle.attribute_filter.specs.KeptAttributes.{filter_of}
use Rattle.rule_system.specs.Required.{kept_by_rules, required}
use Rattle.require_sys.specs.Requires.{requires}
use Rattle.require_sys.specs.declared.kept.KeptByRules.{KeptByRules}
use Rattle.mapping_file.specs.declared.mapping.Mapping.{Mapping}
use Rattle.new_names.specs.declared.class_names.ClassNames.{ClassNames}
use Rattle.pair_clauses.specs.Closing.{lined_items}
use Rattle.pair_clauses.specs.Codes.{CodeDiffers}
use Rattle.pair_clauses.specs.Members.{MemberDiffers}
use Rattle.pair_checker.specs.Clauses.{given_names}
use Rattle.swap_laws.specs.Swapped.{IsSwapped}
use Rattle.swap_laws.proofs.Closing.{swap_keeps_closed}
use Rattle.pair_laws.specs.PairSame.Pairs.{IsPair}
use Rattle.pair_laws.specs.SwappedPairs.Laws.{IsPairButCodes, SwapKeepsPairs}
use Rattle.pair_laws.proofs.OwnLines.Closing.{no_item_lacks, no_seed_lost}
use Rattle.pair_laws.proofs.PairSame.ClosedLines.{closed_lines}
use Rattle.pair_laws.proofs.SwappedPairs.Clauses.{fixed_same, given_same, package_same, range_same, shape_same}
use Rattle.pair_laws.proofs.SwappedPairs.Members.{have_too, members_again}
use Rattle.pair_laws.proofs.SwappedPairs.Names.{kept_same}

module _ (input other output : List Class) (mapping : Mapping) (rules : Rules) (swapped : IsSwapped input other)
    (pair : IsPairButCodes input output mapping rules)
    (codes : CodeDiffers mapping (filter_of rules) other (given_names mapping input) output None) where
  abbrev given : List ClassNames
  given = given_names mapping input

  given_is : given_names mapping other ≡ given
  given_is = given_same input other swapped.alike mapping

  closed : Closed (required other rules) (set_of (lined_items given))
  closed = subst (λ (kept : KeptByRules). Closed (requires other kept) (set_of (lined_items given)))
      (sym (kept_same input other swapped.alike rules))
      (swap_keeps_closed input other (kept_by_rules input rules) (set_of (lined_items given)) swapped
      (closed_lines input rules given pair.seeds pair.closed))

  pub is_pair : IsPair other output mapping rules
  is_pair = record {
    shape = pair.shape ∙ sym (shape_same input other swapped.alike output mapping);
    fixed = pair.fixed ∙ sym (fixed_same input other swapped.alike mapping rules);
    packages = pair.packages ∙ sym (package_same input other swapped.alike mapping);
    seeds = no_seed_lost other (given_names mapping other) (required other rules) (lined_items given) closed
        (ap lined_items given_is);
    closed = no_item_lacks other (given_names mapping other) (required other rules) (lined_items given) closed
        (ap lined_items given_is);
    members = subst (λ (g : List ClassNames). MemberDiffers mapping (filter_of rules) other g output None) (sym given_is)
        (members_again mapping (filter_of rules) output input other swapped.alike
        (λ n c e at there. have_too c.methods e.methods (swapped.codes n c e at there)) given pair.members);
    codes = subst (λ (g : List ClassNames). CodeDiffers mapping (filter_of rules) other g output None) (sym given_is)
        codes;
    ranges = pair.ranges ∙ sym (range_same input other swapped.alike mapping output);
  }

pub swap_keeps_pairs : SwapKeepsPairs
swap_keeps_pairs = is_pair
