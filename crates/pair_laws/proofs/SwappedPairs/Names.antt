-- Sets that differ in codes alone have one names, entries and seeds.
use Rattle.std.proofs.Common.{◌≡◌, ℕ, ◌+◌, ◌&&◌, not, nat_lt, Bool, true, false, cond, List, map, length, Option, Some, None}
use Rattle.std.proofs.Common.{codes, refl, sym, ap, subst, ◌∙◌}
use Rattle.std.specs.List.{Contains}
use Rattle.std.specs.Option.{option_map_or}
use Rattle.std.proofs.lemmas.List.{length-map}
use Rattle.jv_base.specs.Names.{is_text}
use Rattle.class_model.specs.Flags.{acc_static}
use Rattle.class_model.specs.declared.class.Class.{Class}
use Rattle.class_pool.specs.Found.{IsMember, row_at}
use Rattle.class_pool.specs.Items.{item_of}
use Rattle.class_pool.specs.declared.id.ClassId.{ClassId}
use Rattle.class_pool.specs.declared.id.ClassId.TheVariants.{Prog, Lib}
use Rattle.class_pool.specs.declared.id.MemberAt.{MemberAt}
use Rattle.link_check.specs.Profile.{is_of_library}
use Rattle.keep_rules.specs.declared.rules.Rules.{Rules}
use Rattle.mapping_file.specs.declared.mapping.Mapping.{Mapping}
use Rattle.member_shrink.specs.Shrunk.{is_marked}
use Rattle.rule_system.specs.Required.{kept_by_rules, required}
use Rattle.require_sys.specs.Requires.{seeds_of}
use Rattle.class_rename.specs.Names as class_rename
use Rattle.new_names.specs.NewNames.{names_of}
use Rattle.jvm_model.specs.Same.{Names}
use Rattle.jvm_model.specs.Start.{are_plain_parameters}
use Rattle.jvm_model.specs.Value.{Key}
use Rattle.set_view.specs.ViewOf.{is_startable, is_static_method, key_at, member_of}
use Rattle.image_laws.specs.ShrunkImage.Keeping.{is_class_kept, is_index_marked, is_member_kept}
use Rattle.pair_clauses.specs.Closing.{lined_items}
use Rattle.pair_checker.specs.Clauses.{given_names}
use Rattle.shape_laws.specs.Bare.{DifferInCodes, bare}
use Rattle.shape_laws.proofs.Alike as alike
use Rattle.shape_laws.proofs.BareSets.{bare_keeps, same}
use Rattle.shape_laws.proofs.Shape as shape
use Rattle.swap_laws.proofs.Matching.{match_alike}
use Rattle.swap_laws.proofs.Wants as wants
use Rattle.pair_laws.specs.PairSame.Entries.{AreEntries, IsEntry}
use Rattle.pair_laws.specs.PairSame.Laws.{pair_names}
use Rattle.pair_laws.specs.PairSame.OneToOne.{AreOneToOne}
use Rattle.pair_laws.specs.RenamedSame.NewKeys.{kept_key, kept_names, new_key}
use Rattle.pair_laws.proofs.SwappedPairs.Clauses.{given_same}

-- ---- without codes

module _ (s : List Class) where
  abbrev t : List Class
  t = map bare s

  row_at_is : row_at t ≡ row_at s
  row_at_is = alike.row_at_is bare bare_keeps s

  static_at : (m : MemberAt) → is_static_method t m ≡ is_static_method s m
  static_at m = λ i. option_map_or (λ row. row.is_method) (row_at_is i m) false
      && alike.has_flag_is bare bare_keeps s i acc_static m && not (is_of_library m.class)

  startable_at : (k : Key) → is_startable t k ≡ is_startable s k
  startable_at k = λ i. option_map_or (λ m. static_at m i) (shape.member_of_is bare bare_keeps s i k) false
      && not (is_text k.name (codes "<clinit>")) && are_plain_parameters k.descriptor

  item_of_at : (m : MemberAt) → item_of t m ≡ item_of s m
  item_of_at m = wants.item_in_is s m.class m.index

  -- ---- what is kept by marks

  module _ (marks : List Bool) where
    index_at : (x : ClassId) (k : ℕ) → is_index_marked t marks x k ≡ is_index_marked s marks x k
    index_at (Prog n) k = λ i. is_marked marks (wants.class_item_is s i n + 1 + k)
    index_at (Lib id) k = refl

    class_kept_at : (x : ClassId) → is_class_kept t marks x ≡ is_class_kept s marks x
    class_kept_at (Prog n) = λ i. nat_lt n (length-map s bare i) && is_marked marks (wants.class_item_is s i n)
    class_kept_at (Lib id) = refl

    member_kept_at : (m : MemberAt) → is_member_kept t marks m ≡ is_member_kept s marks m
    member_kept_at m = λ i. class_kept_at m.class i
        && (nat_lt m.index (length (alike.rows_in_is bare bare_keeps s i m.class)) && index_at m.class m.index i)

    module _ (new : class_rename.Names) where
      key_at_at : (k : Key) → kept_key new t marks k ≡ kept_key new s marks k
      key_at_at k = λ i. cond
          (option_map_or (λ m. member_kept_at m i) (shape.member_of_is bare bare_keeps s i k) false)
          (Some (new_key new k)) None

      kept_names_is : kept_names new t marks ≡ kept_names new s marks
      kept_names_is = λ i. record {
        class = λ c. cond
            (option_map_or (λ x. class_kept_at x i) (alike.class_named_is bare bare_keeps s i c) false)
            (Some (new.class c)) None;
        field = λ k. key_at_at k i;
        method = λ k. key_at_at k i;
      }

-- ---- sets that differ in codes alone

module _ (a b : List Class) (like : DifferInCodes a b) where
  pub pair_names_same : (mapping : Mapping) → pair_names b mapping ≡ pair_names a mapping
  pair_names_same mapping =
      (λ i. kept_names (names_of mapping) b (lined_items (given_same a b like mapping i)))
      ∙ same a b like (λ s. kept_names (names_of mapping) s (lined_items (given_names mapping a)))
      (λ s. kept_names_is s (lined_items (given_names mapping a)) (names_of mapping))

  pub kept_same : (rules : Rules) → kept_by_rules b rules ≡ kept_by_rules a rules
  kept_same rules =
      let m = match_alike rules a b like in
      λ i. record {
        shrink = rules.shrink;
        seeds = m.seeds i;
        members = m.members i;
        exceptions = (kept_by_rules a rules).exceptions;
      }

  pub seeds_same : (rules : Rules) → (required b rules).seeds ≡ (required a rules).seeds
  seeds_same rules =
      ap (seeds_of b) (kept_same rules)
      ∙ same a b like (λ s. seeds_of s (kept_by_rules a rules)) (λ s. wants.seeds_of_is s (kept_by_rules a rules))

  entry_there : (rules : Rules) (k : Key) → IsEntry a rules k → IsEntry b rules k
  entry_there rules k e = record {
    startable = same a b like (λ s. is_startable s k) (λ s. startable_at s k) ∙ e.startable;
    member = e.member;
    item = e.item;
    member_is = same a b like (λ s. member_of s k) (λ s i. shape.member_of_is bare bare_keeps s i k) ∙ e.member_is;
    item_is = same a b like (λ s. item_of s e.member) (λ s. item_of_at s e.member) ∙ e.item_is;
    seed = subst (λ (seeds : List ℕ). Contains seeds e.item) (sym (seeds_same rules)) e.seed;
  }

  pub entries_there : (rules : Rules) (entries : List Key) → AreEntries a rules entries → AreEntries b rules entries
  entries_there rules entries are k h = entry_there rules k (are k h)

  -- ---- names that are one to one

  member_by : (names : Names) (of : Names → Key → Option Key)
      → ((m : MemberAt) → IsMember b m → is_of_library m.class ≡ true
      → of names (key_at b m) ≡ Some (key_at b m))
      → (x : ClassId) (k : ℕ) → IsMember a (record { class = x; index = k }) → is_of_library x ≡ true
      → of names (key_at a (record { class = x; index = k })) ≡ Some (key_at a (record { class = x; index = k }))
  member_by names of h (Prog n) k there lib = absurd cc
  member_by names of h (Lib id) k there lib = h (record { class = Lib id; index = k }) there lib

  pub one_to_one_back : (names : Names) → AreOneToOne b names → AreOneToOne a names
  one_to_one_back names h = record {
    library_class = h.library_class;
    library_field = λ m there lib. member_by names (λ (n : Names) k. n.field k) h.library_field m.class m.index there lib;
    library_method = λ m there lib. member_by names (λ (n : Names) k. n.method k) h.library_method m.class m.index there
        lib;
    one_class = h.one_class;
    one_field = h.one_field;
    one_method = h.one_method;
  }
