-- A method that rules keep in any case, and with which a run may begin, is an entry of a pair.
use Rattle.std.proofs.Common.{◌≡◌, ◌<◌, ◌+◌, ◌==◌, ◌&&◌, ◌||◌, not, ℕ, zero, suc, Bool, true, false, cond, List, [], ◌∷◌, ◌++◌}
use Rattle.std.proofs.Common.{length, map, Option, Some, None, slice_get, refl, sym, ap, subst, ◌∙◌, arith, codes}
use Rattle.std.specs.List.{Contains, list_any, range_with_len}
use Rattle.std.specs.Option.{option_and_then, option_map_or}
use Rattle.std.proofs.lemmas.Bool.{and_parts, eqb-true}
use Rattle.std.proofs.lemmas.List.FromFn.{get_or-range_with_len, length-range_with_len}
use Rattle.std.proofs.lemmas.Option.{slice_get_within}
use Rattle.jv_base.specs.Names.{is_text}
use Rattle.class_model.specs.Flags.{acc_static, has}
use Rattle.class_model.specs.declared.class.Class.{Class}
use Rattle.class_pool.specs.Count.{item_count}
use Rattle.class_pool.specs.Found.{MemberRow, field_row, is_method_at, is_static_member, method_row, row_at, rows_in}
use Rattle.class_pool.specs.Items.{class_item, item_in, item_of}
use Rattle.class_pool.specs.declared.id.ClassId.{ClassId}
use Rattle.class_pool.specs.declared.id.ClassId.TheVariants.{Prog, Lib}
use Rattle.class_pool.specs.declared.id.MemberAt.{MemberAt}
use Rattle.class_pool.proofs.Counting.{class_item-le, class_item-next}
use Rattle.class_pool.proofs.ToldMembers.{rows_counted}
use Rattle.keep_match.specs.Seeds.{seeds_of}
use Rattle.keep_rules.specs.declared.rules.Rules.{Rules}
use Rattle.link_check.specs.Profile.{is_of_library}
use Rattle.rule_system.specs.Required.{required}
use Rattle.jvm_model.specs.Start.{are_plain_parameters}
use Rattle.jvm_model.specs.Value.{Key}
use Rattle.set_view.specs.ViewOf.{is_startable, is_static_method, member_of}
use Rattle.pair_laws.specs.PairSame.Entries.{IsEntry}
use Rattle.compare_command.specs.Seeds.{is_kept_item, is_seed}

-- ---- items

below_in : (classes : List Class) (n index : ℕ) (c : Option Class) → slice_get classes n ≡ c
    → index < length (option_map_or (λ (d : Class). map field_row d.fields ++ map method_row d.methods) c [])
    → class_item classes n + 1 + index < item_count classes
below_in classes n index None is lt = absurd (omega arith)
below_in classes n index (Some c) is lt =
    let next = class_item-next classes n c is in
    let most = class_item-le classes (n + 1) in
    let rows = rows_counted c in
    omega (arith, next, most, rows, lt)

one_of : (xs : List ℕ) (y : ℕ) → list_any (λ n. n == y) xs ≡ true → Contains xs y
one_of [] y e = absurd cc
one_of (x ∷ xs) y e = by (x == y) refl e (one_of xs y)
  where
    by : (b : Bool) → (x == y) ≡ b → (b || list_any (λ n. n == y) xs) ≡ true
        → (list_any (λ n. n == y) xs ≡ true → Contains xs y) → Contains (x ∷ xs) y
    by true h e later = (zero, omega arith, eqb-true x y h)
    by false h e later = let r = later e in (suc r.0, let low = r.1 in omega (arith, low), r.2)

numbered : (n k : ℕ) → k < n → Contains (range_with_len 0 n) k
numbered n k low =
    let long = length-range_with_len 0 n in
    let plain : 0 + k ≡ k = omega arith in
    (k, omega (arith, long, low), get_or-range_with_len 0 n k k low ∙ plain)

-- ---- the entry

module _ (rules : Rules) (input : List Class) (k : Key) (startable : is_startable input k ≡ true)
    (seed : is_seed rules input k ≡ true) where
  static_named : (option_map_or (is_static_method input) (member_of input k) false
      && not (is_text k.name (codes "<clinit>"))) ≡ true
  static_named = (and_parts (option_map_or (is_static_method input) (member_of input k) false
      && not (is_text k.name (codes "<clinit>"))) (are_plain_parameters k.descriptor) startable).0

  seeded : (item : ℕ) → item < item_count input
      → option_and_then (item_of input) (member_of input k) ≡ Some item → Contains (required input rules).seeds item
  seeded item low is = by rules.shrink (ap (λ o. option_map_or (is_kept_item rules input) o false) is) seed
    where
      by : (b : Bool)
          → option_map_or (is_kept_item rules input) (option_and_then (item_of input) (member_of input k)) false
          ≡ is_kept_item rules input item
          → (not b || option_map_or (is_kept_item rules input)
          (option_and_then (item_of input) (member_of input k)) false) ≡ true
          → Contains (cond b (seeds_of rules input) (range_with_len 0 (item_count input))) item
      by true same h = one_of (seeds_of rules input) item (sym same ∙ h)
      by false same h = numbered (item_count input) item low

  of_class : (m : MemberAt) → member_of input k ≡ Some m → is_static_method input m ≡ true → (c : ClassId)
      → m.class ≡ c → IsEntry input rules k
  of_class m found static (Lib id) e =
      let own = (and_parts (is_method_at input m && is_static_member input m) (not (is_of_library m.class)) static).1 in
      absurd (let w : false ≡ true = sym (ap (λ (x : ClassId). not (is_of_library x)) e) ∙ own in cc)
  of_class m found static (Prog n) e =
      let both = (and_parts (is_method_at input m && is_static_member input m) (not (is_of_library m.class)) static).0 in
      let flag = (and_parts (is_method_at input m) (is_static_member input m) both).1 in
      let within = low (row_at input m) refl flag in
      let item : item_of input m ≡ Some (class_item input n + 1 + m.index) =
      ap (λ (x : ClassId). item_in input x m.index) e in
      record {
        startable = startable;
        member = m;
        item = class_item input n + 1 + m.index;
        member_is = found;
        item_is = item;
        seed = seeded (class_item input n + 1 + m.index)
            (below_in input n m.index (slice_get input n) refl
            (subst (λ (x : ClassId). m.index < length (rows_in input x)) e within))
            (ap (option_and_then (item_of input)) found ∙ item);
      }
    where
      low : (o : Option MemberRow) → row_at input m ≡ o
          → option_map_or (λ (r : MemberRow). has acc_static r.flags) o false ≡ true
          → m.index < length (rows_in input m.class)
      low None at h = absurd cc
      low (Some r) at h = slice_get_within (rows_in input m.class) m.index r at

  pub seed_entry : IsEntry input rules k
  seed_entry = by (member_of input k) refl
      (and_parts (option_map_or (is_static_method input) (member_of input k) false)
      (not (is_text k.name (codes "<clinit>"))) static_named).0
    where
      by : (o : Option MemberAt) → member_of input k ≡ o → option_map_or (is_static_method input) o false ≡ true
          → IsEntry input rules k
      by None found h = absurd cc
      by (Some m) found h = of_class m found h m.class refl
