-- Where each item is marked, the whole set is left, and the marks are closed.
use Rattle.std.proofs.Common.{◌≡◌, ◌<◌, ◌≤◌, ℕ, zero, suc, ◌+◌, Bool, true, false, cond, List, [], ◌∷◌, length, map}
use Rattle.std.proofs.Common.{take, Option}
use Rattle.std.proofs.Common.{Some, None, slice_get, get_or, refl, sym, ap, subst, ◌∙◌, arith}
use Rattle.std.specs.Prelude.{IsTrue}
use Rattle.std.specs.List.{All, AllByRecursion, AllZip}
use Rattle.std.specs.Option.{option_map}
use Rattle.std.proofs.lemmas.List.{get_or-replicate}
use Rattle.std.proofs.lemmas.List.Elements.{All-from_recursion, recursion_from_All}
use Rattle.std.proofs.lemmas.List.Sums.{sum_by-cons}
use Rattle.std.proofs.lemmas.Option.{same_Some, slice_get_within}
use Rattle.mark_core.specs.Marks.{Closed, needs_of, set_of}
use Rattle.mark_core.specs.Valid.{Valid}
use Rattle.mark_core.specs.declared.system.Pair.{Pair}
use Rattle.class_model.specs.declared.class.Class.{Class}
use Rattle.class_model.specs.declared.class.Field.{Field}
use Rattle.class_model.specs.declared.class.Method.{Method}
use Rattle.class_model.specs.declared.code.Code.{Code}
use Rattle.class_model.specs.declared.code.Ins.{Ins}
use Rattle.class_pool.specs.Count.{item_count, items_of}
use Rattle.class_pool.specs.Found.{rows_in}
use Rattle.class_pool.specs.Items.{class_item}
use Rattle.class_pool.specs.declared.id.ClassId.TheVariants.{Prog}
use Rattle.class_rename.specs.Names.{Names}
use Rattle.class_rename.specs.Renamed as class_rename
use Rattle.jvm_model.specs.Mapped.{OptionCorr}
use Rattle.jvm_model.proofs.Compose.{line_refl}
use Rattle.member_shrink.specs.Shrunk.{chosen, is_marked, shrunk}
use Rattle.require_sys.specs.Requires.{requires}
use Rattle.require_sys.specs.declared.kept.KeptByRules.{KeptByRules}
use Rattle.rule_system.proofs.Validity.{system_valid}
use Rattle.image_laws.proofs.ShrunkImage.Classes.{f, p}
use Rattle.image_laws.proofs.ShrunkImage.Kept.{as_filter, kept_of}
use Rattle.pair_laws.specs.RenamedImage.Renaming.{IsNewClass, IsNewField, IsNewMethod, IsRenamedSet, KeepsNamesApart}
use Rattle.pair_laws.specs.RenamedSame.Laws.{RenamedKeepsSame, all_marks}
use Rattle.pair_laws.specs.RenamedSame.NewCodes.{HasNewCode, HasNewCodes, IsNewCode, IsNewIns}
use Rattle.pair_laws.proofs.RenamedSame.NewSame.{new_same}

-- ---- items

item_room : (cs : List Class) (n : ℕ) (c : Class) → slice_get cs n ≡ Some c
    → item_count (take n cs) + items_of c ≤ item_count cs
item_room [] n c e = absurd cc
item_room (d ∷ cs) zero c e =
    let same : d ≡ c = cc in
    let size = ap items_of same in
    let sum = sum_by-cons items_of d cs in
    omega (arith, size, sum)
item_room (d ∷ cs) (suc n) c e =
    let rest = item_room cs n c e in
    let sum = sum_by-cons items_of d cs in
    let front = sum_by-cons items_of d (take n cs) in
    omega (arith, rest, sum, front)

kept_all : {A : Type 0} (passes : ℕ → Bool) (g : ℕ → A → A) (n : ℕ) (xs : List A)
    → ((k : ℕ) (x : A) → slice_get xs k ≡ Some x → (passes (n + k) ≡ true) × (g (n + k) x ≡ x))
    → kept_of passes g n xs ≡ xs
kept_all passes g n [] h = refl
kept_all {A} passes g n (x ∷ xs) h =
    let start : n ≡ n + 0 = omega arith in
    let here = h 0 x refl in
    ap (λ (b : Bool). cond b (g n x ∷ kept_of passes g (n + 1) xs) (kept_of passes g (n + 1) xs))
    (ap passes start ∙ here.0)
    ∙ ap (λ (y : A). y ∷ kept_of passes g (n + 1) xs) (ap (λ (k : ℕ). g k x) start ∙ here.1)
    ∙ ap (λ (l : List A). x ∷ l)
    (kept_all passes g (n + 1) xs (λ k y at. let next : n + 1 + k ≡ n + suc k = omega arith in
    let more = h (suc k) y at in
    (ap passes next ∙ more.0, ap (λ (j : ℕ). g j y) next ∙ more.1)))

module _ (classes : List Class) where
  abbrev marks : List Bool
  marks = all_marks classes

  marked : (k : ℕ) → k < item_count classes → is_marked marks k ≡ true
  marked k low = get_or-replicate (item_count classes) k true false low

  -- ---- the whole is left

  all_chosen : {A : Type 0} (first : ℕ) (xs : List A) → first + length xs ≤ item_count classes
      → chosen marks first xs ≡ xs
  all_chosen first xs room =
      as_filter (is_marked marks) (λ k x. x) first xs
      ∙ kept_all (is_marked marks) (λ k x. x) first xs (λ k x at.
      let low = slice_get_within xs k x at in (marked (first + k) (omega (arith, low, room)), refl))

  class_whole : (n : ℕ) (c : Class) → slice_get classes n ≡ Some c → f classes marks n c ≡ c
  class_whole n c at =
      let room = item_room classes n c at in
      let fields = all_chosen (class_item classes n + 1) c.fields (omega (arith, room)) in
      let methods = all_chosen (class_item classes n + 1 + length c.fields) c.methods (omega (arith, room)) in
      λ i. record c { fields = fields i; methods = methods i }

  pub all_left : shrunk classes marks ≡ classes
  all_left =
      as_filter (p classes marks) (f classes marks) 0 classes
      ∙ kept_all (p classes marks) (f classes marks) 0 classes (λ k c at.
      let plain : k ≡ 0 + k = omega arith in
      let room = item_room classes k c at in (
        sym (ap (p classes marks) plain) ∙ marked (class_item classes k) (omega (arith, room)),
        sym (ap (λ (j : ℕ). f classes marks j c) plain) ∙ class_whole k c at,
      ))

  -- ---- and closed for the requirements of no rule

  abbrev pub no_rules : KeptByRules
  no_rules = record { shrink = true; seeds = []; members = []; exceptions = false }

  valid : Valid (requires classes no_rules)
  valid = system_valid classes no_rules
      (λ n. All-from_recursion (λ k. k < length (rows_in classes (Prog n))) (get_or [] n []) (none_at n))
      (All-from_recursion (λ x. x < item_count classes) [] tt)
    where
      none_at : (n : ℕ) → AllByRecursion (λ k. k < length (rows_in classes (Prog n))) (get_or [] n [])
      none_at zero = tt
      none_at (suc n) = tt

  below_marked : (xs : List ℕ) → AllByRecursion (λ x. x < item_count classes) xs
      → AllByRecursion (λ x. set_of marks x ≡ true) xs
  below_marked [] h = tt
  below_marked (x ∷ xs) h = (marked x h.0, below_marked xs h.1)

  pub all_closed : Closed (requires classes no_rules) (set_of marks)
  all_closed = record {
    seeds = All-from_recursion (λ x. IsTrue (set_of marks x)) [] tt;
    needs = λ x h. All-from_recursion (λ y. IsTrue (set_of marks y)) (needs_of (requires classes no_rules) x)
        (below_marked (needs_of (requires classes no_rules) x) (needs_below (requires classes no_rules).needs x
        (recursion_from_All (λ xs. All (λ y. y < item_count classes) xs) (requires classes no_rules).needs valid.2)));
    pairs = All-from_recursion _ (requires classes no_rules).pairs (pairs_marked (requires classes no_rules).pairs
        (recursion_from_All _ (requires classes no_rules).pairs valid.3));
  }
    where
      needs_below : (l : List (List ℕ)) (x : ℕ)
          → AllByRecursion (λ xs. All (λ y. y < item_count classes) xs) l
          → AllByRecursion (λ y. y < item_count classes) (get_or l x [])
      needs_below [] x h = tt
      needs_below (xs ∷ l) zero h = recursion_from_All (λ y. y < item_count classes) xs h.0
      needs_below (xs ∷ l) (suc x) h = needs_below l x h.1

      pairs_marked : (ps : List Pair)
          → AllByRecursion (λ (q : Pair). (q.one < item_count classes) × (q.two < item_count classes)
          × (q.derived < item_count classes)) ps
          → AllByRecursion (λ (q : Pair). set_of marks q.one ≡ true → set_of marks q.two ≡ true
          → set_of marks q.derived ≡ true) ps
      pairs_marked [] h = tt
      pairs_marked (q ∷ ps) h = (λ one two. marked q.derived h.0.2, pairs_marked ps h.1)

-- ---- renamed classes

module _ (names : Names) where
  fields_new : (xs : List Field) → AllZip (IsNewField names) xs (map (class_rename.renamed_field names) xs)
  fields_new [] = tt
  fields_new (x ∷ xs) = (record { name = refl; ty = refl; flags = refl; constant = refl }, fields_new xs)

  methods_new : (xs : List Method) → AllZip (IsNewMethod names) xs (map (class_rename.renamed_method names) xs)
  methods_new [] = tt
  methods_new (x ∷ xs) = (record { name = refl; ty = refl; flags = refl }, methods_new xs)

  instructions_new : (xs : List Ins) → AllZip (IsNewIns names) xs (map (class_rename.renamed_ins names) xs)
  instructions_new [] = tt
  instructions_new (x ∷ xs) = (record { op = refl; line = line_refl x.line }, instructions_new xs)

  code_new : (o : Option Code) → OptionCorr (IsNewCode names) o (option_map (class_rename.renamed_code names) o)
  code_new None = refl
  code_new (Some code) =
      (class_rename.renamed_code names code, refl, record { ins = instructions_new code.ins; handlers = refl })

  codes_new : (xs : List Method) → AllZip (HasNewCode names) xs (map (class_rename.renamed_method names) xs)
  codes_new [] = tt
  codes_new (x ∷ xs) = (code_new x.code, codes_new xs)

  class_new : (c : Class) → IsNewClass names c (class_rename.renamed names c)
  class_new c = record {
    name = refl;
    flags = refl;
    super_name = refl;
    interfaces = refl;
    fields = fields_new c.fields;
    methods = methods_new c.methods;
  }

pub renamed_same : RenamedKeepsSame
renamed_same classes names place out taken new entries kept =
    new_same classes (no_rules classes) (all_marks classes) names place out taken
    (record {
      closed = all_closed classes;
      found = new.found;
      apart = subst (KeepsNamesApart names) (sym (all_left classes)) new.apart;
      renamed = subst (λ (l : List Class). IsRenamedSet names place l out) (sym (all_left classes))
          (λ n c at. (class_rename.renamed names c, new.at n c at, class_new names c));
      codes = subst (λ (l : List Class). HasNewCodes names place l out) (sym (all_left classes))
          (λ n c d at then_at.
          let same = same_Some (class_rename.renamed names c) d (sym (new.at n c at) ∙ then_at) in
          subst (λ (x : Class). AllZip (HasNewCode names) c.methods x.methods) same (codes_new names c.methods));
    }) entries kept
