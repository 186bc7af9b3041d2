-- No clause of a pair finds a place in a set and what is written of the set with the codes that become of it.
use Rattle.std.proofs.Common.{◌≡◌, ℕ, ◌+◌, Bool, true, List, length, Option, None, slice_get, is_some, refl, sym, ap, subst, ◌∙◌}
use Rattle.std.proofs.lemmas.Option.{same_Some}
use Rattle.jv_base.specs.Types.{method_text}
use Rattle.jv_base.proofs.Lists.{got_mapped}
use Rattle.mark_core.specs.Marks.{Closed, set_of}
use Rattle.attribute_filter.specs.KeptAttributes.{filter_of}
use Rattle.class_model.specs.declared.class.Class.{Class}
use Rattle.class_pool.specs.Count.{item_count}
use Rattle.class_pool.specs.Items.{class_item}
use Rattle.image_laws.specs.TakenSet.TakenSet.{IsTaken}
use Rattle.keep_rules.specs.declared.rules.Rules.{Rules}
use Rattle.mapping_file.specs.declared.mapping.Mapping.{Mapping}
use Rattle.member_shrink.specs.Shrunk.{is_marked}
use Rattle.new_names.specs.NewNames.{new_method}
use Rattle.new_names.specs.declared.class_names.ClassNames.{ClassNames}
use Rattle.pair_checker.specs.Clauses.{Finds, given_names}
use Rattle.pair_checker.specs.declared.answer.Clause.{Clause}
use Rattle.pair_checker.specs.declared.answer.Clause.TheVariants as clause
use Rattle.pair_clauses.specs.Closing.{lined_items}
use Rattle.pair_clauses.specs.Codes.{CodeDiffers}
use Rattle.pair_clauses.specs.Members.{MemberDiffers}
use Rattle.pass_driver.specs.Optimised.{with_codes}
use Rattle.pass_driver.specs.declared.optimising.Optimised.{Optimised}
use Rattle.rule_system.specs.Required.{required}
use Rattle.set_shrink.specs.ShrunkSet.{left_of, new_names}
use Rattle.shape_laws.specs.Bare.{bare}
use Rattle.shape_laws.proofs.BareSets.{same}
use Rattle.swap_laws.specs.Swapped.{IsSwapped}
use Rattle.swap_laws.proofs.Taken.{swap_keeps_taken}
use Rattle.swap_laws.proofs.Wants.{class_item_is}
use Rattle.type_verifier.specs.Verified.{AreTyped}
use Rattle.pair_laws.specs.OwnLines.Laws.{IsMarkedSet, IsPairButShape, IsToldByMarks, name_if}
use Rattle.pair_laws.specs.OwnNames.Laws.{own_mapping}
use Rattle.pair_laws.proofs.OptimisedPairs.EditedBodies.{none_illegal, sets_alike}
use Rattle.pair_laws.proofs.OptimisedPairs.EditedMethods.{AreEdited, EditedMethod, IsEditedMethod, IsMarkedAt}
use Rattle.pair_laws.proofs.OptimisedPairs.NoStray.{not_stray_at_all}
use Rattle.pair_laws.proofs.OptimisedPairs.OptimisedSet.{closed_too, count_too}
use Rattle.pair_laws.proofs.OptimisedPairs.PutCodes.{all_put}
use Rattle.pair_laws.proofs.OptimisedPairs.SameCodes.{none_differs}
use Rattle.pair_laws.proofs.OptimisedPairs.SteppedCodes.{FindsLegal}
use Rattle.pair_laws.proofs.OwnLines.Closing.{no_item_lacks, no_seed_lost}
use Rattle.pair_laws.proofs.OwnLines.Whole.{lines_told, own_lines}
use Rattle.pair_laws.proofs.OwnShape.Fits.{mapping_fits}
use Rattle.pair_laws.proofs.OwnShape.Names.{mapping_tells}
use Rattle.pair_laws.proofs.SwappedPairs.Clauses.{fixed_same, given_same, package_same, range_same, shape_same}
use Rattle.pair_laws.proofs.SwappedPairs.Members.{had_too, have_too, members_again}

-- what is marked has a name
named_so : (b : Bool) (new : List ℕ) (o : Option (List ℕ)) → o ≡ name_if b new → b ≡ true → is_some o ≡ true
named_so b new o is marked = ap is_some (is ∙ ap (λ (x : Bool). name_if x new) marked)

module _ (legal : FindsLegal) (classes : List Class) (marks : List Bool) (rules : Rules) (old : Option Mapping)
    (o : Optimised)
    (taken : IsTaken classes) (typed : AreTyped classes)
    (swapped : IsSwapped classes (with_codes o.codes classes))
    (g : AreEdited marks classes o.codes o.witness.methods)
    (closed : Closed (required classes rules) (set_of marks)) (count : length marks ≡ item_count classes) where
  abbrev new : List Class
  new = with_codes o.codes classes

  abbrev left : List Class
  left = left_of new marks rules old

  abbrev mapping : Mapping
  mapping = own_mapping new marks rules old

  abbrev given : List ClassNames
  given = given_names mapping classes

  marked : IsMarkedSet new marks rules
  marked = record {
    taken = swap_keeps_taken classes new swapped taken;
    closed = closed_too classes new swapped rules marks closed;
    count = count ∙ sym (count_too classes new swapped);
  }

  told : IsToldByMarks (new_names new marks rules old) new marks mapping
  told = lines_told new marks rules old marked

  of_new : IsPairButShape new left mapping rules
  of_new = own_lines new marks rules old marked (mapping_tells new marks rules old)

  -- ---- lines

  given_is : given_names mapping new ≡ given
  given_is = given_same classes new swapped.alike mapping

  items : lined_items given ≡ marks
  items = ap lined_items (sym given_is) ∙ told.items

  item_is : (n : ℕ) → class_item new n ≡ class_item classes n
  item_is n = same classes new swapped.alike (λ (s : List Class). class_item s n) (λ s i. class_item_is s i n)

  lined : (d : EditedMethod) → IsEditedMethod classes d → IsMarkedAt marks classes d.spot
      → is_some (new_method mapping d.class d.method) ≡ true
  lined d is at =
      let put = all_put o.codes classes d.spot.class d.spot.method d.class d.method is.at.in_set is.at.in_class in
      let class_is : at.0 ≡ d.class = same_Some at.0 d.class (sym at.2 ∙ is.at.in_set) in
      let fields : length put.class.fields ≡ length d.class.fields =
      ap (λ (x : Class). length x.fields) (same_Some (bare put.class) (bare d.class)
      (sym (got_mapped bare new d.spot.class put.class put.in_set)
      ∙ ap (λ (xs : List Class). slice_get xs d.spot.class) (sym swapped.alike)
      ∙ got_mapped bare classes d.spot.class d.class is.at.in_set)) in
      let item : class_item new d.spot.class + 1 + (length put.class.fields + d.spot.method)
      ≡ class_item classes d.spot.class + 1 + (length at.0.fields + d.spot.method) =
      λ i. item_is d.spot.class i + 1
      + ((fields ∙ ap (λ (x : Class). length x.fields) (sym class_is)) i + d.spot.method) in
      named_so (is_marked marks (class_item new d.spot.class + 1 + (length put.class.fields + d.spot.method)))
      ((new_names new marks rules old).method d.method.name (method_text d.method.ty))
      (new_method mapping d.class d.method)
      (ap (λ (name : List ℕ). new_method mapping (record d.class { name = name }) d.method) (sym put.named)
      ∙ told.method d.spot.class put.class put.in_set d.spot.method _ put.in_class)
      (ap (is_marked marks) item ∙ at.4)

  -- ---- members and codes

  members : MemberDiffers mapping (filter_of rules) classes given left None
  members = members_again mapping (filter_of rules) left new classes (sym swapped.alike)
      (λ n e c there at. had_too c.methods e.methods (have_too c.methods e.methods (swapped.codes n c e at there))) given
      (subst (λ (x : List ClassNames). MemberDiffers mapping (filter_of rules) new x left None) given_is of_new.members)

  pub none : (c : Clause) → Finds classes left mapping rules o.witness c None
  none clause.OutputFormat = refl
  none clause.OutputProfile = refl
  none clause.MapShape = mapping_fits new marks rules old marked.taken ∙ shape_same classes new swapped.alike left mapping
  none clause.FixedName = of_new.fixed ∙ fixed_same classes new swapped.alike mapping rules
  none clause.Package = of_new.packages ∙ package_same classes new swapped.alike mapping
  none clause.SeedLost = no_seed_lost classes given (required classes rules) marks closed items
  none clause.NotClosed = no_item_lacks classes given (required classes rules) marks closed items
  none clause.MemberDiffers = members
  none clause.WitnessStray =
      not_stray_at_all marks classes o.codes o.witness.methods taken g mapping lined
  none clause.EditIllegal = none_illegal legal marks classes o.codes o.witness.methods taken typed g
  none clause.CodeDiffers =
      none_differs mapping (filter_of rules) left _ new
      (sets_alike legal marks classes o.codes o.witness.methods taken typed g) given
      (subst (λ (x : List ClassNames). CodeDiffers mapping (filter_of rules) new x left None) given_is of_new.codes)
  none clause.LineRange = of_new.ranges ∙ range_same classes new swapped.alike mapping left
