-- Ranges of methods, and the lines of what they have become.
use Rattle.std.proofs.Common.{◌≡◌, ◌+◌, ◌||◌, ℕ, zero, suc, Bool, true, false, List, [], ◌∷◌, Option, Some, None, map}
use Rattle.std.proofs.Common.{drop, slice_get, refl, sym, ap, ◌∙◌, arith}
use Rattle.std.specs.List.{cons_option, filter_map, list_any, zip}
use Rattle.std.specs.Option.{option_or}
use Rattle.jv_base.proofs.Lists.{got_mapped}
use Rattle.class_model.specs.declared.class.Class.{Class}
use Rattle.class_model.specs.declared.class.Method.{Method}
use Rattle.class_model.specs.declared.code.Ins.{Ins}
use Rattle.mapping_file.specs.declared.mapping.MapClass.{MapClass}
use Rattle.mapping_file.specs.declared.mapping.Range.{Range}
use Rattle.new_names.specs.NewNames.{range_in}
use Rattle.pair_clauses.specs.Finding.{first_place}
use Rattle.pair_clauses.specs.LineRanges.{is_outside, leaves_range, range_fault_of}
use Rattle.pair_clauses.specs.Places.{place_of_method}
use Rattle.pair_clauses.specs.bodies.Ranges.{is_line_outside, leaves_at}
use Rattle.pair_clauses.specs.declared.place.Place.{Place}
use Rattle.pair_clauses.proofs.Unlike.{named_from, named_here, unnamed_on}
use Rattle.pair_clauses.proofs.Zipped.{drop_none, drop_some, placed, unplaced, zip_nil}

-- the lines of instructions, and these one by one
pub outside_lines : (r : Range) (ins : List Ins)
    → list_any (λ (i : Ins). is_line_outside r i.line) ins ≡ list_any (is_outside r) (filter_map (λ (i : Ins). i.line) ins)
outside_lines r [] = refl
outside_lines r (i ∷ is) = by i.line (outside_lines r is)
  where
    by : (o : Option ℕ)
        → list_any (λ (n : Ins). is_line_outside r n.line) is ≡ list_any (is_outside r) (filter_map (λ (n : Ins). n.line) is)
        → (is_line_outside r o || list_any (λ (n : Ins). is_line_outside r n.line) is)
        ≡ list_any (is_outside r) (cons_option o (filter_map (λ (n : Ins). n.line) is))
    by None e = e
    by (Some line) e = ap (λ (b : Bool). is_outside r line || b) e

-- nothing is behind the end
ends_on : {A : Type 0} (ys : List A) (k : ℕ) → slice_get ys k ≡ None → drop (suc k) ys ≡ []
ends_on [] k h = refl
ends_on (y ∷ ys) zero h = absurd cc
ends_on (y ∷ ys) (suc k) h = ends_on ys k h

module _ (line : MapClass) (c : Class) (new : List (Option (List ℕ))) (outs : List Method) where
  -- what is found from a place on, the next of the output being that with a number
  abbrev pub leaving_from : ℕ → ℕ → Option Place
  leaving_from i k = first_place (range_fault_of line c) (zip (named_from c.methods new i) (drop k outs))

  module _ (i k : ℕ) where
    -- none is left
    pub leaving_done : [] ≡ named_from c.methods new i → leaving_from i k ≡ None
    leaving_done e =
        ap (λ (ms : List (Method × List ℕ)). first_place (range_fault_of line c) (zip ms (drop k outs))) (sym e)

    module _ (m : Method) (sm : slice_get c.methods i ≡ Some m) where
      -- the method here has no new name
      pub leaving_unnamed : slice_get new i ≡ Some None → leaving_from (i + 1) k ≡ leaving_from i k
      leaving_unnamed sn =
          ap (λ (ms : List (Method × List ℕ)). first_place (range_fault_of line c) (zip ms (drop k outs)))
          (unnamed_on c.methods new i m sm sn)

      module _ (name : List ℕ) (sn : slice_get new i ≡ Some (Some name)) where
        here : leaving_from i k
            ≡ first_place (range_fault_of line c) (zip ((m, name) ∷ named_from c.methods new (i + 1)) (drop k outs))
        here = sym
            (ap (λ (ms : List (Method × List ℕ)). first_place (range_fault_of line c) (zip ms (drop k outs)))
            (named_here c.methods new i m name sm sn))

        with_out : (out : Method) → slice_get outs k ≡ Some out → leaving_from i k
            ≡ option_or (range_fault_of line c ((m, name), out)) (leaving_from (i + 1) (k + 1))
        with_out out so = here
            ∙ ap (λ (os : List Method). first_place (range_fault_of line c)
            (zip ((m, name) ∷ named_from c.methods new (i + 1)) os)) (drop_some outs k out so)

        -- it leaves its range
        pub leaving_here : (range : Option (Option Range)) (out : Option Method) → range ≡ Some (range_in line m)
            → out ≡ slice_get outs k → leaves_at range out ≡ true → leaving_from i k ≡ Some (place_of_method c m)
        leaving_here range out er eo leaves = by out eo (sym (ap (λ (r : Option (Option Range)). leaves_at r out) er) ∙ leaves)
          where
            by : (o : Option Method) → o ≡ slice_get outs k → leaves_at (Some (range_in line m)) o ≡ true
                → leaving_from i k ≡ Some (place_of_method c m)
            by None e h = absurd cc
            by (Some y) e h = with_out y (sym e)
                ∙ ap (λ (o : Option Place). option_or o (leaving_from (i + 1) (k + 1)))
                (placed (leaves_range (range_in line m) y.code) (place_of_method c m) h)

        -- it doesn't, or there is none of the output
        pub leaving_on : (range : Option (Option Range)) (out : Option Method) → range ≡ Some (range_in line m)
            → out ≡ slice_get outs k → leaves_at range out ≡ false → leaving_from (i + 1) (k + 1) ≡ leaving_from i k
        leaving_on range out er eo stays = by out eo (sym (ap (λ (r : Option (Option Range)). leaves_at r out) er) ∙ stays)
          where
            none : slice_get outs k ≡ None → leaving_from (i + 1) (k + 1) ≡ leaving_from i k
            none e =
                let one : k + 1 ≡ suc k = omega arith in
                let after : drop (k + 1) outs ≡ [] = ap (λ (n : ℕ). drop n outs) one ∙ ends_on outs k e in
                let left = ap (λ (os : List Method). first_place (range_fault_of line c)
                (zip (named_from c.methods new (i + 1)) os)) after
                ∙ ap (first_place (range_fault_of line c)) (zip_nil (named_from c.methods new (i + 1))) in
                let right = here ∙ ap (λ (os : List Method). first_place (range_fault_of line c)
                (zip ((m, name) ∷ named_from c.methods new (i + 1)) os)) (drop_none outs k e) in
                left ∙ sym right

            by : (o : Option Method) → o ≡ slice_get outs k → leaves_at (Some (range_in line m)) o ≡ false
                → leaving_from (i + 1) (k + 1) ≡ leaving_from i k
            by None e h = none (sym e)
            by (Some y) e h = sym (with_out y (sym e)
                ∙ ap (λ (o : Option Place). option_or o (leaving_from (i + 1) (k + 1)))
                (unplaced (leaves_range (range_in line m) y.code) (place_of_method c m) h))

-- the range of the method with a number
pub range_at : (line : MapClass) (methods : List Method) (ranges : List (Option Range)) (i : ℕ) (m : Method)
    (range : Option (Option Range)) → slice_get methods i ≡ Some m → ranges ≡ map (range_in line) methods
    → range ≡ slice_get ranges i → range ≡ Some (range_in line m)
range_at line methods ranges i m range sm told is =
    is ∙ ap (λ (rs : List (Option Range)). slice_get rs i) told ∙ got_mapped (range_in line) methods i m sm
