-- Answers of `put_table_switch`: what its calls ask for, and what it promises.
use Rattle.std.proofs.Common.{◌≡◌, ℕ, List, [], ◌++◌, ◌∷◌, append_assoc, map, replicate, length, subst, of_z, to_z}
use Rattle.std.proofs.lemmas.Int.{to_z-of_z}
use Rattle.std.specs.Prelude.{slice_index, pos, ◌+ℤ◌, ◌-ℤ◌}
use Rattle.std.specs.Int.{w32, to_be_bytes, cast_unsigned}
use Rattle.std.specs.List.{flat_map}
use Rattle.std.proofs.lemmas.Result.{IfOk-equal}
use Rattle.class_model.specs.CanonicalCode.{far}
use Rattle.class_model.specs.InstructionStructure.{pad_length}
use Rattle.code_write.proofs.writing.put_table_switch.Goals as goal

-- one part behind the other
joined : (o : List ℕ) (x : ℕ) (a b l h t : List ℕ)
    → ((o ++ x ∷ (a ++ b)) ++ (l ++ h)) ++ t ≡ o ++ x ∷ (a ++ (b ++ (l ++ (h ++ t))))
joined o x a b l h t = simp append_assoc

pub returns : goal.returns
returns c =
    let place = slice_index c.args.places.now in
    let at = c.args.at in
    let n = length c.args.cases.now in
    let e : to_z w32 (of_z w32 c.args.low) ≡ c.args.low = to_z-of_z w32 c.args.low c.ranges.low in
    let keys : c.put_keys.new.out.items
    ≡ c.put_switch.new.out.items ++
    (to_be_bytes w32 (cast_unsigned w32 c.args.low) ++ to_be_bytes w32
    (cast_unsigned w32 (c.args.low +ℤ pos n -ℤ pos 1))) =
    subst (λ z. c.put_keys.new.out.items
    ≡ c.put_switch.new.out.items ++
    (to_be_bytes w32 (cast_unsigned w32 z) ++ to_be_bytes w32
    (cast_unsigned w32 (z +ℤ pos n -ℤ pos 1)))) e c.in_ok-put_keys.ensures in
    IfOk-equal c.put_targets.result _ _ _ c.put_targets.ensures
    (rw (keys, c.in_ok-put_switch.ensures)
    (joined c.args.out.now.items 0xAA (replicate (pad_length at) 0) (to_be_bytes w32 (far [] place at c.args.other))
    (to_be_bytes w32 (cast_unsigned w32 c.args.low))
    (to_be_bytes w32 (cast_unsigned w32 (c.args.low +ℤ pos (length c.args.cases.now) -ℤ pos 1)))
    (flat_map (to_be_bytes w32) (map (far [] place at) c.args.cases.now))))
