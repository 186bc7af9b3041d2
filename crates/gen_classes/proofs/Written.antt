-- The generated classes can be written.
use Rattle.std.proofs.Common.{◌≡◌, ℕ, ◌+◌, ◌*◌, ◌<◌, ◌≤◌, Bool, true, false, cond, List, [], ◌∷◌, length, map, refl, arith}
use Rattle.std.specs.Prelude.{nat_lt}
use Rattle.std.specs.List.{AllByRecursion, filter}
use Rattle.std.proofs.lemmas.Bool.{ltb-true}
use Rattle.class_model.specs.WellFormed.{IsClassName}
use Rattle.gen_classes.specs.Generated.{caller_class, caller_name, interface_class, plain_class, plain_name}
use Rattle.gen_classes.specs.Laws.{CanBeWritten, GeneratedCanBeWritten}
use Rattle.gen_classes.proofs.Formed.{caller_counts, caller_formed, interface_counts, interface_formed, plain_counts}
use Rattle.gen_classes.proofs.Formed.{plain_formed}
use Rattle.gen_classes.proofs.Named.{IsNamed, named_c, named_d}
use Rattle.gen_classes.proofs.Within.{caller_within, interface_within, plain_within}

class_names : (names : List (List ℕ)) → AllByRecursion IsNamed names → AllByRecursion IsClassName names
class_names [] all = tt
class_names (name ∷ names) all = (all.0.class, class_names names all.1)

module _ (n i : ℕ) (most : n ≤ 4000) (below : i < n) where
  abbrev Kept : List ℕ → List (List ℕ)
  Kept js = map caller_name (filter (λ j. nat_lt j n) js)

  kept_named : (js : List ℕ) → AllByRecursion IsNamed (Kept js)
  kept_named [] = tt
  kept_named (j ∷ js) = on (nat_lt j n) refl (kept_named js)
    where
      on : (b : Bool) → nat_lt j n ≡ b → AllByRecursion IsNamed (Kept js)
          → AllByRecursion IsNamed (map caller_name (cond b (j ∷ filter (λ k. nat_lt k n) js) (filter (λ k. nat_lt k n) js)))
      on true is others = (named_c j (omega (arith, most, ltb-true j n is)), others)
      on false is others = others

  kept_few : (js : List ℕ) → length (Kept js) ≤ length js
  kept_few [] = omega arith
  kept_few (j ∷ js) = on (nat_lt j n) (kept_few js)
    where
      on : (b : Bool) → length (Kept js) ≤ length js
          → length (map caller_name (cond b (j ∷ filter (λ k. nat_lt k n) js) (filter (λ k. nat_lt k n) js)))
          ≤ length (j ∷ js)
      on true others = omega (arith, others)
      on false others = omega (arith, others)

  abbrev both : List ℕ
  both = (2 * i + 1) ∷ (2 * i + 2) ∷ []

  caller_written : CanBeWritten (caller_class n i)
  caller_written =
      let name = named_c i (omega (arith, most, below)) in
      let others = kept_named both in record {
        well_formed = caller_formed (caller_name i) name.class i (Kept both) (class_names (Kept both) others);
        counts = caller_counts (caller_name i) name.class i (Kept both) (class_names (Kept both) others);
        within = caller_within (caller_name i) name i (omega (arith, most, below)) (Kept both) (kept_few both) others;
      }

  plain_written : CanBeWritten (plain_class i)
  plain_written =
      let name = named_d i (omega (arith, most, below)) in record {
        well_formed = plain_formed (plain_name i) name.class;
        counts = plain_counts (plain_name i) name.class;
        within = plain_within (plain_name i) name;
      }

pub interface_written : CanBeWritten interface_class
interface_written = record { well_formed = interface_formed; counts = interface_counts; within = interface_within }

pub generated_written : GeneratedCanBeWritten
generated_written = (interface_written, λ n i most below. (caller_written n i most below, plain_written n i most below))
