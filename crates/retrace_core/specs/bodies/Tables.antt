-- Tables of old names (only the proofs of the code need them).
use Rattle.std.specs.Prelude.{◌≡◌, ℕ, List, Option, Some, None}
use Rattle.std.specs.BTreeMap.{BTreeMap}
use Rattle.std.specs.List.{find}
use Rattle.std.specs.declared.vec.Vec.{Vec}
use Rattle.jv_base.specs.External.{dotted}
use Rattle.jv_base.specs.Names.{is_text}
use Rattle.mapping_file.specs.declared.mapping.MapClass.{MapClass}
use Rattle.retrace_core.specs.OldNames.{source_of}
use Rattle.retrace_core.specs.bodies.Linked.{kept_in}
use Rattle.retrace_core.specs.declared.old_names.OldClass.{OldClass}

-- what is kept is of the one that is found, by a relation; nothing is kept where none is found
abbrev pub Answers : {V C : Type 0} → (V → C → Type 0) → Option V → Option C → Type 0
Answers same None None = Unit {0}
Answers same (Some kept) (Some c) = same kept c
Answers same _ _ = ⊥

-- a table tells of each text the first that is called so
abbrev pub Tells : {V C : Type 0} → (V → C → Type 0) → (C → List ℕ) → (List ℕ → Option V) → List C → Type 0
Tells same called found cs = (name : List ℕ) → Answers same (found name) (find (λ c. is_text name (called c)) cs)

-- what is kept of a class
pub record TellsClass (kept : OldClass) (c : MapClass) : Type 0 where
  pub old : kept.old.items ≡ dotted c.old
  pub source : kept.source.items ≡ source_of c.old
  pub methods : kept.methods ≡ c.methods

-- the classes of a mapping, by their new names with dots
abbrev pub TellsClasses : {A : Type 0} → BTreeMap (Vec ℕ A) OldClass → List MapClass → Type 0
TellsClasses table classes = Tells TellsClass (λ c. dotted c.new) (kept_in (λ k. k.items) table.entries) classes
