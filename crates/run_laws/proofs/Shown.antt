-- Where two programs do the whole of each other, the second has shown after so many steps what the first has.
use Rattle.std.proofs.Common.{◌≡◌, ◌≢◌, ◌≤◌, ℕ, zero, suc, true, List, [], ◌∷◌, ◌++◌, Option, Some, None, length}
use Rattle.std.proofs.Common.{take, refl, sym, ap, subst, ◌∙◌, codes}
use Rattle.std.specs.Prelude.{nat_eq, slice_get}
use Rattle.std.specs.Cmp.{unsigned_Decides}
use Rattle.std.specs.Cmp.Lexicographic.{pointwise}
use Rattle.std.specs.List.{AllZip, starts_with}
use Rattle.std.specs.Option.{option_map_or}
use Rattle.std.proofs.lemmas.Slice.Eq.{starts_is}
use Rattle.class_run.specs.Ended.{end_of, ended_of}
use Rattle.class_run.specs.declared.ended.End.TheVariants as end
use Rattle.class_run.specs.declared.ended.Ended.{Ended}
use Rattle.fit_laws.specs.Laws.{AlikeWhole}
use Rattle.jvm_model.specs.Heap.{Array, Builder, Instance, Object, Str, class_of}
use Rattle.jvm_model.specs.Program.{View}
use Rattle.jvm_model.specs.Same.{Names, ObjectCorr, StatusCorr, ToldCorr, WorldCorr}
use Rattle.jvm_model.specs.State.{HasReturned, HasThrown, Running, State, Status, WentWrong, status}
use Rattle.jvm_model.specs.Step.{run}
use Rattle.mapping_file.specs.declared.mapping.Mapping.{Mapping}
use Rattle.new_names.specs.NewNames.{names_of}
use Rattle.pair_laws.specs.RenamedImage.Renaming.{is_library_name}
use Rattle.compare_command.specs.Alike.{EndsSo, IsAlike, new_end}
use Rattle.run_laws.proofs.Printing.{HasEnded, ends_stay, prints_stay}

-- ---- beginnings

begins_so : (a b more : List ℕ) → b ≡ a ++ more → starts_with nat_eq b a ≡ true
begins_so a b more e =
    (starts_is unsigned_Decides b a (pointwise nat_eq a (take (length a) b)) refl).1 more e

-- ---- the names of classes

-- a mapping tells the new names of classes: of each that has one, of the library's, and of what is no name
pub record TellsClasses (mapping : Mapping) (names : Names) : Type 0 where
  pub new : (c d : List ℕ) → names.class c ≡ Some d → (names_of mapping).class c ≡ d
  pub library : (c : List ℕ) → is_library_name c ≡ true → (names_of mapping).class c ≡ c
  pub nothing : (names_of mapping).class [] ≡ []

-- objects one by one, or none
abbrev Both : Names → Option Object → Option Object → Type 0
Both names None None = Unit {0}
Both names None (Some p) = ⊥
Both names (Some o) None = ⊥
Both names (Some o) (Some p) = ObjectCorr names o p

objects : (names : Names) (os ps : List Object) → AllZip (ObjectCorr names) os ps → (n : ℕ)
    → Both names (slice_get os n) (slice_get ps n)
objects names [] [] zip n = tt
objects names [] (p ∷ ps) zip n = absurd zip
objects names (o ∷ os) [] zip n = absurd zip
objects names (o ∷ os) (p ∷ ps) zip zero = zip.0
objects names (o ∷ os) (p ∷ ps) zip (suc n) = objects names os ps zip.1 n

module _ (mapping : Mapping) (names : Names) (tells : TellsClasses mapping names) where
  abbrev new_class : List ℕ → List ℕ
  new_class = (names_of mapping).class

  object_class : (o p : Object) → ObjectCorr names o p → new_class (class_of o) ≡ class_of p
  object_class (Instance class fields message cause) p (class', fields', is, named, rest) =
      tells.new class class' named ∙ sym (ap class_of is)
  object_class (Array component values) p (component', is, typed) =
      tells.library (codes "java/lang/Object") refl ∙ sym (ap class_of is)
  object_class (Str units) p is = tells.library (codes "java/lang/String") refl ∙ sym (ap class_of is)
  object_class (Builder units) p is = tells.library (codes "java/lang/StringBuilder") refl ∙ sym (ap class_of is)

  thrown_class : (o p : Option Object) → Both names o p
      → new_class (option_map_or class_of o []) ≡ option_map_or class_of p []
  thrown_class None None h = tells.nothing
  thrown_class None (Some p) h = absurd h
  thrown_class (Some o) None h = absurd h
  thrown_class (Some o) (Some p) h = object_class o p h

  -- ---- what is told of both

  module _ (v w : View) (s t : State) (whole : AlikeWhole v w names s t) (n : ℕ) where
    abbrev a : State
    a = run v s n

    abbrev c : State
    c = run w t n

    abbrev here : Status → Ended
    here st = record { printed = a.world.printed; how = end_of a.world.heap st }

    -- where the first has ended, the second has ended so
    ended_so : (st : Status) (k : ℕ) → HasEnded st → k ≤ n → status (run w t k) ≡ st
        → WorldCorr names a.world (run w t k).world
        → (new_end mapping (end_of a.world.heap st) ≡ end_of (run w t k).world.heap st)
        → EndsSo mapping (here st) (ended_of c)
    ended_so st k ended low is corr same =
        let stays : c ≡ run w t k = ends_stay w t k n low (subst HasEnded (sym is) ended) in (
          sym (ap (λ (x : State). x.world.printed) stays ∙ corr.printed),
          same ∙ ap (end_of (run w t k).world.heap) (sym is)
              ∙ sym (ap (λ (x : State). end_of x.world.heap (status x)) stays),
        )

    shown_by : (st : Status) → status a ≡ st → (k : ℕ) → k ≤ n → status (run w t k) ≡ st → st ≢ WentWrong
        → ToldCorr st names a.world (run w t k).world → IsAlike mapping (here st) (ended_of c)
    shown_by Running is k low there right corr =
        let more = prints_stay w t k n low in
        begins_so a.world.printed c.world.printed more.0
        (more.1 ∙ ap (λ (u : List ℕ). u ++ more.0) corr)
    shown_by (HasReturned value) is k low there right corr =
        ended_so (HasReturned value) k tt low there corr refl
    shown_by (HasThrown j) is k low there right corr =
        ended_so (HasThrown j) k tt low there corr
        (ap (λ (x : List ℕ). end.Threw x j)
        (thrown_class (slice_get a.world.heap j) (slice_get (run w t k).world.heap j)
        (objects names a.world.heap (run w t k).world.heap corr.heap j)))
    shown_by WentWrong is k low there right corr = absurd (right refl)

    pub shown : IsAlike mapping (ended_of a) (ended_of c)
    shown =
        let far = whole.as_far n in
        let ending : StatusCorr (status a) (status (run w t far.0)) = far.2.ending in
        shown_by (status a) refl far.0 far.1 ending.0 ending.1 far.2.told
