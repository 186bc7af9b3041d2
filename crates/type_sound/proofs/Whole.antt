-- No run of a set that is taken goes wrong, and what does the same as it does the whole.
use Rattle.std.proofs.Common.{◌≡◌, ◌&&◌, true, List, [], ◌∷◌, refl}
use Rattle.std.specs.List.{list_all}
use Rattle.std.proofs.lemmas.Bool.{and_from, and_parts}
use Rattle.jvm_model.specs.Heap.{Array, Builder, Instance, Object, Str}
use Rattle.jvm_model.specs.Start.{ArePlain, is_plain, is_plain_object, is_typed, is_value_of}
use Rattle.jvm_model.specs.Step.{start, stream}
use Rattle.set_view.specs.ViewOf.{view_of}
use Rattle.fit_laws.proofs.Runs.{runs_go_right, steps_fit, whole_alike}
use Rattle.type_sound.specs.Laws.{NeverGoesWrong, SameWhole, StartFits, StepFits, TakenSound}
use Rattle.type_sound.proofs.Initialisers.{sound}
use Rattle.type_sound.proofs.Starting.{start_fits}

-- a typed heap is a plain one
plain_object : (all : List Object) (o : Object) → is_typed all o ≡ true → is_plain_object o ≡ true
plain_object all (Instance class fields message cause) h = absurd cc
plain_object all (Array component values) h =
    (and_parts (is_plain component) (list_all (is_value_of all component) values) (and_parts
    (is_plain component && list_all (is_value_of all component) values) _ h).0).0
plain_object all (Str units) h = refl
plain_object all (Builder units) h = absurd cc

plain_objects : (all heap : List Object) → list_all (is_typed all) heap ≡ true → ArePlain heap
plain_objects all [] h = refl
plain_objects all (o ∷ heap) h =
    let p = and_parts (is_typed all o) (list_all (is_typed all) heap) h in
    and_from (is_plain_object o) (list_all is_plain_object heap) (plain_object all o p.0) (plain_objects all heap p.1)

pub taken_sound : TakenSound
taken_sound classes t typed = sound classes t typed

pub step_keeps : StepFits
step_keeps classes t typed s x = steps_fit classes (sound classes t typed) s x

pub starts_fit : StartFits
starts_fit classes t typed entry heap args e =
    start_fits classes t typed heap e.typed entry e.startable args e.right

pub never_goes_wrong : NeverGoesWrong
never_goes_wrong classes t typed entry heap args e n = runs_go_right classes (sound classes t typed)
    (start (view_of classes) entry heap args) (starts_fit classes t typed entry heap args e) n

pub same_whole : SameWhole
same_whole classes t typed w names entries same entry there =
    let s = same entry there in (
      s.0,
      s.1,
      λ heap args e.
          whole_alike (view_of classes) w names (start (view_of classes) entry heap args) (start w s.0 heap args)
          (s.2 heap (plain_objects (stream ∷ heap) heap e.typed) args)
          (never_goes_wrong classes t typed entry heap args e),
    )
