-- The witness has a text that stands for it: each entry names a method and has the acts of six steps.
use Rattle.std.proofs.Common.{◌≡◌, ◌≤◌, ◌||◌, ◌^◌, Bool, true, List, [], ◌∷◌, map, length, Option, codes, refl}
use Rattle.std.proofs.Common.{sym, subst, arith}
use Rattle.std.specs.Prelude.{IfSome, IsUtf8}
use Rattle.std.specs.List.{AllByRecursion}
use Rattle.std.proofs.lemmas.Str.{IsUtf8-append}
use lib.Utf8.{encode}
use Rattle.jv_base.specs.Descriptors.{read_method}
use Rattle.jv_base.specs.External.{dotted}
use Rattle.jv_base.specs.Types.{method_text}
use Rattle.jv_base.proofs.Lists.{all_at}
use Rattle.jv_base.proofs.MethodLaw.{read_method-only}
use Rattle.tree_io.specs.declared.file_at.FileAt.{FileAt}
use Rattle.class_laws.specs.ClassValues.{IsCodeValue, IsInsValue, IsMethodValue}
use Rattle.class_laws.specs.SpellingLaws.{IsWritable}
use Rattle.class_model.specs.Flags.{is_interface}
use Rattle.class_model.specs.WellFormed.{IsGoodMethod}
use Rattle.class_model.specs.declared.class.Class.{Class}
use Rattle.class_model.specs.declared.class.Method.{Method}
use Rattle.class_model.specs.declared.code.Code.{Code}
use Rattle.class_model.specs.declared.code.Ins.{Ins}
use Rattle.code_edit.specs.Acts.{step_passes}
use Rattle.code_edit.specs.Flow.{targets}
use Rattle.code_edit.specs.declared.act.Act.{Act}
use Rattle.code_edit.specs.declared.act.PassEdits.{PassEdits}
use Rattle.image_laws.specs.TakenSet.TakenSet.{IsTaken}
use Rattle.pass_driver.specs.Stepped.{has_act, is_some_act}
use Rattle.pass_driver.specs.declared.optimising.NewCode.{NewCode}
use Rattle.set_read.specs.Accepted.{IsAccepted}
use Rattle.set_read.proofs.Writable.{accepted_are_writable}
use Rattle.witness_file.specs.WitnessLines.{IsMethodLine, member_text, method_line_text}
use Rattle.witness_file.specs.Witnesses.{ActOr, AreTexts, HasAct, IsMethodWitness, IsWitness}
use Rattle.witness_file.specs.declared.witness.MethodWitness.{MethodWitness}
use Rattle.pair_laws.proofs.OptimisedPairs.ActNumbers.{AreNumbered, IsNumbered, all_of}
use Rattle.pair_laws.proofs.OptimisedPairs.EditedMethods.{AreEdited, EditedMethod, IsEditedMethod, entry_of}
use Rattle.pair_laws.proofs.OptimisedPairs.Looked.{own_sound}
use Rattle.pair_laws.proofs.OptimisedPairs.SmallCodes.{IsSmall, set_small}
use Rattle.pair_laws.proofs.OptimisedPairs.SteppedCodes.{FindsLegal, passes_are}
use Rattle.pair_laws.proofs.OptimisedPairs.WitnessOrder.{apart, in_order}
use Rattle.pair_laws.proofs.OwnMapping.Texts.{blank_utf8, dotted_utf8, member_utf8}

-- ---- acts

act_or : (acts : List Act) (steps : List PassEdits) → (has_act steps ≡ true → HasAct steps)
    → (is_some_act acts || has_act steps) ≡ true → ActOr acts (HasAct steps)
act_or [] steps later h = later h
act_or (a ∷ acts) steps later h = tt

some_act : (steps : List PassEdits) → has_act steps ≡ true → HasAct steps
some_act [] h = absurd cc
some_act (s ∷ steps) h = act_or s.acts steps (some_act steps) h

-- ---- codes

all_numbered : (ins : List Ins) → AllByRecursion (λ (i : Ins). length (targets i.op) ≤ 2 ^ 16) ins
    → AllByRecursion IsInsValue ins → AllByRecursion (λ (i : Ins). IsNumbered i.op) ins
all_numbered [] small values = tt
all_numbered (i ∷ ins) small values =
    ((small.0, (values.0.op, values.0.pushed)), all_numbered ins small.1 values.1)

code_numbered : (code : Code) → IsSmall code → IsCodeValue code → AreNumbered code
code_numbered code small value =
    record { few = omega (arith, small.few); ops = all_numbered code.ins small.targets value.ins }

-- ---- entries

method_utf8 : IsUtf8 (codes "method ")
unfolding lib.Utf8.encode
method_utf8 = (codes "method ", (refl, refl))

module _ (files : List FileAt) (classes : List Class) (taken : IsTaken classes) (accepted : IsAccepted files classes)
  where
    writable : AllByRecursion IsWritable classes
    writable = accepted_are_writable files classes accepted

    good_method : (d : EditedMethod) → IsEditedMethod classes d → IsGoodMethod (is_interface d.class.flags.0) d.method
    good_method d is =
        all_at (IsGoodMethod (is_interface d.class.flags.0)) d.class.methods d.spot.method d.method
        (taken.formed d.spot.class d.class is.at.in_set).methods is.at.in_class

    own_numbered : (d : EditedMethod) → IsEditedMethod classes d → AreNumbered d.own
    own_numbered d is =
        let value = (all_at IsMethodValue d.class.methods d.spot.method d.method
        (all_at IsWritable classes d.spot.class d.class writable is.at.in_set).value.methods is.at.in_class).code in
        let small = all_at (λ (m : Method). IfSome m.code IsSmall) d.class.methods d.spot.method d.method
        (all_at (λ (c : Class). AllByRecursion (λ (m : Method). IfSome m.code IsSmall) c.methods) classes d.spot.class
        d.class (set_small files accepted.named classes accepted.read accepted.are) is.at.in_set) is.at.in_class in
        code_numbered d.own (subst (λ (o : Option Code). IfSome o IsSmall) is.at.has small)
        (subst (λ (o : Option Code). IfSome o IsCodeValue) is.at.has value)

    line_of : (d : EditedMethod) → IsEditedMethod classes d
        → IsMethodLine d.class.name d.method.name (method_text d.method.ty)
    line_of d is =
        let good = good_method d is in
        record {
          class_named = (taken.formed d.spot.class d.class is.at.in_set).name.1;
          method_named = good.name.1;
          described = (d.method.ty, (good.typed, refl));
        }

    entry_is : FindsLegal → (d : EditedMethod) → IsEditedMethod classes d → IsMethodWitness (entry_of d)
    entry_is legal d is = record {
      named = line_of d is;
      passes = passes_are step_passes d.edits.steps d.own is.steps;
      acts = all_of legal d.edits.steps d.own is.steps (own_sound classes taken accepted.typed d is) (own_numbered d is);
      some = some_act d.edits.steps is.act;
    }

    entries_are : FindsLegal → (ds : List EditedMethod) → AllByRecursion (IsEditedMethod classes) ds
        → AllByRecursion IsMethodWitness (map entry_of ds)
    entries_are legal [] are = tt
    entries_are legal (d ∷ ds) are = (entry_is legal d are.0, entries_are legal ds are.1)

    -- ---- texts

    line_utf8 : (d : EditedMethod) → IsEditedMethod classes d
        → IsUtf8 (method_line_text d.class.name d.method.name (method_text d.method.ty))
    line_utf8 d is =
        let good = good_method d is in
        let value = (all_at IsMethodValue d.class.methods d.spot.method d.method
        (all_at IsWritable classes d.spot.class d.class writable is.at.in_set).value.methods is.at.in_class).ty in
        let member : IsUtf8 (member_text d.method.name (read_method (method_text d.method.ty)) (method_text d.method.ty)) =
        subst (λ r. IsUtf8 (member_text d.method.name r (method_text d.method.ty)))
        (sym (read_method-only (method_text d.method.ty) d.method.ty (good.typed, refl)))
        (member_utf8 d.method.ty d.method.name value good.name.0) in
        IsUtf8-append (codes "method ") _ method_utf8
        (IsUtf8-append (dotted d.class.name) _
        (dotted_utf8 d.class.name (taken.formed d.spot.class d.class is.at.in_set).name.0)
        (IsUtf8-append (codes " ") _ blank_utf8 member))

    texts_of : (ds : List EditedMethod) → AllByRecursion (IsEditedMethod classes) ds → AreTexts (map entry_of ds)
    texts_of [] are = tt
    texts_of (d ∷ ds) are = (line_utf8 d are.0, texts_of ds are.1)

-- the witness has a text
pub is_witness : FindsLegal → (files : List FileAt) (marks : List Bool) (classes : List Class) (codes : List NewCode)
    (entries : List MethodWitness) → IsTaken classes → IsAccepted files classes
    → AreEdited marks classes codes entries → IsWitness (record { methods = entries })
is_witness legal files marks classes codes entries taken accepted g =
    subst (λ (es : List MethodWitness). IsWitness (record { methods = es })) (sym g.entries_are)
    (record {
      methods = entries_are files classes taken accepted legal g.edited g.are;
      ordered = in_order classes taken g.edited g.are g.ordered;
      apart = apart classes taken g.edited g.are g.ordered;
    })

-- of lines in UTF-8
pub witness_texts : (files : List FileAt) (marks : List Bool) (classes : List Class) (codes : List NewCode)
    (entries : List MethodWitness) → IsTaken classes → IsAccepted files classes
    → AreEdited marks classes codes entries → AreTexts entries
witness_texts files marks classes codes entries taken accepted g =
    subst AreTexts (sym g.entries_are) (texts_of files classes taken accepted g.edited g.are)
