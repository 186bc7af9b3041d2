-- Where each class of a set can be written, so can each of the set with the codes that become of it.
use Rattle.std.proofs.Common.{◌≡◌, ◌<◌, ℕ, zero, suc, ◌^◌, Bool, List, [], ◌∷◌, map, Option, Some, None, slice_get, sym, ap, subst, ◌∙◌}
use Rattle.std.specs.Prelude.{IfSome}
use Rattle.std.specs.Int.{w32}
use Rattle.std.specs.Int.RustNames.{FitsSigned}
use Rattle.std.specs.List.{AllByRecursion, AllZip}
use Rattle.std.proofs.lemmas.Option.{same_Some}
use Rattle.jv_base.proofs.Lists.{all_at, all_from, all_weaker, got_mapped, mapped_from}
use Rattle.class_laws.specs.ClassValues.{IsCodeValue, IsFieldValue, IsFrameValue, IsInsValue, IsMethodValue, IsPushValue}
use Rattle.class_laws.specs.ClassValues.{IsMethodTypeValue, IsVTypeValue}
use Rattle.class_laws.specs.SpellingLaws.{IsWritable}
use Rattle.class_model.specs.OpValues.{IsOpValue}
use Rattle.class_model.specs.WellFormed.{HasFewWords}
use Rattle.class_model.specs.declared.class.Class.{Class}
use Rattle.class_model.specs.declared.class.Method.{Method}
use Rattle.class_model.specs.declared.code.Code.{Code}
use Rattle.class_model.specs.declared.code.Ins.{Ins}
use Rattle.class_model.specs.declared.frame.FrameAt.{FrameAt}
use Rattle.class_model.specs.declared.frame.VType.{VType}
use Rattle.class_model.specs.declared.op.Case.{Case}
use Rattle.class_model.specs.declared.op.Op.{Op}
use Rattle.class_model.specs.declared.op.Op.TheVariants as op
use Rattle.code_edit.specs.Rewriting.{map_from, retargeted}
use Rattle.code_edit.specs.declared.act.PassEdits.{PassEdits}
use Rattle.edit_laws.specs.Holds.{IsOfNames}
use Rattle.image_laws.specs.TakenSet.TakenSet.{IsTaken}
use Rattle.pass_driver.specs.Optimised.{with_codes}
use Rattle.pass_driver.specs.Stepped.{stepped}
use Rattle.pass_driver.specs.declared.optimising.NewCode.{NewCode}
use Rattle.shape_laws.specs.Bare.{bare, bare_method}
use Rattle.swap_laws.specs.Swapped.{CodeSwaps, IsFrameOf, IsSwapped, IsTypeOf, NamesLess, NamesLessThan, in_locals, in_stack}
use Rattle.swap_laws.specs.Swapped.{top, uninit}
use Rattle.swap_laws.proofs.Taken.{swap_keeps_taken}
use Rattle.witness_file.specs.declared.witness.MethodWitness.{MethodWitness}
use Rattle.pair_laws.proofs.OptimisedPairs.EditedMethods.{AreEdited, EditedMethod, new_of}
use Rattle.pair_laws.proofs.OptimisedPairs.HeldCodes.{stepped_holds, stepped_lines, stepped_locals, stepped_stack}
use Rattle.pair_laws.proofs.OptimisedPairs.Looked.{Looked, looked, nowhere, stands}
use Rattle.pair_laws.proofs.OptimisedPairs.PutCodes.{all_put, codes_bare, none_put, one_stands, put_codes}

-- ---- operations

-- its numbers and texts are in range, and so is its count
abbrev pub IsHeldOp : Op → Type 0
IsHeldOp o = IsOpValue o × IsPushValue o × HasFewWords o

keys_stay : (f : ℕ → ℕ → ℕ) (k : ℕ) (cases : List Case) → AllByRecursion (λ (c : Case). FitsSigned w32 c.key) cases
    → AllByRecursion (λ (c : Case). FitsSigned w32 c.key) (map_from (λ i (c : Case). record c { to = f i c.to }) k cases)
keys_stay f k [] h = tt
keys_stay f k (c ∷ cases) h = (h.0, keys_stay f (suc k) cases h.1)

moves : (f : ℕ → ℕ → ℕ) (o : Op) → IsHeldOp o → IsHeldOp (retargeted f o)
moves f (op.IfZero c to) h = h
moves f (op.IfCmp c to) h = h
moves f (op.IfRef eq to) h = h
moves f (op.IfNull null to) h = h
moves f (op.Goto to) h = h
moves f (op.TableSwitch low other cases) h = h
moves f (op.LookupSwitch other cases) h = (keys_stay f 1 cases h.0, h.1, h.2)
moves f o h = h

pub held_ops : IsOfNames IsHeldOp
held_ops = record {
  moves = moves;
  nop = (tt, tt, tt);
  goto = λ to. (tt, tt, tt);
  pop = (tt, tt, tt);
  pop2 = (tt, tt, tt);
}

-- ---- codes

-- a code whose numbers, texts and counts are in range
pub record IsHeld (code : Code) : Type 0 where
  pub value : IsCodeValue code
  pub words : AllByRecursion (λ (i : Ins). HasFewWords i.op) code.ins

abbrev HasLine : Option ℕ → Type 0
HasLine line = IfSome line (λ n. n < 2 ^ 16)

ops_held : (ins : List Ins) → AllByRecursion IsInsValue ins → AllByRecursion (λ (i : Ins). HasFewWords i.op) ins
    → AllByRecursion (λ (i : Ins). IsHeldOp i.op) ins
ops_held [] values words = tt
ops_held (i ∷ ins) values words =
    ((values.0.op, values.0.pushed, words.0), ops_held ins values.1 words.1)

ins_valued : (ins : List Ins) → AllByRecursion (λ (i : Ins). IsHeldOp i.op) ins
    → AllByRecursion (λ (i : Ins). HasLine i.line) ins → AllByRecursion IsInsValue ins
ins_valued [] ops lines = tt
ins_valued (i ∷ ins) ops lines =
    (record { op = ops.0.0; pushed = ops.0.1; line = lines.0 }, ins_valued ins ops.1 lines.1)

module _ (frames : List FrameAt) (values : AllByRecursion IsFrameValue frames) where
  type_valued : (ty : VType) → IsTypeOf frames ty → IsVTypeValue ty
  type_valued ty (in_locals k j f at is) =
      all_at IsVTypeValue f.frame.locals j ty (all_at IsFrameValue frames k f values at).locals is
  type_valued ty (in_stack k j f at is) =
      all_at IsVTypeValue f.frame.stack j ty (all_at IsFrameValue frames k f values at).stack is
  type_valued ty (top e) = subst IsVTypeValue (sym e) tt
  type_valued ty (uninit k e) = subst IsVTypeValue (sym e) tt

  frames_valued : (new : List FrameAt) → AllByRecursion (IsFrameOf frames) new → AllByRecursion IsFrameValue new
  frames_valued new h = all_weaker (IsFrameOf frames) IsFrameValue (λ f is. record {
    locals = all_weaker (IsTypeOf frames) IsVTypeValue type_valued f.frame.locals is.locals;
    stack = all_weaker (IsTypeOf frames) IsVTypeValue type_valued f.frame.stack is.stack;
  }) new h

stepped_held : (steps : List PassEdits) (code : Code) → IsHeld code → NamesLess code (stepped steps code)
    → IsHeld (stepped steps code)
stepped_held steps code h less =
    let ops = stepped_holds IsHeldOp held_ops steps code (ops_held code.ins h.value.ins h.words) in
    let lines = stepped_lines HasLine steps code
    (all_weaker IsInsValue (λ (i : Ins). HasLine i.line) (λ i v. v.line) code.ins h.value.ins) in
    record {
      value = record {
        max_stack = subst (λ n. n < 2 ^ 16) (sym (stepped_stack steps code)) h.value.max_stack;
        max_locals = subst (λ n. n < 2 ^ 16) (sym (stepped_locals steps code)) h.value.max_locals;
        ins = ins_valued (stepped steps code).ins ops lines;
        frames = frames_valued code.frames h.value.frames (stepped steps code).frames less.frames;
      };
      words = all_weaker (λ (i : Ins). IsHeldOp i.op) (λ (i : Ins). HasFewWords i.op) (λ i v. v.2)
          (stepped steps code).ins ops;
    }

-- ---- methods

-- a method has a code that is so, if it has one
abbrev HasHeld : Method → Type 0
HasHeld m = IfSome m.code IsHeld

zip_at : {X : Type 0} (R : X → X → Type 0) (xs ys : List X) → AllZip R xs ys → (k : ℕ) (x y : X)
    → slice_get xs k ≡ Some x → slice_get ys k ≡ Some y → R x y
zip_at R [] [] zip k x y at there = absurd cc
zip_at R [] (b ∷ ys) zip k x y at there = absurd cc
zip_at R (a ∷ xs) [] zip k x y at there = absurd cc
zip_at R (a ∷ xs) (b ∷ ys) zip zero x y at there =
    subst (λ z. R z y) (same_Some a x at) (subst (R a) (same_Some b y there) zip.0)
zip_at R (a ∷ xs) (b ∷ ys) zip (suc k) x y at there = zip_at R xs ys zip.1 k x y at there

both_held : (o : Option Code) → IfSome o IsCodeValue
    → IfSome o (λ (code : Code). AllByRecursion (λ (i : Ins). HasFewWords i.op) code.ins) → IfSome o IsHeld
both_held None value words = tt
both_held (Some code) value words = record { value = value; words = words }

value_of : (o : Option Code) → IfSome o IsHeld → IfSome o IsCodeValue
value_of None h = tt
value_of (Some code) h = h.value

words_of : (o : Option Code) → IfSome o IsHeld
    → IfSome o (λ (code : Code). AllByRecursion (λ (i : Ins). HasFewWords i.op) code.ins)
words_of None h = tt
words_of (Some code) h = h.words

-- ---- sets

module _ (marks : List Bool) (classes : List Class) (codes : List NewCode) (entries : List MethodWitness)
    (taken : IsTaken classes) (g : AreEdited marks classes codes entries)
    (swapped : IsSwapped classes (with_codes codes classes)) (all : AllByRecursion IsWritable classes) where
  abbrev new : List Class
  new = with_codes codes classes

  abbrev ds : List EditedMethod
  ds = g.edited

  module _ (n k : ℕ) (c e : Class) (m o : Method) (at : slice_get classes n ≡ Some c)
      (there : slice_get new n ≡ Some e) (in_methods : slice_get c.methods k ≡ Some m)
      (in_new : slice_get e.methods k ≡ Some o) where
    old_held : HasHeld m
    old_held =
        let w = all_at IsWritable classes n c all at in
        both_held m.code (all_at IsMethodValue c.methods k m w.value.methods in_methods).code
        (all_at (λ (x : Method). IfSome x.code (λ (code : Code). AllByRecursion (λ (i : Ins). HasFewWords i.op) code.ins))
        c.methods k m w.counts in_methods)

    method_is : o ≡ record m { code = put_codes n k codes m.code }
    method_is =
        let put = all_put codes classes n k c m at in_methods in
        let class_is : put.class ≡ e = same_Some put.class e (sym put.in_set ∙ there) in
        same_Some o (record m { code = put_codes n k codes m.code })
        (sym in_new ∙ ap (λ (y : Class). slice_get y.methods k) (sym class_is) ∙ put.in_class)

    put_is : put_codes n k codes m.code ≡ put_codes n k (map new_of ds) m.code
    put_is = ap (λ (xs : List NewCode). put_codes n k xs m.code) g.codes_are

    held_by : Looked classes n k c m ds → IfSome o.code IsHeld
    held_by (nowhere none elsewhere) =
        subst (λ (x : Option Code). IfSome x IsHeld)
        (sym (ap (λ (x : Method). x.code) method_is ∙ put_is ∙ none_put n k ds m.code elsewhere)) old_held
    held_by (stands j d is_there is that found) =
        let has : m.code ≡ Some d.own = ap (λ (x : Method). x.code) (sym that.method_is) ∙ is.at.has in
        let code_is : o.code ≡ Some (stepped d.edits.steps d.own) =
        ap (λ (x : Method). x.code) method_is ∙ put_is
        ∙ one_stands n k ds m.code g.ordered j d is_there that.class that.method in
        let swaps : NamesLessThan m.code o.code =
        (zip_at CodeSwaps c.methods e.methods (swapped.codes n c e at there) k m o in_methods in_new).no_more in
        let less : NamesLess d.own (stepped d.edits.steps d.own) =
        subst (NamesLessThan (Some d.own)) code_is (subst (λ (x : Option Code). NamesLessThan x o.code) has swaps) in
        let own : IsHeld d.own = subst (λ (x : Option Code). IfSome x IsHeld) has old_held in
        subst (λ (x : Option Code). IfSome x IsHeld) (sym code_is) (stepped_held d.edits.steps d.own own less)

    new_held : HasHeld o
    new_held = held_by (looked classes taken n k c m at in_methods ds g.are)

    new_value : IsMethodValue o
    new_value =
        let w = all_at IsWritable classes n c all at in
        let old = all_at IsMethodValue c.methods k m w.value.methods in_methods in
        record {
          ty = subst (λ (x : Method). IsMethodTypeValue x.ty) (sym method_is) old.ty;
          code = value_of o.code new_held;
        }

  class_like : (n : ℕ) (c e : Class) → slice_get classes n ≡ Some c → slice_get new n ≡ Some e → bare e ≡ bare c
  class_like n c e at there =
      same_Some (bare e) (bare c) (sym (got_mapped bare new n e there)
      ∙ ap (λ (xs : List Class). slice_get xs n) (codes_bare codes classes) ∙ got_mapped bare classes n c at)

  -- the method that stood where one stands
  old_method : (n : ℕ) (c e : Class) → bare e ≡ bare c → (k : ℕ) (o : Method) → slice_get e.methods k ≡ Some o
      → (m : Method) × (slice_get c.methods k ≡ Some m) × (bare_method o ≡ bare_method m)
  old_method n c e like k o at =
      mapped_from bare_method c.methods k (bare_method o)
      (ap (λ (x : Class). slice_get x.methods k) (sym like) ∙ got_mapped bare_method e.methods k o at)

  class_writable : (n : ℕ) (c e : Class) → slice_get classes n ≡ Some c → slice_get new n ≡ Some e → IsWritable e
  class_writable n c e at there =
      let like = class_like n c e at there in
      let w = all_at IsWritable classes n c all at in
      record {
        well_formed = (swap_keeps_taken classes new swapped taken).formed n e there;
        counts = all_from
            (λ (x : Method). IfSome x.code (λ (code : Code). AllByRecursion (λ (i : Ins). HasFewWords i.op) code.ins))
            e.methods (λ k o in_new.
            let m = old_method n c e like k o in_new in
            words_of o.code (new_held n k c e m.0 o at there m.1 in_new));
        value = record {
          fields = subst (λ (x : Class). AllByRecursion IsFieldValue x.fields) (sym like) w.value.fields;
          methods = all_from IsMethodValue e.methods (λ k o in_new.
              let m = old_method n c e like k o in_new in
              new_value n k c e m.0 o at there m.1 in_new);
        };
      }

  old_class : (n : ℕ) (e : Class) → slice_get new n ≡ Some e
      → (c : Class) × (slice_get classes n ≡ Some c) × (bare e ≡ bare c)
  old_class n e there =
      mapped_from bare classes n (bare e)
      (ap (λ (xs : List Class). slice_get xs n) (sym (codes_bare codes classes)) ∙ got_mapped bare new n e there)

  pub all_writable : AllByRecursion IsWritable new
  all_writable = all_from IsWritable new (λ n e there.
      let c = old_class n e there in class_writable n c.0 e c.1 there)
