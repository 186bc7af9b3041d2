-- What is left of members that can be written can be written too.
use Rattle.std.proofs.Common.{◌≡◌, ℕ, ◌<◌, Bool, true, false, cond, List, [], ◌∷◌, length, map, Option, Some, None}
use Rattle.std.proofs.Common.{refl, sym, ap, subst, ◌∙◌}
use Rattle.std.specs.Option.{IfSome, is_some, option_map}
use Rattle.std.specs.List.{AllByRecursion, AllPairs, slice_get}
use Rattle.std.specs.Str.{IsUtf8}
use Rattle.std.proofs.lemmas.List.{length-map}
use Rattle.std.proofs.lemmas.Bool.{false≢true}
use Rattle.std.proofs.lemmas.Option.{slice_get-map}
use Rattle.class_model.specs.declared.op.Op.TheVariants as op
use Rattle.class_model.specs.declared.code.Ins.{Ins}
use Rattle.class_model.specs.declared.code.Code.{Code}
use Rattle.class_model.specs.declared.frame.VType.{VType}
use Rattle.class_model.specs.declared.frame.VType.TheVariants as vtype
use Rattle.class_model.specs.declared.frame.FrameAt.{FrameAt}
use Rattle.class_model.specs.declared.class.Field.{Field}
use Rattle.class_model.specs.declared.class.Method.{Method}
use Rattle.class_model.specs.WellFormed.{IsGoodOp, IsGoodHandler, IsGoodType, IsGoodFrame, IsGoodCode, IsGoodField}
use Rattle.class_model.specs.WellFormed.{IsClassName, IsGoodMethod, LinesGoOn, HasFewWords}
use Rattle.class_laws.specs.ClassValues.{IsInsValue, IsCodeValue, IsMethodValue}
use Rattle.class_laws.proofs.SpelledWanted.{units_are}
use Rattle.jv_base.specs.Mutf8.{IsUnits}
use Rattle.attribute_filter.specs.Filtered.{field_filtered, method_filtered}
use Rattle.attribute_filter.specs.Filtered.{source_named, without_line, without_lines}
use Rattle.attribute_filter.specs.declared.filter.AttributeFilter.{AttributeFilter}
use Rattle.class_laws.proofs.Mapped.{all_mapped, some_mapped, pairs_mapped}

-- the counts of a method's code fit
abbrev pub CodeCounts : Code → Type 0
CodeCounts code = AllByRecursion (λ (i : Ins). HasFewWords i.op) code.ins

abbrev pub MethodCounts : Method → Type 0
MethodCounts m = IfSome m.code CodeCounts

-- ---- no lines

same_count : (code : Code) → length code.ins ≡ length (map without_line code.ins)
same_count code = sym (length-map code.ins without_line)

new_stays : (k : ℕ) (code : Code)
    → ((at : Ins) × (name : List ℕ) × (slice_get code.ins k ≡ Some at) × (at.op ≡ op.New name))
    → (at : Ins) × (name : List ℕ) × (slice_get (map without_line code.ins) k ≡ Some at) × (at.op ≡ op.New name)
new_stays k code h = (
  without_line h.0,
  h.1,
  slice_get-map without_line code.ins k
      ∙ ap (option_map without_line) h.2,
  h.3,
)

type_stays : (code : Code) (t : VType) → IsGoodType code.ins t → IsGoodType (map without_line code.ins) t
type_stays code (vtype.Object ty) h = h
type_stays code (vtype.Uninit k) h = new_stays k code h
type_stays code _ h = tt

types_stay : (code : Code) (ts : List VType) → AllByRecursion (IsGoodType code.ins) ts
    → AllByRecursion (IsGoodType (map without_line code.ins)) ts
types_stay code [] h = tt
types_stay code (t ∷ ts) h = (type_stays code t h.0, types_stay code ts h.1)

frame_stays : (code : Code) (f : FrameAt) → IsGoodFrame code f → IsGoodFrame (without_lines code) f
frame_stays code f g = record {
  index = subst (λ (n : ℕ). f.index < n) (same_count code) g.index;
  locals = types_stay code f.frame.locals g.locals;
  cut = g.cut;
  locals_fit = g.locals_fit;
  stack = types_stay code f.frame.stack g.stack;
  stack_fits = g.stack_fits;
}

frames_stay : (code : Code) (fs : List FrameAt) → AllByRecursion (IsGoodFrame code) fs
    → AllByRecursion (IsGoodFrame (without_lines code)) fs
frames_stay code [] h = tt
frames_stay code (f ∷ fs) h = (frame_stays code f h.0, frames_stay code fs h.1)

-- no instruction has a line, so none is missing behind one with a line
no_lines : (xs : List Ins) → AllPairs (λ (one next : Ins). LinesGoOn (without_line one) (without_line next)) xs
no_lines xs i j d lt within h = absurd (false≢true h)

code_good : (code : Code) → IsGoodCode code → IsGoodCode (without_lines code)
code_good code g = record {
  some = subst (λ (n : ℕ). 0 < n) (same_count code) g.some;
  instructions =
      all_mapped (λ (i : Ins). IsGoodOp (length code.ins) i.op)
      (λ (i : Ins). IsGoodOp (length (map without_line code.ins)) i.op) without_line
      (λ i h. subst (λ (n : ℕ). IsGoodOp n i.op) (same_count code) h) code.ins g.instructions;
  lines = pairs_mapped LinesGoOn without_line code.ins (no_lines code.ins);
  handlers = subst (λ (n : ℕ). AllByRecursion (IsGoodHandler n) code.handlers) (same_count code) g.handlers;
  frames = frames_stay code code.frames g.frames;
  ascending = g.ascending;
}

code_value : (code : Code) → IsCodeValue code → IsCodeValue (without_lines code)
code_value code v = record {
  max_stack = v.max_stack;
  max_locals = v.max_locals;
  ins = all_mapped IsInsValue IsInsValue without_line
      (λ i h. record { op = h.op; pushed = h.pushed; line = tt }) code.ins v.ins;
  frames = v.frames;
}

pub code_counts : (code : Code) → CodeCounts code → CodeCounts (without_lines code)
code_counts code h = all_mapped (λ (i : Ins). HasFewWords i.op) (λ (i : Ins). HasFewWords i.op) without_line
    (λ i few. few) code.ins h

-- ---- the optional attributes that are kept

-- what holds of a code holds of it with its lines where these are kept
pub code_holds : (P : Code → Type 0) → ((code : Code) → P code → P (without_lines code)) → (lines : Bool) (o : Option Code)
    → IfSome o P → IfSome (cond lines o (option_map without_lines o)) P
code_holds P without true o h = h
code_holds P without false o h = some_mapped P P without_lines without o h

body_by : (lines : Bool) (o : Option Code) → is_some (cond lines o (option_map without_lines o)) ≡ is_some o
body_by true o = refl
body_by false None = refl
body_by false (Some code) = refl

throws_by : (kept : Bool) (throws : List (List ℕ)) → AllByRecursion IsClassName throws
    → AllByRecursion IsClassName (cond kept throws [])
throws_by true throws h = h
throws_by false throws h = tt

pub field_good : (filter : AttributeFilter) (in_interface : Bool) (field : Field) → IsGoodField in_interface field
    → IsGoodField in_interface (field_filtered filter field)
field_good filter in_interface field g =
    record { meant = g.meant; flags = g.flags; name = g.name; typed = g.typed; constant = g.constant }

pub method_good : (filter : AttributeFilter) (in_interface : Bool) (m : Method) → IsGoodMethod in_interface m
    → IsGoodMethod in_interface (method_filtered filter m)
method_good filter in_interface m g = record {
  meant = g.meant;
  flags = g.flags;
  not_native = g.not_native;
  name = g.name;
  typed = g.typed;
  room_for_this = g.room_for_this;
  initial_flags = g.initial_flags;
  initial_type = g.initial_type;
  body = body_by filter.line_numbers m.code ∙ g.body;
  code = code_holds IsGoodCode code_good filter.line_numbers m.code g.code;
  throws = throws_by filter.exceptions m.throws g.throws;
}

pub method_value : (filter : AttributeFilter) (m : Method) → IsMethodValue m → IsMethodValue (method_filtered filter m)
method_value filter m v =
    record { ty = v.ty; code = code_holds IsCodeValue code_value filter.line_numbers m.code v.code }

units_named : (filter : AttributeFilter) → IfSome filter.source_name IsUtf8 → (own : List ℕ) → IsUnits own
    → (name : Option (List ℕ)) → filter.source_name ≡ name → IsUnits (source_named filter own)
units_named filter utf8 own units (Some name) is =
    rw is (units_are name (subst (λ (o : Option (List ℕ)). IfSome o IsUtf8) is utf8))
units_named filter utf8 own units None is = rw is units

pub source_by : (filter : AttributeFilter) → IfSome filter.source_name IsUtf8 → (kept : Bool) (o : Option (List ℕ))
    → IfSome o IsUnits → IfSome (cond kept (option_map (source_named filter) o) None) IsUnits
source_by filter utf8 true (Some own) h = units_named filter utf8 own h filter.source_name refl
source_by filter utf8 true None h = tt
source_by filter utf8 false o h = tt
