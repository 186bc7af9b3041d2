-- The canonical spelling of a class, or the first limit of the format that it passes
-- (JVMS 4.11; the order of limits is the project's own).
use Rattle.std.specs.Prelude.{ℕ, ◌+◌, ◌^◌, ℤ, pos, negsuc, ◌-ℤ◌, List, [], ◌∷◌, length, slice_index, Option, Some, None}
use Rattle.std.specs.Prelude.{Result, Ok, Err, nat_lt, if◌then◌else◌}
use Rattle.jv_base.specs.Mutf8.{mutf8}
use Rattle.jv_base.specs.Outcome.{◌>>=◌}
use Rattle.class_model.specs.declared.limit.WriteLimit.{WriteLimit}
use Rattle.class_model.specs.declared.limit.WriteLimit.TheVariants.{PoolFull, TextTooLong, CodeTooLong, BranchTooFar}
use Rattle.class_model.specs.declared.limit.WriteLimit.TheVariants.{AttributeFull, AttributeTooLong}
use Rattle.class_model.specs.declared.op.Op.{Op}
use Rattle.class_model.specs.declared.op.Op.TheVariants as op
use Rattle.class_model.specs.declared.code.Code.{Code}
use Rattle.class_model.specs.declared.code.Ins.{Ins}
use Rattle.class_model.specs.declared.frame.VType.{VType}
use Rattle.class_model.specs.declared.frame.FrameAt.{FrameAt}
use Rattle.class_model.specs.declared.class.Method.{Method}
use Rattle.class_model.specs.declared.class.Class.{Class}
use Rattle.class_model.specs.Between.{int_between}
use Rattle.class_model.specs.declared.constant.PoolConstant.{PoolConstant}
use Rattle.class_model.specs.declared.constant.PoolConstant.TheVariants.{Utf8}
use Rattle.class_model.specs.CanonicalCode.{places, code_bytes}
use Rattle.class_model.specs.CanonicalFrames.{Form, full, form_of}
use Rattle.class_model.specs.CanonicalClass.{pool_of, first_locals, line_rows, code_contents, layout}

-- a count or a length that fits a number of two bytes, or the limit that it passes (JVMS 4, 4.11)
abbrev pub fits_u2 : (ℕ → WriteLimit) → ℕ → Result (Unit {0}) WriteLimit
fits_u2 limit n = if nat_lt n (2 ^ 16) then Ok tt else Err (limit n)

-- the first limit that an item passes, in the order of the items (the project's own: the first limit counts)
abbrev pub first_of : {A : Type 0} → (A → Result (Unit {0}) WriteLimit) → List A → Result (Unit {0}) WriteLimit
first_of check [] = Ok tt
first_of check (x ∷ xs) = do
  this ← check x
  first_of check xs

-- ---- texts

-- the bytes of a CONSTANT_Utf8 in modified UTF-8 are counted by a u2 (JVMS 4.4.7)
abbrev pub text_fits : PoolConstant → Result (Unit {0}) WriteLimit
text_fits (Utf8 units) = fits_u2 (λ n. TextTooLong n) (length (mutf8 units))
text_fits _ = Ok tt

-- ---- code

-- the target of a branch (JVMS 6.5)
abbrev pub branch_to : Op → Option ℕ
branch_to (op.IfZero c to) = Some to
branch_to (op.IfCmp c to) = Some to
branch_to (op.IfRef eq to) = Some to
branch_to (op.IfNull null to) = Some to
branch_to (op.Goto to) = Some to
branch_to _ = None

-- instruction n leads this far: the offset of a branch has two bytes, in two's complement (JVMS 6.5)
abbrev pub distance_fits : ℕ → ℤ → Result (Unit {0}) WriteLimit
distance_fits n distance = if int_between (negsuc 32767) (pos 32767) distance then Ok tt else Err
    (BranchTooFar n distance)

-- the branch of this number, where the instructions are at these places (JVMS 6.5)
abbrev pub branch_fits : List ℕ → ℕ → Option ℕ → Result (Unit {0}) WriteLimit
branch_fits all n (Some to) = distance_fits n (pos (slice_index all to) -ℤ pos (slice_index all n))
branch_fits all n None = Ok tt

-- the branches from instruction n on, in their order; switches have four bytes and always fit (JVMS 6.5)
abbrev pub branches_fit : List ℕ → ℕ → List Ins → Result (Unit {0}) WriteLimit
branches_fit all n [] = Ok tt
branches_fit all n (i ∷ ins) = do
  this ← branch_fits all n (branch_to i.op)
  branches_fit all (n + 1) ins

-- its length first, and then its branches (JVMS 4.7.3, 4.9.1, 6.5)
abbrev pub code_fits : List PoolConstant → Option Code → Result (Unit {0}) WriteLimit
code_fits pool (Some code) = do
  short ← fits_u2 (λ n. CodeTooLong n) (length (code_bytes pool (places pool code.ins) code.ins))
  branches_fit (places pool code.ins) 0 code.ins
code_fits pool None = Ok tt

-- ---- tables with a count of two bytes

-- the rows of a table (JVMS 4.1, 4.7)
abbrev pub table_fits : ℕ → Result (Unit {0}) WriteLimit
table_fits n = fits_u2 (λ rows. AttributeFull rows) n

-- a full frame counts its locals and its stack (JVMS 4.7.4, full_frame)
abbrev pub form_fits : Form → Result (Unit {0}) WriteLimit
form_fits (full locals stack) = do
  few_locals ← table_fits (length locals)
  table_fits (length stack)
form_fits _ = Ok tt

-- the frames in their order, the first of them behind these locals (JVMS 4.7.4)
abbrev pub frames_fit : List VType → List FrameAt → Result (Unit {0}) WriteLimit
frames_fit before [] = Ok tt
frames_fit before (frame ∷ frames) = do
  this ← form_fits (form_of before frame.frame.locals frame.frame.stack)
  frames_fit frame.frame.locals frames

-- handlers, rows of lines, frames, and then what is in each frame (JVMS 4.7.3, 4.7.4, 4.7.12)
abbrev pub body_tables_fit : List VType → Option Code → Result (Unit {0}) WriteLimit
body_tables_fit first (Some code) = do
  handlers ← table_fits (length code.handlers)
  lines ← table_fits (length (line_rows None [] code.ins))
  frames ← table_fits (length code.frames)
  frames_fit first code.frames
body_tables_fit first None = Ok tt

-- those of its code, and then the classes of its Exceptions (JVMS 4.7.5)
abbrev pub method_tables_fit : List ℕ → Method → Result (Unit {0}) WriteLimit
method_tables_fit class m = do
  body ← body_tables_fit (first_locals class m) m.code
  table_fits (length m.throws)

-- interfaces, fields, methods, and those in methods, in the order of the file (JVMS 4.1)
abbrev pub tables_fit : Class → Result (Unit {0}) WriteLimit
tables_fit c = do
  interfaces ← table_fits (length c.interfaces)
  fields ← table_fits (length c.fields)
  methods ← table_fits (length c.methods)
  first_of (method_tables_fit c.name) c.methods

-- ---- the attribute Code

-- an attribute_length has four bytes (JVMS 4.7)
abbrev pub body_length_fits : ℕ → Result (Unit {0}) WriteLimit
body_length_fits n = if nat_lt n (2 ^ 32) then Ok tt else Err (AttributeTooLong n)

-- what the attribute Code of a method contains; a method without code has none (JVMS 4.7)
abbrev pub contents_fit : List PoolConstant → List ℕ → Method → Option Code → Result (Unit {0}) WriteLimit
contents_fit pool class m (Some code) = body_length_fits (length (code_contents pool (first_locals class m) code))
contents_fit pool class m None = Ok tt

-- the same, of the method's own code (JVMS 4.7)
abbrev pub body_fits : List PoolConstant → List ℕ → Method → Result (Unit {0}) WriteLimit
body_fits pool class m = contents_fit pool class m m.code

-- ---- all limits in their order

-- the pool's count, its texts, each code's length and branches, the tables of class and methods, each Code's
-- attribute_length (JVMS 4.1, 4.4.7, 4.7, 4.11; their order is the project's own)
unfoldable pub limits : List PoolConstant → Class → Result (Unit {0}) WriteLimit
limits pool c = do
  entries ← fits_u2 (λ n. PoolFull n) (length pool + 1)
  texts ← first_of text_fits pool
  codes ← first_of (λ (m : Method). code_fits pool m.code) c.methods
  tables ← tables_fit c
  first_of (body_fits pool c.name) c.methods

-- the canonical spelling where no limit is passed (the project's own: the spelling, or the first limit)
abbrev pub spelled_within : Result (Unit {0}) WriteLimit → Class → Result (List ℕ) WriteLimit
spelled_within (Ok fits) c = Ok (layout c)
spelled_within (Err limit) c = Err limit

-- the canonical spelling, or the first limit that the class passes (JVMS 4.11; which spelling is the project's own)
unfoldable pub class_written : Class → Result (List ℕ) WriteLimit
class_written c = spelled_within (limits (pool_of c) c) c
