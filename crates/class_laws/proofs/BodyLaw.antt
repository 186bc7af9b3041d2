-- The contents of a Code are read exactly where they are spelled (JVMS 4.7.3).
use Rattle.std.proofs.Common.{◌≡◌, ℕ, ◌+◌, ◌^◌, ◌<◌, Bool, true, false, cond, eqb, ltb, List, [], ◌∷◌, ◌++◌, length}
use Rattle.std.proofs.Common.{map, Option, Some, None, Result, Ok, Err, codes, refl, sym, ap, subst, ◌∙◌, append_assoc}
use Rattle.std.proofs.Common.{arith}
use Rattle.std.specs.Int.{w16, w32, to_be_bytes}
use Rattle.std.specs.List.{AllZip, flat_map, list_any}
use Rattle.std.proofs.lemmas.Bool.{eqb-false, ne_eqb, ltb-true, lt-ltb}
use Rattle.format_reading.specs.declared.fault.FormatKind.{FormatKind}
use Rattle.format_reading.specs.declared.fault.FormatKind.TheVariants as bad
use Rattle.format_reading.specs.Reader.{FormatReader, u2, u4, bind, give, here, item, part}
use Rattle.format_reading.specs.Spelling.{Spells, AllStand}
use Rattle.jv_base.specs.Place.{Place, after}
use Rattle.format_reading.proofs.Exact.{Exact, Takes, Takes-then, Takes-split, fits_on, bind_ok, bind_is, as_raw}
use Rattle.format_reading.proofs.Exact.{bind_exact, bind_exact_of, map_exact, item_exact, of_result_exact, u2_exact}
use Rattle.format_reading.proofs.Exact.{u4_exact}
use Rattle.class_model.specs.declared.pool.Entry.{Entry}
use Rattle.class_model.specs.declared.op.Op.{Op}
use Rattle.class_model.specs.declared.code.Code.{Code}
use Rattle.class_model.specs.declared.code.Ins.{Ins}
use Rattle.class_model.specs.declared.code.Handler.{Handler}
use Rattle.class_model.specs.declared.frame.VType.{VType}
use Rattle.class_model.specs.declared.frame.FrameAt.{FrameAt}
use Rattle.class_model.specs.declared.class.LeftKind.{LeftKind}
use Rattle.class_model.specs.declared.class.LeftKind.TheVariants as left
use Rattle.class_model.specs.Structure.{AttributeInfo, attribute_info, ExceptionInfo, CodeInfo, code_info}
use Rattle.class_model.specs.InstructionStructure.{Info, info_bytes, starts_of}
use Rattle.class_model.specs.Instructions.{IsOp, Begins}
use Rattle.class_model.specs.LineNumbers.{LineNumber}
use Rattle.class_model.specs.Frames.{StackMapFrame, stack_map_table, names_float, AreFrames, IsMapOf}
use Rattle.class_model.specs.Attributes.{named, Single}
use Rattle.class_model.specs.CodeAttribute.{IsHandler, HasCodeSizes, left_out_frames, IsCode, IsPassedOver, IsBody}
use Rattle.class_model.specs.ReadingCode.{CodeRead, instructions, has_left_out, left_out_kind, until_end, ops_of}
use Rattle.class_model.specs.ReadingFrames.{read_frames}
use Rattle.class_model.specs.ReadingAttributes.{counted_attributes}
use Rattle.class_model.specs.ReadingCodeAttribute.{Body, CodeSeen, nothing_seen, known_of_code, code_length, with_lines}
use Rattle.class_model.specs.ReadingCodeAttribute.{frames_of, left_out_of, code_of, read_handlers, behind_code}
use Rattle.class_model.specs.ReadingCodeAttribute.{read_code}
use Rattle.class_model.proofs.NameLaw.{HaveUnits}
use Rattle.class_model.proofs.AttributeLaw.{text, as_text, as_told}
use Rattle.class_model.proofs.CodeLaw.{op_in, IsCodeText, text_found, text_only, lines_found, lines_only}
use Rattle.class_model.proofs.LeftOutLaw.{code_part_exact, in_place_found, in_place_only}
use Rattle.class_model.proofs.LeftOutLaw as left_law
use Rattle.class_model.proofs.UntilLaw.{IsCodeFrom}
use Rattle.class_model.proofs.MethodInfoLaw.{Bodies}
use Rattle.class_model.proofs.BackRead.{here_is}
use Rattle.class_laws.proofs.FrameLaw.{AreRows, frames_exact}
use Rattle.class_laws.proofs.StandsLaw.{rows_found, rows_only}
use Rattle.class_laws.proofs.HandlerLaw.{NoneAtZero, table_exact}
use Rattle.class_laws.proofs.CodeAttributeLaw.{Frames, AreCodeAttributes, code_attributes_exact}
use Rattle.class_laws.proofs.PassedOverLaw.{tail_bytes, FitTail, passed_exact}

-- a length that a code may have
length_found : (n m : ℕ) → code_length n ≡ Ok m → (m ≡ n) × (0 < n) × (n < 2 ^ 16)
length_found n m h = by (eqb n 0) (ltb n 65536) refl refl h
  where
    by : (a b : Bool) → eqb n 0 ≡ a → ltb n 65536 ≡ b
        → cond a (let R : Result ℕ FormatKind = Err bad.BadCode in R) (cond b (Ok n) (Err bad.BadCode)) ≡ Ok m
        → (m ≡ n) × (0 < n) × (n < 2 ^ 16)
    by true b ea eb g = absurd cc
    by false true ea eb g = (
      sym (let e : n ≡ m = cc in e),
      (let d : n ≡ 0
          → ⊥ = eqb-false n 0 ea in grind arith),
      ltb-true n 65536 eb,
    )
    by false false ea eb g = absurd cc

length_only : (n : ℕ) → 0 < n → n < 2 ^ 16 → code_length n ≡ Ok n
length_only n some few =
    let a : eqb n 0 ≡ false = ne_eqb n 0 (λ e. absurd (omega (arith, e, some))) in
    let b : ltb n 65536 ≡ true = lt-ltb n 65536 (omega (arith, few)) in
    rw (a, b) refl

-- the instructions with lines are the instructions
ops_are : (rows : List LineNumber) (P : ℕ → Info → Op → Type 0) (at : ℕ) (infos : List Info) (ops : List Op)
    → AllStand info_bytes P at infos ops → map op_in (with_lines rows at infos ops) ≡ ops
ops_are rows P at [] [] h = refl
ops_are rows P at [] (o ∷ os) h = absurd h
ops_are rows P at (info ∷ infos) [] h = absurd h
ops_are rows P at (info ∷ infos) (o ∷ os) h = ap (λ (t : List Op). o ∷ t)
    (ops_are rows P (at + length (info_bytes info)) infos os h.1)

module _ (pool : List Entry) (units : HaveUnits pool) (unnamed : NoneAtZero pool) (first : List VType) where
  -- ---- behind the instructions

  -- what the contents of a StackMapTable say
  abbrev FramesSay : ℕ → ℕ → List Info → List Op → List ℕ → Frames → Type 0
  FramesSay max_stack max_locals infos ops info map = Spells stack_map_table
      (λ _ rows y. (length rows < 2 ^ 16)
      × AreRows pool (starts_of infos) ops max_stack max_locals (record { locals = first; offset = None }) rows y.1
      × (y.0 ≡ list_any names_float rows)) 0 info map

  -- handlers, attributes, and all together
  abbrev BehindOps : ℕ → ℕ → ℕ → List Info → List Op → List ExceptionInfo × List AttributeInfo → Body → Type 0
  BehindOps max_stack max_locals n infos ops v y = (handlers : List Handler)
      × ((length v.0 < 2 ^ 16) × AllZip (IsHandler pool (starts_of infos) n) v.0 handlers)
      × ((seen : CodeSeen) × AreCodeAttributes pool (FramesSay max_stack max_locals infos ops) v.1 seen
      × (y ≡ code_of max_stack max_locals infos ops handlers seen))

  abbrev BehindInfos : ℕ → ℕ → ℕ → ℕ → List Info → List ExceptionInfo × List AttributeInfo → Body → Type 0
  BehindInfos max_stack max_locals from n infos v y = (ops : List Op) × (ops_of pool from infos ≡ Ok ops)
      × BehindOps max_stack max_locals n infos ops v y

  ops_exact : (max_stack max_locals n : ℕ) (infos : List Info) (ops : List Op) → n ≡ length (flat_map info_bytes infos)
      → n < 2 ^ 16
      → Exact (bind (read_handlers pool (starts_of infos) n)
      (λ handlers. bind (counted_attributes pool (known_of_code
      (read_frames pool (starts_of infos) ops max_stack max_locals first)) nothing_seen)
      (λ seen. give (code_of max_stack max_locals infos ops handlers seen))))
      (Spells tail_bytes (λ _ v y. BehindOps max_stack max_locals n infos ops v y))
  ops_exact max_stack max_locals n infos ops whole short =
      bind_exact (λ handlers. bind (counted_attributes pool (known_of_code
      (read_frames pool (starts_of infos) ops max_stack max_locals first)) nothing_seen)
      (λ seen. give (code_of max_stack max_locals infos ops handlers seen)))
      (λ all. to_be_bytes w16 (length all) ++ flat_map attribute_info all)
      (λ handlers _ all y. (seen : CodeSeen)
      × AreCodeAttributes pool (FramesSay max_stack max_locals infos ops) all seen
      × (y ≡ code_of max_stack max_locals infos ops handlers seen))
      (table_exact pool units unnamed infos n whole short)
      (λ handlers. map_exact (λ seen. code_of max_stack max_locals infos ops handlers seen)
      (code_attributes_exact pool (FramesSay max_stack max_locals infos ops)
      (read_frames pool (starts_of infos) ops max_stack max_locals first)
      (as_told (λ _ info map. FramesSay max_stack max_locals infos ops info map) (λ at info map h. h)
      (λ at info map h. h) (as_text (frames_exact pool (starts_of infos) ops max_stack max_locals first)))))

  infos_exact : (max_stack max_locals from n : ℕ) (infos : List Info) → n ≡ length (flat_map info_bytes infos)
      → n < 2 ^ 16 → Exact (behind_code pool first max_stack max_locals from n (instructions infos))
      (Spells tail_bytes (λ _ v y. BehindInfos max_stack max_locals from n infos v y))
  infos_exact max_stack max_locals from n infos whole short = as_raw tail_bytes _ (λ w. w.1) (λ v. (tt, v))
      (λ at w y h. (refl, h))
      (λ at v y h. (refl, h))
      (bind_exact (λ ops. bind (read_handlers pool (starts_of infos) n)
      (λ handlers. bind (counted_attributes pool (known_of_code
      (read_frames pool (starts_of infos) ops max_stack max_locals first)) nothing_seen)
      (λ seen. give (code_of max_stack max_locals infos ops handlers seen))))
      tail_bytes (λ ops _ v y. BehindOps max_stack max_locals n infos ops v y)
      (of_result_exact (ops_of pool from infos))
      (λ ops. ops_exact max_stack max_locals n infos ops whole short))

  -- what stands behind what was read of the code
  abbrev Behind : ℕ → ℕ → ℕ → ℕ → CodeRead → List ExceptionInfo × List AttributeInfo → Body → Type 0
  Behind max_stack max_locals from n (instructions infos) v y = BehindInfos max_stack max_locals from n infos v y
  Behind max_stack max_locals from n (has_left_out offset opcode) v y = FitTail v
      × (y ≡ (None, Some (left_out_kind opcode)))

  behind_exact : (max_stack max_locals from n : ℕ) (code : List ℕ) (read : CodeRead) → length code ≡ n → n < 2 ^ 16
      → IsCodeFrom pool 0 code read
      → Exact (behind_code pool first max_stack max_locals from n read)
      (Spells tail_bytes (λ _ v y. Behind max_stack max_locals from n read v y))
  behind_exact max_stack max_locals from n code
      (instructions infos) len short is = infos_exact max_stack max_locals from n infos (sym len ∙ ap length is.0) short
  behind_exact max_stack max_locals from n code (has_left_out offset opcode) len short is = passed_exact
      (None, Some (left_out_kind opcode))

  -- ---- the code and what stands behind it

  -- the reader, from an offset
  abbrev reads_from : ℕ → ℕ → ℕ → ℕ → ℕ → FormatReader Body
  reads_from attribute max_stack max_locals n from = bind (part attribute n (until_end n pool from (from + n)))
      (λ read. behind_code pool first max_stack max_locals from n read)

  -- the code of n bytes, and then the tables
  abbrev CodeAndTables : ℕ → ℕ → ℕ → ℕ → List ℕ × (List ExceptionInfo × List AttributeInfo) → Body → Type 0
  CodeAndTables max_stack max_locals n at v y = (read : CodeRead) × (length v.0 ≡ n) × IsCodeFrom pool 0 v.0 read
      × Behind max_stack max_locals at n read v.1 y

  code_exact : (attribute max_stack max_locals n : ℕ) → n < 2 ^ 16
      → Exact (bind here (λ from. reads_from attribute max_stack max_locals n from))
      (Spells (λ (v : List ℕ × (List ExceptionInfo × List AttributeInfo)). v.0 ++ tail_bytes v.1)
      (λ at v y. CodeAndTables max_stack max_locals n at v y))
  code_exact attribute max_stack max_locals n short = record {
    found = λ p y q fits h.
        let a : reads_from attribute max_stack max_locals n p.at p
        ≡ Ok (y, q) = sym (bind_is here (λ from. reads_from attribute max_stack max_locals n from) p p p.at
        (here_is p)) ∙ h in
        let b = bind_ok (part attribute n (until_end n pool p.at (p.at + n)))
        (λ read. behind_code pool first max_stack max_locals p.at n read) p (y, q) a in
        let c = (code_part_exact pool attribute n p.at).found p b.0 b.1 fits b.2 in
        let t : List ℕ = c.1.0 in
        let is : IsCodeFrom pool 0 t b.0 = in_place_found pool n p.at t b.0 c.1.2.0 c.1.2.1 in
        let d = (behind_exact max_stack max_locals p.at n t b.0 c.1.2.0 short is).found b.1 y q
        (fits_on p b.1 c.0 c.2 fits) b.3 in (
          c.0 ++ d.0,
          (
            (t, d.1.0),
            ap (λ (u : List ℕ). u ++ d.0) c.1.1
                ∙ ap (λ (u : List ℕ). t ++ u) d.1.1,
            (b.0, c.1.2.0, is, d.1.2),
          ),
          Takes-then p b.1 q c.0 d.0 c.2 d.2,
        );
    only = λ p u y q h k.
        let v = h.0 in
        let parts = Takes-split p q v.0 (tail_bytes v.1) (subst (λ (w : List ℕ). Takes p w q) h.1 k) in
        let mid : Place = after (length v.0) p in
        let read : CodeRead = h.2.0 in
        let one : part attribute n (until_end n pool p.at (p.at + n)) p
        ≡ Ok (read, mid) = (code_part_exact pool attribute n p.at).only p v.0 read mid
        (v.0, refl, (h.2.1, in_place_only pool n p.at v.0 read h.2.1 h.2.2)) parts.0 in
        let two : behind_code pool first max_stack max_locals p.at n read mid
        ≡ Ok (y, q) = (behind_exact max_stack max_locals p.at n v.0 read h.2.1 short h.2.2).only mid
        (tail_bytes v.1) y q (v.1, refl, h.2.3) parts.1 in
        bind_is here (λ from. reads_from attribute max_stack max_locals n from) p p p.at (here_is p)
        ∙ bind_is (part attribute n (until_end n pool p.at (p.at + n)))
        (λ read. behind_code pool first max_stack max_locals p.at n read) p mid read one ∙ two;
  }

  -- ---- the code of the method

  -- the frames that are seen are those of the rows
  frames_there : (max_stack max_locals : ℕ) (infos : List Info) (ops : List Op) (ins : List Ins)
      (list : List AttributeInfo) (map_seen : Option Frames) → map op_in ins ≡ ops
      → Single (FramesSay max_stack max_locals infos ops) list map_seen
      → (rows : List StackMapFrame) × IsMapOf list rows
      × AreFrames pool (starts_of infos) ins max_stack max_locals first None rows (frames_of map_seen)
      × (left_out_of map_seen ≡ left_out_frames rows)
  frames_there max_stack max_locals infos ops ins [] None is h = ([], refl, tt, refl)
  frames_there max_stack max_locals infos ops ins [] (Some m) is h = absurd h
  frames_there max_stack max_locals infos ops ins (a ∷ []) None is h = absurd h
  frames_there max_stack max_locals infos ops ins (a ∷ []) (Some m) is h =
      let rows = h.0 in
      let are = subst (λ (os : List Op). AreRows pool (starts_of infos) os max_stack max_locals
      (record { locals = first; offset = None }) rows m.1) (sym is) h.2.1 in (
        rows,
        (h.2.0, h.1),
        rows_found pool units infos ins max_stack max_locals
            (record { locals = first; offset = None }) rows m.1 are,
        ap
            (λ (b : Bool). cond b (Some left.FloatType) None) h.2.2,
      )
  frames_there max_stack max_locals infos ops ins (a ∷ b ∷ others) m is h = absurd h

  frames_back : (max_stack max_locals : ℕ) (infos : List Info) (ops : List Op) (ins : List Ins)
      (list : List AttributeInfo) (rows : List StackMapFrame) (frames : List FrameAt) → map op_in ins ≡ ops
      → IsMapOf list rows
      → AreFrames pool (starts_of infos) ins max_stack max_locals first None rows frames
      → (map_seen : Option Frames) × Single (FramesSay max_stack max_locals infos ops) list map_seen
      × (frames_of map_seen ≡ frames) × (left_out_of map_seen ≡ left_out_frames rows)
  frames_back max_stack max_locals infos ops ins [] rows frames is m h =
      (None, tt, none rows m frames h, sym (ap left_out_frames m))
    where
      none : (rows : List StackMapFrame) → rows ≡ [] → (frames : List FrameAt)
          → AreFrames pool (starts_of infos) ins max_stack max_locals first None rows frames → [] ≡ frames
      none [] e [] a = refl
      none [] e (f ∷ fs) a = absurd a
      none (r ∷ rs) e frames a = absurd cc
  frames_back max_stack max_locals infos ops ins (a ∷ []) rows frames is m h =
      let are = subst (λ (os : List Op). AreRows pool (starts_of infos) os max_stack max_locals
      (record { locals = first; offset = None }) rows frames) is
      (rows_only pool units infos ins max_stack max_locals first None rows frames h) in
      (Some (list_any names_float rows, frames), (rows, m.1, (m.0, are, refl)), refl, refl)
  frames_back max_stack max_locals infos ops ins (a ∷ b ∷ others) rows frames is m h = absurd m

  -- the sizes
  abbrev raw_of : ℕ → ℕ → List ℕ → List ExceptionInfo × List AttributeInfo → CodeInfo
  raw_of max_stack max_locals code v = record
      { max_stack = max_stack; max_locals = max_locals; code = code; exception_table = v.0; attributes = v.1 }

  -- what was read is what the structure stands for
  body_there : (max_stack max_locals n at : ℕ) (code : List ℕ) (v : List ExceptionInfo × List AttributeInfo) (y : Body)
      (read : CodeRead) → max_stack < 2 ^ 16 → max_locals < 2 ^ 16 → 0 < n → n < 2 ^ 16 → length code ≡ n
      → IsCodeFrom pool 0 code read
      → Behind max_stack max_locals at n read v y → Bodies pool first (code_info (raw_of max_stack max_locals code v)) y
  body_there max_stack max_locals n at code v y (instructions infos) fit-stack fit-locals some few len is h =
      let ops : List Op = h.0 in
      let handlers : List Handler = h.2.0 in
      let seen : CodeSeen = h.2.2.0 in
      let all = h.2.2.1 in
      let raw : CodeInfo = raw_of max_stack max_locals code v in
      let meant : IsCodeText pool code infos ops = text_found pool code at infos ops units is h.1 in
      let ins : List Ins = with_lines seen.lines 0 infos ops in
      let f = frames_there max_stack max_locals infos ops ins (named pool (codes "StackMapTable") v.1) seen.map
      (ops_are seen.lines (IsOp (Begins (starts_of infos)) pool) 0 infos ops meant.1) all.map in
      let made : Code = record {
        max_stack = max_stack;
        max_locals = max_locals;
        ins = ins;
        handlers = handlers;
        frames
            = frames_of seen.map;
      } in
      let code-is : IsCode pool first raw made (left_out_of seen.map) = record {
        sizes = record {
          max_stack_fits = fit-stack;
          max_locals_fits = fit-locals;
          length_from = subst
              (λ (k : ℕ). 0 < k) (sym len) some;
          length_to = subst (λ (k : ℕ). k < 2 ^ 16)
              (sym len) few;
          handlers_fit = h.2.1.0;
        };
        max_stack = refl;
        max_locals = refl;
        infos = infos;
        is = meant.0;
        lines = seen.lines;
        instructions = lines_found pool (starts_of infos) seen.lines 0 infos ops meant.1;
        handlers = subst (λ (k : ℕ). AllZip (IsHandler pool (starts_of infos) k) v.0 handlers) (sym len) h.2.1.1;
        attributes = all.attributes;
        line_tables = all.lines;
        rows = f.0;
        map = f.1;
        frames = f.2;
        floats = f.3;
      } in
      subst (λ (b : Body). Bodies pool first (code_info raw) b) (sym h.2.2.2) (raw, refl, code-is)
  body_there max_stack max_locals n at code v y (has_left_out offset opcode) fit-stack fit-locals some few len is h =
      let raw : CodeInfo = raw_of max_stack max_locals code v in
      let over : IsPassedOver pool raw (left_out_kind opcode) = record {
        sizes = record {
          max_stack_fits = fit-stack;
          max_locals_fits = fit-locals;
          length_from = subst
              (λ (k : ℕ). 0 < k) (sym len) some;
          length_to = subst (λ (k : ℕ). k < 2 ^ 16)
              (sym len) few;
          handlers_fit = h.0.0;
        };
        code = left_law.text_found pool code offset opcode units is;
        handlers = h.0.1;
        count_fits = h.0.2;
        attributes = h.0.3;
      } in
      subst (λ (b : Body). Bodies pool first (code_info raw) b) (sym h.1) (raw, refl, left_out_kind opcode, refl, over)

  -- and the other way
  abbrev BodyBack : ℕ → List ℕ → Body → Type 0
  BodyBack at info y = (raw : CodeInfo) × (info ≡ code_info raw) × HasCodeSizes raw
      × ((read : CodeRead) × IsCodeFrom pool 0 raw.code read
      × Behind raw.max_stack raw.max_locals at (length raw.code) read (raw.exception_table, raw.attributes) y)

  body_back : (at : ℕ) (info : List ℕ) (code : Option Code) (left_out : Option LeftKind)
      → IsBody pool first info code left_out → BodyBack at info (code, left_out)
  body_back at info (Some code) left_out h =
      let raw : CodeInfo = h.0 in
      let c = h.2 in
      let l = lines_only pool (starts_of c.infos) c.lines 0 c.infos code.ins c.instructions in
      let ops : List Op = map op_in code.ins in
      let meant = text_only pool raw.code at c.infos ops (c.is, l.0) in
      let f = frames_back raw.max_stack raw.max_locals c.infos ops code.ins
      (named pool (codes "StackMapTable") raw.attributes) c.rows code.frames refl c.map c.frames in
      let seen : CodeSeen = record { lines = c.lines; map = f.0 } in
      let all : AreCodeAttributes pool
      (FramesSay raw.max_stack raw.max_locals c.infos ops) raw.attributes seen = record
      { attributes = c.attributes; lines = c.line_tables; map = f.1 } in
      let whole : (let b : Body = (Some code, left_out) in b)
      ≡ code_of raw.max_stack raw.max_locals c.infos ops code.handlers seen = λ i. (
        Some (record {
          max_stack = c.max_stack i;
          max_locals = c.max_locals i;
          ins = l.1 i;
          handlers = code.handlers;
          frames = (sym f.2) i;
        }),
        (c.floats ∙ sym f.3) i,
      ) in (
        raw,
        h.1,
        c.sizes,
        (
          instructions c.infos,
          meant.0,
          (
            ops,
            meant.1,
            (code.handlers, (c.sizes.handlers_fit, c.handlers), (seen, all, whole)),
          ),
        ),
      )
  body_back at info None left_out h =
      let raw : CodeInfo = h.0 in
      let over = h.4 in
      let l = left_law.text_only pool raw.code h.2 over.code in
      let whole : (let b : Body = (None, left_out) in b)
      ≡ (None, Some (left_out_kind l.1)) = λ i. (None, (h.3 ∙ ap (λ (k : LeftKind). Some k) (sym l.3)) i) in (
        raw,
        h.1,
        over.sizes,
        (
          has_left_out l.0 l.1,
          l.2,
          ((over.sizes.handlers_fit, over.handlers, over.count_fits, over.attributes), whole),
        ),
      )

  -- ---- all of the contents

  -- the numbers before the code, the code, and the tables
  abbrev Items : Type 0
  Items = ℕ × (ℕ × (ℕ × (List ℕ × (List ExceptionInfo × List AttributeInfo))))

  abbrev code_items : CodeInfo → Items
  code_items raw = (
    raw.max_stack,
    (
      raw.max_locals,
      (
        length raw.code,
        (raw.code, (raw.exception_table, raw.attributes)),
      ),
    ),
  )

  abbrev items_bytes : Items → List ℕ
  items_bytes v = to_be_bytes w16 v.0 ++
      (to_be_bytes w16 v.1.0 ++ (to_be_bytes w32 v.1.1.0 ++ (v.1.1.1.0 ++ tail_bytes v.1.1.1.1)))

  -- the bytes of the structure are those of its items
  items_are : (raw : CodeInfo) → code_info raw ≡ items_bytes (code_items raw)
  items_are raw = simp append_assoc

  -- with the length of the code
  length_is : (v : Items) (n : ℕ) → length v.1.1.1.0 ≡ n → v.1.1.0 ≡ n
      → items_bytes v ≡ items_bytes (code_items (raw_of v.0 v.1.0 v.1.1.1.0 v.1.1.1.1))
  length_is v n len is = ap
      (λ (k : ℕ). to_be_bytes w16 v.0 ++
      (to_be_bytes w16 v.1.0 ++ (to_be_bytes w32 k ++ (v.1.1.1.0 ++ tail_bytes v.1.1.1.1)))) (is ∙ sym len)

  reads_length : ℕ → ℕ → ℕ → FormatReader Body
  reads_length attribute max_stack max_locals = bind (item u4 code_length)
      (λ n. bind here (λ from. reads_from attribute max_stack max_locals n from))

  -- the length, and what follows
  abbrev FromLength : ℕ → ℕ → ℕ → ℕ × (List ℕ × (List ExceptionInfo × List AttributeInfo)) → Body → Type 0
  FromLength max_stack max_locals at v y = (n : ℕ) × ((x : ℕ) × ((v.0 < 2 ^ 32) × (x ≡ v.0)) × (code_length x ≡ Ok n))
      × CodeAndTables max_stack max_locals n (at + 4) v.1 y

  length_exact : (attribute max_stack max_locals : ℕ) → Exact (reads_length attribute max_stack max_locals)
      (Spells (λ (v : ℕ × (List ℕ × (List ExceptionInfo × List AttributeInfo))). to_be_bytes w32 v.0 ++
      (v.1.0 ++ tail_bytes v.1.1)) (λ at v y. FromLength max_stack max_locals at v y))
  unfolding reads_length
  length_exact attribute max_stack max_locals = bind_exact_of
      (λ n. bind here (λ from. reads_from attribute max_stack max_locals n from))
      (λ (v : List ℕ × (List ExceptionInfo × List AttributeInfo)). v.0 ++ tail_bytes v.1)
      (λ n at v y. CodeAndTables max_stack max_locals n at v y)
      (item_exact code_length u4_exact)
      (λ at w n h. code_exact attribute max_stack max_locals n
      (let l = length_found h.0 n h.2 in subst (λ (k : ℕ). k < 2 ^ 16) (sym l.0) l.2))

  -- the contents of a Code are read exactly where they are spelled
  pub read_code_exact : (attribute : ℕ)
      → Exact (read_code pool first attribute) (Spells text (λ _ info body. Bodies pool first info body))
  unfolding read_code reads_length
  read_code_exact attribute = as_told (λ _ info body. Bodies pool first info body)
      (λ at info y h.
      let v : Items = h.0 in
      let ms : ℕ = h.2.0 in
      let rest = h.2.2 in
      let ml : ℕ = rest.0 in
      let from = rest.2 in
      let n : ℕ = from.0 in
      let l = length_found from.1.0 n from.1.2 in
      let c = from.2 in
      let stack-is : ms ≡ v.0 = h.2.1.1 in
      let locals-is : ml ≡ v.1.0 = rest.1.1 in
      let n-is : v.1.1.0 ≡ n = sym from.1.1.1 ∙ sym l.0 in
      let body : Bodies pool first (code_info (raw_of ms ml v.1.1.1.0 v.1.1.1.1)) y =
      body_there ms ml n _ v.1.1.1.0 v.1.1.1.1 y c.0 (subst (λ (k : ℕ). k < 2 ^ 16) (sym stack-is) h.2.1.0)
      (subst (λ (k : ℕ). k < 2 ^ 16) (sym locals-is) rest.1.0)
      (subst (λ (k : ℕ). 0 < k) (sym l.0) l.1) (subst (λ (k : ℕ). k < 2 ^ 16) (sym l.0) l.2) c.1 c.2 c.3 in
      let text-is : info ≡ code_info (raw_of ms ml v.1.1.1.0 v.1.1.1.1) =
      h.1 ∙ length_is v n c.1 n-is
      ∙ ap (λ (k : ℕ). items_bytes (code_items (raw_of k v.1.0 v.1.1.1.0 v.1.1.1.1))) (sym stack-is)
      ∙ ap (λ (k : ℕ). items_bytes (code_items (raw_of ms k v.1.1.1.0 v.1.1.1.1))) (sym locals-is)
      ∙ sym (items_are (raw_of ms ml v.1.1.1.0 v.1.1.1.1)) in
      subst (λ (t : List ℕ). Bodies pool first t y) (sym text-is) body)
      (λ at info y h.
      let b = body_back (at + 2 + 2 + 4) info y.0 y.1 h in
      let raw : CodeInfo = b.0 in
      let sizes = b.2 in
      let n : ℕ = length raw.code in (
        code_items raw,
        b.1 ∙ items_are raw,
        (
          raw.max_stack,
          (sizes.max_stack_fits, refl),
          (
            raw.max_locals,
            (sizes.max_locals_fits, refl),
            (
              n,
              (n, (omega (arith, sizes.length_to), refl), length_only n sizes.length_from sizes.length_to),
              (b.3.0, refl, b.3.1, b.3.2),
            ),
          ),
        ),
      ))
      (as_text (bind_exact (λ max_stack. bind u2 (λ max_locals. reads_length attribute max_stack max_locals))
      (λ (v : ℕ × (ℕ × (List ℕ × (List ExceptionInfo × List AttributeInfo)))). to_be_bytes w16 v.0 ++
      (to_be_bytes w32 v.1.0 ++ (v.1.1.0 ++ tail_bytes v.1.1.1)))
      (λ max_stack at v y. (max_locals : ℕ) × ((v.0 < 2 ^ 16) × (max_locals ≡ v.0))
      × FromLength max_stack max_locals (at + 2) v.1 y) u2_exact
      (λ max_stack. bind_exact (λ max_locals. reads_length attribute max_stack max_locals)
      (λ (v : ℕ × (List ℕ × (List ExceptionInfo × List AttributeInfo))). to_be_bytes w32 v.0 ++
      (v.1.0 ++ tail_bytes v.1.1))
      (λ max_locals at v y. FromLength max_stack max_locals at v y) u2_exact
      (λ max_locals. length_exact attribute max_stack max_locals))))
