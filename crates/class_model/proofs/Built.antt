-- What a FrameBuilder holds, as it grows.
use Rattle.std.proofs.Common.{◌≡◌, ℕ, ◌+◌, ◌-◌, ◌*◌, ◌≤◌, Bool, true, false, cond, List, [], ◌∷◌, ◌++◌, length}
use Rattle.std.proofs.Common.{map, refl}
use Rattle.std.proofs.Common.{take, sym, ap, ◌∙◌, arith}
use Rattle.std.proofs.lemmas.List.{take_all}
use Rattle.class_model.specs.declared.frame.VType.{VType}
use Rattle.class_model.specs.declared.frame.FrameAt.{FrameAt}
use Rattle.class_model.specs.declared.frame_list.FrameRow.{FrameRow}
use Rattle.class_model.specs.declared.type_lists.TypeAbove.{TypeAbove}
use Rattle.class_model.specs.declared.type_lists.TypeList.{TypeList}
use Rattle.class_model.specs.declared.frame_builder.FrameBuilder.TheInside.{Inside}
use Rattle.class_model.specs.Frames.{cut_tops, is_top, words_of_type, words_of_types}
use Rattle.class_model.specs.bodies.TypeLists.{numbered, types_in, IsHeld, Grows}
use Rattle.class_model.specs.FrameLists.{Built}
use Rattle.class_model.specs.bodies.HeldFrames.{frame_of}
use Rattle.class_model.specs.bodies.Building.{IsBuilt}
use Rattle.class_model.proofs.Tops.{cut_last, cut_not, words_more, words_few}
use Rattle.class_model.proofs.TypesAbove.{length-up_to, types_below, below_begins, top_goes}
use Rattle.class_model.proofs.RowsHeld.{held_on, rows_on, types_stay, frames_stay, one_more_row}

-- frames and locals together
abbrev pub built : List FrameAt → List VType → Built
built frames locals = record { frames = frames; locals = locals }

pub same_built : (frames more : List FrameAt) (locals types : List VType) → frames ≡ more → locals ≡ types
    → built frames locals ≡ built more types
same_built frames more locals types f l = ap (λ (fs : List FrameAt). built fs locals) f ∙ ap (built more) l

-- the words fit
pub words_short : (b : Inside) → IsBuilt b → b.words ≤ 2 * b.locals.len
words_short b is =
    let few = words_few (types_in b.lists b.locals) in
    let size = length-up_to b.lists b.locals.len b.locals.top in
    let words = is.words in
    omega (arith, few, size, words)

-- with more types, and the same lists
pub built_on : (b : Inside) (more : List TypeAbove) → IsBuilt b → Grows b.lists more → IsBuilt (record b {
  lists
      = more;
})
built_on b more is grows = record {
  rows = rows_on b.lists more b.rows.items grows is.rows;
  locals = held_on b.lists more b.locals grows is.locals;
  cut_held = held_on b.lists more b.cut grows is.cut_held;
  cut = types_stay b.lists more b.cut grows is.cut_held ∙ is.cut
      ∙ ap cut_tops (sym (types_stay b.lists more b.locals grows is.locals));
  words = is.words ∙ ap words_of_types (sym (types_stay b.lists more b.locals grows is.locals));
}

-- ---- one more local

cut_more : (b : Inside) (more : List TypeAbove) (next : TypeList) (ty : VType) → IsBuilt b → Grows b.lists more
    → types_in more next ≡ types_in b.lists b.locals ++ ty ∷ [] → (t : Bool) → is_top ty ≡ t
    → types_in more (cond t b.cut next) ≡ cut_tops (types_in more next)
cut_more b more next ty is grows types true top =
    types_stay b.lists more b.cut grows is.cut_held ∙ is.cut
    ∙ sym (ap cut_tops types ∙ cut_last (types_in b.lists b.locals) ty top)
cut_more b more next ty is grows types false top =
    types ∙ sym (ap cut_tops types ∙ cut_not (types_in b.lists b.locals) ty top)

held_either : (more : List TypeAbove) (one other : TypeList) (t : Bool) → IsHeld more one → IsHeld more other
    → IsHeld more (cond t one other)
held_either more one other true h k = h
held_either more one other false h k = k

pub built_more : (b : Inside) (more : List TypeAbove) (next : TypeList) (ty : VType) → IsBuilt b → Grows b.lists more
    → IsHeld more next → types_in more next ≡ types_in b.lists b.locals ++ ty ∷ []
    → IsBuilt (record {
      lists = more;
      rows = b.rows;
      locals = next;
      cut = cond (is_top ty) b.cut next;
      words = b.words + words_of_type ty;
    })
built_more b more next ty is grows held types = record {
  rows = rows_on b.lists more b.rows.items grows is.rows;
  locals = held;
  cut_held = held_either more b.cut next (is_top ty) (held_on b.lists more b.cut grows is.cut_held) held;
  cut = cut_more b more next ty is grows types (is_top ty) refl;
  words = ap (λ (n : ℕ). n + words_of_type ty) is.words ∙ sym (ap words_of_types types
      ∙ words_more (types_in b.lists b.locals) ty);
}

pub view_more : (b : Inside) (value : Built) (more : List TypeAbove) (next : TypeList) (ty : VType) → IsBuilt b
    → built (map (frame_of b.lists) b.rows.items) (types_in b.lists b.locals) ≡ value → Grows b.lists more
    → types_in more next ≡ types_in b.lists b.locals ++ ty ∷ []
    → built (map (frame_of more) b.rows.items) (types_in more next) ≡ built value.frames (value.locals ++ ty ∷ [])
view_more b value more next ty is view grows types =
    same_built _ _ _ _
    (frames_stay b.lists more b.rows.items grows is.rows ∙ ap (λ (v : Built). v.frames) view)
    (types ∙ ap (λ (v : Built). v.locals ++ ty ∷ []) view)

-- ---- one less local

pub built_less : (b : Inside) (less cut : TypeList) → IsBuilt b → less.len + 1 ≡ b.locals.len
    → less.top ≡ (numbered b.lists b.locals.top).below → less.top ≤ length b.lists → IsHeld b.lists cut
    → types_in b.lists cut ≡ cut_tops (types_in b.lists less)
    → IsBuilt (record {
      lists = b.lists;
      rows = b.rows;
      locals = less;
      cut = cut;
      words = b.words - words_of_type (numbered b.lists b.locals.top).ty;
    })
built_less b less cut is len top lies held cuts =
    let words : b.words ≡ words_of_types (types_in b.lists less) + words_of_type (numbered b.lists b.locals.top).ty
    = is.words ∙ ap words_of_types (types_below b.lists b.locals less len top)
    ∙ words_more (types_in b.lists less) (numbered b.lists b.locals.top).ty in
    let long = is.locals.len in
    record {
      rows = is.rows;
      locals = record { len = omega (arith, len, long); top = lies };
      cut_held = held;
      cut = cuts;
      words = omega (arith, words);
    }

-- there are as many words as the last type has
pub words_enough : (b : Inside) (less : TypeList) → IsBuilt b → less.len + 1 ≡ b.locals.len
    → less.top ≡ (numbered b.lists b.locals.top).below → words_of_type (numbered b.lists b.locals.top).ty ≤ b.words
words_enough b less is len top =
    let words : b.words ≡ words_of_types (types_in b.lists less) + words_of_type (numbered b.lists b.locals.top).ty
    = is.words ∙ ap words_of_types (types_below b.lists b.locals less len top)
    ∙ words_more (types_in b.lists less) (numbered b.lists b.locals.top).ty in
    omega (arith, words)

-- a Top that goes was cut already
pub cut_same : (b : Inside) (less : TypeList) → IsBuilt b → less.len + 1 ≡ b.locals.len
    → less.top ≡ (numbered b.lists b.locals.top).below → is_top (numbered b.lists b.locals.top).ty ≡ true
    → types_in b.lists b.cut ≡ cut_tops (types_in b.lists less)
cut_same b less is len top h = is.cut ∙ sym (top_goes b.lists b.locals less len top h)

pub view_less : (b : Inside) (value : Built) (less : TypeList)
    → built (map (frame_of b.lists) b.rows.items) (types_in b.lists b.locals) ≡ value → less.len + 1 ≡ b.locals.len
    → less.top ≡ (numbered b.lists b.locals.top).below
    → built (map (frame_of b.lists) b.rows.items) (types_in b.lists less)
    ≡ built value.frames (take (length value.locals - 1) value.locals)
view_less b value less view len top =
    let all = types_in b.lists b.locals in
    let below = types_in b.lists less in
    let size = length-up_to b.lists b.locals.len b.locals.top in
    let short = length-up_to b.lists less.len less.top in
    let one : below ≡ take (length all - 1) all
    = sym (take_all (length all - 1) below (omega (arith, size, short, len)))
    ∙ below_begins b.lists b.locals less (length all - 1) len top (omega (arith, size, len)) in
    same_built _ _ _ _ (ap (λ (v : Built). v.frames) view)
    (one ∙ ap (λ (v : Built). take (length v.locals - 1) v.locals) view)

-- ---- one more frame

pub view_pushed : (b : Inside) (value : Built) (more : List TypeAbove) (rows : List FrameRow) (index : ℕ)
    (stack : TypeList)
    (types : List VType) → IsBuilt b → built (map (frame_of b.lists) b.rows.items) (types_in b.lists b.locals) ≡ value
    → Grows b.lists more → rows ≡ b.rows.items ++ record { index = index; locals = b.cut; stack = stack } ∷ []
    → types_in more stack ≡ types
    → built (map (frame_of more) rows) (types_in more b.locals)
    ≡ built (value.frames ++ record { index = index; frame = record { locals = cut_tops value.locals; stack = types } }
    ∷ [])
    value.locals
view_pushed b value more rows index stack types is view grows added held =
    let row : FrameRow = record { index = index; locals = b.cut; stack = stack } in
    let frame : List VType → List VType → FrameAt
    = λ locals on. record { index = index; frame = record { locals = locals; stack = on } } in
    let locals : types_in more b.cut ≡ cut_tops value.locals
    = types_stay b.lists more b.cut grows is.cut_held ∙ is.cut ∙ ap (λ (v : Built). cut_tops v.locals) view in
    same_built _ _ _ _
    (ap (map (frame_of more)) added ∙ one_more_row b.lists more b.rows.items row grows is.rows
    ∙ ap (λ (v : Built). v.frames ++ frame_of more row ∷ []) view
    ∙ ap (λ (ls : List VType). value.frames ++ frame ls (types_in more stack) ∷ []) locals
    ∙ ap (λ (ts : List VType). value.frames ++ frame (cut_tops value.locals) ts ∷ []) held)
    (types_stay b.lists more b.locals grows is.locals ∙ ap (λ (v : Built). v.locals) view)
