-- The operand stack, the top first (JVMS 2.6.2): taking operands, and moving words.
use Rattle.std.specs.Prelude.{ℕ, zero, suc, ℤ, List, [], ◌∷◌, ◌++◌, ◌==◌, Option, Some, None, reverse, if◌then◌else◌}
use Rattle.class_model.specs.declared.op.Kind.{Kind}
use Rattle.jvm_model.specs.Value.{Value, as_int, as_kind, is_wide}

infixl 10 ◌>>=◌
-- what is done with a value, where there is one
abbrev pub ◌>>=◌ : {A B : Type 0} → Option A → (A → Option B) → Option B
None >>= f = None
(Some x) >>= f = f x

-- ---- operands

-- what a reader takes from the stack, and the stack that is left; nothing where an operand is missing or of another
-- kind
abbrev pub Reader : Type 0 → Type 0
Reader A = List Value → Option (A × List Value)

-- nothing is taken
abbrev pub with : {A : Type 0} → A → Reader A
with x s = Some (x, s)

-- the top
abbrev pub top : {A : Type 0} → (Value → Option A) → Reader A
top read [] = None
top read (v ∷ s) = do
  x ← read v
  Some (x, s)

-- one operand, which JVMS writes "..., value →"
abbrev pub one : {A X : Type 0} → (Value → Option A) → (A → X) → Reader X
one read f s = do
  p ← top read s
  Some (f p.0, p.1)

-- two, "..., value1, value2 →"
abbrev pub two : {A B X : Type 0} → (Value → Option A) → (Value → Option B) → (A → B → X) → Reader X
two read1 read2 f s = do
  q ← top read2 s
  p ← top read1 q.1
  Some (f p.0 q.0, p.1)

-- three, "..., value1, value2, value3 →"
abbrev pub three : {A B C X : Type 0} → (Value → Option A) → (Value → Option B) → (Value → Option C) → (A → B → C → X)
    → Reader X
three read1 read2 read3 f s = do
  r ← top read3 s
  q ← top read2 r.1
  p ← top read1 q.1
  Some (f p.0 q.0 r.0, p.1)

-- values of these kinds, the last of which is on the top
abbrev pub many_above : List Kind → List Value → Reader (List Value)
many_above [] vs s = Some (vs, s)
many_above (k ∷ ks) vs s = do
  p ← top (as_kind k) s
  many_above ks (p.0 ∷ vs) p.1

-- operands of these kinds, "..., [arg1, [arg2 ...]] →"
abbrev pub many : List Kind → Reader (List Value)
many ks s = many_above (reverse ks) [] s

-- so many ints behind those that were taken, "..., count1, [count2, ...] →"
abbrev pub counts_above : ℕ → List ℤ → Reader (List ℤ)
counts_above zero zs s = Some (zs, s)
counts_above (suc n) zs s = do
  p ← top as_int s
  counts_above n (p.0 ∷ zs) p.1

-- ---- words (JVMS 2.11.1, 6.5)

-- the values of some words at the top, the upper first, and what is below them
abbrev pub Split : Type 0
Split = Option (List Value × List Value)

-- one word: a value of category 1
abbrev pub one_word : List Value → Split
one_word [] = None
one_word (v ∷ s) = if is_wide v then None else Some (v ∷ [], s)

-- two words: a value of category 2, or two of category 1
abbrev pub two_words : List Value → Split
two_words [] = None
two_words (v ∷ s) = if is_wide v then Some (v ∷ [], s) else (do
  p ← one_word s
  Some (v ∷ p.0, p.1))

-- so many words, two at most, that cut no value
abbrev pub split_words : ℕ → List Value → Split
split_words n s = if n == 0 then Some ([], s) else if n == 1 then one_word s else two_words s

-- without so many words (JVMS 6.5.pop, 6.5.pop2)
abbrev pub dropped : ℕ → List Value → Option (List Value)
dropped n s = do
  p ← split_words n s
  Some p.1

-- so many words once more, under so many others (JVMS 6.5.dup, 6.5.dup_x1, 6.5.dup_x2, 6.5.dup2, 6.5.dup2_x1,
-- 6.5.dup2_x2)
abbrev pub doubled : (copied under : ℕ) → List Value → Option (List Value)
doubled copied under s = do
  p ← split_words copied s
  q ← split_words under p.1
  Some (p.0 ++ (q.0 ++ (p.0 ++ q.1)))

-- the two words at the top in the other order (JVMS 6.5.swap)
abbrev pub swapped : List Value → Option (List Value)
swapped s = do
  p ← one_word s
  q ← one_word p.1
  Some (q.0 ++ (p.0 ++ q.1))
