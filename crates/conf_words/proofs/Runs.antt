-- The bytes before the first one that passes a test.
use Rattle.std.proofs.Common.{◌≡◌, ℕ, suc, ◌+◌, Bool, true, false, cond, not, List, [], ◌∷◌, ◌++◌}
use Rattle.std.proofs.Common.{length, take, drop, refl, sym, arith}
use Rattle.std.specs.Prelude.{IsTrue}
use Rattle.std.specs.List.{before_first, position_or_len}
use Rattle.std.proofs.lemmas.List.Folds.{length-prefix_len}
use Rattle.std.proofs.lemmas.List.{take-append-drop, take_at}
use Rattle.conf_words.specs.Pieces.{Lacks, stops}

suc_of : (n : ℕ) → 1 + n ≡ suc n
suc_of n = omega arith

lacks_by : (test : ℕ → Bool) (b : ℕ) (text : List ℕ) (t : Bool) → test b ≡ t → Lacks test (before_first test text)
    → Lacks test (take (cond (not t) (1 + position_or_len test text) 0) (b ∷ text))
lacks_by test b text true e h = refl
lacks_by test b text false e h = rw (suc_of (position_or_len test text), e) h

-- what stands before the first byte that passes has none
pub lacks_before : (test : ℕ → Bool) (text : List ℕ) → Lacks test (before_first test text)
lacks_before test [] = refl
lacks_before test (b ∷ text) = lacks_by test b text (test b) refl (lacks_before test text)

stops_by : (test : ℕ → Bool) (b : ℕ) (text : List ℕ) (t : Bool) → test b ≡ t
    → IsTrue (stops test (drop (position_or_len test text) text))
    → IsTrue (stops test (drop (cond (not t) (1 + position_or_len test text) 0) (b ∷ text)))
stops_by test b text true e h = e
stops_by test b text false e h = rw (suc_of (position_or_len test text)) h

-- behind it stands that byte, or nothing
pub stops_behind : (test : ℕ → Bool) (text : List ℕ) → IsTrue (stops test (drop (position_or_len test text) text))
stops_behind test [] = refl
stops_behind test (b ∷ text) = stops_by test b text (test b) refl (stops_behind test text)

-- a text is what stands before, and what stands behind
pub both : (test : ℕ → Bool) (text : List ℕ) → text ≡ before_first test text ++ drop (position_or_len test text) text
both test text = sym (take-append-drop (position_or_len test text) text)

-- how long that is
pub length_before : (test : ℕ → Bool) (text : List ℕ) → position_or_len test text ≡ length (before_first test text)
length_before test text = sym (length-prefix_len (λ b. not (test b)) text)

lacks_first : (test : ℕ → Bool) (b : ℕ) (text : List ℕ) (t : Bool) → test b ≡ t → Lacks test (b ∷ text)
    → (test b ≡ false) × Lacks test text
lacks_first test b text true e h = absurd (let no : false ≡ true = rw e at h in cc)
lacks_first test b text false e h = (e, rw e at h)

-- no byte of a text without such bytes passes
pub lacks_both : (test : ℕ → Bool) (b : ℕ) (text : List ℕ) → Lacks test (b ∷ text) → (test b ≡ false) × Lacks test text
lacks_both test b text h = lacks_first test b text (test b) refl h

-- where the first byte that passes stands
pub length_is : (test : ℕ → Bool) (front rest : List ℕ) → Lacks test front → IsTrue (stops test rest)
    → position_or_len test (front ++ rest) ≡ length front
length_is test [] [] h s = refl
length_is test [] (b ∷ rest) h s = rw s refl
length_is test (b ∷ front) rest h s =
    let k = lacks_both test b front h in
    rw (k.0, length_is test front rest k.1 s) (suc_of (length front))

-- what stands before it
pub front_is : (test : ℕ → Bool) (front rest : List ℕ) → Lacks test front → IsTrue (stops test rest)
    → before_first test (front ++ rest) ≡ front
front_is test front rest h s = rw (length_is test front rest h s) (take_at front rest (length front) refl)
