-- How far a pattern and a text are read: each step, and what the steps lead to.
use Rattle.std.proofs.Common.{◌≡◌, ◌≢◌, ℕ, true, false, eqb, List, [], ◌∷◌, ◌++◌, refl, sym, ap, ◌∙◌, subst}
use Rattle.std.proofs.Common.{inl, inr, append_assoc, append-nil, Option, Some, None}
use Rattle.std.specs.Prelude.{MatchOption}
use Rattle.std.proofs.lemmas.Bool.{eqb-true, eqb-false, eq-eqb, not-true, not-false}
use Rattle.std.specs.List.{AllByRecursion}
use Rattle.jv_base.proofs.Lists.{all_append}
use Rattle.keep_match.specs.declared.piece.Piece.{Piece}
use Rattle.keep_match.specs.declared.piece.Piece.TheVariants.{Character, One, Part, Any}
use Rattle.keep_match.specs.bodies.Scan.{EndsBlock, EndsSection, Fails, IsBehindDot, IsBlock, IsNotAny, IsPassed}
use Rattle.keep_match.specs.bodies.Scan.{IsPassedAny, IsPlain, IsRead, IsSame, IsSingle, IsStep, IsStepToBlock}
use Rattle.keep_match.specs.bodies.Scan.{IsStepToSection, allows, is_star}
use Rattle.keep_match.specs.Wildcards.{Begins, HasNoDot, IsPart}
use Rattle.keep_match.proofs.Cutting.{all_front, any_more, begins_append, begins_split, determined}
use Rattle.keep_match.proofs.Cutting.{dominated, dot_cases, first_dot, later, one_of, part_more}

-- ---- what was read

pub read_none : (IsKind : Piece → Type 0) (ps : List Piece) (x : List ℕ) → IsRead IsKind ps x ps x
read_none IsKind ps x = record { read = []; split = refl; kinds = tt; parts = refl }

read_more : (IsKind : Piece → Type 0) (ps qs rs : List Piece) (x y z : List ℕ) → IsRead IsKind ps x qs y
    → IsRead IsKind qs y rs z → IsRead IsKind ps x rs z
read_more IsKind ps qs rs x y z h k = record {
  read = h.read ++ k.read;
  split = h.split ∙ ap (λ (ts : List Piece). h.read ++ ts) k.split ∙ sym (append_assoc h.read k.read rs);
  kinds = all_append IsKind h.read k.read h.kinds k.kinds;
  parts = begins_append h.read k.read x y z h.parts k.parts;
}

kinds_weaker : (ps : List Piece) → AllByRecursion IsSingle ps → AllByRecursion IsNotAny ps
kinds_weaker [] h = tt
kinds_weaker (p ∷ ps) h = (by p h.0, kinds_weaker ps h.1)
  where
    by : (q : Piece) → IsSingle q → IsNotAny q
    by (Character c) e = tt
    by One e = tt
    by Part e = tt
    by Any e = absurd cc

-- what was read matches where the rest does
pub read_back : (IsKind : Piece → Type 0) (ps qs : List Piece) (x y : List ℕ) → IsRead IsKind ps x qs y
    → Begins qs y [] → Begins ps x []
read_back IsKind ps qs x y h k =
    subst (λ (ts : List Piece). Begins ts x []) (sym h.split) (begins_append h.read qs x y [] h.parts k)

-- pieces for one character leave one rest alone
single_only : (ps qs : List Piece) (x y : List ℕ) → IsRead IsSingle ps x qs y → Begins ps x [] → Begins qs y []
single_only ps qs x y h k =
    let cut = begins_split h.read qs x [] (subst (λ (ts : List Piece). Begins ts x []) h.split k) in
    subst (λ (t : List ℕ). Begins qs t []) (determined h.read x cut.0 y h.kinds cut.1 h.parts) cut.2

-- ---- pieces for one character each

allowed : (p : Piece) (c : ℕ) → allows p c ≡ true → IsSingle p × IsPart p (c ∷ [])
allowed (Character d) c e = (refl, ap (λ (b : ℕ). b ∷ []) (eqb-true c d e))
allowed One c e = (refl, (c, refl, eqb-false c 46 (not-true (eqb c 46) e)))
allowed Part c e = absurd cc
allowed Any c e = absurd cc

not_allowed : (p : Piece) (c : ℕ) → IsSingle p → allows p c ≡ false → IsPart p (c ∷ []) → ⊥
not_allowed (Character d) c s e h =
    let same : c ≡ d = cc in
    let t : true ≡ false = sym (eq-eqb c d same) ∙ e in cc
not_allowed One c s e h =
    let same : c ≡ h.0 = let at = h.1 in cc in
    h.2 (sym same ∙ eqb-true c 46 (not-false (eqb c 46) e))
not_allowed Part c s e h = absurd cc
not_allowed Any c s e h = absurd cc

pub single_step : (ps qs rs : List Piece) (x y z : List ℕ) (p : Piece) (c : ℕ) → IsRead IsSingle ps x qs y
    → qs ≡ p ∷ rs → y ≡ c ∷ z → allows p c ≡ true → IsRead IsSingle ps x rs z
single_step ps qs rs x y z p c h e f ok =
    let one = allowed p c ok in
    let next : IsRead IsSingle qs y rs z = record {
      read = p ∷ [];
      split = e;
      kinds = (one.0, tt);
      parts = (c ∷ [], z, f, one.1, refl);
    } in
    read_more IsSingle ps qs rs x y z h next

pub single_refused : (ps qs rs : List Piece) (x y z : List ℕ) (p : Piece) (c : ℕ) → IsRead IsSingle ps x qs y
    → qs ≡ p ∷ rs → y ≡ c ∷ z → is_star p ≡ false → allows p c ≡ false → Fails ps x
single_refused ps qs rs x y z p c h e f star refused k =
    let cut = subst (λ (ts : List Piece). Begins ts y []) e (single_only ps qs x y h k) in
    let one = one_of p cut.0 star cut.3 in
    let at : c ∷ z ≡ one.0 ∷ cut.1 = sym f ∙ cut.2 ∙ ap (λ (t : List ℕ). t ++ cut.1) one.1 in
    let same : one.0 ≡ c = cc in
    not_allowed p c star refused (subst (IsPart p) (one.1 ∙ ap (λ (b : ℕ). b ∷ []) same) cut.3)

pub single_short : (ps qs rs : List Piece) (x y : List ℕ) (p : Piece) → IsRead IsSingle ps x qs y → qs ≡ p ∷ rs
    → y ≡ [] → is_star p ≡ false → Fails ps x
single_short ps qs rs x y p h e f star k =
    let cut = subst (λ (ts : List Piece). Begins ts y []) e (single_only ps qs x y h k) in
    let one = one_of p cut.0 star cut.3 in
    let at : [] ≡ one.0 ∷ cut.1 = sym f ∙ cut.2 ∙ ap (λ (t : List ℕ). t ++ cut.1) one.1 in cc

pub single_long : (ps qs : List Piece) (x y z : List ℕ) (c : ℕ) → IsRead IsSingle ps x qs y → qs ≡ [] → y ≡ c ∷ z
    → Fails ps x
single_long ps qs x y z c h e f k =
    let cut = subst (λ (ts : List Piece). Begins ts y []) e (single_only ps qs x y h k) in
    let at : c ∷ z ≡ [] = sym f ∙ cut in cc

star_ends : (p : Piece) (qs : List Piece) (y : List ℕ) → is_star p ≡ true → EndsBlock (p ∷ qs) y
star_ends (Character c) qs y e = absurd cc
star_ends One qs y e = absurd cc
star_ends Part qs y e = tt
star_ends Any qs y e = tt

pub single_star : (ps qs rs : List Piece) (x y : List ℕ) (p : Piece) → IsRead IsSingle ps x qs y → qs ≡ p ∷ rs
    → is_star p ≡ true → IsBlock ps x qs y
single_star ps qs rs x y p h e star =
    record { read = h; end = subst (λ (ts : List Piece). EndsBlock ts y) (sym e) (star_ends p rs y star) }

pub single_end : (ps qs : List Piece) (x y : List ℕ) → IsRead IsSingle ps x qs y → qs ≡ [] → y ≡ [] → IsBlock ps x qs y
single_end ps qs x y h e f = record { read = h; end = subst (λ (ts : List Piece). EndsBlock ts y) (sym e) f }

-- ---- a `*`

pub passed_none : (ps : List Piece) (x : List ℕ) → IsPassed ps x x
passed_none ps x = record { front = []; split = refl; plain = tt; only = λ h. h }

-- where the pieces behind the star don't fit here, the star takes the character
part_further : (ps : List Piece) (y z : List ℕ) (c : ℕ) → y ≡ c ∷ z → Fails ps y → Begins (Part ∷ ps) y []
    → (c ≢ 46) × Begins (Part ∷ ps) z []
part_further ps y z c e fails h = by h.0 h.2 h.3
  where
    by : (part : List ℕ) → y ≡ part ++ h.1 → HasNoDot part → (c ≢ 46) × Begins (Part ∷ ps) z []
    by [] f n = absurd (fails (subst (λ (t : List ℕ). Begins ps t []) (sym f) h.4))
    by (d ∷ part) f n =
        let at : c ∷ z ≡ d ∷ (part ++ h.1) = sym e ∙ f in
        let same : c ≡ d = cc in
        let rest : z ≡ part ++ h.1 = cc in
        ((λ dot. n.0 (sym same ∙ dot)), (part, h.1, rest, n.1, h.4))

pub passed_one : (ps : List Piece) (x y z : List ℕ) (c : ℕ) → IsPassed ps x y → y ≡ c ∷ z → c ≢ 46 → Fails ps y
    → IsPassed ps x z
passed_one ps x y z c h e other fails = record {
  front = h.front ++ (c ∷ []);
  split = h.split ∙ ap (λ (t : List ℕ). h.front ++ t) e ∙ sym (append_assoc h.front (c ∷ []) z);
  plain = all_append (λ b. b ≢ 46) h.front (c ∷ []) h.plain (other, tt);
  only = λ k. (part_further ps y z c e fails (h.only k)).1;
}

pub passed_to_dot : (ps : List Piece) (x y z : List ℕ) (c : ℕ) → IsPassed ps x y → y ≡ c ∷ z → c ≡ 46 → Fails ps y
    → Fails (Part ∷ ps) x
passed_to_dot ps x y z c h e dot fails k = (part_further ps y z c e fails (h.only k)).0 dot

pub passed_to_end : (ps : List Piece) (x y : List ℕ) → IsPassed ps x y → y ≡ [] → Fails ps y → Fails (Part ∷ ps) x
passed_to_end ps x y h e fails k = by (h.only k)
  where
    by : Begins (Part ∷ ps) y [] → ⊥
    by cut = at cut.0 cut.2
      where
        at : (part : List ℕ) → y ≡ part ++ cut.1 → ⊥
        at [] f = fails (subst (λ (t : List ℕ). Begins ps t []) (sym f) cut.4)
        at (d ∷ part) f = let none : [] ≡ d ∷ (part ++ cut.1) = sym e ∙ f in cc

-- what is left at the first place matches where what is left at a later one does
block_only : (qs : List Piece) (b y z : List ℕ) → EndsBlock qs y → y ≡ b ++ z → HasNoDot b → Begins qs z []
    → Begins qs y []
block_only [] b y z end e n h = end
block_only (Character c ∷ qs) b y z end e n h = absurd end
block_only (One ∷ qs) b y z end e n h = absurd end
block_only (Part ∷ qs) b y z end e n h = part_more qs y b z [] e n h
block_only (Any ∷ qs) b y z end e n h = any_more qs y b z [] e h

pub passed_found : (ps qs : List Piece) (x y z : List ℕ) → IsPassed ps x y → IsBlock ps y qs z
    → IsStepToBlock (Part ∷ ps) x qs z
passed_found ps qs x y z h k = record {
  step = record {
    read = record {
      read = Part ∷ k.read.read;
      split = ap (λ (ts : List Piece). Part ∷ ts) k.read.split;
      kinds = (tt, kinds_weaker k.read.read k.read.kinds);
      parts = (h.front, y, h.split, h.plain, k.read.parts);
    };
    only = λ m. by (h.only m);
  };
  end = k.end;
}
  where
    by : Begins (Part ∷ ps) y [] → Begins qs z []
    by m =
        let cut = begins_split k.read.read qs m.1 [] (subst (λ (ts : List Piece). Begins ts m.1 []) k.read.split m.4) in
        let start = subst (λ (t : List ℕ). Begins k.read.read t z) m.2 k.read.parts in
        let b = dominated k.read.read m.0 m.1 z cut.0 k.read.kinds m.3 start cut.1 in
        block_only qs b.0 z cut.0 k.end b.1 b.2 cut.2

-- ---- from star to star

pub step_none : (ps : List Piece) (x : List ℕ) → IsStep ps x ps x
step_none ps x = record { read = read_none IsNotAny ps x; only = λ h. h }

step_more : (ps qs rs : List Piece) (x y z : List ℕ) → IsStep ps x qs y → IsStep qs y rs z → IsStep ps x rs z
step_more ps qs rs x y z h k = record {
  read = read_more IsNotAny ps qs rs x y z h.read k.read;
  only = λ m. k.only (h.only m);
}

pub block_none : (ps : List Piece) (x : List ℕ) → EndsBlock ps x → IsStepToBlock ps x ps x
block_none ps x end = record { step = step_none ps x; end = end }

pub block_more : (ps qs rs ts : List Piece) (x y z : List ℕ) (p : Piece) → IsStepToBlock ps x qs y → qs ≡ p ∷ rs
    → p ≡ Part → IsStepToBlock (Part ∷ rs) y ts z → IsStepToBlock ps x ts z
block_more ps qs rs ts x y z p h e f k =
    let at : Part ∷ rs ≡ qs = sym (e ∙ ap (λ (q : Piece). q ∷ rs) f) in
    let next = subst (λ (us : List Piece). IsStepToBlock us y ts z) at k in
    record { step = step_more ps qs ts x y z h.step next.step; end = next.end }

pub block_fails : (ps qs rs : List Piece) (x y : List ℕ) (p : Piece) → IsStepToBlock ps x qs y → qs ≡ p ∷ rs
    → p ≡ Part → Fails (Part ∷ rs) y → Fails ps x
block_fails ps qs rs x y p h e f fails m =
    let at : qs ≡ Part ∷ rs = e ∙ ap (λ (q : Piece). q ∷ rs) f in
    fails (subst (λ (us : List Piece). Begins us y []) at (h.step.only m))

pub section_end : (ps qs : List Piece) (x y : List ℕ) → IsStepToBlock ps x qs y → qs ≡ [] → IsStepToSection ps x qs y
section_end ps qs x y h e = record {
  step = h.step;
  end = subst (λ (us : List Piece). EndsSection us y) (sym e) (subst (λ (us : List Piece). EndsBlock us y) e h.end);
}

other_ends : (p : Piece) (rs : List Piece) (y : List ℕ) → EndsBlock (p ∷ rs) y → (p ≡ Part → ⊥) → EndsSection (p ∷ rs) y
other_ends (Character c) rs y end other = end
other_ends One rs y end other = end
other_ends Part rs y end other = absurd (other refl)
other_ends Any rs y end other = tt

pub section_stars : (ps qs rs : List Piece) (x y : List ℕ) (p : Piece) → IsStepToBlock ps x qs y → qs ≡ p ∷ rs
    → (p ≡ Part → ⊥) → IsStepToSection ps x qs y
section_stars ps qs rs x y p h e other = record {
  step = h.step;
  end = subst (λ (us : List Piece). EndsSection us y) (sym e)
      (other_ends p rs y (subst (λ (us : List Piece). EndsBlock us y) e h.end) other);
}

-- ---- two calls in a row

single_section : (ps qs rs : List Piece) (x y z : List ℕ) → IsBlock ps x qs y → IsStepToSection qs y rs z
    → IsStepToSection ps x rs z
single_section ps qs rs x y z h k = record {
  step = step_more ps qs rs x y z (record {
    read = record {
      read = h.read.read;
      split = h.read.split;
      kinds = kinds_weaker h.read.read h.read.kinds;
      parts = h.read.parts;
    };
    only = single_only ps qs x y h.read;
  }) k.step;
  end = k.end;
}

pub to_section_found : (ps qs rs : List Piece) (x y z : List ℕ) → IsBlock ps x qs y → IsStepToSection qs y rs z
    → IsStepToSection ps x rs z
to_section_found ps qs rs x y z h k = single_section ps qs rs x y z h k

pub to_section_fails : (ps qs : List Piece) (x y : List ℕ) → IsBlock ps x qs y → Fails qs y → Fails ps x
to_section_fails ps qs x y h fails m = fails (single_only ps qs x y h.read m)

pub part_section_found : (ps qs rs : List Piece) (x y z : List ℕ) → IsStepToBlock ps x qs y → IsStepToSection qs y rs z
    → IsStepToSection ps x rs z
part_section_found ps qs rs x y z h k = record { step = step_more ps qs rs x y z h.step k.step; end = k.end }

pub part_section_fails : (ps qs : List Piece) (x y : List ℕ) → IsStepToBlock ps x qs y → Fails qs y → Fails ps x
part_section_fails ps qs x y h fails m = fails (h.step.only m)

-- ---- a `**`

pub passed_any_none : (ps : List Piece) (x : List ℕ) → IsPassedAny ps x x
passed_any_none ps x = record { front = []; split = refl; only = λ h. h }

-- where the pieces behind the stars fit nowhere before the next dot, the stars take the dot
any_further : (ps : List Piece) (y z : List ℕ) → IsBehindDot y z → Fails (Part ∷ ps) y → Begins (Any ∷ ps) y []
    → Begins (Any ∷ ps) z []
any_further ps y z d fails h =
    elim (first_dot d.front z h.0 h.1 (sym d.split ∙ h.2) d.plain) [
      | inl n ↦ absurd (fails (h.0, h.1, h.2, n, h.4))
      | inr c ↦ (c.0, h.1, c.1, tt, h.4)
    ]

pub passed_any_dot : (ps : List Piece) (x y z : List ℕ) → IsPassedAny ps x y → IsBehindDot y z → Fails (Part ∷ ps) y
    → IsPassedAny ps x z
passed_any_dot ps x y z h d fails = record {
  front = h.front ++ (d.front ++ (46 ∷ []));
  split = h.split ∙ ap (λ (t : List ℕ). h.front ++ t) (d.split ∙ sym (append_assoc d.front (46 ∷ []) z))
      ∙ sym (append_assoc h.front (d.front ++ (46 ∷ [])) z);
  only = λ k. any_further ps y z d fails (h.only k);
}

pub passed_any_end : (ps : List Piece) (x y : List ℕ) → IsPassedAny ps x y → HasNoDot y → Fails (Part ∷ ps) y
    → Fails (Any ∷ ps) x
passed_any_end ps x y h n fails k =
    let cut = h.only k in
    fails (
      cut.0,
      cut.1,
      cut.2,
      all_front (λ b. b ≢ 46) cut.0 cut.1
          (subst (λ (t : List ℕ). HasNoDot t) cut.2 n),
      cut.4,
    )

section_only : (qs : List Piece) (b y z : List ℕ) → EndsSection qs y → y ≡ b ++ z → Begins qs z [] → Begins qs y []
section_only [] b y z end e h = end
section_only (Character c ∷ qs) b y z end e h = absurd end
section_only (One ∷ qs) b y z end e h = absurd end
section_only (Part ∷ qs) b y z end e h = absurd end
section_only (Any ∷ qs) b y z end e h = any_more qs y b z [] e h

pub passed_any_found : (ps qs : List Piece) (x y z : List ℕ) → IsPassedAny ps x y → IsStepToSection (Part ∷ ps) y qs z
    → IsSame (Any ∷ ps) x qs z
passed_any_found ps qs x y z h k = record {
  only = λ m. by (h.only m);
  back = λ m.
      let cut = read_back IsNotAny (Part ∷ ps) qs y z k.step.read m in
      any_more ps x h.front y [] h.split (cut.0, cut.1, cut.2, tt, cut.4);
  end = k.end;
}
  where
    by : Begins (Any ∷ ps) y [] → Begins qs z []
    by m = elim (dot_cases m.0) [
      | inl n ↦ k.step.only (m.0, m.1, m.2, n, m.4)
      | inr dot ↦
          let here : Begins (Part ∷ ps) m.1 [] = ([], m.1, refl, tt, m.4) in
          let cut = begins_split k.step.read.read qs m.1 []
          (subst (λ (ts : List Piece). Begins ts m.1 []) k.step.read.split here) in
          let b = later k.step.read.read y m.0 m.1 z cut.0 k.step.read.kinds m.2 dot k.step.read.parts cut.1 in
          section_only qs b.0 z cut.0 k.end b.1 cut.2
    ]

-- ---- the whole

pub same_from_section : (ps qs : List Piece) (x y : List ℕ) → IsStepToSection ps x qs y → IsSame ps x qs y
same_from_section ps qs x y h = record {
  only = h.step.only;
  back = λ m. read_back IsNotAny ps qs x y h.step.read m;
  end = h.end;
}

-- two stars come next where anything does
stars_next : (p : Piece) (rs : List Piece) (y : List ℕ) → EndsSection (p ∷ rs) y → p ≡ Any
stars_next (Character c) rs y end = absurd end
stars_next One rs y end = absurd end
stars_next Part rs y end = absurd end
stars_next Any rs y end = refl

next_is : (qs rs : List Piece) (y : List ℕ) (p : Piece) → qs ≡ p ∷ rs → EndsSection qs y → qs ≡ Any ∷ rs
next_is qs rs y p e end =
    let any = stars_next p rs y (subst (λ (us : List Piece). EndsSection us y) e end) in
    e ∙ ap (λ (q : Piece). q ∷ rs) any

pub same_more : (ps qs rs ts : List Piece) (x y z : List ℕ) (p : Piece) → IsSame ps x qs y → qs ≡ p ∷ rs
    → IsSame (Any ∷ rs) y ts z → IsSame ps x ts z
same_more ps qs rs ts x y z p h e k =
    let at = next_is qs rs y p e h.end in
    record {
      only = λ m. k.only (subst (λ (us : List Piece). Begins us y []) at (h.only m));
      back = λ m. h.back (subst (λ (us : List Piece). Begins us y []) (sym at) (k.back m));
      end = k.end;
    }

pub same_fails : (ps qs rs : List Piece) (x y : List ℕ) (p : Piece) → IsSame ps x qs y → qs ≡ p ∷ rs
    → Fails (Any ∷ rs) y → Fails ps x
same_fails ps qs rs x y p h e fails m =
    fails (subst (λ (us : List Piece). Begins us y []) (next_is qs rs y p e h.end) (h.only m))

pub same_end : (ps qs : List Piece) (x y : List ℕ) → IsSame ps x qs y → qs ≡ [] → Begins ps x []
same_end ps qs x y h e =
    h.back (subst (λ (us : List Piece). Begins us y []) (sym e) (subst (λ (us : List Piece). EndsSection us y) e h.end))

-- ---- behind the first dot

pub plain_none : (x : List ℕ) → IsPlain x x
plain_none x = record { front = []; split = refl; plain = tt }

pub plain_one : (x y z : List ℕ) (c : ℕ) → IsPlain x y → y ≡ c ∷ z → c ≢ 46 → IsPlain x z
plain_one x y z c h e other = record {
  front = h.front ++ (c ∷ []);
  split = h.split ∙ ap (λ (t : List ℕ). h.front ++ t) e ∙ sym (append_assoc h.front (c ∷ []) z);
  plain = all_append (λ b. b ≢ 46) h.front (c ∷ []) h.plain (other, tt);
}

pub dot_here : (x y z : List ℕ) (c : ℕ) → IsPlain x y → y ≡ c ∷ z → c ≡ 46 → IsBehindDot x z
dot_here x y z c h e dot = record {
  front = h.front;
  split = h.split ∙ ap (λ (t : List ℕ). h.front ++ t) (e ∙ ap (λ (b : ℕ). b ∷ z) dot);
  plain = h.plain;
}

pub plain_end : (x y : List ℕ) → IsPlain x y → y ≡ [] → HasNoDot x
plain_end x y h e =
    subst (λ (t : List ℕ). HasNoDot t)
    (sym (h.split ∙ ap (λ (t : List ℕ). h.front ++ t) e ∙ append-nil h.front)) h.plain

-- ---- what is known of an answer

pub match_further : {A : Type 0} (o : Option A) (P R : Type 0) (Q S : A → Type 0) → MatchOption o P Q → (P → R)
    → ((a : A) → Q a → S a) → MatchOption o R S
match_further None P R Q S h f g = f h
match_further (Some a) P R Q S h f g = g a h
