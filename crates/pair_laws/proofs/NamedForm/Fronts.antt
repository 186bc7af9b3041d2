-- Names in the packages of the library (JVMS 4.2.1).
use Rattle.std.proofs.Common.{◌≡◌, ◌⊎◌, inl, inr, ℕ, ◌-◌, ◌<◌, ◌≤◌, nat_eq, Bool, true, false, List}
use Rattle.std.proofs.Common.{length, take, get_or, codes, sym, ap, ◌∙◌, arith}
use Rattle.std.proofs.lemmas.Bool.{cases_lt}
use Rattle.std.proofs.lemmas.List.{get_or-reverse, get_or-take, length-take-le, length-take}
use Rattle.std.proofs.lemmas.List.Sums.{prefix_len_passes}
use Rattle.std.proofs.Math.Seq.{take-take}
use Rattle.std.specs.Prelude.{reverse}
use Rattle.std.specs.List.{starts_with, suffix_len}
use Rattle.jv_base.proofs.Equality.{text_Decides}
use Rattle.fresh_names.proofs.Fronts.{is_within}
use Rattle.fresh_names.specs.Given.{front_of}

abbrev pub java : List ℕ
java = codes "java/"

-- the name is one of the library's packages
abbrev pub is_java : List ℕ → Bool
is_java name = starts_with nat_eq name java

begins : (name : List ℕ) → is_java name ≡ true → java ≡ take 5 name
begins name h = (text_Decides java (take 5 name)).0 h

long_enough : (name : List ℕ) → java ≡ take 5 name → 5 ≤ length name
long_enough name h =
    let same = ap length h in
    let front = length-take 5 name in
    omega (arith, same, front)

-- the front of such a name has the library's package
long_front : (name : List ℕ) → is_java name ≡ true → 5 ≤ length name - suffix_len is_within name
long_front name h = by (cases_lt (length name - 5) (suffix_len is_within name))
  where
    is : java ≡ take 5 name
    is = begins name h

    low : 5 ≤ length name
    low = long_enough name is

    slash : get_or name 4 0 ≡ 47
    slash = sym (get_or-take 5 name 4 0 (omega arith)) ∙ ap (λ (t : List ℕ). get_or t 4 0) (sym is)

    by : (length name - 5 < suffix_len is_within name) ⊎ (suffix_len is_within name ≤ length name - 5)
        → 5 ≤ length name - suffix_len is_within name
    by (inr few) = omega (arith, low, few)
    by (inl many) =
        let passes = prefix_len_passes is_within (reverse name) (length name - 5) 0 many in
        let at = get_or-reverse name (length name - 5) 0 (omega (arith, low)) in
        let place : length name - 1 - (length name - 5) ≡ 4 = omega (arith, low) in
        let none : false ≡ true =
        ap is_within (sym (at ∙ ap (λ (k : ℕ). get_or name k 0) place ∙ slash)) ∙ passes in
        absurd cc

-- a name whose front is that of such a name is such a name
pub front_java : (name other : List ℕ) → is_java name ≡ true → front_of other ≡ front_of name → is_java other ≡ true
front_java name other h same =
    let m = length name - suffix_len is_within name in
    let n = length other - suffix_len is_within other in
    let long = long_front name h in
    let one = length-take-le m name (omega arith) in
    let two = length-take-le n other (omega arith) in
    let counts = ap length same in
    let behind : 5 ≤ n = omega (arith, long, one, two, counts) in
    let front : take 5 other ≡ take 5 name =
    sym (take-take 5 n other behind) ∙ ap (take 5) same ∙ take-take 5 m name long in
    (text_Decides java (take 5 other)).1 (begins name h ∙ sym front)
