-- The generated classes pass no limit of the format.
use Rattle.std.proofs.Common.{◌≡◌, ℕ, suc, ◌+◌, ◌^◌, ◌<◌, ◌≤◌, ℤ, pos, negsuc, Bool, true, false, cond, List, []}
use Rattle.std.proofs.Common.{◌∷◌, ◌++◌, length, Some, Result, Ok, Err, codes, refl, sym, ap, ◌∙◌, subst}
use Rattle.std.proofs.Common.{arith}
use Rattle.std.specs.Prelude.{nat_le, ◌+ℤ◌}
use Rattle.std.specs.Int.{cast_unsigned, w8, w16}
use Rattle.std.specs.List.{AllByRecursion, list_any}
use Rattle.std.specs.Str.{chars}
use Rattle.std.proofs.lemmas.Bool.{le-leb, lt-ltb}
use Rattle.std.proofs.lemmas.List.{length-append}
use Rattle.indexmap.specs.IndexSet.{insert_all, insert_key}
use Rattle.jv_base.specs.Mutf8.{mutf8, unit_bytes}
use Rattle.jv_base.specs.Outcome.{◌>>=◌}
use Rattle.jv_base.specs.Types.{argument_words, base_text, field_text, method_text, result_text, words_of}
use Rattle.jv_base.specs.Utf16.{units_of}
use Rattle.class_model.specs.declared.class.Class.{Class}
use Rattle.class_model.specs.declared.class.Method.{Method}
use Rattle.class_model.specs.declared.constant.PoolConstant.{PoolConstant}
use Rattle.class_model.specs.declared.constant.PoolConstant.TheVariants.{Integer, Utf8}
use Rattle.class_model.specs.declared.limit.WriteLimit.{WriteLimit}
use Rattle.class_model.specs.declared.limit.WriteLimit.TheVariants.{AttributeTooLong, CodeTooLong, PoolFull, TextTooLong}
use Rattle.class_model.specs.declared.code.Code.{Code}
use Rattle.class_model.specs.declared.op.ArithOp.TheVariants as computed
use Rattle.class_model.specs.declared.op.Kind.TheVariants as kind
use Rattle.class_model.specs.declared.op.Num.TheVariants as num
use Rattle.class_model.specs.declared.op.Op.TheVariants as op
use Rattle.class_model.specs.Between.{int_between}
use Rattle.class_model.specs.CanonicalClass.{code_contents, first_locals, method_constants, pool_of, wanted}
use Rattle.class_model.specs.CanonicalCode.{code_bytes, is_short, places, push_int, pushed_constants}
use Rattle.class_model.specs.CanonicalPool.{class_constants, filled, index_of, same, text_constants}
use Rattle.class_model.specs.InstructionStructure.{Bipush, Ldc, LdcWide, Plain, Sipush, info_bytes}
use Rattle.class_model.specs.OpcodeNames.{LDC_W}
use Rattle.class_model.specs.WriteLimits.{body_fits, branches_fit, code_fits, first_of, fits_u2, limits}
use Rattle.class_model.specs.WriteLimits.{tables_fit, text_fits}
use Rattle.class_laws.proofs.SpelledLists.{all_put}
use Rattle.gen_classes.specs.Generated.{adding, caller_of, calling, code_of, constructor, dead, int_to_int, interface_class}
use Rattle.gen_classes.specs.Generated.{interface_name, object_name, plain_of}
use Rattle.gen_classes.proofs.Named.{IsNamed}

-- ---- limits of any class

-- nothing is passed
abbrev Passes : Result (Unit {0}) WriteLimit → Type 0
Passes r = r ≡ Ok tt

-- the first thing passes, and what follows it gives this
then_gives : {B : Type 0} (r : Result (Unit {0}) WriteLimit) (next : Unit {0} → Result B WriteLimit)
    (given : Result B WriteLimit) → Passes r → next tt ≡ given → (r >>= next) ≡ given
then_gives r next given h k = (λ i. h i >>= next) ∙ k

each_passes : {A : Type 0} (check : A → Result (Unit {0}) WriteLimit) (xs : List A)
    → AllByRecursion (λ x. Passes (check x)) xs → Passes (first_of check xs)
each_passes check [] all = refl
each_passes check (x ∷ xs) all =
    then_gives (check x) (λ _. first_of check xs) (Ok tt) all.0 (each_passes check xs all.1)

small_passes : (limit : ℕ → WriteLimit) (n : ℕ) → n < 2 ^ 16 → Passes (fits_u2 limit n)
small_passes limit n lt =
    ap (λ (b : Bool). cond b (let R : Result (Unit {0}) WriteLimit = Ok tt in R) (Err (limit n))) (lt-ltb n (2 ^ 16) lt)

-- the constants that are put aren't more than those that are wanted
put_few : (wants ks : List PoolConstant) → length (insert_all same ks wants) ≤ length ks + length wants
put_few [] ks = omega arith
put_few (k ∷ wants) ks = omega (arith, put_few wants (insert_key same ks k), one (list_any (same k) ks))
  where
    one : (b : Bool) → length (cond b ks (ks ++ k ∷ [])) ≤ length ks + 1
    one true = omega arith
    one false = omega (arith, length-append ks (k ∷ []))

module _ (c : Class) (few : length (wanted c) < 65535) (texts : AllByRecursion (λ k. Passes (text_fits k)) (wanted c)) where
  pool_passes : Passes (fits_u2 (λ n. PoolFull n) (length (pool_of c) + 1))
  unfolding filled pool_of
  pool_passes = small_passes (λ n. PoolFull n) (length (pool_of c) + 1) (omega (arith, few, put_few (wanted c) []))

  texts_pass : Passes (first_of text_fits (pool_of c))
  unfolding filled pool_of
  texts_pass = each_passes text_fits (pool_of c) (all_put (λ k. Passes (text_fits k)) same (wanted c) [] tt texts)

  whole : AllByRecursion (λ (m : Method). Passes (code_fits (pool_of c) m.code)) c.methods → Passes (tables_fit c)
      → AllByRecursion (λ (m : Method). Passes (body_fits (pool_of c) c.name m)) c.methods
      → Passes (limits (pool_of c) c)
  unfolding limits
  whole codes tables bodies =
      then_gives _ _ _ pool_passes
      (then_gives _ _ _ texts_pass
      (then_gives _ _ _ (each_passes (λ (m : Method). code_fits (pool_of c) m.code) c.methods codes)
      (then_gives _ _ _ tables (each_passes (body_fits (pool_of c) c.name) c.methods bodies))))

-- ---- what is added

name_passes : (name : List ℕ) → IsNamed name → Passes (text_fits (Utf8 (units_of name)))
name_passes name is =
    ap (λ (b : Bool). cond b (let R : Result (Unit {0}) WriteLimit = Ok tt in R)
    (Err (TextTooLong (length (mutf8 (units_of name)))))) is.fits

none_pushed : (i : ℕ) → i ≤ 4000 → pushed_constants (op.PushInt (pos i)) ≡ []
none_pushed i few =
    ap (λ (b : Bool). cond b [] (Integer (pos i) ∷ [])) (le-leb i 32767 (omega (arith, few)))

push_short : (pool : List PoolConstant) (n : ℤ) → length (info_bytes (push_int pool n)) ≤ 3
push_short pool n =
    on (int_between (negsuc 0) (pos 5) n) (int_between (negsuc 127) (pos 127) n) (is_short n)
    (nat_le (index_of pool (Integer n)) 255)
  where
    on : (a b c d : Bool) → length (info_bytes (cond a (Plain (cast_unsigned w8 (n +ℤ pos 3)))
        (cond b (Bipush (cast_unsigned w8 n)) (cond c (Sipush (cast_unsigned w16 n))
        (cond d (Ldc (index_of pool (Integer n))) (LdcWide LDC_W (index_of pool (Integer n)))))))) ≤ 3
    on true b c d = omega arith
    on false true c d = omega arith
    on false false true d = omega arith
    on false false false true = omega arith
    on false false false false = omega arith

-- ---- the class that calls others

-- v of it, where these are pushed
abbrev pushing : List PoolConstant → List PoolConstant
pushing ks = text_constants (codes "v") ++ (text_constants (method_text int_to_int) ++ (text_constants (codes "Code")
    ++ ((ks ++ []) ++ [])))

-- what it wants, where these are pushed
abbrev wanted_with : List ℕ → List (List ℕ) → List PoolConstant → List PoolConstant
wanted_with name others ks =
    ((ks ++ []) ++ []) ++ (class_constants name ++ (class_constants object_name ++ (class_constants interface_name
    ++ (method_constants name constructor ++ ((pushing ks ++ []) ++ (method_constants name (calling name others)
    ++ (method_constants name dead ++ []))) ++ []))))

module _ (pool : List PoolConstant) (name : List ℕ) (i : ℕ) where
  abbrev code : Code
  code = code_of 2 2
      (op.Load kind.Int 1 ∷ op.PushInt (pos i) ∷ op.Arith computed.Add num.Int ∷ op.Return (Some kind.Int) ∷ []) []

  abbrev bytes : List ℕ
  bytes = code_bytes pool (places pool code.ins) code.ins

  abbrev pushed : List ℕ
  pushed = info_bytes (push_int pool (pos i))

  bytes_long : length bytes ≡ suc (length pushed + 2)
  unfolding places code_bytes
  bytes_long = ap suc (length-append pushed (96 ∷ 172 ∷ []))

  adding_code : Passes (code_fits pool (adding i).code)
  adding_code =
      then_gives (fits_u2 (λ n. CodeTooLong n) (length bytes)) (λ _. branches_fit (places pool code.ins) 0 code.ins)
      (Ok tt)
      (small_passes (λ n. CodeTooLong n) (length bytes) (omega (arith, bytes_long, push_short pool (pos i)))) refl

  abbrev contents : List ℕ
  contents = code_contents pool (first_locals name (adding i)) code

  contents_long : length contents ≡ suc (suc (suc (suc (suc (suc (suc (suc (length bytes + 4))))))))
  contents_long = ap (λ n. suc (suc (suc (suc (suc (suc (suc (suc n)))))))) (length-append bytes (0 ∷ 0 ∷ 0 ∷ 0 ∷ []))

  adding_body : Passes (body_fits pool name (adding i))
  adding_body =
      ap (λ (b : Bool). cond b (let R : Result (Unit {0}) WriteLimit = Ok tt in R) (Err (AttributeTooLong (length contents))))
      (lt-ltb (length contents) (2 ^ 32) (omega (arith, contents_long, bytes_long, push_short pool (pos i))))

module _ (name : List ℕ) (is : IsNamed name) (i : ℕ) (few : i ≤ 4000) where
  abbrev class : List (List ℕ) → Class
  class others = caller_of name i others

  abbrev Written : List (List ℕ) → Type 0
  Written others = Passes (limits (pool_of (class others)) (class others))

  wanted_of_none : wanted (class []) ≡ wanted_with name [] []
  wanted_of_none = ap (wanted_with name []) (none_pushed i few)

  texts_of_none : AllByRecursion (λ k. Passes (text_fits k)) (wanted_with name [] [])
  unfolding lib.Utf8.encode chars units_of unit_bytes mutf8 base_text field_text result_text method_text
  texts_of_none =
      let own = name_passes name is in (
        own,
        (
          refl,
          (
            refl,
            (
              refl,
              (
                refl,
                (
                  refl,
                  (
                    refl,
                    (
                      refl,
                      (
                        refl,
                        (
                          refl,
                          (
                            refl,
                            (
                              refl,
                              (
                                refl,
                                (
                                  refl,
                                  (
                                    refl,
                                    (
                                      refl,
                                      (
                                        refl,
                                        (
                                          refl,
                                          (
                                            refl,
                                            (
                                              refl,
                                              (
                                                refl,
                                                (
                                                  own,
                                                  (
                                                    refl,
                                                    (
                                                      own,
                                                      (
                                                        refl,
                                                        (
                                                          refl,
                                                          (
                                                            refl,
                                                            (
                                                              refl,
                                                              (
                                                                refl,
                                                                (
                                                                  refl,
                                                                  (
                                                                    refl,
                                                                    (refl, (refl, (refl, (refl, (refl, (refl, (refl, (refl, tt)))))))),
                                                                  ),
                                                                ),
                                                              ),
                                                            ),
                                                          ),
                                                        ),
                                                      ),
                                                    ),
                                                  ),
                                                ),
                                              ),
                                            ),
                                          ),
                                        ),
                                      ),
                                    ),
                                  ),
                                ),
                              ),
                            ),
                          ),
                        ),
                      ),
                    ),
                  ),
                ),
              ),
            ),
          ),
        ),
      )

  calls_none : Written []
  unfolding places code_bytes
  calls_none =
      whole (class []) (subst (λ (ks : List PoolConstant). length ks < 65535) (sym wanted_of_none) (omega arith))
      (subst (AllByRecursion (λ k. Passes (text_fits k))) (sym wanted_of_none) texts_of_none)
      (refl, (adding_code (pool_of (class [])) name i, (refl, (refl, tt)))) refl
      (refl, (adding_body (pool_of (class [])) name i, (refl, (refl, tt))))

  module _ (a : List ℕ) (first : IsNamed a) where
    abbrev one_name : List (List ℕ)
    one_name = a ∷ []

    wanted_of_one : wanted (class one_name) ≡ wanted_with name one_name []
    wanted_of_one = ap (wanted_with name one_name) (none_pushed i few)

    texts_of_one : AllByRecursion (λ k. Passes (text_fits k)) (wanted_with name one_name [])
    unfolding lib.Utf8.encode chars units_of unit_bytes mutf8 base_text field_text result_text method_text
    texts_of_one =
        let own = name_passes name is in
        let one = name_passes a first in (
          own,
          (
            refl,
            (
              refl,
              (
                refl,
                (
                  refl,
                  (
                    refl,
                    (
                      refl,
                      (
                        refl,
                        (
                          refl,
                          (
                            refl,
                            (
                              refl,
                              (
                                refl,
                                (
                                  refl,
                                  (
                                    refl,
                                    (
                                      refl,
                                      (
                                        refl,
                                        (
                                          refl,
                                          (
                                            refl,
                                            (
                                              refl,
                                              (
                                                refl,
                                                (
                                                  refl,
                                                  (
                                                    own,
                                                    (
                                                      refl,
                                                      (
                                                        own,
                                                        (
                                                          refl,
                                                          (
                                                            refl,
                                                            (
                                                              refl,
                                                              (
                                                                refl,
                                                                (
                                                                  refl,
                                                                  (
                                                                    refl,
                                                                    (
                                                                      refl,
                                                                      (
                                                                        refl,
                                                                        (
                                                                          refl,
                                                                          (
                                                                            refl,
                                                                            (
                                                                              refl,
                                                                              (
                                                                                one,
                                                                                (
                                                                                  refl,
                                                                                  (
                                                                                    refl,
                                                                                    (
                                                                                      refl,
                                                                                      (
                                                                                        refl,
                                                                                        (
                                                                                          refl,
                                                                                          (
                                                                                            refl,
                                                                                            (
                                                                                              refl,
                                                                                              (
                                                                                                refl,
                                                                                                (
                                                                                                  refl,
                                                                                                  tt,
                                                                                                ),
                                                                                              ),
                                                                                            ),
                                                                                          ),
                                                                                        ),
                                                                                      ),
                                                                                    ),
                                                                                  ),
                                                                                ),
                                                                              ),
                                                                            ),
                                                                          ),
                                                                        ),
                                                                      ),
                                                                    ),
                                                                  ),
                                                                ),
                                                              ),
                                                            ),
                                                          ),
                                                        ),
                                                      ),
                                                    ),
                                                  ),
                                                ),
                                              ),
                                            ),
                                          ),
                                        ),
                                      ),
                                    ),
                                  ),
                                ),
                              ),
                            ),
                          ),
                        ),
                      ),
                    ),
                  ),
                ),
              ),
            ),
          ),
        )

    calls_one : Written one_name
    unfolding places code_bytes
    calls_one =
        whole (class one_name)
        (subst (λ (ks : List PoolConstant). length ks < 65535) (sym wanted_of_one) (omega arith))
        (subst (AllByRecursion (λ k. Passes (text_fits k))) (sym wanted_of_one) texts_of_one)
        (refl, (adding_code (pool_of (class one_name)) name i, (refl, (refl, tt)))) refl
        (refl, (adding_body (pool_of (class one_name)) name i, (refl, (refl, tt))))

    module _ (b : List ℕ) (second : IsNamed b) where
      abbrev two_names : List (List ℕ)
      two_names = a ∷ b ∷ []

      wanted_of_two : wanted (class two_names) ≡ wanted_with name two_names []
      wanted_of_two = ap (wanted_with name two_names) (none_pushed i few)

      texts_of_two : AllByRecursion (λ k. Passes (text_fits k)) (wanted_with name two_names [])
      unfolding lib.Utf8.encode chars units_of unit_bytes mutf8 base_text field_text result_text method_text
      texts_of_two =
          let own = name_passes name is in
          let one = name_passes a first in
          let other = name_passes b second in (
            own,
            (
              refl,
              (
                refl,
                (
                  refl,
                  (
                    refl,
                    (
                      refl,
                      (
                        refl,
                        (
                          refl,
                          (
                            refl,
                            (
                              refl,
                              (
                                refl,
                                (
                                  refl,
                                  (
                                    refl,
                                    (
                                      refl,
                                      (
                                        refl,
                                        (
                                          refl,
                                          (
                                            refl,
                                            (
                                              refl,
                                              (
                                                refl,
                                                (
                                                  refl,
                                                  (
                                                    refl,
                                                    (
                                                      own,
                                                      (
                                                        refl,
                                                        (
                                                          own,
                                                          (
                                                            refl,
                                                            (
                                                              refl,
                                                              (
                                                                refl,
                                                                (
                                                                  refl,
                                                                  (
                                                                    refl,
                                                                    (
                                                                      refl,
                                                                      (
                                                                        refl,
                                                                        (
                                                                          refl,
                                                                          (
                                                                            refl,
                                                                            (
                                                                              refl,
                                                                              (
                                                                                refl,
                                                                                (
                                                                                  one,
                                                                                  (
                                                                                    refl,
                                                                                    (
                                                                                      refl,
                                                                                      (
                                                                                        refl,
                                                                                        (
                                                                                          refl,
                                                                                          (
                                                                                            refl,
                                                                                            (
                                                                                              other,
                                                                                              (
                                                                                                refl,
                                                                                                (
                                                                                                  refl,
                                                                                                  (
                                                                                                    refl,
                                                                                                    (
                                                                                                      refl,
                                                                                                      (refl, (refl, (refl, (refl, (refl, tt))))),
                                                                                                    ),
                                                                                                  ),
                                                                                                ),
                                                                                              ),
                                                                                            ),
                                                                                          ),
                                                                                        ),
                                                                                      ),
                                                                                    ),
                                                                                  ),
                                                                                ),
                                                                              ),
                                                                            ),
                                                                          ),
                                                                        ),
                                                                      ),
                                                                    ),
                                                                  ),
                                                                ),
                                                              ),
                                                            ),
                                                          ),
                                                        ),
                                                      ),
                                                    ),
                                                  ),
                                                ),
                                              ),
                                            ),
                                          ),
                                        ),
                                      ),
                                    ),
                                  ),
                                ),
                              ),
                            ),
                          ),
                        ),
                      ),
                    ),
                  ),
                ),
              ),
            ),
          )

      calls_two : Written two_names
      unfolding places code_bytes
      calls_two =
          whole (class two_names)
          (subst (λ (ks : List PoolConstant). length ks < 65535) (sym wanted_of_two) (omega arith))
          (subst (AllByRecursion (λ k. Passes (text_fits k))) (sym wanted_of_two) texts_of_two)
          (refl, (adding_code (pool_of (class two_names)) name i, (refl, (refl, tt)))) refl
          (refl, (adding_body (pool_of (class two_names)) name i, (refl, (refl, tt))))

  -- it calls two others at most
  pub caller_within : (others : List (List ℕ)) → length others ≤ 2 → AllByRecursion IsNamed others → Written others
  caller_within [] le all = calls_none
  caller_within (a ∷ []) le all = calls_one a all.0
  caller_within (a ∷ b ∷ []) le all = calls_two a all.0 b all.1.0
  caller_within (a ∷ b ∷ c ∷ others) le all = absurd (omega (arith, le))

-- ---- the others

module _ (name : List ℕ) (is : IsNamed name) where
  plain_texts : AllByRecursion (λ k. Passes (text_fits k)) (wanted (plain_of name))
  unfolding lib.Utf8.encode chars units_of unit_bytes mutf8 base_text field_text result_text method_text
  plain_texts =
      let own = name_passes name is in (
        own,
        (
          refl,
          (
            refl,
            (
              refl,
              (
                refl,
                (
                  refl,
                  (
                    refl,
                    (
                      refl,
                      (
                        refl,
                        (
                          refl,
                          (
                            refl,
                            (
                              refl,
                              (
                                refl,
                                (
                                  refl,
                                  (
                                    refl,
                                    (refl, tt),
                                  ),
                                ),
                              ),
                            ),
                          ),
                        ),
                      ),
                    ),
                  ),
                ),
              ),
            ),
          ),
        ),
      )

  pub plain_within : Passes (limits (pool_of (plain_of name)) (plain_of name))
  unfolding places code_bytes
  plain_within = whole (plain_of name) (omega arith) plain_texts (refl, (refl, tt)) refl (refl, (refl, tt))

pub interface_within : Passes (limits (pool_of interface_class) interface_class)
unfolding lib.Utf8.encode chars units_of unit_bytes mutf8 base_text field_text result_text method_text words_of
    argument_words filled places code_bytes pool_of limits
interface_within = refl
