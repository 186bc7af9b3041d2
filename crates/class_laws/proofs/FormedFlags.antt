-- The flags that mean something pass the tests that all flags passed (JVMS 4.1, 4.5, 4.6).
use Rattle.std.proofs.Common.{◌≡◌, ℕ, ◌+◌, Bool, true, false, not, ◌&&◌, ◌||◌, eqb, ltb, List, refl, sym, ap, ◌∙◌}
use Rattle.std.specs.Int.Bits.{bit_and, and_self, and_zero_l}
use Rattle.std.proofs.lemmas.Bool.{eqb-true}
use Rattle.std.proofs.lemmas.Nat.{and_assoc}
use Rattle.class_model.specs.Flags.{acc_private, acc_public, acc_protected, acc_static, acc_final, acc_synchronized}
use Rattle.class_model.specs.Flags.{acc_volatile, acc_native, acc_interface, acc_abstract, acc_strict, acc_annotation}
use Rattle.class_model.specs.Flags.{acc_enum, class_mask, field_mask, method_mask, defined_flags, is_interface}
use Rattle.class_model.specs.Flags.{is_static}
use Rattle.class_model.specs.Flags.{is_native, has_body, are_class_flags, is_left_out_class, are_field_flags}
use Rattle.class_model.specs.Flags.{are_method_flags, is_init, is_clinit, are_initial_flags}

-- all of them mean something
pub meant_again : (mask bits : ℕ) → defined_flags mask (defined_flags mask bits) ≡ defined_flags mask bits
meant_again mask bits = and_assoc mask bits mask ∙ ap (bit_and bits) (and_self mask)

-- flags among those that mean something are as before
part : (mask bits k : ℕ) → bit_and mask k ≡ k → bit_and (bit_and bits mask) k ≡ bit_and bits k
part mask bits k e = and_assoc k bits mask ∙ ap (bit_and bits) e

-- ---- of a class

pub interface_meant : (bits : ℕ) → is_interface (defined_flags class_mask bits) ≡ is_interface bits
interface_meant bits = ap (λ (n : ℕ). eqb n acc_interface) (part class_mask bits acc_interface refl)

pub class_meant : (bits : ℕ) → are_class_flags (defined_flags class_mask bits) ≡ are_class_flags bits
class_meant bits =
    let a = part class_mask bits (acc_final + acc_abstract) refl in
    let b = part class_mask bits acc_interface refl in
    let c = part class_mask bits acc_abstract refl in
    λ i. not (eqb (a i) (acc_final + acc_abstract)) && (not (eqb (b i) acc_interface) || eqb (c i) acc_abstract)

pub left_out_meant : (bits : ℕ) → is_left_out_class (defined_flags class_mask bits) ≡ is_left_out_class bits
left_out_meant bits = ap (λ (n : ℕ). not (eqb n 0)) (part class_mask bits (acc_annotation + acc_enum) refl)

-- ---- of a field

pub field_static_meant : (bits : ℕ) → is_static (defined_flags field_mask bits) ≡ is_static bits
field_static_meant bits = ap (λ (n : ℕ). eqb n acc_static) (part field_mask bits acc_static refl)

pub field_meant : (in_interface : Bool) (bits : ℕ)
    → are_field_flags in_interface (defined_flags field_mask bits) ≡ are_field_flags in_interface bits
field_meant in_interface bits =
    let a = part field_mask bits (acc_public + acc_private + acc_protected) refl in
    let b = part field_mask bits (acc_final + acc_volatile) refl in
    let c = part field_mask bits (acc_public + acc_static + acc_final) refl in
    λ i. (ltb (a i) 3 || eqb (a i) acc_protected) && not (eqb (b i) (acc_final + acc_volatile))
    && (not in_interface || eqb (c i) (acc_public + acc_static + acc_final))

-- ---- of a method

pub method_static_meant : (bits : ℕ) → is_static (defined_flags method_mask bits) ≡ is_static bits
method_static_meant bits = ap (λ (n : ℕ). eqb n acc_static) (part method_mask bits acc_static refl)

pub native_meant : (bits : ℕ) → is_native (defined_flags method_mask bits) ≡ is_native bits
native_meant bits = ap (λ (n : ℕ). eqb n acc_native) (part method_mask bits acc_native refl)

pub body_meant : (bits : ℕ) → has_body (defined_flags method_mask bits) ≡ has_body bits
body_meant bits = ap (λ (n : ℕ). not (not (eqb n 0))) (part method_mask bits (acc_abstract + acc_native) refl)

pub method_meant : (bits : ℕ) → are_method_flags (defined_flags method_mask bits) ≡ are_method_flags bits
method_meant bits =
    let a = part method_mask bits (acc_public + acc_private + acc_protected) refl in
    let b = part method_mask bits acc_abstract refl in
    let c = part method_mask bits
    (acc_private + acc_static + acc_final + acc_synchronized + acc_native + acc_strict) refl in
    λ i. (ltb (a i) 3 || eqb (a i) acc_protected) && (not (eqb (b i) acc_abstract) || not (not (eqb (c i) 0)))

pub initial_meant : (in_interface : Bool) (bits : ℕ) (name : List ℕ)
    → are_initial_flags in_interface (defined_flags method_mask bits) name ≡ are_initial_flags in_interface bits name
initial_meant in_interface bits name =
    let a = part method_mask bits (acc_static + acc_final + acc_synchronized + acc_native + acc_abstract) refl in
    let b = part method_mask bits acc_static refl in
    λ i. (not (is_init name) || (not in_interface && not (not (eqb (a i) 0))))
    && (not (is_clinit name) || eqb (b i) acc_static)

-- a method with a body is not native
pub body_not_native : (bits : ℕ) → has_body bits ≡ true → is_native bits ≡ false
body_not_native bits h = by (eqb (bit_and bits (acc_abstract + acc_native)) 0) refl h
  where
    by : (b : Bool) → eqb (bit_and bits (acc_abstract + acc_native)) 0 ≡ b → not (not b) ≡ true → is_native bits ≡ false
    by true e k =
        let none : bit_and bits acc_native ≡ 0 = sym (part (acc_abstract + acc_native) bits acc_native refl)
        ∙ ap (λ (n : ℕ). bit_and n acc_native) (eqb-true _ 0 e) ∙ and_zero_l acc_native in
        ap (λ (n : ℕ). eqb n acc_native) none
    by false e k = absurd cc
