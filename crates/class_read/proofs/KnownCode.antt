-- Which attributes of a Code are read, by their names.
use Rattle.std.proofs.Common.{◌≡◌, ℕ, Bool, true, false, cond, List, Some, None, refl}
use Rattle.std.specs.Prelude.{codes, option_map}
use Rattle.jv_base.specs.Names.{is_text}
use Rattle.format_reading.specs.Reader.{FormatReader}
use Rattle.class_model.specs.declared.frame.FrameAt.{FrameAt}
use Rattle.class_model.specs.ReadingCodeAttribute.{CodeSeen, known_of_code}
use Rattle.class_read.specs.bodies.CodeAttributes.{code_attribute, code_contents}

-- a choice by two tests, and a function of what was chosen
two : {A B : Type 0} (f : A → B) (a b : Bool) (x y : A)
    → cond a (Some (f x)) (cond b (Some (f y)) None) ≡ option_map f (cond a (Some x) (cond b (Some y) None))
two f true b x y = refl
two f false true x y = refl
two f false false x y = refl

pub of_code : (frames : FormatReader (Bool × List FrameAt)) (at : ℕ) (name : List ℕ) (n : ℕ) (seen : CodeSeen)
    → known_of_code frames at name n seen ≡ option_map (code_contents frames at seen) (code_attribute name)
of_code frames at name n seen = two (code_contents frames at seen) (is_text name (codes "LineNumberTable"))
    (is_text name (codes "StackMapTable")) _ _
