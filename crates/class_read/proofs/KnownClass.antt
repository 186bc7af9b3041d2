-- Which attributes of a class are read, by their names.
use Rattle.std.proofs.Common.{◌≡◌, ℕ, List}
use Rattle.std.specs.Prelude.{codes, option_map}
use Rattle.jv_base.specs.Names.{is_text}
use Rattle.class_model.specs.declared.pool.Entry.{Entry}
use Rattle.class_model.specs.ReadingClass.{ClassSeen, known_of_class}
use Rattle.class_read.specs.bodies.ClassAttributes.{class_attribute, class_contents}
use Rattle.class_read.proofs.Known.{three}

pub of_class : (pool : List Entry) (at : ℕ) (name : List ℕ) (n : ℕ) (seen : ClassSeen)
    → known_of_class pool at name n seen ≡ option_map (class_contents pool at seen) (class_attribute name)
of_class pool at name n seen = three (class_contents pool at seen) (is_text name (codes "SourceFile"))
    (is_text name (codes "Synthetic")) (is_text name (codes "Deprecated")) _ _ _
