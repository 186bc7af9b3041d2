-- What readers are computed with, for attributes that unfold it.
use Rattle.std.specs.Prelude.{⊤}
use Rattle.format_reading.specs.Reader.{bind, bytes, give, here, lead, of_result, part, settle, u1, u2, u4}
use Rattle.class_model.specs.ReadingClass.{read_all_fields, read_all_methods, read_class_file, read_head}
use Rattle.class_model.specs.ReadingPool.{read_entry, read_pool, slot}
use Rattle.class_read.specs.bodies.Classes.{behind_flags, behind_names}

-- one reader behind another
unfoldable pub steps : ⊤
unfolding bind give
steps = tt

-- numbers
unfoldable pub numbers : ⊤
unfolding u2 bind
numbers = tt

-- numbers, and what each leads to
unfoldable pub lists : ⊤
unfolding numbers lead
lists = tt

-- the same, at a place
unfoldable pub rows : ⊤
unfolding lists give here settle
rows = tt

-- an attribute, by its name and its length
unfoldable pub attribute : ⊤
unfolding lists u4 bytes give here part
attribute = tt

-- and what it contains
unfoldable pub contents : ⊤
unfolding attribute u1 settle
contents = tt

-- any numbers, in a part or not
unfoldable pub whole : ⊤
unfolding rows u1 u4 bytes of_result
whole = tt

-- the entries of a pool
unfoldable pub entries : ⊤
unfolding lists u1 u4 bytes give here of_result read_entry slot read_pool
entries = tt

-- the head of a class file
unfoldable pub head : ⊤
unfolding lists u4 give read_head
head = tt

-- the fields and the methods of a class
unfoldable pub members : ⊤
unfolding numbers read_all_fields read_all_methods
members = tt

-- a class file
unfoldable pub class : ⊤
unfolding steps read_class_file behind_flags behind_names
class = tt

-- what is passed over
unfoldable pub passed : ⊤
unfolding steps u2 bytes
passed = tt
