-- Rules on classes (only the proof of fixed_names needs it).
use Rattle.std.specs.Prelude.{Bool, not}
use Rattle.keep_rules.specs.declared.rules.Keep.{Keep}
use Rattle.keep_match.specs.Fixed.{is_on_classes}

-- a rule is on classes, not on their members alone
abbrev pub is_for_classes : Keep → Bool
is_for_classes k = is_on_classes k.kind

-- a rule says nothing of the classes in descriptors
abbrev pub is_undescribed : Keep → Bool
is_undescribed k = not k.descriptor_classes
