use Rattle.std.proofs.Common.{◌≡◌, ◌++◌, map, take}
use Rattle.std.specs.Prelude.{string_bytes}
use Rattle.std.specs.List.{enumerate_from, flat_map}
use Rattle.mark_core.specs.Marks.{set_of}
use Rattle.report_text.specs.Spelled.{member_texts}
use Rattle.list_texts.specs.ItemTexts.{line_if, member_text_of}
use Rattle.list_texts.proofs.seeds.push_members.Given as goal

abbrev pub invariant-loop-member : goal.invariant-loop-member
invariant-loop-member l = string_bytes l.out ≡ string_bytes l.initial.out ++ flat_map (line_if (set_of l.marks))
    (take l.member (enumerate_from l.first (map (member_text_of l.class) (member_texts l.class))))
