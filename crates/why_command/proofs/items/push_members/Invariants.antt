use Rattle.std.proofs.Common.{◌≡◌, ◌++◌, map, take}
use Rattle.report_text.specs.Spelled.{member_texts}
use Rattle.list_texts.specs.ItemTexts.{member_text_of}
use Rattle.why_command.proofs.items.push_members.Given as goal

abbrev pub invariant-loop-member : goal.invariant-loop-member
invariant-loop-member l =
    l.texts ≡ l.initial.texts ++ map (member_text_of l.class) (take l.member (member_texts l.class))
