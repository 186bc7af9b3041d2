-- The names of the rules of class files, and of their limits (the project's own: what the command says).
use Rattle.std.specs.Prelude.{ℕ, List, codes}
use Rattle.class_model.specs.declared.limit.WriteLimit.{WriteLimit}
use Rattle.class_model.specs.declared.limit.WriteLimit.TheVariants as limit
use Rattle.format_reading.specs.declared.fault.FormatKind.{FormatKind}
use Rattle.format_reading.specs.declared.fault.FormatKind.TheVariants as bad

-- the word for a kind of fault (the project's own: what the command says)
abbrev pub format_name : FormatKind → List ℕ
format_name bad.Cut = codes "Cut"
format_name bad.BadMagic = codes "BadMagic"
format_name bad.BadVersion = codes "BadVersion"
format_name bad.BadTag = codes "BadTag"
format_name bad.BadUtf8 = codes "BadUtf8"
format_name bad.BadIndex = codes "BadIndex"
format_name bad.BadName = codes "BadName"
format_name bad.BadDescriptor = codes "BadDescriptor"
format_name bad.BadFlags = codes "BadFlags"
format_name bad.BadAttribute = codes "BadAttribute"
format_name bad.BadConstant = codes "BadConstant"
format_name bad.BadCode = codes "BadCode"
format_name bad.BadOpcode = codes "BadOpcode"
format_name bad.BadOperand = codes "BadOperand"
format_name bad.BadTarget = codes "BadTarget"
format_name bad.BadHandler = codes "BadHandler"
format_name bad.BadFrame = codes "BadFrame"
format_name bad.Repeated = codes "Repeated"
format_name bad.Trailing = codes "Trailing"

-- the word for what a limit of the format counts (the project's own: what the command says)
abbrev pub limit_name : WriteLimit → List ℕ
limit_name (limit.PoolFull count) = codes "pool"
limit_name (limit.TextTooLong length) = codes "utf8"
limit_name (limit.CodeTooLong length) = codes "code"
limit_name (limit.BranchTooFar index distance) = codes "branch"
limit_name (limit.AttributeFull count) = codes "table"
limit_name (limit.AttributeTooLong length) = codes "attribute"
