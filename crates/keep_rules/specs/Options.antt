-- The options of a config (ProGuard manual, "Usage").
use Rattle.std.specs.Prelude.{ℕ, Bool, true, false, ◌||◌, if◌then◌else◌, List, Option, Some, None, codes}
use Rattle.jv_base.specs.Names.{is_text}
use Rattle.keep_rules.specs.declared.rules.KeepKind.TheVariants.{Keep, Members, WithMembers}
use Rattle.keep_rules.specs.declared.options.Step.TheVariants.{Shrink, Optimise, Obfuscate}
use Rattle.keep_rules.specs.declared.options.Setting.{Setting}
use Rattle.keep_rules.specs.declared.options.Setting.TheVariants as setting

-- a keep option: what it keeps, and whether that may be dropped (ProGuard manual, "Keep Options")
unfoldable pub keep_setting : List ℕ → Option Setting
keep_setting word =
    if is_text word (codes "-keep") then Some (setting.Keep Keep false)
    else if is_text word (codes "-keepclassmembers") then Some (setting.Keep Members false)
    else if is_text word (codes "-keepclasseswithmembers") then Some (setting.Keep WithMembers false)
    else if is_text word (codes "-keepnames") then Some (setting.Keep Keep true)
    else if is_text word (codes "-keepclassmembernames") then Some (setting.Keep Members true)
    else if is_text word (codes "-keepclasseswithmembernames") then Some (setting.Keep WithMembers true)
    else None

-- an option that changes nothing here, whatever its values are
unfoldable pub is_ignored : List ℕ → Bool
is_ignored word = is_text word (codes "-libraryjars") || is_text word (codes "-dontwarn")
    || is_text word (codes "-dontnote") || is_text word (codes "-verbose") || is_text word (codes "-ignorewarnings")
    || is_text word (codes "-dontusemixedcaseclassnames") || is_text word (codes "-dontskipnonpubliclibraryclasses")
    || is_text word (codes "-useuniqueclassmembernames") || is_text word (codes "-optimizationpasses")
    || is_text word (codes "-allowaccessmodification")

-- an option that ProGuard has and that isn't built
unfoldable pub is_left_out : List ℕ → Bool
is_left_out word = is_text word (codes "-assumenosideeffects") || is_text word (codes "-if")
    || is_text word (codes "-overloadaggressively") || is_text word (codes "-repackageclasses")
    || is_text word (codes "-include") || is_text word (codes "-basedirectory") || is_text word (codes "-target")
    || is_text word (codes "-optimizations") || is_text word (codes "-dump")
    || is_text word (codes "-printconfiguration")

-- an option that sets nothing
abbrev pub inert_setting : List ℕ → Option Setting
inert_setting word =
    if is_ignored word then Some setting.Ignored
    else if is_left_out word then Some setting.LeftOut
    else None

-- an option that is none of the keep options
unfoldable pub plain_setting : List ℕ → Option Setting
plain_setting word =
    if is_text word (codes "-injars") then Some setting.InDir
    else if is_text word (codes "-outjars") then Some setting.OutDir
    else if is_text word (codes "-printmapping") then Some setting.Mapping
    else if is_text word (codes "-printseeds") then Some setting.Seeds
    else if is_text word (codes "-printusage") then Some setting.Usage
    else if is_text word (codes "-applymapping") then Some setting.Apply
    else if is_text word (codes "-renamesourcefileattribute") then Some setting.SourceName
    else if is_text word (codes "-dontshrink") then Some (setting.Off Shrink)
    else if is_text word (codes "-dontoptimize") then Some (setting.Off Optimise)
    else if is_text word (codes "-dontobfuscate") then Some (setting.Off Obfuscate)
    else if is_text word (codes "-keepattributes") then Some setting.Attributes
    else inert_setting word

-- the setting of a word that isn't one of the keep options
abbrev pub else_plain : List ℕ → Option Setting → Option Setting
else_plain word (Some s) = Some s
else_plain word None = plain_setting word

-- what an option sets
unfoldable pub setting_of : List ℕ → Option Setting
setting_of word = else_plain word (keep_setting word)
