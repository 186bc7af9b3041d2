-- Which method of the library a class, a name and a descriptor tell (Java SE 8 API; the project's own table of it).
use Rattle.std.specs.Prelude.{ℕ, ◌&&◌, Bool, List, [], ◌∷◌, codes, Option, if◌then◌else◌}
use Rattle.std.specs.List.{find}
use Rattle.std.specs.Option.{option_map}
use Rattle.jv_base.specs.Names.{is_text}
use Rattle.jvm_model.specs.Library.{Row, AsInt, AsLong, AsChar, AsBoolean, AsString, ObjectInit, ObjectEquals}
use Rattle.jvm_model.specs.Library.{StringLength, StringCharAt, StringEquals, StringHashCode, StringIsEmpty, StringFrom}
use Rattle.jvm_model.specs.Library.{StringBetween, StringCompareTo, StringToString, StringValueOf, BuilderInit}
use Rattle.jvm_model.specs.Library.{BuilderInitWith, BuilderAppend, BuilderLength, BuilderToString, Print, PrintLine}
use Rattle.jvm_model.specs.Library.{EndLine, ThrowableInit, ThrowableInitWith, ThrowableInitFrom, GetMessage, GetCause}
use Rattle.jvm_model.specs.Value.{Key}

-- a method by its name and its descriptor
pub record Entry : Type 0 where
  pub name : List ℕ
  pub descriptor : List ℕ
  pub row : Row

-- an entry by its parts
abbrev pub entry : List ℕ → List ℕ → Row → Entry
entry name descriptor row = record { name = name; descriptor = descriptor; row = row }

-- of Object
abbrev pub of_object : List Entry
of_object =
    entry (codes "<init>") (codes "()V") ObjectInit
    ∷ entry (codes "equals") (codes "(Ljava/lang/Object;)Z") ObjectEquals
    ∷ []

-- of String
abbrev pub of_string : List Entry
of_string =
    entry (codes "length") (codes "()I") StringLength
    ∷ entry (codes "charAt") (codes "(I)C") StringCharAt
    ∷ entry (codes "equals") (codes "(Ljava/lang/Object;)Z") StringEquals
    ∷ entry (codes "hashCode") (codes "()I") StringHashCode
    ∷ entry (codes "isEmpty") (codes "()Z") StringIsEmpty
    ∷ entry (codes "substring") (codes "(I)Ljava/lang/String;") StringFrom
    ∷ entry (codes "substring") (codes "(II)Ljava/lang/String;") StringBetween
    ∷ entry (codes "compareTo") (codes "(Ljava/lang/String;)I") StringCompareTo
    ∷ entry (codes "toString") (codes "()Ljava/lang/String;") StringToString
    ∷ entry (codes "valueOf") (codes "(I)Ljava/lang/String;") (StringValueOf AsInt)
    ∷ entry (codes "valueOf") (codes "(J)Ljava/lang/String;") (StringValueOf AsLong)
    ∷ entry (codes "valueOf") (codes "(C)Ljava/lang/String;") (StringValueOf AsChar)
    ∷ entry (codes "valueOf") (codes "(Z)Ljava/lang/String;") (StringValueOf AsBoolean)
    ∷ []

-- of StringBuilder
abbrev pub of_builder : List Entry
of_builder =
    entry (codes "<init>") (codes "()V") BuilderInit
    ∷ entry (codes "<init>") (codes "(Ljava/lang/String;)V") BuilderInitWith
    ∷ entry (codes "append") (codes "(I)Ljava/lang/StringBuilder;") (BuilderAppend AsInt)
    ∷ entry (codes "append") (codes "(J)Ljava/lang/StringBuilder;") (BuilderAppend AsLong)
    ∷ entry (codes "append") (codes "(C)Ljava/lang/StringBuilder;") (BuilderAppend AsChar)
    ∷ entry (codes "append") (codes "(Z)Ljava/lang/StringBuilder;") (BuilderAppend AsBoolean)
    ∷ entry (codes "append") (codes "(Ljava/lang/String;)Ljava/lang/StringBuilder;") (BuilderAppend AsString)
    ∷ entry (codes "length") (codes "()I") BuilderLength
    ∷ entry (codes "toString") (codes "()Ljava/lang/String;") BuilderToString
    ∷ []

-- of PrintStream
abbrev pub of_stream : List Entry
of_stream =
    entry (codes "print") (codes "(I)V") (Print AsInt)
    ∷ entry (codes "print") (codes "(J)V") (Print AsLong)
    ∷ entry (codes "print") (codes "(C)V") (Print AsChar)
    ∷ entry (codes "print") (codes "(Z)V") (Print AsBoolean)
    ∷ entry (codes "print") (codes "(Ljava/lang/String;)V") (Print AsString)
    ∷ entry (codes "println") (codes "(I)V") (PrintLine AsInt)
    ∷ entry (codes "println") (codes "(J)V") (PrintLine AsLong)
    ∷ entry (codes "println") (codes "(C)V") (PrintLine AsChar)
    ∷ entry (codes "println") (codes "(Z)V") (PrintLine AsBoolean)
    ∷ entry (codes "println") (codes "(Ljava/lang/String;)V") (PrintLine AsString)
    ∷ entry (codes "println") (codes "()V") EndLine
    ∷ []

-- of Throwable and of the exceptions below it
abbrev pub of_throwable : List Entry
of_throwable =
    entry (codes "<init>") (codes "()V") ThrowableInit
    ∷ entry (codes "<init>") (codes "(Ljava/lang/String;)V") ThrowableInitWith
    ∷ entry (codes "<init>") (codes "(Ljava/lang/String;Ljava/lang/Throwable;)V") ThrowableInitFrom
    ∷ entry (codes "getMessage") (codes "()Ljava/lang/String;") GetMessage
    ∷ entry (codes "getCause") (codes "()Ljava/lang/Throwable;") GetCause
    ∷ []

-- the methods of a class of the library; what is none of the first four and has methods is an exception, or an
-- interface, whose methods never run
abbrev pub entries_of : List ℕ → List Entry
entries_of class =
    if is_text class (codes "java/lang/Object") then of_object
    else if is_text class (codes "java/lang/String") then of_string
    else if is_text class (codes "java/lang/StringBuilder") then of_builder
    else if is_text class (codes "java/io/PrintStream") then of_stream
    else of_throwable

-- the entry is that of this name and descriptor
abbrev pub is_entry : Key → Entry → Bool
is_entry key e = is_text e.name key.name && is_text e.descriptor key.descriptor

-- what a method of the library does, where a program may call it
abbrev pub row_of : Key → Option Row
row_of key = option_map (λ e. e.row) (find (is_entry key) (entries_of key.class))
