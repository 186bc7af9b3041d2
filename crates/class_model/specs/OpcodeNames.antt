-- The numbers of the opcodes by their names (JVMS 7).
use Rattle.std.specs.Prelude.{ℕ}

abbrev pub NOP : ℕ
NOP = 0x00

abbrev pub ACONST_NULL : ℕ
ACONST_NULL = 0x01

abbrev pub ICONST_M1 : ℕ
ICONST_M1 = 0x02

abbrev pub ICONST_0 : ℕ
ICONST_0 = 0x03

abbrev pub ICONST_5 : ℕ
ICONST_5 = 0x08

abbrev pub LCONST_0 : ℕ
LCONST_0 = 0x09

abbrev pub LCONST_1 : ℕ
LCONST_1 = 0x0A

abbrev pub FCONST_0 : ℕ
FCONST_0 = 0x0B

abbrev pub DCONST_1 : ℕ
DCONST_1 = 0x0F

abbrev pub BIPUSH : ℕ
BIPUSH = 0x10

abbrev pub SIPUSH : ℕ
SIPUSH = 0x11

abbrev pub LDC : ℕ
LDC = 0x12

abbrev pub LDC_W : ℕ
LDC_W = 0x13

abbrev pub LDC2_W : ℕ
LDC2_W = 0x14

abbrev pub ILOAD : ℕ
ILOAD = 0x15

abbrev pub FLOAD : ℕ
FLOAD = 0x17

abbrev pub DLOAD : ℕ
DLOAD = 0x18

abbrev pub ALOAD : ℕ
ALOAD = 0x19

abbrev pub ILOAD_0 : ℕ
ILOAD_0 = 0x1A

abbrev pub FLOAD_0 : ℕ
FLOAD_0 = 0x22

abbrev pub DLOAD_3 : ℕ
DLOAD_3 = 0x29

abbrev pub ALOAD_3 : ℕ
ALOAD_3 = 0x2D

abbrev pub IALOAD : ℕ
IALOAD = 0x2E

abbrev pub FALOAD : ℕ
FALOAD = 0x30

abbrev pub DALOAD : ℕ
DALOAD = 0x31

abbrev pub SALOAD : ℕ
SALOAD = 0x35

abbrev pub ISTORE : ℕ
ISTORE = 0x36

abbrev pub FSTORE : ℕ
FSTORE = 0x38

abbrev pub DSTORE : ℕ
DSTORE = 0x39

abbrev pub ASTORE : ℕ
ASTORE = 0x3A

abbrev pub ISTORE_0 : ℕ
ISTORE_0 = 0x3B

abbrev pub FSTORE_0 : ℕ
FSTORE_0 = 0x43

abbrev pub DSTORE_3 : ℕ
DSTORE_3 = 0x4A

abbrev pub ASTORE_3 : ℕ
ASTORE_3 = 0x4E

abbrev pub IASTORE : ℕ
IASTORE = 0x4F

abbrev pub FASTORE : ℕ
FASTORE = 0x51

abbrev pub DASTORE : ℕ
DASTORE = 0x52

abbrev pub SASTORE : ℕ
SASTORE = 0x56

abbrev pub POP : ℕ
POP = 0x57

abbrev pub POP2 : ℕ
POP2 = 0x58

abbrev pub DUP : ℕ
DUP = 0x59

abbrev pub DUP_X1 : ℕ
DUP_X1 = 0x5A

abbrev pub DUP_X2 : ℕ
DUP_X2 = 0x5B

abbrev pub DUP2 : ℕ
DUP2 = 0x5C

abbrev pub DUP2_X1 : ℕ
DUP2_X1 = 0x5D

abbrev pub DUP2_X2 : ℕ
DUP2_X2 = 0x5E

abbrev pub SWAP : ℕ
SWAP = 0x5F

abbrev pub IADD : ℕ
IADD = 0x60

abbrev pub LADD : ℕ
LADD = 0x61

abbrev pub FADD : ℕ
FADD = 0x62

abbrev pub DADD : ℕ
DADD = 0x63

abbrev pub ISUB : ℕ
ISUB = 0x64

abbrev pub LSUB : ℕ
LSUB = 0x65

abbrev pub FSUB : ℕ
FSUB = 0x66

abbrev pub DSUB : ℕ
DSUB = 0x67

abbrev pub IMUL : ℕ
IMUL = 0x68

abbrev pub LMUL : ℕ
LMUL = 0x69

abbrev pub FMUL : ℕ
FMUL = 0x6A

abbrev pub DMUL : ℕ
DMUL = 0x6B

abbrev pub IDIV : ℕ
IDIV = 0x6C

abbrev pub LDIV : ℕ
LDIV = 0x6D

abbrev pub FDIV : ℕ
FDIV = 0x6E

abbrev pub DDIV : ℕ
DDIV = 0x6F

abbrev pub IREM : ℕ
IREM = 0x70

abbrev pub LREM : ℕ
LREM = 0x71

abbrev pub FREM : ℕ
FREM = 0x72

abbrev pub DREM : ℕ
DREM = 0x73

abbrev pub INEG : ℕ
INEG = 0x74

abbrev pub LNEG : ℕ
LNEG = 0x75

abbrev pub FNEG : ℕ
FNEG = 0x76

abbrev pub DNEG : ℕ
DNEG = 0x77

abbrev pub ISHL : ℕ
ISHL = 0x78

abbrev pub LSHL : ℕ
LSHL = 0x79

abbrev pub ISHR : ℕ
ISHR = 0x7A

abbrev pub LSHR : ℕ
LSHR = 0x7B

abbrev pub IUSHR : ℕ
IUSHR = 0x7C

abbrev pub LUSHR : ℕ
LUSHR = 0x7D

abbrev pub IAND : ℕ
IAND = 0x7E

abbrev pub LAND : ℕ
LAND = 0x7F

abbrev pub IOR : ℕ
IOR = 0x80

abbrev pub LOR : ℕ
LOR = 0x81

abbrev pub IXOR : ℕ
IXOR = 0x82

abbrev pub LXOR : ℕ
LXOR = 0x83

abbrev pub IINC : ℕ
IINC = 0x84

abbrev pub I2L : ℕ
I2L = 0x85

abbrev pub I2F : ℕ
I2F = 0x86

abbrev pub I2D : ℕ
I2D = 0x87

abbrev pub L2I : ℕ
L2I = 0x88

abbrev pub L2F : ℕ
L2F = 0x89

abbrev pub D2F : ℕ
D2F = 0x90

abbrev pub I2B : ℕ
I2B = 0x91

abbrev pub I2C : ℕ
I2C = 0x92

abbrev pub I2S : ℕ
I2S = 0x93

abbrev pub LCMP : ℕ
LCMP = 0x94

abbrev pub FCMPL : ℕ
FCMPL = 0x95

abbrev pub DCMPG : ℕ
DCMPG = 0x98

abbrev pub IFEQ : ℕ
IFEQ = 0x99

abbrev pub IFLE : ℕ
IFLE = 0x9E

abbrev pub IF_ICMPEQ : ℕ
IF_ICMPEQ = 0x9F

abbrev pub IF_ICMPLE : ℕ
IF_ICMPLE = 0xA4

abbrev pub IF_ACMPEQ : ℕ
IF_ACMPEQ = 0xA5

abbrev pub IF_ACMPNE : ℕ
IF_ACMPNE = 0xA6

abbrev pub GOTO : ℕ
GOTO = 0xA7

abbrev pub TABLESWITCH : ℕ
TABLESWITCH = 0xAA

abbrev pub LOOKUPSWITCH : ℕ
LOOKUPSWITCH = 0xAB

abbrev pub IRETURN : ℕ
IRETURN = 0xAC

abbrev pub LRETURN : ℕ
LRETURN = 0xAD

abbrev pub FRETURN : ℕ
FRETURN = 0xAE

abbrev pub DRETURN : ℕ
DRETURN = 0xAF

abbrev pub ARETURN : ℕ
ARETURN = 0xB0

abbrev pub RETURN : ℕ
RETURN = 0xB1

abbrev pub GETSTATIC : ℕ
GETSTATIC = 0xB2

abbrev pub PUTSTATIC : ℕ
PUTSTATIC = 0xB3

abbrev pub GETFIELD : ℕ
GETFIELD = 0xB4

abbrev pub PUTFIELD : ℕ
PUTFIELD = 0xB5

abbrev pub INVOKEVIRTUAL : ℕ
INVOKEVIRTUAL = 0xB6

abbrev pub INVOKESPECIAL : ℕ
INVOKESPECIAL = 0xB7

abbrev pub INVOKESTATIC : ℕ
INVOKESTATIC = 0xB8

abbrev pub INVOKEINTERFACE : ℕ
INVOKEINTERFACE = 0xB9

abbrev pub INVOKEDYNAMIC : ℕ
INVOKEDYNAMIC = 0xBA

abbrev pub NEW : ℕ
NEW = 0xBB

abbrev pub NEWARRAY : ℕ
NEWARRAY = 0xBC

abbrev pub ANEWARRAY : ℕ
ANEWARRAY = 0xBD

abbrev pub ARRAYLENGTH : ℕ
ARRAYLENGTH = 0xBE

abbrev pub ATHROW : ℕ
ATHROW = 0xBF

abbrev pub CHECKCAST : ℕ
CHECKCAST = 0xC0

abbrev pub INSTANCEOF : ℕ
INSTANCEOF = 0xC1

abbrev pub MONITORENTER : ℕ
MONITORENTER = 0xC2

abbrev pub MONITOREXIT : ℕ
MONITOREXIT = 0xC3

abbrev pub WIDE : ℕ
WIDE = 0xC4

abbrev pub MULTIANEWARRAY : ℕ
MULTIANEWARRAY = 0xC5

abbrev pub IFNULL : ℕ
IFNULL = 0xC6

abbrev pub IFNONNULL : ℕ
IFNONNULL = 0xC7

abbrev pub GOTO_W : ℕ
GOTO_W = 0xC8
