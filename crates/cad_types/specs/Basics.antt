-- When two basic types are one.
use Rattle.std.specs.Prelude.{ℕ, Bool, ◌==◌}
use Rattle.cad_syntax.specs.declared.kind.Kind.{Kind}
use Rattle.cad_syntax.specs.declared.kind.Kind.TheVariants as n
use Rattle.cad_syntax.specs.declared.types.Basic.{Basic}
use Rattle.cad_syntax.specs.declared.types.Basic.TheVariants as b

-- each kind of numbers, and each basic type, has a number of its own
abbrev pub kind_number : Kind → ℕ
kind_number n.Int = 0
kind_number n.Int8 = 1
kind_number n.Int16 = 2
kind_number n.Int32 = 3
kind_number n.Int64 = 4
kind_number n.Int128 = 5
kind_number n.UInt = 6
kind_number n.UInt8 = 7
kind_number n.UInt16 = 8
kind_number n.UInt32 = 9
kind_number n.UInt64 = 10
kind_number n.UInt128 = 11
kind_number n.Word8 = 12
kind_number n.Word16 = 13
kind_number n.Word32 = 14
kind_number n.Word64 = 15
kind_number n.Word128 = 16
kind_number n.Fix64 = 17
kind_number n.UFix64 = 18
kind_number n.Address = 19

abbrev pub basic_number : Basic → ℕ
basic_number (b.Number k) = kind_number k
basic_number b.Void = 20
basic_number b.Never = 21
basic_number b.Bool = 22
basic_number b.Character = 23
basic_number b.String = 24
basic_number b.Path = 25
basic_number b.StoragePath = 26
basic_number b.PublicPath = 27
basic_number b.Meta = 28
basic_number b.AnyStruct = 29
basic_number b.AnyResource = 30
basic_number b.Account = 31
basic_number b.AccountStorage = 32
basic_number b.AccountContracts = 33
basic_number b.AccountCapabilities = 34
basic_number b.AccountStorageCapabilities = 35
basic_number b.StorageCapabilityController = 36

abbrev pub same_basic : Basic → Basic → Bool
same_basic t u = basic_number t == basic_number u
