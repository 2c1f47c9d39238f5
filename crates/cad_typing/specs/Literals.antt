-- Literals.
use Rattle.std.specs.Prelude.{◌≡◌, refl, ℕ, Bool, true, false, ◌&&◌, ◌||◌, ◌==◌, Option, Some, None, List, length, nat_lt, if◌then◌else◌}
use Rattle.cad_syntax.specs.Kinds.{is_kept}
use Rattle.cad_syntax.specs.Types.{PureType, basic, optional}
use Rattle.cad_syntax.specs.declared.kind.Kind.{Kind}
use Rattle.cad_syntax.specs.declared.kind.Kind.TheVariants as n
use Rattle.cad_syntax.specs.declared.num.Num.{Num}
use Rattle.cad_syntax.specs.declared.address.Path.{Path}
use Rattle.cad_syntax.specs.declared.address.Domain.{Domain}
use Rattle.cad_syntax.specs.declared.address.Domain.TheVariants as domain
use Rattle.cad_syntax.specs.declared.types.Basic.{Basic}
use Rattle.cad_syntax.specs.declared.types.Basic.TheVariants as b
use Rattle.cad_text.specs.Texts.{characters}
use Rattle.cad_declarations.specs.BuiltinNames.{is_integer}
use Rattle.cad_declarations.specs.Typed as e
use Rattle.cad_typing.specs.Environments.{Typing, typed, when, ◌>=>◌}
use Rattle.cad_types.specs.Optionals.{core}
use Rattle.cad_typing.specs.Types.{never, bool, number, kind_of, is_address, is_signed}

-- ---- numbers

abbrev pub number_if : (kind : Kind) (negative : Bool) (magnitude : ℕ) (b : Bool) → is_kept kind negative magnitude ≡ b → Option Num
number_if kind negative magnitude true kept = Some (record { kind = kind; negative = negative; magnitude = magnitude; kept = kept })
number_if kind negative magnitude false kept = None

-- the number of a kind with this sign and magnitude, if it is in range; 0 has no sign
abbrev pub number_of : Kind → Bool → ℕ → Option Num
number_of kind negative magnitude =
    let sign = negative && nat_lt 0 magnitude in number_if kind sign magnitude (is_kept kind sign magnitude) refl

-- an address is no number
abbrev pub number_term : Num → e.TermTree
number_term x = if is_address x.kind then e.address (record { 0 = x.magnitude }) else e.number x

abbrev pub literal_of : Kind → Bool → ℕ → Option Typing
literal_of kind negative magnitude = number_of kind negative magnitude >=> (λ x. typed (number_term x) (number kind))

-- the kind of numbers that is expected, in whatever optionals
abbrev pub expected_kind : Option PureType → Option Kind
expected_kind expected = expected >=> (λ t. kind_of (core t))

-- the kind of integers that is expected, or Address of a hexadecimal literal; else Int
abbrev pub whole_kind : Bool → Option Kind → Kind
whole_kind is_hexadecimal None = n.Int
whole_kind is_hexadecimal (Some kind) = if is_integer kind || (is_hexadecimal && is_address kind) then kind else n.Int

-- Fix64 or UFix64, as is expected; else UFix64, and under `-` Fix64
abbrev pub fixed_kind : Bool → Option Kind → Kind
fixed_kind negative (Some n.Fix64) = n.Fix64
fixed_kind negative (Some n.UFix64) = n.UFix64
fixed_kind negative _ = if negative then n.Fix64 else n.UFix64

abbrev pub whole_literal : Option PureType → ℕ → Bool → Option Typing
whole_literal expected magnitude is_hexadecimal = literal_of (whole_kind is_hexadecimal (expected_kind expected)) false magnitude

abbrev pub fixed_literal : Option PureType → ℕ → Option Typing
fixed_literal expected magnitude = literal_of (fixed_kind false (expected_kind expected)) false magnitude

-- a literal directly under `-` is judged and valued with its sign, and only kinds below 0 have one
abbrev pub signed_literal : Kind → ℕ → Option Typing
signed_literal kind magnitude = when (is_signed kind) (literal_of kind true magnitude)

abbrev pub signed_whole : Option PureType → ℕ → Bool → Option Typing
signed_whole expected magnitude is_hexadecimal = signed_literal (whole_kind is_hexadecimal (expected_kind expected)) magnitude

abbrev pub signed_fixed : Option PureType → ℕ → Option Typing
signed_fixed expected magnitude = signed_literal (fixed_kind true (expected_kind expected)) magnitude

-- ---- texts, Bool, nil and paths

abbrev pub is_character_basic : Basic → Bool
is_character_basic b.Character = true
is_character_basic _ = false

abbrev pub is_character_type : PureType → Bool
is_character_type (basic t) = is_character_basic t
is_character_type _ = false

abbrev pub expects_character : Option PureType → Bool
expects_character None = false
expects_character (Some t) = is_character_type (core t)

-- a Character where one is expected and the text is one, else a String
abbrev pub text_literal : Option PureType → List ℕ → Option Typing
text_literal expected text =
    if expects_character expected && (length (characters text) == 1) then typed (e.character text) (basic b.Character)
    else typed (e.string text) (basic b.String)

abbrev pub bool_literal : Bool → Option Typing
bool_literal x = typed (e.bool x) bool

abbrev pub nil_literal : Option Typing
nil_literal = typed e.nil (optional never)

abbrev pub path_type : Domain → PureType
path_type domain.Storage = basic b.StoragePath
path_type domain.Public = basic b.PublicPath

abbrev pub path_literal : Path → Option Typing
path_literal p = typed (e.path p) (path_type p.domain)
