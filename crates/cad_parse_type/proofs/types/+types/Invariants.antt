use Rattle.std.proofs.Common.{◌≡◌, [], length, map, ◌+◌, ◌-◌, ◌*◌}
use Rattle.cad_grammar.specs.declared.token.Sign.TheVariants as s
use Rattle.cad_grammar.specs.Views.{annotation_of}
use Rattle.cad_grammar.specs.declared.level.TypePosition.TheVariants as position
use Rattle.cad_parse_type.specs.Code.Reading as spec
use Rattle.cad_parse_type.specs.Code.Views.{seen}
use Rattle.cad_parse_type.proofs.types.+types.Given as goal

abbrev pub decreases-read_core : goal.decreases-read_core
decreases-read_core l = 64 * l.depth

abbrev pub decreases-whole : goal.decreases-whole
decreases-whole l = 64 * l.depth + 1

abbrev pub decreases-referenced : goal.decreases-referenced
decreases-referenced l = 64 * l.depth + 1

abbrev pub decreases-annotated : goal.decreases-annotated
decreases-annotated l = 64 * l.depth + 2

abbrev pub decreases-grouped : goal.decreases-grouped
decreases-grouped l = 64 * l.depth + 2

abbrev pub decreases-array : goal.decreases-array
decreases-array l = 64 * l.depth + 2

abbrev pub decreases-dictionary : goal.decreases-dictionary
decreases-dictionary l = 64 * l.depth + 2

abbrev pub decreases-listed : goal.decreases-listed
decreases-listed l = 64 * l.depth + 3

abbrev pub decreases-annotation_list : goal.decreases-annotation_list
decreases-annotation_list l = 64 * l.depth + 4

abbrev pub decreases-applied : goal.decreases-applied
decreases-applied l = 64 * l.depth + 5

abbrev pub decreases-braced : goal.decreases-braced
decreases-braced l = 64 * l.depth + 5

abbrev pub decreases-authorized_reference : goal.decreases-authorized_reference
decreases-authorized_reference l = 64 * l.depth + 2

abbrev pub decreases-named_type : goal.decreases-named_type
decreases-named_type l = 64 * l.depth + 6

abbrev pub decreases-core_of : goal.decreases-core_of
decreases-core_of l = 64 * l.depth + 7

abbrev pub invariant-listed-loop-turn : goal.invariant-listed-loop-turn
invariant-listed-loop-turn l =
    spec.listed (spec.annotated (spec.read_core l.depth) position.Anywhere) s.Greater (length l.spot.tokens.now) [] (seen l.spot)
    ≡ spec.listed (spec.annotated (spec.read_core l.depth) position.Anywhere) s.Greater (l._turn-end - l._turn) (map annotation_of l.found.items) (seen l.rest)
