-- What stands between the readers of types and the grammar.
use Rattle.cad_parse_type.proofs.TypeLaws.{TypeLaws}
use Rattle.cad_parse_type.proofs.NameLaws as names
use Rattle.cad_parse_type.proofs.Sound as sound
use Rattle.cad_parse_type.proofs.Facts as facts
use Rattle.cad_parse_type.proofs.Exact as exact

pub type_laws : TypeLaws
type_laws = record {
  dotted_sound = names.dotted_sound;
  dotted_reach = names.dotted_reach;
  dotted_exact = names.dotted_exact;
  dotted_list_sound = names.dotted_list_sound;
  dotted_list_filled = names.dotted_list_filled;
  dotted_list_exact = names.dotted_list_exact;
  entitled_sound = names.entitled_sound;
  entitled_exact = names.entitled_exact;
  type_sound = sound.type_sound;
  type_reach = exact.type_at_reach;
  type_exact = exact.type_at_exact;
  annotation_at_sound = sound.annotation_at_sound;
  annotation_at_reach = exact.annotation_at_reach;
  annotation_at_exact = exact.annotation_at_exact;
  arguments_sound = sound.arguments_sound;
  arguments_filled = sound.arguments_filled;
  arguments_exact = exact.arguments_exact;
  annotation_sound = sound.annotation_sound;
  annotation_exact = exact.annotated_exact;
  dotted_shorter = names.dotted_shorter;
  dotted_left = names.dotted_left;
  dotted_ends = names.dotted_ends;
  entitled_shorter = names.entitled_shorter;
  entitled_left = names.entitled_left;
  entitled_ends = names.entitled_ends;
  type_shorter = facts.type_shorter;
  type_falls = facts.type_falls;
  type_ends = facts.type_ends;
  annotation_shorter = facts.annotation_shorter;
  annotation_falls = facts.annotation_falls;
  annotation_ends = facts.annotation_ends;
  arguments_shorter = facts.arguments_shorter;
  arguments_left = facts.arguments_left;
  arguments_ends = facts.arguments_ends;
  annotated_shorter = facts.annotated_shorter;
  annotated_left = facts.annotated_left;
  annotated_ends = facts.annotated_ends;
}
