use Rattle.std.proofs.Common.{◌≡◌, true, map, take}
use Rattle.std.specs.List.{list_all}
use Rattle.cad_syntax.specs.Names.{is_name_text}
use Rattle.cad_syntax.proofs.type_id.names_from.Given as goal

abbrev pub invariant-loop-text : goal.invariant-loop-text
invariant-loop-text l = record {
  all_names : list_all (λ text. is_name_text text.now) (take l.text-index l.texts) ≡ true;
  so_far : l.names ≡ map (λ text. record { 0 = text.now }) (take l.text-index l.texts);
}
