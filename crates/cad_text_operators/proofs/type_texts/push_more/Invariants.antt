use Rattle.std.proofs.Common.{◌≡◌, ◌++◌, drop}
use Rattle.cad_text_operators.specs.Identifiers.{more}
use Rattle.cad_text_operators.proofs.type_texts.push_more.Given as goal

abbrev pub invariant-loop-id : goal.invariant-loop-id
invariant-loop-id l = l.text ++ more l.separator (drop l.id-index l.ids) ≡ l.fn.text ++ more l.separator l.ids
