use Rattle.std.proofs.Common.{arith, sym, ◌∙◌}
use Rattle.cad_syntax.proofs.DottedTexts.{names_stop, names_end}
use Rattle.cad_syntax.proofs.type_id.names_from.Goals as goal

pub returns-then-not-is_name : goal.returns-then-not-is_name
returns-then-not-is_name c =
    names_stop c.args.texts.now c.loop-text.text-index _ (omega arith) (sym c.is_name.ensures ∙ c.if-not-is_name.true)

pub returns : goal.returns
returns c = names_end c.args.texts.now c.loop-text.text-index c.loop-text.names (omega arith) c.loop-text.invariant.all_names c.loop-text.invariant.so_far
