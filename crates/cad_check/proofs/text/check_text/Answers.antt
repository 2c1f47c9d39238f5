use Rattle.std.proofs.Common.{◌∙◌, ap, Err}
use Rattle.cad_grammar.specs.Views.{program_of}
use Rattle.cad_tables.specs.Views.{contracts_of}
use Rattle.cad_check.proofs.Verdicts.{text_told, unread_text}
use Rattle.cad_check.proofs.text.check_text.Goals as goal

pub returns-in-Ok : goal.returns-in-Ok
returns-in-Ok c = text_told (contracts_of c.args.deployed.now) c.args.place c.args.text.now (program_of c.in-Ok.program) c.check.result c.in-Ok.ensures.found c.check.ensures

pub returns-in-Err-At : goal.returns-in-Err-At
returns-in-Err-At c =
    unread_text (contracts_of c.args.deployed.now) c.args.place c.args.text.now c.in-Err-At.phase c.in-Err-At.at c.unread.result (c.unread.ensures.phase ∙ c.in-Err-At.phase-is) c.unread.ensures.inside (c.unread.ensures.at ∙ c.in-Err-At.at-is)
    (c.in-Err-At.ensures.stops c.in-Err-At.phase c.in-Err-At.at (ap Err c.in-Err-At.field-0-is))
