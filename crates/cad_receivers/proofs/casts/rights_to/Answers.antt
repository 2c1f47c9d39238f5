use Rattle.std.proofs.Common.{ap, sym, ◌∙◌}
use Rattle.cad_casts.proofs.References.{reference_is}
use Rattle.cad_receivers.proofs.CastLaws.{no_rights}
use Rattle.cad_receivers.specs.Code.Casts.{rights_of_value, rights_to}
use Rattle.cad_receivers.proofs.casts.rights_to.Goals as goal

pub returns-in-Stored : goal.returns-in-Stored
returns-in-Stored c = sym (ap rights_of_value (reference_is c.args.reference.now) ∙ ap (rights_to c.args.reference.now.authorization) c.in-Stored.is)

pub returns-in_default : goal.returns-in_default
returns-in_default c = sym (ap rights_of_value (reference_is c.args.reference.now) ∙ no_rights c.args.reference.now.authorization c.args.reference.now.to c.in_default.not-Stored)
