use Rattle.cad_casts.proofs.References.{reference_is}
use Rattle.cad_evaluation.specs.Accounts.{account_in_value}
use Rattle.cad_services.proofs.AccountLaws.{account_named}
use Rattle.cad_services.specs.Code.Services.{address_in_target}
use Rattle.cad_syntax.specs.Types.{pure_type}
use Rattle.std.proofs.Common.{Bool, ap, sym, ◌∙◌}
use Rattle.std.specs.Prelude.{None, if◌then◌else◌}
use Rattle.cad_services.proofs.accounts.address_in_reference.Goals as goal

pub returns-then-is_part : goal.returns-then-is_part
returns-then-is_part c =
    let r = c.args.reference.now in
    c.address_in_target.ensures ∙ sym (ap (account_in_value c.args.part) (reference_is r) ∙ account_named c.args.part r.authorization (pure_type r.target) r.to ∙ ap (λ (b : Bool). if b then address_in_target r.to else None) (sym c.is_part.ensures ∙ c.if-is_part.true))

pub returns-else-is_part : goal.returns-else-is_part
returns-else-is_part c =
    let r = c.args.reference.now in
    sym (ap (account_in_value c.args.part) (reference_is r) ∙ account_named c.args.part r.authorization (pure_type r.target) r.to ∙ ap (λ (b : Bool). if b then address_in_target r.to else None) (sym c.is_part.ensures ∙ c.if-is_part.false))
