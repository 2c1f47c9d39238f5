use Rattle.std.proofs.Common.{rules}
use Rattle.cad_heads.proofs.transaction.is_account_reference.Goals as goal

-- src/transaction.rt:109:1
pub returns-in-Reference : goal.returns-in-Reference
returns-in-Reference c = search (rules, c.is_account.ensures c.in-Reference.field-0)
