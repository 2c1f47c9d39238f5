use Rattle.std.proofs.Common.{refl, arith}
use Rattle.cad_answers.proofs.making.add_account.Goals as goal

pub returns-in-Ok : goal.returns-in-Ok
returns-in-Ok c = record {
  one = record { index = c.args.part.now.count; account = c.new_account.result };
  known = c.in-Ok.ensures.items;
  index = refl;
  account = c.new_account.ensures;
  count = omega arith;
  contracts = refl;
  identity = refl;
}
