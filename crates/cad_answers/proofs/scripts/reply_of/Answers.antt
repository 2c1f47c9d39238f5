use Rattle.cad_answers.proofs.Replying.{told_as}
use Rattle.cad_answers.proofs.scripts.reply_of.Goals as goal

pub returns-in-Result : goal.returns-in-Result
returns-in-Result c = told_as c.args.reply _ c.in-Result.is

pub returns-in-Failed : goal.returns-in-Failed
returns-in-Failed c = told_as c.args.reply _ c.in-Failed.is

pub returns-in-Limit : goal.returns-in-Limit
returns-in-Limit c = told_as c.args.reply _ c.in-Limit.is

pub returns-in-Bad : goal.returns-in-Bad
returns-in-Bad c = told_as c.args.reply _ c.in-Bad.is

pub returns-in-IllTyped : goal.returns-in-IllTyped
returns-in-IllTyped c = told_as c.args.reply _ c.in-IllTyped.is
