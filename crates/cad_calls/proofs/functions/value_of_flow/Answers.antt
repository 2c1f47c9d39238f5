use Rattle.cad_calls.proofs.Runs.{void_given}
use Rattle.cad_calls.proofs.functions.value_of_flow.Goals as goal

pub returns-then-void : goal.returns-then-void
returns-then-void c type of =
    void_given type c.args.void c.args.flow c.void_value.result c.in-Next.is c.if-void.true of c.void_value.ensures
