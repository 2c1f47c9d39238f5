use Rattle.std.proofs.Common.{◌≡◌, ◌++◌, ◌∷◌, []}
use Rattle.std.proofs.lemmas.Result.{err_from_is_err_and}
use Rattle.cad_syntax.specs.declared.text.Name.{Name}
use Rattle.std.specs.Prelude.{List}
use Rattle.cad_codec.specs.Code.Fields.{members_at, name_at}
use Rattle.cad_codec.proofs.Members.{goes_on, ends, is_done}
use Rattle.cad_codec.proofs.reading_types.read_name_members.Goals as goal

pub returns-in_err-name : goal.returns-in_err-name
returns-in_err-name c =
    let p = err_from_is_err_and c.from_residual.result c.from_residual.ensures.1 in
    rw (p.1, p.2) (ends (λ (n : Name). n) (λ (ns : List Name). ns) c.in_err-name.field-0.0 name_at c.loop.names c.args.count c.loop.counter c.loop.reader c.read_name.new.reader c.read_name.new.reader (members_at name_at c.args.count c.args.reader.now) c.loop-test.true c.in_err-name.ensures c.loop.invariant)

pub loop-preserved : goal.loop-preserved
loop-preserved c =
    let pushed : c.push.new.self ≡ c.loop.names ++ c.in_ok-name.name ∷ [] = c.in_ok-push.ensures.ok in
    rw pushed (goes_on name_at c.loop.names c.args.count c.loop.counter c.loop.reader c.in_ok-name.name c.read_name.new.reader (members_at name_at c.args.count c.args.reader.now) c.loop-test.true c.in_ok-name.ensures c.loop.invariant)

pub returns : goal.returns
returns c = is_done name_at c.loop.names c.args.count c.loop.counter c.loop.reader (members_at name_at c.args.count c.args.reader.now) c.loop-test.false c.loop.invariant
