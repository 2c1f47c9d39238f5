use Rattle.std.proofs.Common.{◌≡◌, ◌++◌, ◌∷◌, []}
use Rattle.std.proofs.lemmas.Result.{err_from_is_err_and}
use Rattle.cad_syntax.specs.declared.type_id.TypeId.{TypeId}
use Rattle.std.specs.Prelude.{List}
use Rattle.cad_codec.specs.Code.Fields.{members_at, id_at}
use Rattle.cad_codec.proofs.Members.{goes_on, ends, is_done}
use Rattle.cad_codec.proofs.reading_types.read_id_members.Goals as goal

pub returns-in_err-id : goal.returns-in_err-id
returns-in_err-id c =
    let p = err_from_is_err_and c.from_residual.result c.from_residual.ensures.1 in
    rw (p.1, p.2) (ends (λ (n : TypeId). n) (λ (ns : List TypeId). ns) c.in_err-id.field-0.0 id_at c.loop.ids c.args.count c.loop.counter c.loop.reader c.read_id.new.reader c.read_id.new.reader (members_at id_at c.args.count c.args.reader.now) c.loop-test.true c.in_err-id.ensures c.loop.invariant)

pub loop-preserved : goal.loop-preserved
loop-preserved c =
    let pushed : c.push.new.self ≡ c.loop.ids ++ c.in_ok-id.id ∷ [] = c.in_ok-push.ensures.ok in
    rw pushed (goes_on id_at c.loop.ids c.args.count c.loop.counter c.loop.reader c.in_ok-id.id c.read_id.new.reader (members_at id_at c.args.count c.args.reader.now) c.loop-test.true c.in_ok-id.ensures c.loop.invariant)

pub returns : goal.returns
returns c = is_done id_at c.loop.ids c.args.count c.loop.counter c.loop.reader (members_at id_at c.args.count c.args.reader.now) c.loop-test.false c.loop.invariant
