use Rattle.cad_number_codec.proofs.Decoded.{found, not_short, not_none, the_one}
use Rattle.cad_number_codec.proofs.reading.read_value.Goals as goal

pub returns-in_err-kind-clause-only : goal.returns-in_err-kind-clause-only
returns-in_err-kind-clause-only c =
    λ v rest has e. absurd (not_short v c.args.reader.now c.byte.new.self rest c.in_ok-byte.field-0 has c.in_ok-byte.ensures.ok e c.in_err-kind.ensures.short)

pub returns-in-Some-clause-found : goal.returns-in-Some-clause-found
returns-in-Some-clause-found c =
    λ fits. found c.args.reader.now c.byte.new.self c.parts_of.new.reader c.in_ok-byte.field-0 c.in-Some.n c.in_ok-kind.kind c.in_ok-kind.sign c.in_ok-kind.upper c.in_ok-kind.lower fits c.in_ok-byte.ensures.ok c.if-branch-ne4.false c.in_ok-kind.ensures.ok c.in-Some.ensures.found

pub returns-in-Some-clause-only : goal.returns-in-Some-clause-only
returns-in-Some-clause-only c =
    λ v rest has e. the_one v c.args.reader.now c.byte.new.self rest c.in_ok-byte.field-0 c.in-Some.n c.in_ok-kind.kind c.in_ok-kind.sign c.in_ok-kind.upper c.in_ok-kind.lower c.parts_of.new.reader has c.in_ok-byte.ensures.ok e c.in_ok-kind.ensures.ok c.in-Some.ensures.found

pub returns-in-None-clause-only : goal.returns-in-None-clause-only
returns-in-None-clause-only c =
    λ v rest has e. absurd (not_none v c.args.reader.now c.byte.new.self rest c.in_ok-byte.field-0 c.in_ok-kind.kind c.in_ok-kind.sign c.in_ok-kind.upper c.in_ok-kind.lower c.parts_of.new.reader has c.in_ok-byte.ensures.ok e c.in_ok-kind.ensures.ok c.in-None.ensures.none)
