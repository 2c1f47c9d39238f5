use Rattle.std.proofs.Common.{arith}
use Rattle.cad_keys.proofs.Kept.{fits_in, with_one}
use Rattle.cad_keys.proofs.keys.with_key.Goals as goal

pub push-requires-clause-buckets : goal.push-requires-clause-buckets
push-requires-clause-buckets c =
    let fits = fits_in c.args.index c.in-Some.index c.deref_mut.result.now c.args.rows.now c.in-Some.is c.deref_mut.ensures.value c.requires in
    let some = fits.buckets in
    let same = c.deref_mut.result.now.heads.ok.0 in
    omega arith

pub returns : goal.returns
returns c =
    with_one _ _ _ _ c.args.rows.now c.args.key.now c.in_ok-hash.hash (fits_in c.args.index c.in-Some.index c.deref_mut.result.now c.args.rows.now c.in-Some.is c.deref_mut.ensures.value c.requires)
    c.in_ok-hash.ensures c.in_ok-push.ensures.heads c.in_ok-push.ensures.links
