use Rattle.std.proofs.Common.{arith}
use Rattle.std.proofs.lemmas.List.{length-map}
use Rattle.cad_keys.specs.Code.Indices.{hash_of}
use Rattle.cad_keys.proofs.Kept.{fits_in, without_one}
use Rattle.cad_keys.proofs.keys.without.Goals as goal

pub remove-requires : goal.remove-requires
remove-requires c =
    let fits = fits_in c.args.index c.in-Some.index c.deref_mut.result.now c.args.rows.now c.in-Some.is c.deref_mut.ensures.value c.requires.kept in
    let inside = c.requires.place in
    let many = fits.as_many in
    let all = length-map c.args.rows.now hash_of in
    let links = c.deref_mut.result.now.links.ok.0 in
    omega arith

pub returns : goal.returns
returns c =
    without_one _ _ _ _ c.args.rows.now c.args.place c.requires.place (fits_in c.args.index c.in-Some.index c.deref_mut.result.now c.args.rows.now c.in-Some.is c.deref_mut.ensures.value c.requires.kept)
    c.remove.ensures.heads c.remove.ensures.links
