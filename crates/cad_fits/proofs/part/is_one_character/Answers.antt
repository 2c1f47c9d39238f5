use Rattle.std.proofs.Common.{◌≡◌, true, subst, refl}
use Rattle.std.specs.Str.{IsUtf8, is_utf8}
use Rattle.std.proofs.lemmas.Str.{is_utf8-from_IsUtf8}
use Rattle.cad_fits.proofs.part.is_one_character.Goals as goal

pub returns : goal.returns
returns c =
    let u : is_utf8 c.args.text.now ≡ true = is_utf8-from_IsUtf8 c.args.text.now (subst IsUtf8 c.as_str-content.ensures c.as_str-content.utf8) in
    rw (c.length.ensures, c.as_str-content.ensures, u) refl
