-- A value is read by its form.
use Rattle.std.proofs.Common.{◌≡◌, ℕ, suc, Option, Some, refl}
use Rattle.serde_json.specs.Data.{Data}
use Rattle.cad_syntax.specs.Types.{PureType}
use Rattle.cad_json_read.specs.Reading.{Known, value_of, of_form, typed_of}
use Rattle.cad_json_read.specs.declared.form.Form.{Form}

pub value_step : (k : Known) (left inner : ℕ) (want : PureType) (json : Data) (form : Form) (content : Data) → left ≡ suc inner → Some (form, content) ≡ typed_of json → value_of k left want json ≡ of_form k (value_of k inner) want form content
unfolding value_of
value_step k left inner want json form content is e = rw (is, ← e) refl
