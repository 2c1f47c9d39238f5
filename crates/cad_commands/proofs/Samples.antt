-- What some lines ask for.
use Rattle.std.specs.Prelude.{⊤, [], ◌∷◌, codes}
use Rattle.std.proofs.Common.{◌≡◌, refl}
use Rattle.std.specs.Str.{chars, is_utf8}
use Rattle.serde_json.specs.Data.{null, unsigned, number}
use Rattle.serde_json.proofs.OnLiterals.{serde_json_on_literals}
use Rattle.cad_runs.specs.Commands.{account, deploy, transaction, script, refused}
use Rattle.cad_commands.specs.Commands.{json_of, command_of}

-- what computes on a line that is written out
unfoldable computed : ⊤
unfolding serde_json_on_literals chars is_utf8 json_of
computed = tt

-- ---- the four kinds

an_account : command_of (codes "{\"kind\":\"account\",\"limit\":0}") ≡ account
unfolding computed
an_account = refl

a_script : command_of (codes "{\"kind\":\"script\",\"code\":\"c\"}") ≡ script (codes "c") [] 9999
unfolding computed
a_script = refl

a_deploy : command_of (codes "{\"kind\":\"deploy\",\"name\":\"N\",\"address\":\"0x1F\",\"code\":\"c\",\"arguments\":[1,null],\"limit\":1000000}")
    ≡ deploy (record { 0 = 31 }) (codes "N") (codes "c") (number (unsigned 1) ∷ null ∷ []) 1000000
unfolding computed
a_deploy = refl

-- of two limits the last stands
a_transaction : command_of (codes "{\"kind\":\"transaction\",\"signers\":[\"0x1\",\"0x02\"],\"limit\":0,\"code\":\"c\",\"limit\":1}")
    ≡ transaction (codes "c") [] (record { 0 = 1 } ∷ record { 0 = 2 } ∷ []) 1
unfolding computed
a_transaction = refl

-- ---- refusals

no_json : command_of (codes "hello") ≡ refused 21
unfolding computed
no_json = refl

-- bytes that are no UTF-8
no_utf8 : command_of (34 ∷ 255 ∷ 34 ∷ []) ≡ refused 21
unfolding computed
no_utf8 = refl

no_kind : command_of (codes "{}") ≡ refused 22
unfolding computed
no_kind = refl

no_object : command_of (codes "[\"kind\"]") ≡ refused 22
unfolding computed
no_object = refl

kind_of_no_text : command_of (codes "{\"kind\":1}") ≡ refused 22
unfolding computed
kind_of_no_text = refl

other_kind : command_of (codes "{\"kind\":\"dance\"}") ≡ refused 23
unfolding computed
other_kind = refl

no_code : command_of (codes "{\"kind\":\"script\"}") ≡ refused 22
unfolding computed
no_code = refl

-- a field that isn't of its form is refused before the limit is looked at
form_before_limit : command_of (codes "{\"kind\":\"transaction\",\"code\":\"c\",\"signers\":[\"1\"],\"limit\":0}") ≡ refused 22
unfolding computed
form_before_limit = refl

no_units : command_of (codes "{\"kind\":\"script\",\"code\":\"c\",\"limit\":0}") ≡ refused 28
unfolding computed
no_units = refl

too_many_units : command_of (codes "{\"kind\":\"script\",\"code\":\"c\",\"limit\":1000001}") ≡ refused 28
unfolding computed
too_many_units = refl

-- ---- whole numbers are written in digits alone, and are below 2^64

point : command_of (codes "{\"kind\":\"script\",\"code\":\"c\",\"limit\":1.0}") ≡ refused 22
unfolding computed
point = refl

exponent : command_of (codes "{\"kind\":\"script\",\"code\":\"c\",\"limit\":1e3}") ≡ refused 22
unfolding computed
exponent = refl

sign : command_of (codes "{\"kind\":\"script\",\"code\":\"c\",\"limit\":-0}") ≡ refused 22
unfolding computed
sign = refl

past_words : command_of (codes "{\"kind\":\"script\",\"code\":\"c\",\"limit\":18446744073709551616}") ≡ refused 22
unfolding computed
past_words = refl

last_word : command_of (codes "{\"kind\":\"script\",\"code\":\"c\",\"limit\":18446744073709551615}") ≡ refused 28
unfolding computed
last_word = refl
