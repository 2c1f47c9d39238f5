-- When two keys of a dictionary are the same.
use Rattle.std.specs.Prelude.{◌≡◌, ◌≢◌, List, [], ◌∷◌, map}
use Rattle.std.specs.List.{AllByRecursion}
use Rattle.cad_text.specs.Texts.{normal_form}
use Rattle.cad_values.specs.Values.{PureValue, string, character}

-- a text or character in its NFC form; any other value stays
abbrev pub key_form : PureValue → PureValue
key_form (string text) = string (normal_form text)
key_form (character text) = character (normal_form text)
key_form v = v

-- two texts, or two characters, with one NFC form, or one value
abbrev pub SameKey : PureValue → PureValue → Type 0
SameKey a b = key_form a ≡ key_form b

-- no item of a list is one of those after it
abbrev pub Distinct : {A : Type 0} → List A → Type 0
Distinct [] = Unit {0}
Distinct (x ∷ xs) = AllByRecursion (λ y. y ≢ x) xs × Distinct xs

-- no two keys are the same
abbrev pub KeysDiffer : List PureValue → Type 0
KeysDiffer keys = Distinct (map key_form keys)
