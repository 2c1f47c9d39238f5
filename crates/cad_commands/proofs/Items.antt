-- The items of a list.
use Rattle.std.proofs.Common.{◌≡◌, ◌∙◌, List, [], ◌∷◌, map, Some, Vec, Global, refl, sym, ap}
use Rattle.serde_json.specs.Data.{Data}
use Rattle.serde_json.specs.View.{view, items_of}
use Rattle.serde_json.specs.declared.value.Value.{Value, Array}
use Rattle.serde_json.proofs.Views.{view-Array}
use Rattle.cad_commands.specs.Fields.{item_list, list_of}

items_back : (ds : List Data) → item_list (items_of ds) ≡ ds
items_back [] = refl
items_back (d ∷ ds) = ap (λ (all : List Data). d ∷ all) (items_back ds)

pub all_items : (json : Value) (list : Vec Value Global) → json ≡ Array list → Some (map view list.items) ≡ list_of (view json)
all_items json list is = sym (ap list_of (ap view is ∙ view-Array list) ∙ ap Some (items_back (map view list.items)))
