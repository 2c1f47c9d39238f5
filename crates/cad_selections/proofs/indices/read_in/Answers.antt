use Rattle.cad_selections.proofs.indices.read_in.Goals as goal

pub returns-in-Array : goal.returns-in-Array
returns-in-Array c = rw c.in-Array.is c.read_in_array.ensures

pub returns-in-Dictionary : goal.returns-in-Dictionary
returns-in-Dictionary c = rw c.in-Dictionary.is c.read_in_dictionary.ensures
