-- Facts together, where what they are told of is yet to be found.

pub pair : {A B : Type 0} → A → B → A × B
pair a b = (a, b)
