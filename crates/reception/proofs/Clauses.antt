-- The two clauses of a function that changes the table alone, each under its name. Assumes nothing.

pub by_clause : {A B : Type 0} → A × B → record { result : A; table : B }
by_clause p = record { result = p.0; table = p.1 }
