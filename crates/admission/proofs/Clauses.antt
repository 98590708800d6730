-- The three clauses of a function that may let a message in, each under its name. Assumes nothing.

pub by_clause : {A B C : Type 0} → A × (B × C) → record { result : A; table : B; buffer : C }
by_clause p = record { result = p.0; table = p.1.0; buffer = p.1.1 }
