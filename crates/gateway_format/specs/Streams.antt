-- Streams: what unframing puts into the lent places. Assumes nothing.
use Rattle.std.specs.Prelude.{ℕ, ◌+◌, ◌-◌, List, [], ◌∷◌}
use Rattle.message.specs.declared.answers.Unframed.{Unframed}

-- unframing, of a stream of n bytes: nothing wanted, then where the message and the rest stand; or what is wanted, and zeros
abbrev pub frame_places : Unframed → ℕ → List ℕ
frame_places (Unframed.Whole len) n = 0 ∷ 2 ∷ len ∷ (2 + len) ∷ (n - (2 + len)) ∷ []
frame_places (Unframed.Incomplete wants) n = wants ∷ 0 ∷ 0 ∷ 0 ∷ 0 ∷ []
