-- How far a message reaches: not past the end of the stream, and past its length field. What it does to the table. Assumes nothing.
use Prim.Native.Nat.{ℕ, ◌+◌, ◌≤◌, ◌<◌}
use mathlib.Core.Path.{◌≡◌, refl, sym, ap, ◌∙◌}
use mathlib.Core.List.{List}
use native.Mathlib.Omega.{arith}
use lib.ListN.{length, drop}
use Rattle.message.specs.declared.answers.Unframed.{Unframed}
use Rattle.message.specs.declared.answers.Unframed.TheVariants.{Whole, Incomplete}
use Rattle.stream.specs.Stream.{unframe_of, framed_message, rest_in, framed_rest}
use Rattle.stream.proofs.Streams.{whole_there}
use Rattle.listing.specs.Listing.{heard_table, passed_in, passed_of, table_in, table_past}

-- a whole message, with its length before it
pub passed_whole : (s : List ℕ) (n : ℕ) → unframe_of s ≡ Whole n → (2 + n ≡ passed_of s) × (2 + n ≤ length s)
unfolding passed_of
passed_whole s n e = (sym (ap passed_in e), (whole_there s n e).1)

-- an incomplete one
pub passed_none : (s : List ℕ) (n : ℕ) → unframe_of s ≡ Incomplete n → 0 ≡ passed_of s
unfolding passed_of
passed_none s n e = sym (ap passed_in e)

-- where a message is passed, its length field is
passed_field : (u : Unframed) → 0 < passed_in u → 2 ≤ passed_in u
passed_field (Whole n) h = omega arith
passed_field (Incomplete n) h = let z : ⊥ = omega arith in absurd z

pub passed_two : (s : List ℕ) → 0 < passed_of s → 2 ≤ passed_of s
unfolding passed_of
passed_two s h = passed_field (unframe_of s) h

-- what stands after a whole message
pub rest_whole : (s : List ℕ) (n : ℕ) → unframe_of s ≡ Whole n → framed_rest s ≡ drop (passed_of s) s
unfolding passed_of framed_rest
rest_whole s n e = ap (rest_in s) e ∙ sym (ap (λ (u : Unframed). drop (passed_in u) s) e)

-- no more is passed than there is
pub passed_within : (s : List ℕ) → passed_of s ≤ length s
unfolding passed_of
passed_within s = by (unframe_of s) refl
  where
    by : (u : Unframed) → unframe_of s ≡ u → passed_in u ≤ length s
    by (Whole n) e = (whole_there s n e).1
    by (Incomplete n) e = omega arith

-- the table past a whole message, and past an incomplete one
pub table_whole : (s t : List ℕ) (n : ℕ) → unframe_of s ≡ Whole n → heard_table (framed_message s) t ≡ table_past s t
unfolding table_past
table_whole s t n e = sym (ap (λ (u : Unframed). table_in u s t) e)

pub table_none : (s t : List ℕ) (n : ℕ) → unframe_of s ≡ Incomplete n → t ≡ table_past s t
unfolding table_past
table_none s t n e = sym (ap (λ (u : Unframed). table_in u s t) e)
