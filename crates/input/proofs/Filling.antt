-- The front of a space after a read behind it: what stood there, and what was read. Assumes nothing.
use Rattle.std.proofs.Common.{◌≡◌, ℕ, ◌+◌, ◌≤◌, List, ◌++◌, length, take, sym, ap, subst, ◌∙◌, length-take-le}
use lib.Seq.{take-append-add, take-append-le}
use borrow.Rule.Slice.PartMut.{put_mid, post_of}
use Rattle.std.specs.declared.option.Option.{Option}
use Rattle.std.specs.Io.KnownBytes.{Consumes}
use Rattle.std.proofs.KnownBytes.{Consumes-trans}

front : (at k n : ℕ) (space part : List ℕ) → at ≤ length space → n ≤ length part → take (at + n) (put_mid at k space part) ≡ take at space ++ take n part
front at k n space part h i =
    ap (λ m. take (m + n) (put_mid at k space part)) (sym (length-take-le at space h))
    ∙ take-append-add (take at space) (part ++ post_of at k space) n
    ∙ ap (λ l. take at space ++ l) (take-append-le n part (post_of at k space) i)

-- and all of it was read
pub filled : (a b c : Option (List ℕ)) (at k n : ℕ) (space part : List ℕ) → at ≤ length space → n ≤ length part → Consumes a b (take at space) → Consumes b c (take n part)
    → Consumes a c (take (at + n) (put_mid at k space part))
filled a b c at k n space part h i before read =
    subst (Consumes a c) (sym (front at k n space part h i)) (Consumes-trans a b c (take at space) (take n part) before read)
