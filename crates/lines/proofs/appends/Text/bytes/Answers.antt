-- The part that is lent has the length of the slice, and comes back with its bytes. Assumes nothing.
use Prim.Native.Nat.{ℕ, ◌+◌, ◌-◌}
use mathlib.Core.Path.{◌≡◌, refl, sym, ap, ap₂, ◌∙◌}
use mathlib.Core.List.{List, ◌++◌, append_assoc}
use native.Mathlib.Omega.{arith}
use lib.ListN.{length, take, drop}
use lib.Seq.{sets-eq, drop-drop}
use Rattle.lines.proofs.appends.Text.bytes.Goals as goal

pub returns : goal.returns
returns c =
    let out = c.args.self.out.now in
    let from = c.args.from.now in
    let at = c.args.self.len in
    let w : at + length from - at ≡ length from = omega arith in
    let after : drop (at + length from - at) (drop at out) ≡ drop (at + length from) out = ap (λ (n : ℕ). drop n (drop at out)) w ∙ drop-drop (length from) at out in
    record {
      same = refl;
      len = refl;
      out =
          ap₂ (λ (a b : List ℕ). take at out ++ (a ++ b)) c.copy_from_slice.ensures.after after
          ∙ sym (append_assoc (take at out) from (drop (at + length from) out))
          ∙ sym (sets-eq from out at (omega arith));
    }
