-- What a whole message and an incomplete one pass. Assumes nothing.
use Prim.Native.Nat.{ℕ}
use mathlib.Core.Path.{sym, ap, ◌∙◌}
use mathlib.Core.List.{List}
use native.Mathlib.Omega.{arith}
use Rattle.message.proofs.Logic.{so}
use Rattle.listing.specs.Listing.{heard_table}
use Rattle.listing.proofs.Passing.{passed_whole, passed_none, rest_whole, table_whole, table_none}
use Rattle.listing.proofs.listing.step.Goals as goal

pub returns-in-Whole : goal.returns-in-Whole
returns-in-Whole g c =
    let a = c.args in
    let e = so c.unframe.ensures c.in-Whole.is in
    record {
      rest = (let p = passed_whole a.stream.now _ e in omega arith, c.framed_rest.ensures ∙ rest_whole a.stream.now _ e);
      table = c.hear.ensures.table ∙ ap (λ (m : List ℕ). heard_table m a.table.now) c.framed_message.ensures ∙ table_whole a.stream.now a.table.now _ e;
    }

pub returns-in-Incomplete : goal.returns-in-Incomplete
returns-in-Incomplete g c =
    let a = c.args in
    let e = so c.unframe.ensures c.in-Incomplete.is in
    record { rest = sym (passed_none a.stream.now _ e); table = table_none a.stream.now a.table.now _ e }
