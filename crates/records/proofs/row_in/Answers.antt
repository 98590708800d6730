-- Each field is read at its place; a slice that is too short gives a free row. Assumes nothing.
use mathlib.Core.Path.{sym, ap, ◌∙◌}
use mathlib.Core.Bool.{true}
use native.Mathlib.Omega.{arith}
use Rattle.wire.specs.Bytes.{little, big}
use Rattle.wire.proofs.Places.{place_get}
use Rattle.records.specs.Records.{row_in}
use Rattle.records.proofs.Fronts.{front_row_lem, front_none}
use Rattle.records.proofs.row_in.Goals as goal

pub returns-then-bytes-lt-RECORD : goal.returns-then-bytes-lt-RECORD
returns-then-bytes-lt-RECORD c = sym (front_none _ c.if-bytes-lt-RECORD.true)

pub returns : goal.returns
unfolding row_in
returns c =
    let bytes = c.args.bytes.now in
    let fits = c.if-bytes-lt-RECORD.false in
    let node = c.get.ensures ∙ ap big (place_get bytes 2 8 (omega arith)) in
    let key = c.get-2.ensures ∙ ap little (place_get bytes 10 2 (omega arith)) in
    let highest = c.get-3.ensures ∙ ap little (place_get bytes 12 4 (omega arith)) in
    let marks = c.get-4.ensures ∙ ap little (place_get bytes 16 2 (omega arith)) in
    (λ i. record { used = true; node = node i; key = key i; highest = highest i; marks = marks i }) ∙ sym (front_row_lem bytes fits)
