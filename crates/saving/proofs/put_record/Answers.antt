-- Each part is its field's bytes. Assumes nothing.
use Prim.Native.Nat.{◌%◌}
use native.Mathlib.Omega.{arith}
use Rattle.wire.specs.Bytes.{little_bytes, big_bytes}
use Rattle.records.specs.Records.{record_of}
use Rattle.saving.proofs.Filled.{filled, five}
use Rattle.saving.proofs.put_record.Goals as goal

pub returns : goal.returns
unfolding record_of
returns c =
    let row = c.args.row in
    five
    (filled (little_bytes 2 0x5752) _ c.split_at_mut-mark.ensures.front_len c.put.ensures)
    (filled (big_bytes 8 row.node) _ c.split_at_mut-node.ensures.front_len c.put-2.ensures)
    (filled (little_bytes 2 row.key) _ c.split_at_mut-key.ensures.front_len c.put-3.ensures)
    (filled (little_bytes 4 row.highest) _ c.split_at_mut-highest.ensures.front_len c.put-4.ensures)
    (filled (little_bytes 2 (row.marks % 32768)) _ (omega (arith, c.requires, c.split_at_mut-mark.ensures.back_len, c.split_at_mut-node.ensures.back_len, c.split_at_mut-key.ensures.back_len, c.split_at_mut-highest.ensures.back_len)) c.put-5.ensures)
