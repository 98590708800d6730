-- Each part is its field's bytes. Assumes nothing.
use mathlib.Core.Bool.{true}
use native.Mathlib.Omega.{arith}
use Rattle.message.specs.Value.{exchange_header_of, exchange_bytes}
use Rattle.writer.proofs.Fields.{little_field, five}
use Rattle.writer.proofs.writing.store_body.Goals as goal

pub returns-then-m : goal.returns-then-m
returns-then-m c = rw c.if-m.true (little_field true 1 1 _ (rw c.if-m.true at c.requires) c.put.ensures)

pub returns : goal.returns
unfolding exchange_bytes
returns c =
    let m = c.args.m in
    let last = rw c.if-m.false at c.requires in
    rw c.if-m.false
    (five
    (little_field true 1 (exchange_header_of m) _ c.split_at_mut-header.ensures.front_len (rw c.exchange_header_of.ensures at c.put-2.ensures))
    (little_field true 1 m.kind _ c.split_at_mut-kind.ensures.front_len c.put-3.ensures)
    (little_field true 2 m.exchange _ c.split_at_mut-exchange.ensures.front_len c.put-4.ensures)
    (little_field true 4 m.profile _ c.split_at_mut-profile.ensures.front_len c.put-5.ensures)
    (little_field m.acknowledges 4 m.acknowledged _ (omega (arith, last, c.split_at_mut-header.ensures.back_len, c.split_at_mut-kind.ensures.back_len, c.split_at_mut-exchange.ensures.back_len, c.split_at_mut-profile.ensures.back_len)) c.put-6.ensures))
