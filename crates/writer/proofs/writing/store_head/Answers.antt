-- Each part is its field's bytes. Assumes nothing.
use mathlib.Core.Bool.{true}
use mathlib.Core.Path.{◌∙◌}
use native.Mathlib.Omega.{arith}
use Rattle.message.specs.Layout.{encrypted}
use Rattle.message.specs.Value.{header_of, address_bytes, head_bytes}
use Rattle.writer.proofs.Fields.{little_field, big_field, six}
use Rattle.writer.proofs.writing.store_head.Goals as goal

pub returns : goal.returns
unfolding head_bytes address_bytes
returns c =
    let m = c.args.m in
    six
    (little_field true 2 (header_of m) _ c.split_at_mut-header.ensures.front_len (rw c.header_of.ensures at c.put.ensures))
    (little_field true 4 m.id _ c.split_at_mut-id.ensures.front_len c.put-2.ensures)
    (big_field m.sourced 8 m.source _ (c.split_at_mut-source.ensures.front_len ∙ c.only_of.ensures.0) c.put-3.ensures)
    (big_field m.destined 8 m.destination _ (c.split_at_mut-destination.ensures.front_len ∙ c.only_of-2.ensures.0) c.put-4.ensures)
    (little_field (encrypted m) 2 m.key _
    (let a = c.split_at_mut-address.ensures.front_len ∙ c.body_at.ensures.0 in
    let h = c.split_at_mut-header.ensures.back_len in
    let i = c.split_at_mut-id.ensures.back_len in
    let s = c.split_at_mut-source.ensures.back_len in
    let sn = c.only_of.ensures.0 in
    let d = c.split_at_mut-destination.ensures.back_len in
    let dn = c.only_of-2.ensures.0 in
    omega arith)
    c.put-5.ensures)
    c.store_body.ensures
