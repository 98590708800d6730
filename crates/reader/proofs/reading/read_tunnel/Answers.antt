-- Each answer stands at the first condition that holds. Assumes nothing.
use Prim.Native.Nat.{◌+◌}
use mathlib.Core.Path.{◌≡◌, sym, ap, ◌∙◌}
use mathlib.Core.Bool.{false, not}
use borrow.Author.Tests.{eq-eqb, ne_eqb}
use lib.ListN.{get_or}
use Rattle.message.specs.Layout.{up_to_check}
use Rattle.message.specs.Refusals.{bad_tunnel, bad_packet, bad_packet_length}
use Rattle.std.specs.Prelude.{Err}
use Rattle.message.proofs.Logic.{so}
use Rattle.reader.specs.Steps.{finished}
use Rattle.reader.proofs.Flags.{tunnel_taken}
use Rattle.reader.proofs.Steps.{tunnel_version, tunnel_packet, tunnel_length, tunnel_whole}
use Rattle.reader.proofs.reading.read_tunnel.Goals as goal

pub returns-then-bytes-at-ne-TUNNEL_VERSION : goal.returns-then-bytes-at-ne-TUNNEL_VERSION
returns-then-bytes-at-ne-TUNNEL_VERSION c =
    let v = c.args in
    ap (λ r. finished v.m (Err r)) c.at.ensures
    ∙ sym (tunnel_version v.bytes.now v.m _ c.body_at-at.ensures.0 (ap not (ne_eqb _ _ c.if-bytes-at-ne-TUNNEL_VERSION.true)))

pub returns-then-bad_packet : goal.returns-then-bad_packet
returns-then-bad_packet c =
    let v = c.args in
    ap (λ r. finished v.m (Err r)) c.at-then-bad_packet.ensures
    ∙ sym (tunnel_packet v.bytes.now v.m _ c.body_at-at.ensures.0 (ap not (eq-eqb _ _ c.if-bytes-at-ne-TUNNEL_VERSION.false)) (so c.bad_packet.ensures c.if-bad_packet.true))

pub returns-then-bad_packet_length : goal.returns-then-bad_packet_length
returns-then-bad_packet_length c =
    let version : bad_tunnel (get_or c.args.bytes.now c.body_at-at.result 0) ≡ false = ap not (eq-eqb _ _ c.if-bytes-at-ne-TUNNEL_VERSION.false) in
    let packet : bad_packet (get_or c.args.bytes.now (c.body_at-at.result + 1) 0) ≡ false = so c.bad_packet.ensures c.if-bad_packet.false in
    let sized : c.bad_packet_length.result ≡ bad_packet_length (up_to_check c.args.m (c.body_at-at.result + 1) c.args.bytes.now) = let pre = c.requires in simp (c.bad_packet_length.ensures, c.only_of.ensures.0, ← pre.2) in
    let v = c.args in
    ap (λ r. finished v.m (Err r)) c.at-then-bad_packet_length.ensures
    ∙ sym (tunnel_length v.bytes.now v.m _ c.body_at-at.ensures.0 version packet (so sized c.if-bad_packet_length.true))

pub returns : goal.returns
returns c =
    let version : bad_tunnel (get_or c.args.bytes.now c.body_at-at.result 0) ≡ false = ap not (eq-eqb _ _ c.if-bytes-at-ne-TUNNEL_VERSION.false) in
    let packet : bad_packet (get_or c.args.bytes.now (c.body_at-at.result + 1) 0) ≡ false = so c.bad_packet.ensures c.if-bad_packet.false in
    let sized : c.bad_packet_length.result ≡ bad_packet_length (up_to_check c.args.m (c.body_at-at.result + 1) c.args.bytes.now) = let pre = c.requires in simp (c.bad_packet_length.ensures, c.only_of.ensures.0, ← pre.2) in
    let v = c.args in
    let p = c.requires in
    tunnel_taken v.m _ p.0 p.1 c.body_at-at.ensures.0
    ∙ sym (tunnel_whole v.bytes.now v.m _ c.body_at-at.ensures.0 version packet (so sized c.if-bad_packet_length.false))
