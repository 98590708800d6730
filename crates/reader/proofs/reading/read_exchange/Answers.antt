-- Each answer stands at the first condition that holds; then its fields decide. Assumes nothing.
use Rattle.std.specs.Prelude.{Err}
use Prim.Native.Nat.{ℕ, ◌+◌, ◌≤◌}
use mathlib.Core.Path.{◌≡◌, sym, ap, ◌∙◌}
use native.Mathlib.Omega.{arith}
use lib.ListN.{length}
use Rattle.wire.specs.Bytes.{part, little}
use Rattle.wire.proofs.Places.{place_get}
use Rattle.message.proofs.Logic.{so}
use Rattle.message.specs.Layout.{body_of}
use Rattle.message.specs.declared.answers.Reason.TheVariants.{Exchange, OldAsks}
use Rattle.reader.specs.Steps.{finished}
use Rattle.reader.proofs.Steps.{exchange_header_lem, exchange_asks, exchange_fields}
use Rattle.reader.proofs.reading.read_exchange.Goals as goal

pub returns-then-bad_exchange : goal.returns-then-bad_exchange
returns-then-bad_exchange c =
    let room : c.body_at-at.result + 1 ≤ length c.args.bytes.now = omega (arith, c.body_at-at.ensures.0, c.requires.1) in
    let head : c.get-x.result ≡ little (part c.args.bytes.now c.body_at-at.result 1) = c.get-x.ensures ∙ ap little (place_get c.args.bytes.now c.body_at-at.result 1 room) in
    let header : c.get-x.result ≡ little (part c.args.bytes.now (body_of c.args.m) 1) = head ∙ ap (λ (n : ℕ). little (part c.args.bytes.now n 1)) c.body_at-at.ensures.0 in
    let v = c.args in
    ap (λ r. finished v.m (Err r)) c.at.ensures
    ∙ ap (λ (i : ℕ). Err (record { reason = Exchange; offset = i })) c.body_at-at.ensures.0
    ∙ sym (exchange_header_lem v.bytes.now v.m _ header (so c.bad_exchange.ensures c.if-bad_exchange.true))

pub returns-then-old_asks : goal.returns-then-old_asks
returns-then-old_asks c =
    let room : c.body_at-at.result + 1 ≤ length c.args.bytes.now = omega (arith, c.body_at-at.ensures.0, c.requires.1) in
    let head : c.get-x.result ≡ little (part c.args.bytes.now c.body_at-at.result 1) = c.get-x.ensures ∙ ap little (place_get c.args.bytes.now c.body_at-at.result 1 room) in
    let header : c.get-x.result ≡ little (part c.args.bytes.now (body_of c.args.m) 1) = head ∙ ap (λ (n : ℕ). little (part c.args.bytes.now n 1)) c.body_at-at.ensures.0 in
    let v = c.args in
    ap (λ r. finished v.m (Err r)) c.at-then-old_asks.ensures
    ∙ ap (λ (i : ℕ). Err (record { reason = OldAsks; offset = i })) c.body_at-at.ensures.0
    ∙ sym (exchange_asks v.bytes.now v.m _ header (so c.bad_exchange.ensures c.if-bad_exchange.false) (so c.old_asks.ensures c.if-old_asks.true))

pub read_fields-requires : goal.read_fields-requires
read_fields-requires c =
    let room : c.body_at-at.result + 1 ≤ length c.args.bytes.now = omega (arith, c.body_at-at.ensures.0, c.requires.1) in
    let head : c.get-x.result ≡ little (part c.args.bytes.now c.body_at-at.result 1) = c.get-x.ensures ∙ ap little (place_get c.args.bytes.now c.body_at-at.result 1 room) in
    let p = c.requires in
    (head, c.body_at-at.ensures.0, p.0, p.1)

pub returns : goal.returns
returns c =
    let room : c.body_at-at.result + 1 ≤ length c.args.bytes.now = omega (arith, c.body_at-at.ensures.0, c.requires.1) in
    let head : c.get-x.result ≡ little (part c.args.bytes.now c.body_at-at.result 1) = c.get-x.ensures ∙ ap little (place_get c.args.bytes.now c.body_at-at.result 1 room) in
    let header : c.get-x.result ≡ little (part c.args.bytes.now (body_of c.args.m) 1) = head ∙ ap (λ (n : ℕ). little (part c.args.bytes.now n 1)) c.body_at-at.ensures.0 in
    let v = c.args in
    c.read_fields.ensures
    ∙ sym (exchange_fields v.bytes.now v.m _ header (so c.bad_exchange.ensures c.if-bad_exchange.false) (so c.old_asks.ensures c.if-old_asks.false))
