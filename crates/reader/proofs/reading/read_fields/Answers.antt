-- Without A nothing more can be refused; with A its four bytes end before the check, or 2. Assumes nothing.
use Rattle.std.specs.Prelude.{Ok, Err}
use Prim.Native.Nat.{ℕ, ◌+◌}
use mathlib.Core.Path.{◌≡◌, refl, sym, ap, subst, ◌∙◌}
use mathlib.Core.Bool.{Bool, false}
use mathlib.Core.List.{List}
use native.Mathlib.Omega.{arith}
use borrow.Author.Tests.{eq-eqb, ne_eqb}
use Rattle.wire.specs.Bytes.{part, little}
use Rattle.message.specs.Layout.{only, body_of}
use Rattle.message.specs.Value.{bit}
use Rattle.message.specs.Answers.{as_taken}
use Rattle.message.specs.declared.value.Message.{Message}
use Rattle.reader.specs.Steps.{exchanged, exchange_at, finished}
use Rattle.reader.specs.declared.reading.Exchange.{Exchange}
use Rattle.reader.proofs.Flags.{general_taken}
use Rattle.reader.proofs.Steps.{fields_bare, fields_lack, fields_whole}
use Rattle.reader.proofs.reading.read_fields.Goals as goal

flag : (x at body : ℕ) (bytes : List ℕ) (a : Bool) → x ≡ little (part bytes at 1) → at ≡ body → bit x 1 ≡ a → bit (little (part bytes body 1)) 1 ≡ a
flag x at body bytes a e f h = subst (λ (y : ℕ). bit y 1 ≡ a) (e ∙ ap (λ (i : ℕ). little (part bytes i 1)) f) h

taken : (m : Message) (bytes : List ℕ) (x at front : ℕ) (e : Exchange) → x ≡ little (part bytes at 1) → at ≡ body_of m → m.tunnelled ≡ false
    → e ≡ exchange_at bytes at front → front ≡ body_of m + 8 + only (bit x 1) 4 → finished m (Ok e) ≡ as_taken (exchanged m bytes (body_of m))
taken m bytes x at front e h f t g l =
    ap (λ (v : Exchange). finished m (Ok v)) g
    ∙ general_taken m bytes at front t (l ∙ ap (λ (y : ℕ). body_of m + 8 + only (bit y 1) 4) h)
    ∙ ap (λ (i : ℕ). as_taken (exchanged m bytes i)) f

pub returns-then-x-ne1 : goal.returns-then-x-ne1
returns-then-x-ne1 c =
    let p = c.requires in
    let v = c.args in
    let a = ap {B = ℕ} (λ (b : Bool). only b 4) (ne_eqb _ _ c.if-x-ne1.true) in
    taken v.m v.bytes.now v.x v.at _ _ p.0 p.1 p.2 c.fields_at.ensures (omega (arith, p.1))
    ∙ sym (fields_bare v.bytes.now v.m _ p.2 refl (flag v.x _ _ v.bytes.now _ p.0 p.1 (ne_eqb _ _ c.if-x-ne1.true)))

pub returns-then-bytes-front : goal.returns-then-bytes-front
returns-then-bytes-front c =
    let p = c.requires in
    let v = c.args in
    ap (λ r. finished v.m (Err r)) c.at.ensures
    ∙ sym (fields_lack v.bytes.now v.m _ p.2 refl (flag v.x _ _ v.bytes.now _ p.0 p.1 (eq-eqb _ _ c.if-x-ne1.false)) (omega (arith, c.if-bytes-front.true, c.check_length.ensures.0, p.1)))

pub returns : goal.returns
returns c =
    let p = c.requires in
    let v = c.args in
    let a = ap {B = ℕ} (λ (b : Bool). only b 4) (eq-eqb _ _ c.if-x-ne1.false) in
    taken v.m v.bytes.now v.x v.at _ _ p.0 p.1 p.2 c.fields_at-2.ensures (omega (arith, p.1))
    ∙ sym (fields_whole v.bytes.now v.m _ p.2 refl (flag v.x _ _ v.bytes.now _ p.0 p.1 (eq-eqb _ _ c.if-x-ne1.false)) (omega (arith, c.if-bytes-front.false, c.check_length.ensures.0, p.1)))
