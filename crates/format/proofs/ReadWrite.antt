-- What was read is written back to the same bytes. Assumes nothing.
use Prim.Native.Nat.{ℕ, ◌+◌, ◌-◌, ◌≤◌, ◌<◌}
use mathlib.Core.Path.{◌≡◌, refl, sym, ap, ap₂, subst, ◌∙◌}
use mathlib.Core.Bool.{Bool, true, false, not, cond}
use mathlib.Core.List.{List, [], ◌∷◌, ◌++◌}
use native.Mathlib.Omega.{arith}
use native.Mathlib.Nat.{zero-add}
use lib.ListN.{length, get_or, take, drop, take-append-drop}
use lib.Seq.{take-add}
use lib.Dec.{eqb}
use Rattle.wire.specs.Bytes.{part, little, little_bytes}
use Rattle.wire.proofs.Digits.{AllBytes}
use Rattle.wire.proofs.Fronts.{part_take}
use Rattle.wire.proofs.Parts.{part_then, byte_low, little_back, big_back}
use Rattle.message.specs.Layout.{only, head_length, check_length, up_to_check}
use Rattle.message.specs.Value.{bits, bit, header, body_by, exchange_header, address_of, exchanged_by, message_of, address_bytes, exchange_bytes, head_bytes, bytes_of}
use Rattle.message.specs.Refusals.{bad_exchange, reserved}
use Rattle.reader.specs.Reading.{read_of}
use Rattle.parts.specs.Parts.{payload_of, check_of}
use Rattle.message.specs.declared.value.Message.{Message}
use Rattle.message.specs.Answers.{as_taken}
use Rattle.reader.proofs.Clear.{Clear, taken, fits}
use Rattle.format.proofs.HeaderBack.{header_back, exchange_back}
use Rattle.format.proofs.TakenParts.{payload_is, check_is}

-- parts that follow one another
join : (bs : List ℕ) (s n w : ℕ) {a b : List ℕ} → a ≡ part bs s n → b ≡ part bs (s + n) w → a ++ b ≡ part bs s (n + w)
join bs s n w p q = ap₂ (λ (a b : List ℕ). a ++ b) p q ∙ part_then bs s n w

join0 : (bs : List ℕ) (n w : ℕ) {a b : List ℕ} → a ≡ part bs 0 n → b ≡ part bs n w → a ++ b ≡ part bs 0 (n + w)
join0 bs n w p q = join bs 0 n w p (q ∙ ap (λ (i : ℕ). part bs i w) (sym (zero-add n)))

-- a field that is present
present : (t : Bool) (bs : List ℕ) → AllBytes bs → (at w : ℕ) → t ≡ false → little_bytes w (little (part bs at (only (not t) w))) ≡ part bs at w
present t bs h at w e = rw e (little_back bs h at w)

header_low : (bs : List ℕ) → AllBytes bs → header bs < 65536
header_low bs h = omega (arith, byte_low h 0, byte_low h 1)

exchange_low : (bs : List ℕ) → AllBytes bs → exchange_header bs < 256
exchange_low bs h = low (bit (header bs) 10)
  where
    low : (t : Bool) → little (part bs (body_by (header bs)) (only (not t) 1)) < 256
    low true = omega arith
    low false = omega (arith, byte_low h (body_by (header bs)))

-- the three parts of a list
rejoin : (bs : List ℕ) (n c : ℕ) → n + c ≤ length bs → take n bs ++ take (length bs - c - n) (drop n bs) ++ drop (length bs - c) bs ≡ bs
rejoin bs n c h =
    let e : n + (length bs - c - n) ≡ length bs - c = omega arith in
    ap (λ (l : List ℕ). l ++ drop (length bs - c) bs) (sym (take-add n (length bs - c - n) bs) ∙ ap (λ (k : ℕ). take k bs) e)
    ∙ take-append-drop (length bs - c) bs

module _ (bs : List ℕ) (h : AllBytes bs) where
  address_back : reserved (header bs) ≡ false → address_bytes (message_of bs) ≡ part bs 0 (body_by (header bs))
  unfolding address_bytes message_of exchanged_by address_of
  address_back e =
      join0 bs _ (only (eqb (bits (header bs) 4 4) 1) 2)
      (join0 bs _ (only (bit (header bs) 8) 8)
      (join0 bs _ (only (bit (header bs) 9) 8)
      (join0 bs 2 4 (ap (λ (x : ℕ). little_bytes 2 x) (header_back (header bs) (header_low bs h) e) ∙ little_back bs h 0 2) (little_back bs h 2 4))
      (big_back bs h 6 (only (bit (header bs) 9) 8)))
      (big_back bs h _ (only (bit (header bs) 8) 8)))
      (little_back bs h _ (only (eqb (bits (header bs) 4 4) 1) 2))

  exchange_all_back : bit (header bs) 10 ≡ false → bad_exchange (exchange_header bs) ≡ false
      → exchange_bytes (message_of bs) ≡ part bs (body_by (header bs)) (8 + only (bit (exchange_header bs) 1) 4)
  unfolding exchange_bytes message_of exchanged_by address_of
  exchange_all_back t e =
      let at = body_by (header bs) in
      let f = bit (header bs) 10 in
      join bs at 8 (only (bit (exchange_header bs) 1) 4)
      (join bs at 4 4
      (join bs at 2 2
      (join bs at 1 1
      (ap (λ (x : ℕ). little_bytes 1 x) (exchange_back (exchange_header bs) (exchange_low bs h) e) ∙ present f bs h at 1 t)
      (present f bs h (at + 1) 1 t))
      (present f bs h (at + 2) 2 t))
      (present f bs h (at + 4) 4 t))
      (little_back bs h (at + 8) (only (bit (exchange_header bs) 1) 4))

  body_back : (t : Bool) → bit (header bs) 10 ≡ t
      → (t ≡ false → bad_exchange (exchange_header bs) ≡ false) → (t ≡ true → get_or bs (body_by (header bs)) 0 ≡ 1)
      → cond t (little_bytes 1 1) (exchange_bytes (message_of bs)) ≡ part bs (body_by (header bs)) (cond t 1 (8 + only (bit (exchange_header bs) 1) 4))
  body_back true e f g = ap (λ (b : ℕ). b ∷ []) (sym (g refl))
  body_back false e f g = exchange_all_back e (f refl)

  head_back : Clear bs (message_of bs) → head_bytes (message_of bs) ≡ part bs 0 (head_length (message_of bs))
  unfolding head_bytes message_of exchanged_by address_of
  head_back k =
      join0 bs (body_by (header bs)) _ (address_back k.outer.reserved)
      (body_back (bit (header bs) 10) refl (λ t. (k.general t).exchange) (λ t. (k.tunnel t).version))

  core : read_of bs ≡ as_taken (message_of bs) → bytes_of (message_of bs) (payload_of bs (read_of bs)) (check_of bs (read_of bs)) ≡ bs
  unfolding bytes_of
  core e =
      let m = message_of bs in
      let f = fits bs m e in
      let g : 0 + head_length m ≤ length bs = omega arith in
      ap₂ (λ (p c : List ℕ). head_bytes m ++ p ++ c) (payload_is bs m e) (check_is bs m e)
      ∙ ap (λ (l : List ℕ). l ++ up_to_check m (head_length m) bs ++ drop (length bs - check_length m) bs)
      (head_back (taken bs m e).1 ∙ part_take bs 0 (head_length m) g)
      ∙ rejoin bs (head_length m) (check_length m) f

-- what was read is written back to the same bytes
pub read_back : (bs : List ℕ) → AllBytes bs → (m : Message) → read_of bs ≡ as_taken m → bytes_of m (payload_of bs (read_of bs)) (check_of bs (read_of bs)) ≡ bs
read_back bs h m e =
    subst (λ (k : Message). read_of bs ≡ as_taken k → bytes_of k (payload_of bs (read_of bs)) (check_of bs (read_of bs)) ≡ bs) (taken bs m e).0 (core bs h) e
