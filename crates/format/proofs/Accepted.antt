-- What was read is not refused for writing, and has the length of the bytes. Assumes nothing.
use Rattle.std.specs.Prelude.{Ok, None}
use Prim.Native.Nat.{ℕ, ◌+◌, ◌-◌, ◌≤◌, ◌<◌}
use mathlib.Core.Path.{◌≡◌, refl, ap, ap₂, subst, ◌∙◌}
use mathlib.Core.Bool.{Bool, true, false, not, ◌&&◌, ◌||◌, cond}
use mathlib.Core.List.{List}
use native.Mathlib.Omega.{arith}
use native.Mathlib.Nat.{add-zero}
use lib.ListN.{length, get_or}
use lib.Seq.{get_or-take, get_or-drop}
use lib.Dec.{eqb}
use borrow.Author.Tests.{ne_eqb, eq-eqb, le-ltb}
use Rattle.wire.specs.Bytes.{part, little, big}
use Rattle.message.specs.Order.{first}
use Rattle.message.specs.Layout.{only, body_of, head_length, check_length, up_to_check, destination_at, key_at}
use Rattle.message.specs.Value.{bits, bit, header, body_by, exchange_header, address_of, exchanged_by, message_of}
use Rattle.message.specs.Refusals.{old_asks, bad_packet, bad_packet_length, stray_address, stray_exchange, stray, empty_packet, wrong_packet, wrong_packet_length, total}
use Rattle.message.specs.Answers.{writing}
use Rattle.reader.specs.Reading.{read_of}
use Rattle.parts.specs.Parts.{payload_of, check_of}
use Rattle.judge.specs.Writing.{writing_order, write_of}
use Rattle.message.specs.declared.value.Message.{Message}
use Rattle.message.specs.Answers.{as_taken}
use Rattle.message.proofs.Logic.{when_true}
use Rattle.reader.proofs.Clear.{Clear, taken, fits}
use Rattle.message.proofs.Lengths.{total_is}
use Rattle.format.proofs.TakenParts as parts

-- a field that is zero where it is absent is no stray one
kept : (b : Bool) (x : ℕ) → (b ≡ false → x ≡ 0) → (not b && not (eqb x 0)) ≡ false
kept true x h = refl
kept false x h = ap not (eq-eqb x 0 (h refl))

big_absent : (bs : List ℕ) (at w : ℕ) (b : Bool) → b ≡ false → big (part bs at (only b w)) ≡ 0
big_absent bs at w b e = ap (λ (t : Bool). big (part bs at (only t w))) e

little_absent : (bs : List ℕ) (at w : ℕ) (b : Bool) → b ≡ false → little (part bs at (only b w)) ≡ 0
little_absent bs at w b e = ap (λ (t : Bool). little (part bs at (only t w))) e

tunnel_room : (t a : Bool) (body check n : ℕ) → t ≡ true → body + cond t 2 8 + check ≤ n → 0 < n - check - (body + cond t 1 (8 + only a 4))
tunnel_room true a body check n e h = omega arith
tunnel_room false a body check n e h = let y : ◌≡◌ {A = ℕ} 0 1 = cc e in let w : ⊥ = omega arith in absurd w

module _ (bs : List ℕ) (e : read_of bs ≡ as_taken (message_of bs)) where
  k : Clear bs (message_of bs)
  k = (taken bs (message_of bs) e).1

  whole : head_length (message_of bs) + check_length (message_of bs) ≤ length bs
  whole = fits bs (message_of bs) e

  payload_length : length (payload_of bs (read_of bs)) ≡ length bs - check_length (message_of bs) - head_length (message_of bs)
  payload_length = parts.payload_length bs (message_of bs) e

  length_is : total (message_of bs) (payload_of bs (read_of bs)) ≡ length bs
  length_is = let h = whole in let l = payload_length in total_is (message_of bs) (payload_of bs (read_of bs)) ∙ omega arith

  no_exchange_lem : bit (header bs) 10 ≡ true → exchange_header bs ≡ 0
  no_exchange_lem t = ap (λ (b : Bool). little (part bs (body_by (header bs)) (only (not b) 1))) t

  asks : old_asks (message_of bs).version (message_of bs).acknowledges (message_of bs).wants ≡ false
  unfolding message_of exchanged_by address_of
  asks = go (bit (header bs) 10) refl
    where
      go : (t : Bool) → bit (header bs) 10 ≡ t → old_asks (message_of bs).version (message_of bs).acknowledges (message_of bs).wants ≡ false
      go false t = (k.general t).asks
      go true t = when_true (eqb (bits (header bs) 12 4) 1) _ (λ v. ap (λ (x : ℕ). bit x 1 || bit x 2) (no_exchange_lem t))

  empty : empty_packet (message_of bs) (payload_of bs (read_of bs)) ≡ false
  empty =
      when_true _ _ (λ (t : (message_of bs).tunnelled ≡ true).
      ne_eqb (length (payload_of bs (read_of bs))) 0 (λ z.
      let g = tunnel_room (message_of bs).tunnelled (message_of bs).acknowledges (body_of (message_of bs)) (check_length (message_of bs)) (length bs) t k.outer.fixed in
      let l = payload_length in
      omega arith))

  -- the first byte of a tunnelled packet
  first_byte : (message_of bs).tunnelled ≡ true → get_or (payload_of bs (read_of bs)) 0 0 ≡ get_or bs (body_of (message_of bs) + 1) 0
  first_byte t =
      let m = message_of bs in
      let g = tunnel_room m.tunnelled m.acknowledges (body_of m) (check_length m) (length bs) t k.outer.fixed in
      let n : head_length m + 0 ≡ body_of m + 1 = add-zero (head_length m) ∙ ap (λ (b : Bool). body_of m + cond b 1 (8 + only m.acknowledges 4)) t in
      ap (λ (l : List ℕ). get_or l 0 0) (parts.payload_is bs m e)
      ∙ get_or-take _ _ 0 0 g
      ∙ get_or-drop (head_length m) bs 0 0
      ∙ ap (λ (i : ℕ). get_or bs i 0) n

  packet : wrong_packet (message_of bs) (payload_of bs (read_of bs)) ≡ false
  packet = when_true _ _ (λ (t : (message_of bs).tunnelled ≡ true). ap bad_packet (first_byte t) ∙ (k.tunnel t).packet)

  -- and all of it
  packet_is : (message_of bs).tunnelled ≡ true → payload_of bs (read_of bs) ≡ up_to_check (message_of bs) (body_of (message_of bs) + 1) bs
  packet_is t =
      let m = message_of bs in
      parts.payload_is bs m e ∙ ap (λ (b : Bool). up_to_check m (body_of m + cond b 1 (8 + only m.acknowledges 4)) bs) t

  sized : wrong_packet_length (message_of bs) (payload_of bs (read_of bs)) ≡ false
  sized = when_true _ _ (λ (t : (message_of bs).tunnelled ≡ true). ap bad_packet_length (packet_is t) ∙ (k.tunnel t).sized)

  no_stray_address : stray_address (message_of bs) ≡ false
  unfolding message_of exchanged_by address_of
  no_stray_address =
      let h = header bs in
      ap₂ ◌||◌
      (ap₂ ◌||◌ (kept (bit h 9) (big (part bs 6 (only (bit h 9) 8))) (big_absent bs 6 8 (bit h 9)))
      (kept (bit h 8) (big (part bs (destination_at (bit h 9)) (only (bit h 8) 8))) (big_absent bs _ 8 (bit h 8))))
      (kept (eqb (bits h 4 4) 1) (little (part bs (key_at (bit h 9) (bit h 8)) (only (eqb (bits h 4 4) 1) 2))) (little_absent bs _ 2 (eqb (bits h 4 4) 1)))

  no_stray_exchange : stray_exchange (message_of bs) ≡ false
  unfolding message_of exchanged_by address_of
  no_stray_exchange =
      let h = header bs in
      let x = exchange_header bs in
      let at = body_by h in
      ap₂ ◌||◌ (kept (bit x 1) (little (part bs (at + 8) (only (bit x 1) 4))) (little_absent bs _ 4 (bit x 1)))
      (when_true (bit h 10) _ (λ (t : bit h 10 ≡ true).
      ap₂ ◌||◌ (ap₂ ◌||◌ (ap₂ ◌||◌ (ap (λ (n : ℕ). bit n 0 || bit n 1 || bit n 2) (no_exchange_lem t))
      (ap (λ (b : Bool). not (eqb (little (part bs (at + 1) (only (not b) 1))) 0)) t))
      (ap (λ (b : Bool). not (eqb (little (part bs (at + 2) (only (not b) 2))) 0)) t))
      (ap (λ (b : Bool). not (eqb (little (part bs (at + 4) (only (not b) 4))) 0)) t)))

  no_stray : stray (message_of bs) (check_of bs (read_of bs)) ≡ false
  unfolding stray
  no_stray = ap₂ ◌||◌ (ap₂ ◌||◌ no_stray_address no_stray_exchange) (ap not (eq-eqb _ _ (parts.check_length_lem bs (message_of bs) e)))

  none_refused : (room : ℕ) → length bs ≤ room → first (writing_order (message_of bs) (payload_of bs (read_of bs)) (check_of bs (read_of bs)) room) ≡ None
  unfolding writing_order
  none_refused room h =
      let o = k.outer in
      simp (o.version, o.tunnel, o.encrypt, o.key, o.source, o.destination, asks, empty, packet, sized, no_stray, length_is, le-ltb _ _ k.outer.short, le-ltb _ _ h)

  accepted : (room : ℕ) → length bs ≤ room → write_of (message_of bs) (payload_of bs (read_of bs)) (check_of bs (read_of bs)) room ≡ Ok (length bs)
  unfolding write_of
  accepted room h = ap₂ writing (none_refused room h) length_is

-- what was read is written, given room, and as many bytes as were read
pub accept : (bs : List ℕ) (m : Message) (room : ℕ) → read_of bs ≡ as_taken m → length bs ≤ room
    → write_of m (payload_of bs (read_of bs)) (check_of bs (read_of bs)) room ≡ Ok (length bs)
accept bs m room e h =
    subst (λ (v : Message). read_of bs ≡ as_taken v → write_of v (payload_of bs (read_of bs)) (check_of bs (read_of bs)) room ≡ Ok (length bs)) (taken bs m e).0
    (λ f. accepted bs f room h) e
