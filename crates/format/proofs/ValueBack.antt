-- The bytes of a value say that value. Assumes nothing.
use Prim.Native.Nat.{ℕ, ◌+◌}
use mathlib.Core.Path.{◌≡◌, refl, sym, ap, ap₂, subst, ◌∙◌}
use mathlib.Core.Bool.{Bool, true, false, not, ◌&&◌, ◌||◌, cond}
use mathlib.Core.List.{List, [], ◌++◌, append_assoc}
use native.Mathlib.Omega.{arith}
use native.Mathlib.Nat.{add-zero}
use lib.ListN.{length-append}
use lib.Dec.{eqb}
use Rattle.wire.specs.Bytes.{part, little, big, little_bytes, big_bytes}
use Rattle.wire.proofs.Digits.{length_little, length_big, little_of}
use Rattle.message.specs.Layout.{only, encrypted, body_of, destination_at, key_at}
use Rattle.message.specs.Value.{bits, bit, header, body_by, exchange_header, address_of, exchanged_by, message_of, header_of, exchange_header_of, address_bytes, exchange_bytes, head_bytes, bytes_of}
use Rattle.message.specs.declared.value.Message.{Message}
use Rattle.message.proofs.Logic.{or_false, and_false}
use Rattle.judge.proofs.Clear.{ClearWrite}
use Rattle.message.proofs.Low.{version_low, encrypt_low}
use Rattle.message.proofs.Lengths.{length_address}
use Rattle.format.proofs.HeaderForth.{Header, header_forth, exchange_low, exchange_forth}
use Rattle.format.proofs.Sized.{Sized}
use Rattle.format.proofs.Between.{between, little_field, big_field, five, five_h, five_i, five_s, five_d, five_k, absent, zero_of, beyond}

module _ (m : Message) (p c : List ℕ) (room : ℕ) (z : Sized m) (k : ClearWrite m p c room) where
  -- what follows the address fields
  unfoldable pub body : List ℕ
  body = cond m.tunnelled (little_bytes 1 1) (exchange_bytes m)

  shape : bytes_of m p c ≡ five (little_bytes 2 (header_of m)) (little_bytes 4 m.id) (big_bytes (only m.sourced 8) m.source) (big_bytes (only m.destined 8) m.destination) (little_bytes (only (encrypted m) 2) m.key) (body ++ (p ++ c))
  unfolding bytes_of head_bytes address_bytes five body
  shape = simp append_assoc

  pub shape_2 : bytes_of m p c ≡ address_bytes m ++ (body ++ (p ++ c))
  unfolding bytes_of head_bytes body
  shape_2 = simp append_assoc

  head : Header (header_of m) m
  head = header_forth m (version_low m.version k.version) (encrypt_low m.encrypt k.encrypt)

  header_is : header (bytes_of m p c) ≡ header_of m
  header_is =
      ap little (between (bytes_of m p c) [] (little_bytes 2 (header_of m)) _ 0 2 (shape ∙ five_h _ _ _ _ _ _) refl refl)
      ∙ little_of 2 (header_of m) head.low

  pub found : Header (header (bytes_of m p c)) m
  found = subst (λ (n : ℕ). Header n m) (sym header_is) head

  id_is : little (part (bytes_of m p c) 2 4) ≡ m.id
  id_is =
      ap little (between (bytes_of m p c) (little_bytes 2 (header_of m)) (little_bytes 4 m.id) _ 2 4 (shape ∙ five_i _ _ _ _ _ _) refl refl)
      ∙ little_of 4 m.id z.id

  stray_a : (not m.sourced && not (eqb m.source 0) || (not m.destined && not (eqb m.destination 0))) ≡ false
  stray_a = (or_false _ (not (encrypted m) && not (eqb m.key 0)) k.address).0

  source_is : big (part (bytes_of m p c) 6 (only m.sourced 8)) ≡ m.source
  source_is =
      ap big (between (bytes_of m p c) (little_bytes 2 (header_of m) ++ little_bytes 4 m.id) (big_bytes (only m.sourced 8) m.source) _ 6 (only m.sourced 8) (shape ∙ five_s _ _ _ _ _ _) refl (length_big (only m.sourced 8) m.source))
      ∙ big_field m.sourced 8 m.source (absent _ _ (or_false (not m.sourced && not (eqb m.source 0)) _ stray_a).0) z.source

  destination_is : big (part (bytes_of m p c) (destination_at m.sourced) (only m.destined 8)) ≡ m.destination
  destination_is =
      ap big (between (bytes_of m p c) (little_bytes 2 (header_of m) ++ little_bytes 4 m.id ++ big_bytes (only m.sourced 8) m.source) (big_bytes (only m.destined 8) m.destination) _ (destination_at m.sourced) (only m.destined 8) (shape ∙ five_d _ _ _ _ _ _) (omega (arith, length_big (only m.sourced 8) m.source)) (length_big (only m.destined 8) m.destination))
      ∙ big_field m.destined 8 m.destination (absent _ _ (or_false (not m.sourced && not (eqb m.source 0)) _ stray_a).1) z.destination

  key_is : little (part (bytes_of m p c) (key_at m.sourced m.destined) (only (encrypted m) 2)) ≡ m.key
  key_is =
      ap little (between (bytes_of m p c) (little_bytes 2 (header_of m) ++ little_bytes 4 m.id ++ big_bytes (only m.sourced 8) m.source ++ big_bytes (only m.destined 8) m.destination) (little_bytes (only (encrypted m) 2) m.key) _ (key_at m.sourced m.destined) (only (encrypted m) 2) (shape ∙ five_k _ _ _ _ _ _) (simp (length-append, length_big) (omega arith)) (length_little (only (encrypted m) 2) m.key))
      ∙ little_field (encrypted m) 2 m.key (absent _ _ (or_false (not m.sourced && not (eqb m.source 0) || (not m.destined && not (eqb m.destination 0))) _ k.address).1) z.key

  place_is : body_by (header (bytes_of m p c)) ≡ body_of m
  place_is = simp (found.sourced, found.destined, found.encrypt)

  -- ---- the exchange fields

  ackless : not m.acknowledges && not (eqb m.acknowledged 0) ≡ false
  ackless = (or_false (not m.acknowledges && not (eqb m.acknowledged 0)) _ k.exchange).0

  pub record Rest : Type 0 where
    pub initiator : bit (exchange_header (bytes_of m p c)) 0 ≡ m.initiator
    pub acknowledges : bit (exchange_header (bytes_of m p c)) 1 ≡ m.acknowledges
    pub wants : bit (exchange_header (bytes_of m p c)) 2 ≡ m.wants
    pub kind : little (part (bytes_of m p c) (body_of m + 1) (only (not m.tunnelled) 1)) ≡ m.kind
    pub exchange : little (part (bytes_of m p c) (body_of m + 2) (only (not m.tunnelled) 2)) ≡ m.exchange
    pub profile : little (part (bytes_of m p c) (body_of m + 4) (only (not m.tunnelled) 4)) ≡ m.profile
    pub acknowledged : little (part (bytes_of m p c) (body_of m + 8) (only m.acknowledges 4)) ≡ m.acknowledged

  -- a part that starts in the exchange fields of a general message
  inner : m.tunnelled ≡ false → (j w : ℕ) → part (bytes_of m p c) (body_of m + j) w ≡ part (exchange_bytes m ++ (p ++ c)) j w
  unfolding body
  inner t j w =
      beyond (bytes_of m p c) (address_bytes m) (exchange_bytes m ++ (p ++ c)) (body_of m) j w
      (shape_2 ∙ ap (λ (b : Bool). address_bytes m ++ (cond b (little_bytes 1 1) (exchange_bytes m) ++ (p ++ c))) t)
      (length_address m)

  inner_shape : exchange_bytes m ++ (p ++ c) ≡ five (little_bytes 1 (exchange_header_of m)) (little_bytes 1 m.kind) (little_bytes 2 m.exchange) (little_bytes 4 m.profile) (little_bytes (only m.acknowledges 4) m.acknowledged) (p ++ c)
  unfolding exchange_bytes five
  inner_shape = simp append_assoc

  pub exchange_is : m.tunnelled ≡ false → exchange_header (bytes_of m p c) ≡ exchange_header_of m
  exchange_is t =
      ap₂ (λ (b : Bool) (n : ℕ). little (part (bytes_of m p c) n (only (not b) 1))) (found.tunnelled ∙ t) (place_is ∙ sym (add-zero (body_of m)))
      ∙ ap little (inner t 0 1 ∙ between _ [] (little_bytes 1 (exchange_header_of m)) _ 0 1 (inner_shape ∙ five_h _ _ _ _ _ _) refl refl)
      ∙ little_of 1 (exchange_header_of m) (exchange_low m)

  no_exchange_lem : m.tunnelled ≡ true → exchange_header (bytes_of m p c) ≡ 0
  no_exchange_lem t = ap (λ (b : Bool). little (part (bytes_of m p c) (body_by (header (bytes_of m p c))) (only (not b) 1))) (found.tunnelled ∙ t)

  rest_general : m.tunnelled ≡ false → Rest
  rest_general t =
      let bs = bytes_of m p c in
      let f = exchange_forth m in
      let x = little_bytes 1 (exchange_header_of m) in
      record {
        initiator = ap (λ (n : ℕ). bit n 0) (exchange_is t) ∙ f.initiator;
        acknowledges = ap (λ (n : ℕ). bit n 1) (exchange_is t) ∙ f.acknowledges;
        wants = ap (λ (n : ℕ). bit n 2) (exchange_is t) ∙ f.wants;
        kind =
            ap (λ (b : Bool). little (part bs (body_of m + 1) (only (not b) 1))) t
            ∙ ap little (inner t 1 1 ∙ between _ x (little_bytes 1 m.kind) _ 1 1 (inner_shape ∙ five_i _ _ _ _ _ _) refl refl)
            ∙ little_of 1 m.kind z.kind;
        exchange =
            ap (λ (b : Bool). little (part bs (body_of m + 2) (only (not b) 2))) t
            ∙ ap little (inner t 2 2 ∙ between _ (x ++ little_bytes 1 m.kind) (little_bytes 2 m.exchange) _ 2 2 (inner_shape ∙ five_s _ _ _ _ _ _) refl refl)
            ∙ little_of 2 m.exchange z.exchange;
        profile =
            ap (λ (b : Bool). little (part bs (body_of m + 4) (only (not b) 4))) t
            ∙ ap little (inner t 4 4 ∙ between _ (x ++ little_bytes 1 m.kind ++ little_bytes 2 m.exchange) (little_bytes 4 m.profile) _ 4 4 (inner_shape ∙ five_d _ _ _ _ _ _) refl refl)
            ∙ little_of 4 m.profile z.profile;
        acknowledged =
            ap little (inner t 8 (only m.acknowledges 4) ∙ between _ (x ++ little_bytes 1 m.kind ++ little_bytes 2 m.exchange ++ little_bytes 4 m.profile) (little_bytes (only m.acknowledges 4) m.acknowledged) _ 8 (only m.acknowledges 4) (inner_shape ∙ five_k _ _ _ _ _ _) refl (length_little (only m.acknowledges 4) m.acknowledged))
            ∙ little_field m.acknowledges 4 m.acknowledged (absent _ _ ackless) z.acknowledged;
      }

  rest_tunnel : m.tunnelled ≡ true → Rest
  rest_tunnel t =
      let bs = bytes_of m p c in
      let s = and_false m.tunnelled _ (or_false (not m.acknowledges && not (eqb m.acknowledged 0)) _ k.exchange).1 t in
      let s5 = or_false _ (not (eqb m.profile 0)) s in
      let s4 = or_false _ (not (eqb m.exchange 0)) s5.0 in
      let s3 = or_false _ (not (eqb m.kind 0)) s4.0 in
      let s2 = or_false _ m.wants s3.0 in
      let s1 = or_false m.initiator m.acknowledges s2.0 in
      record {
        initiator = ap (λ (n : ℕ). bit n 0) (no_exchange_lem t) ∙ sym s1.0;
        acknowledges = ap (λ (n : ℕ). bit n 1) (no_exchange_lem t) ∙ sym s1.1;
        wants = ap (λ (n : ℕ). bit n 2) (no_exchange_lem t) ∙ sym s2.1;
        kind = ap (λ (b : Bool). little (part bs (body_of m + 1) (only (not b) 1))) t ∙ sym (zero_of _ s3.1);
        exchange = ap (λ (b : Bool). little (part bs (body_of m + 2) (only (not b) 2))) t ∙ sym (zero_of _ s4.1);
        profile = ap (λ (b : Bool). little (part bs (body_of m + 4) (only (not b) 4))) t ∙ sym (zero_of _ s5.1);
        acknowledged = ap (λ (b : Bool). little (part bs (body_of m + 8) (only b 4))) s1.1 ∙ sym (absent _ _ ackless s1.1);
      }

  rest : (t : Bool) → m.tunnelled ≡ t → Rest
  rest true t = rest_tunnel t
  rest false t = rest_general t

  pub message_is : message_of (bytes_of m p c) ≡ m
  unfolding message_of exchanged_by address_of
  message_is =
      let bs = bytes_of m p c in
      let r = rest m.tunnelled refl in
      let version : bits (header bs) 12 4 ≡ m.version = found.version in
      let source : big (part bs 6 (only (bit (header bs) 9) 8)) ≡ m.source = ap (λ (b : Bool). big (part bs 6 (only b 8))) found.sourced ∙ source_is in
      let destination : big (part bs (destination_at (bit (header bs) 9)) (only (bit (header bs) 8) 8)) ≡ m.destination =
      ap₂ (λ (b d : Bool). big (part bs (destination_at b) (only d 8))) found.sourced found.destined ∙ destination_is in
      let key : little (part bs (key_at (bit (header bs) 9) (bit (header bs) 8)) (only (eqb (bits (header bs) 4 4) 1) 2)) ≡ m.key =
      ap₂ (λ (b d : Bool). little (part bs (key_at b d) (only (eqb (bits (header bs) 4 4) 1) 2))) found.sourced found.destined
      ∙ ap (λ (e : ℕ). little (part bs (key_at m.sourced m.destined) (only (eqb e 1) 2))) found.encrypt
      ∙ key_is in
      let kind = ap₂ (λ (b : Bool) (n : ℕ). little (part bs (n + 1) (only (not b) 1))) found.tunnelled place_is ∙ r.kind in
      let exchange = ap₂ (λ (b : Bool) (n : ℕ). little (part bs (n + 2) (only (not b) 2))) found.tunnelled place_is ∙ r.exchange in
      let profile = ap₂ (λ (b : Bool) (n : ℕ). little (part bs (n + 4) (only (not b) 4))) found.tunnelled place_is ∙ r.profile in
      let acknowledged = ap₂ (λ (b : Bool) (n : ℕ). little (part bs (n + 8) (only b 4))) r.acknowledges place_is ∙ r.acknowledged in
      λ i. record {
        version = version i;
        tunnelled = found.tunnelled i;
        sourced = found.sourced i;
        destined = found.destined i;
        encrypt = found.encrypt i;
        id = id_is i;
        source = source i;
        destination = destination i;
        key = key i;
        initiator = r.initiator i;
        acknowledges = r.acknowledges i;
        wants = r.wants i;
        kind = kind i;
        exchange = exchange i;
        profile = profile i;
        acknowledged = acknowledged i;
      }
