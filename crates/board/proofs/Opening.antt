-- What opening a packet leaves in the work buffer, and what is read of it.
use Rattle.std.proofs.Common.{◌≡◌, ℕ, ◌+◌, ◌-◌, ◌≤◌, Bool, true, false, cond, List, length, take, drop, replicate, IfOk, Some, None, Ok, Err, Option, Result, sym, refl, ap, ◌∙◌, ap₂, get_or, arith}
use Rattle.std.proofs.lemmas.List.{drop-take, get_or-take, length-drop, length-take-le, take_at}
use Rattle.fault.specs.Checks.{check, then}
use Rattle.fault.specs.declared.Fault.{Fault}
use Rattle.fault.specs.declared.Fault.TheVariants.{BadIv, NotOpened}
use Rattle.cipher.specs.Cipher.{Cipher, Lawful, Usable, iv_checked, opening, yielded}
use Rattle.rules.specs.Packets.{iv_of, body_of}
use Rattle.rules.specs.Board.{KeyPacket, Packet, fields, key_fields, on_opened}
use Rattle.board.specs.declared.data.Opened.{Opened}
use Rattle.board.specs.Opening.{with_work}
use Rattle.board.specs.States.{packet_in, packet_with}

-- an IV that passes its check is well formed
formed : (C : Cipher) (iv : List ℕ) → iv_checked C iv ≡ Ok tt → C.well_formed iv ≡ true
formed C iv e = by (C.well_formed iv) e
  where
    by : (b : Bool) → check b (BadIv (C.first_wrong iv)) ≡ Ok tt → b ≡ true
    by true e = refl
    by false e = cc

-- what opens has 33 bytes less than its core command
pub opens_to : (C : Cipher) → Lawful C → (k core c : List ℕ) → length k ≡ 16 → iv_checked C (iv_of core) ≡ Ok tt → 17 ≤ length core
    → C.opened k (iv_of core) (body_of core) ≡ Some c → length c + 33 ≡ length core
opens_to C L k core c l i h e =
    let iv : length (iv_of core) ≡ 16 = length-take-le 16 (drop 1 core) (omega (arith, length-drop 1 core)) in
    let u : Usable C k (iv_of core) = (l, iv, formed C (iv_of core) i) in
    let s = L.sound k (iv_of core) (body_of core) c u e in
    let a : length (body_of core) ≡ length c + 16 = sym (ap length s.0) ∙ L.longer k (iv_of core) c u s.1 in
    omega (arith, a, length-drop 17 core)

-- the contents stand in front
pub front : (b : Bool) (f : Fault) (o : Option (List ℕ)) (r : Result ℕ Fault) (after : List ℕ) → r ≡ then (check b f) (opening o) → after ≡ yielded (cond b o None)
    → with_work take after r ≡ then (check b f) (on_opened (λ c. Ok c) o)
unfolding on_opened
front false f o r after e h = ap (with_work take after) e
front true f None r after e h = ap (with_work take after) e
front true f (Some c) r after e h =
    ap (with_work take after) e ∙ ap Ok (ap (take (length c)) h ∙ take_at c (replicate (266 - length c) 0) (length c) refl)

-- how many bytes they have
pub count_is : (C : Cipher) → Lawful C → (k core : List ℕ) → length k ≡ 16 → 17 ≤ length core → (v : Result (Unit {0}) Fault) → iv_checked C (iv_of core) ≡ v
    → (o : Option (List ℕ)) → C.opened k (iv_of core) (body_of core) ≡ o → (r : Result ℕ Fault) → r ≡ then v (opening o) → IfOk r (λ n. n + 33 ≡ length core)
count_is C L k core l h (Ok u) i (Some c) e (Ok n) q =
    let z : n ≡ length c = cc in
    omega (arith, z, opens_to C L k core c l i h e)
count_is C L k core l h (Ok u) i None e (Ok n) q = cc
count_is C L k core l h (Err f) i o e (Ok n) q = cc
count_is C L k core l h v i o e (Err f) q = tt

-- the same, from the same number written otherwise
pub long_as : (r : Result ℕ Fault) (i j : ℕ) → i ≡ j → IfOk r (λ n. n + 33 ≡ i) → IfOk r (λ n. n + 33 ≡ j)
long_as (Ok n) i j e h = h ∙ e
long_as (Err f) i j e h = tt

-- contents that are opened, and what is read of them
module _ {A : Type 0} (f : List ℕ → A) where
  pub open_fails : (v : Result (Unit {0}) Fault) (o : Option (List ℕ)) (d : Fault) → Err d ≡ then v (on_opened (λ c. Ok c) o) → Err d ≡ then v (on_opened (λ c. Ok (f c)) o)
  unfolding on_opened
  open_fails (Ok u) None d e = let q : d ≡ NotOpened = cc in ap Err q
  open_fails (Ok u) (Some c) d e = cc
  open_fails (Err g) o d e = let q : d ≡ g = cc in ap Err q

  pub open_reads : (v : Result (Unit {0}) Fault) (o : Option (List ℕ)) (c : List ℕ) → Ok c ≡ then v (on_opened (λ c. Ok c) o) → Ok (f c) ≡ then v (on_opened (λ c. Ok (f c)) o)
  unfolding on_opened
  open_reads (Ok u) None c e = cc
  open_reads (Ok u) (Some b) c e = let q : c ≡ b = cc in ap (λ x. Ok (f x)) q
  open_reads (Err g) o c e = cc

-- the packet that lies in the work buffer
pub packet_lies : (o : Opened) (p : Packet) (work : List ℕ) (n : ℕ) → packet_with o p.bytes ≡ p → o.place ≡ 10 → o.count ≡ length p.bytes
    → p ≡ fields (take n work) → 10 ≤ n → n ≤ length work → packet_in o work ≡ fields (take n work)
unfolding fields
packet_lies o p work n e a b f l m =
    let q : p.bytes ≡ drop 10 (take n work) = ap (λ (x : Packet). x.bytes) f in
    let k : o.place + o.count ≡ n = omega (arith, a, b, l, ap length q, length-drop 10 (take n work), length-take-le n work m) in
    ap (packet_with o) (sym (drop-take o.place o.count work) ∙ ap₂ (λ i j. drop i (take j work)) a k ∙ sym q) ∙ e ∙ f

abbrev key_packet : ℕ → ℕ → List ℕ → KeyPacket
key_packet t v k = record { kt = t; kv = v; key = k }

pub key_lies : (work : List ℕ) → key_packet (get_or work 0 0) (get_or work 1 0) (take 16 (drop 2 work)) ≡ key_fields (take 18 work)
unfolding key_fields
key_lies work =
    ap₂ (λ t v. key_packet t v (take 16 (drop 2 work))) (sym (get_or-take 18 work 0 0 (omega arith))) (sym (get_or-take 18 work 1 0 (omega arith)))
    ∙ ap (key_packet _ _) (sym (drop-take 2 16 work))
