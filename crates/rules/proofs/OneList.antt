-- The packets of an update are one list: there is one, and only one.
use Rattle.std.proofs.Common.{◌≡◌, List, [], ◌∷◌, refl, inl, inr}
use Rattle.rules.specs.declared.Event.{Event}
use Rattle.cipher.specs.Cipher.{Cipher}
use Rattle.rules.specs.Board.{State, Call, Packet, call, step, history}
use Rattle.rules.specs.Words.{Takes, Delivery, Packets, end, another, one, skip}
use Rattle.rules.proofs.Deeds.{passes_stores}
use Rattle.rules.proofs.Moves.{stays, ends, breaks, takes, view}

pub packets_exist : (C : Cipher) (s : State) (es : List Event) → (ds : List Delivery) × Packets C (history C s es) ds
unfolding history
packets_exist C s [] = ([], end)
packets_exist C s (e ∷ es) =
    let r = packets_exist C (step C s e).state es in
    elim (view C s e) [
      | inl o ↦ ([], another o)
      | inr (n, stays u t l i x) ↦ (r.0, skip t n r.1)
      | inr (n, ends t l x i) ↦ (r.0, skip t n r.1)
      | inr (n, breaks t l x k m q) ↦ (r.0, skip t n r.1)
      | inr (n, takes p t u q v x i w) ↦ (record { at = call C s e; packet = p } ∷ r.0, one t n r.1)
    ]

same_contents : (C : Cipher) (c : Call) (p q : Packet) → Takes C c p → Takes C c q → p ≡ q
same_contents C c p q t u = cc (passes_stores C c p t.passes, passes_stores C c q u.passes)

pub packets_same : (C : Cipher) (cs : List Call) (ds es : List Delivery) → Packets C cs ds → Packets C cs es → ds ≡ es
packets_same C [] ds es end end = refl
packets_same C (c ∷ cs) ds es (another o) (another o') = refl
packets_same C (c ∷ cs) ds es (another o) (one t n r) = absurd (n o)
packets_same C (c ∷ cs) ds es (another o) (skip t n r) = absurd (n o)
packets_same C (c ∷ cs) ds es (one t n r) (another o) = absurd (n o)
packets_same C (c ∷ cs) ds es (one {p = p} {ds = xs} t n r) (one {p = q} {ds = ys} t' n' r') =
    let h = same_contents C c p q t t' in
    let k = packets_same C cs xs ys r r' in
    λ i. record { at = c; packet = h i } ∷ k i
packets_same C (c ∷ cs) ds es (one {p = p} t n r) (skip t' n' r') = absurd (t' (p, t))
packets_same C (c ∷ cs) ds es (skip t n r) (another o) = absurd (n o)
packets_same C (c ∷ cs) ds es (skip t n r) (one {p = p} t' n' r') = absurd (t (p, t'))
packets_same C (c ∷ cs) ds es (skip t n r) (skip t' n' r') = packets_same C cs ds es r r'
