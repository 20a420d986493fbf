use Rattle.std.proofs.Common.{◌≡◌, ℕ, ◌-◌, ◌≤◌, List, length, take, replicate, Ok, Result, ap, ◌∙◌, arith, length-take}
use Rattle.fault.specs.declared.Fault.{Fault}
use Rattle.packer.specs.Packing.{packed_data}
use Rattle.vectors.proofs.Fronts.{packed_front}
use Rattle.vectors.proofs.answers.data_answer.Goals as goal

pub returns : goal.returns
returns g c =
    let packed : ℕ → Result (List ℕ) Fault = λ room. packed_data g.C.PacketCipher.cipher c.args.key.now c.args.iv.now c.args.packet.now room in
    let part = take (c.args.room - 0) (replicate 1024 0) in
    let l : length part ≡ c.args.room = simp (length-take) (omega arith) in
    let k : length c.pack_data.new.out ≤ 1024 = omega (arith, c.pack_data.auto.out, l, c.requires) in
    ap Ok c.from_slice.ensures
    ∙ packed_front (packed (length part)) c.in_ok-n.n part c.pack_data.new.out _ c.in_ok-n.ensures.answer c.pack_data.ensures.out k
    ∙ ap packed l
