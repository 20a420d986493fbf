use Rattle.std.proofs.Common.{◌++◌, refl, ap, ◌∙◌}
use Rattle.cipher.specs.Aes.{aes}
use Rattle.cipher.specs.Ccm.{ccm}
use Rattle.example.specs.Frames.{calls}
use Rattle.example.proofs.Packing.{front}
use Rattle.packer.proofs.Packs.{key_passes}
use Rattle.sweep.specs.Plans.{key_calls}
use Rattle.sweep.specs.declared.plans.TheConstants.{KEK, KEY_IV, NEW_KEY}
use Rattle.sweep.proofs.plans.push_key.Goals as goal

pub returns-clause-all : goal.returns-clause-all
unfolding key_calls
returns-clause-all c =
    let e = c.in_ok-length.ensures in
    let packed = key_passes (ccm aes) KEK KEY_IV (record { kind = 0; version = 1; key = NEW_KEY }) 56 refl refl in
    c.in_ok-push_frame.ensures ∙ ap (λ bs. c.args.events.now.items ++ calls bs) (front _ _ _ _ _ packed e.answer e.out)
