-- A boot question changes nothing.
use Rattle.std.proofs.Common.{◌≡◌, Bool, true, false, cond, refl}
use Rattle.cipher.specs.Cipher.{Cipher}
use Rattle.fault.specs.declared.Fault.TheVariants.{Dark}
use Rattle.rules.specs.Board as rules
use Rattle.rules.specs.Board.{State, enact, respond, step}
use Rattle.rules.specs.Board.Heard.{question, turned_away}
use Rattle.rules.specs.declared.Event.TheVariants.{Question}

asked : (C : Cipher) (s : State) (d : Bool) → (enact (respond C s (cond d (turned_away Dark) question)) s).state ≡ s
unfolding respond enact
asked C s true = refl
asked C s false = refl

pub question_stays : (C : Cipher) (s : State) → (step C s Question).state ≡ s
unfolding step rules.decide rules.heard
question_stays C s = asked C s s.dark
