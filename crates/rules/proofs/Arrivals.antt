-- What a board has read of a frame, call by call.
use Rattle.std.proofs.Common.{◌≡◌, ℕ, ◌≤◌, Bool, true, false, cond, ltb, List, [], ◌∷◌, ◌++◌, Ok, Err, Result, sym, refl, ap, ◌∙◌, subst, arith}
use Rattle.std.proofs.lemmas.Bool.{ltb-false, le-ltb, cond-true, cond-false}
use Rattle.fault.specs.declared.Fault.{Fault}
use Rattle.fault.specs.declared.Fault.TheVariants.{ReplyShort, WorkShort, Dark}
use Rattle.memory.specs.declared.supply.Supply.{Supply}
use Rattle.memory.specs.Meaning.{Contents}
use Rattle.cipher.specs.Cipher.{Cipher}
use Rattle.rules.specs.declared.Session.{Session}
use Rattle.rules.specs.declared.Event.{Event}
use Rattle.rules.specs.declared.Event.TheVariants.{Byte, Silence, Question, PowerUp}
use Rattle.rules.specs.declared.Command.{Command}
use Rattle.rules.specs.declared.Command.TheVariants.{MassErase, Version, Reset, Data, Key, Unknown}
use Rattle.rules.specs.Receiver.{Receiver, Read, read}
use Rattle.rules.specs.Receiver.Receiver.{idle}
use Rattle.rules.specs.Receiver.Read.{waits, bad, good}
use Rattle.rules.specs.Commands.{command}
use Rattle.rules.specs.Board.{State, Call, Packet, KeyPacket, Heard, turned_away, part, garbled, framed, silence, question, power_up, heard, heard_read, on_data}
use Rattle.rules.specs.Board.{on_key, obey, respond, decide, ended, carry_out, enact, step, call, history, run, fresh}
use Rattle.rules.specs.Words.{Each, Arrives}
use Rattle.rules.specs.Promises.{Given, start}
use Rattle.rules.specs.Arrival.{InByte, GivesByte, begins_frame, with_byte, read_on, bytes_read, EndsFrame, FramesArrive}
use Rattle.rules.proofs.Receipt.{so_far, Possible, ComesTo, reading, good_framed, framed_good}
use Rattle.rules.proofs.Runs.{split}

-- what a call makes of the receiver
abbrev receiver_after : Receiver → Heard → Receiver
receiver_after r (turned_away f) = r
receiver_after r (part q) = q
receiver_after r (garbled f) = idle
receiver_after r (framed core) = idle
receiver_after r silence = idle
receiver_after r question = r
receiver_after r (power_up u) = idle

ended_idle : (n : Session) (c : Contents) (u : Supply) (d : Bool) → (ended n c u d).state.receiver ≡ idle
unfolding ended
ended_idle n c u true = refl
ended_idle n c u false = refl

module _ (C : Cipher) (s : State) where
  data_idle : (j : Result Packet Fault) → (enact (on_data j) s).state.receiver ≡ idle
  unfolding on_data enact carry_out
  data_idle (Ok p) = ended_idle _ _ _ _
  data_idle (Err f) = refl

  key_idle : (j : Result KeyPacket Fault) → (enact (on_key j) s).state.receiver ≡ idle
  unfolding on_key enact carry_out
  key_idle (Ok p) = ended_idle _ _ _ _
  key_idle (Err f) = refl

  obey_idle : (core : List ℕ) (k : Command) → (enact (obey C s core k) s).state.receiver ≡ idle
  unfolding obey enact carry_out
  obey_idle core MassErase = ended_idle _ _ _ _
  obey_idle core Version = refl
  obey_idle core Reset = refl
  obey_idle core Data = data_idle _
  obey_idle core Key = key_idle _
  obey_idle core (Unknown b) = refl

  receiver_turns : (h : Heard) → (enact (respond C s h) s).state.receiver ≡ receiver_after s.receiver h
  unfolding respond enact
  receiver_turns (turned_away f) = refl
  receiver_turns (part q) = refl
  receiver_turns (garbled f) = refl
  receiver_turns (framed core) = obey_idle core (command core)
  receiver_turns silence = refl
  receiver_turns question = refl
  receiver_turns (power_up u) = refl

-- the receiver has read these bytes
pub record HasRead (r : Receiver) (bs : List ℕ) : Type 0 where
  pub possible : Possible r
  pub is : so_far r ≡ bs

none_read : HasRead idle []
none_read = record { possible = tt; is = refl }

read_one : (r : Receiver) (bs : List ℕ) (b : ℕ) (q : Read) → ComesTo (bs ++ b ∷ []) q → HasRead (receiver_after r (heard_read q)) (with_byte bs b)
unfolding heard_read
read_one r bs b (waits q) h = record { possible = h.0; is = h.1 ∙ sym (cond-true _ _ _ h.2) }
read_one r bs b (bad f) h = record { possible = tt; is = sym (cond-false (begins_frame (bs ++ b ∷ [])) (bs ++ b ∷ []) [] h.0) }
read_one r bs b (good core) h = record { possible = tt; is = sym (cond-false (begins_frame (bs ++ b ∷ [])) (bs ++ b ∷ []) [] h.0) }

comes_to : (r : Receiver) (bs : List ℕ) (b : ℕ) → HasRead r bs → InByte b → ComesTo (bs ++ b ∷ []) (read r b)
comes_to r bs b h k = subst (λ (l : List ℕ). ComesTo (l ++ b ∷ []) (read r b)) h.is (reading r b h.possible k)

read_byte : (r : Receiver) (bs : List ℕ) (b : ℕ) → HasRead r bs → InByte b → (x y z : Bool)
    → HasRead (receiver_after r (cond x (turned_away ReplyShort) (cond y (turned_away WorkShort) (cond z (turned_away Dark) (heard_read (read r b))))))
    (cond x bs (cond y bs (cond z bs (with_byte bs b))))
read_byte r bs b h k true y z = h
read_byte r bs b h k false true z = h
read_byte r bs b h k false false true = h
read_byte r bs b h k false false false = read_one r bs b (read r b) (comes_to r bs b h k)

heard_silence : (r : Receiver) (bs : List ℕ) (z : Bool) → HasRead r bs → HasRead (receiver_after r (cond z (turned_away Dark) silence)) (cond z bs [])
heard_silence r bs true h = h
heard_silence r bs false h = none_read

heard_question : (r : Receiver) (bs : List ℕ) (z : Bool) → HasRead r bs → HasRead (receiver_after r (cond z (turned_away Dark) question)) bs
heard_question r bs true h = h
heard_question r bs false h = h

read_call : (s : State) (e : Event) (bs : List ℕ) → HasRead s.receiver bs → GivesByte e → HasRead (receiver_after s.receiver (heard s e)) (read_on bs s.dark e)
unfolding heard
read_call s (Byte b reply work) bs h k = read_byte s.receiver bs b h k (ltb reply 11) (ltb work 266) s.dark
read_call s Silence bs h k = heard_silence s.receiver bs s.dark h
read_call s Question bs h k = heard_question s.receiver bs s.dark h
read_call s (PowerUp u) bs h k = none_read

pub read_step : (C : Cipher) (s : State) (e : Event) (bs : List ℕ) → HasRead s.receiver bs → GivesByte e → HasRead (step C s e).state.receiver (read_on bs s.dark e)
unfolding step decide
read_step C s e bs h k = subst (λ (r : Receiver). HasRead r (read_on bs s.dark e)) (sym (receiver_turns C s (heard s e))) (read_call s e bs h k)

pub read_run : (C : Cipher) (s : State) (es : List Event) (bs : List ℕ) → HasRead s.receiver bs → Each GivesByte es
    → HasRead (run C s es).receiver (bytes_read bs (history C s es))
unfolding run history bytes_read
read_run C s [] bs h k = h
read_run C s (e ∷ es) bs h k = read_run C (step C s e).state es (read_on bs s.dark e) (read_step C s e bs h k.0) k.1

pub start_read : (g : Given) → HasRead (start g).receiver []
unfolding fresh
start_read g = none_read

pub each_front : {A : Type 0} (P : A → Type 0) (xs : List A) (y : A) (zs ws : List A) → xs ++ y ∷ zs ≡ ws → Each P ws → Each P xs × P y
each_front P [] y zs ws e h = let k : Each P (y ∷ zs) = subst (Each P) (sym e) h in (tt, k.0)
each_front P (x ∷ xs) y zs ws e h =
    let k : Each P (x ∷ (xs ++ y ∷ zs)) = subst (Each P) (sym e) h in
    let r = each_front P xs y zs (xs ++ y ∷ zs) refl k.1 in
    ((k.0, r.0), r.1)

-- a core command is heard from a byte that is read
pub byte_framed : (q : Read) (core : List ℕ) (x y z : Bool)
    → cond x (turned_away ReplyShort) (cond y (turned_away WorkShort) (cond z (turned_away Dark) (heard_read q))) ≡ framed core
    → (x ≡ false) × (y ≡ false) × (z ≡ false) × (q ≡ good core)
unfolding heard_read
byte_framed q core true y z e = let n : ◌≡◌ {A = ℕ} 0 1 = cc in absurd (omega arith)
byte_framed q core false true z e = let n : ◌≡◌ {A = ℕ} 0 1 = cc in absurd (omega arith)
byte_framed q core false false true e = let n : ◌≡◌ {A = ℕ} 0 1 = cc in absurd (omega arith)
byte_framed (waits r) core false false false e = let n : ◌≡◌ {A = ℕ} 0 1 = cc in absurd (omega arith)
byte_framed (bad f) core false false false e = let n : ◌≡◌ {A = ℕ} 0 1 = cc in absurd (omega arith)
byte_framed (good c) core false false false e = (refl, refl, refl, cc)

unframed : (z : Bool) (h : Heard) (core : List ℕ) → (h ≡ framed core → ⊥) → cond z (turned_away Dark) h ≡ framed core → ⊥
unframed true h core n e = let z : ◌≡◌ {A = ℕ} 0 1 = cc in omega arith
unframed false h core n e = n e

pub record Arriving (s : State) (e : Event) (core : List ℕ) : Type 0 where
  pub byte : ℕ
  pub reply : ℕ
  pub work : ℕ
  pub event_is : e ≡ Byte byte reply work
  pub reply_fits : 11 ≤ reply
  pub work_fits : 266 ≤ work
  pub lit : s.dark ≡ false
  pub reads : read s.receiver byte ≡ good core

pub arriving : (s : State) (e : Event) (core : List ℕ) → heard s e ≡ framed core → Arriving s e core
unfolding heard
arriving s (Byte b r w) core e =
    let p = byte_framed (read s.receiver b) core (ltb r 11) (ltb w 266) s.dark e in
    record { byte = b; reply = r; work = w; event_is = refl; reply_fits = ltb-false r 11 p.0; work_fits = ltb-false w 266 p.1; lit = p.2; reads = p.3 }
arriving s Silence core e = absurd (unframed s.dark silence core (λ q. let z : ◌≡◌ {A = ℕ} 0 1 = cc in omega arith) e)
arriving s Question core e = absurd (unframed s.dark question core (λ q. let z : ◌≡◌ {A = ℕ} 0 1 = cc in omega arith) e)
arriving s (PowerUp u) core e = let z : ◌≡◌ {A = ℕ} 0 1 = cc in absurd (omega arith)

hears : (s : State) (b r w : ℕ) (core : List ℕ) → 11 ≤ r → 266 ≤ w → s.dark ≡ false → read s.receiver b ≡ good core → heard s (Byte b r w) ≡ framed core
unfolding heard heard_read
hears s b r w core h k d e =
    cond-false (ltb r 11) _ _ (le-ltb r 11 h) ∙ (cond-false (ltb w 266) _ _ (le-ltb w 266 k) ∙ (cond-false s.dark _ _ d ∙ ap heard_read e))

module _ (C : Cipher) (s : State) (x : List Call) (core : List ℕ) (h : HasRead s.receiver (bytes_read [] x)) where
  ends : (e : Event) → GivesByte e → heard s e ≡ framed core → EndsFrame x (call C s e) core
  ends e k a =
      let p = arriving s e core a in
      let f = (good_framed s.receiver p.byte h.possible (subst GivesByte p.event_is k) core p.reads).0 in
      record {
        byte = p.byte;
        reply = p.reply;
        work = p.work;
        reads = p.event_is;
        reply_fits = p.reply_fits;
        work_fits = p.work_fits;
        lit = p.lit;
        frames = ap (λ (l : List ℕ). l ++ p.byte ∷ []) (sym h.is) ∙ f.frames;
        sized = f.sized;
      }

  arrives : (e : Event) → GivesByte e → EndsFrame x (call C s e) core → heard s e ≡ framed core
  arrives e k f =
      ap (heard s) f.reads
      ∙ hears s f.byte f.reply f.work core f.reply_fits f.work_fits f.lit
      (framed_good s.receiver f.byte h.possible (subst GivesByte f.reads k) core
      (record { frames = ap (λ (l : List ℕ). l ++ f.byte ∷ []) h.is ∙ f.frames; sized = f.sized }))

pub frames_arrive : FramesArrive
frames_arrive C g events k x z c core e =
    let sp = split C (start g) events x c z e in
    let t = run C (start g) sp.front in
    let b = each_front GivesByte sp.front sp.event sp.back events sp.events_are k in
    let r : HasRead t.receiver (bytes_read [] x) =
    subst (λ (l : List Call). HasRead t.receiver (bytes_read [] l)) sp.front_is (read_run C (start g) sp.front [] (start_read g) b.0) in
    subst (λ (d : Call). (Arrives d core → EndsFrame x d core) × (EndsFrame x d core → Arrives d core)) sp.call_is
    (ends C t x core r sp.event b.1, arrives C t x core r sp.event b.1)
