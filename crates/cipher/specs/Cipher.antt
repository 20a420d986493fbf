-- What a packet cipher means, and its laws. Keys, IVs, contents and bodies are lists of bytes.
use Rattle.std.specs.Prelude.{◌≡◌, ℕ, ◌+◌, ◌-◌, ◌<◌, ◌≤◌, Bool, true, false, cond, List, ◌++◌, length, replicate, Some, None, Ok, Err, Option, Result}
use Rattle.std.specs.List.{All}
use Rattle.fault.specs.declared.Fault.{Fault}
use Rattle.fault.specs.declared.Fault.TheVariants.{BadIv, NotOpened}

-- a packet cipher: which IVs are well formed, what sealing gives, what opening gives
pub record Cipher : Type 0 where
  -- which IVs are well formed
  pub well_formed : List ℕ → Bool
  -- the place at which any other IV is first wrong
  pub first_wrong : List ℕ → ℕ
  -- the body that a key, an IV and contents give
  pub seal : List ℕ → List ℕ → List ℕ → List ℕ
  -- the contents that a key, an IV and a body give, if any
  pub opened : List ℕ → List ℕ → List ℕ → Option (List ℕ)

-- a key of 16 bytes and a well-formed IV of 16: the laws are asked of these
abbrev pub Usable : Cipher → List ℕ → List ℕ → Type 0
Usable C k iv = (length k ≡ 16) × (length iv ≡ 16) × (C.well_formed iv ≡ true)

-- The laws of a packet cipher, for usable keys and IVs and contents of 0 to 266 bytes.
pub record Lawful (C : Cipher) : Type 0 where
  -- some IV of bytes is well formed
  pub some_iv : (iv : List ℕ) × (length iv ≡ 16) × (C.well_formed iv ≡ true) × All (λ b. b < 256) iv
  -- any other is first wrong at one of its bytes
  pub wrong_within : (iv : List ℕ) → length iv ≡ 16 → C.well_formed iv ≡ false → C.first_wrong iv < 16
  -- what a body opens to seals to that body
  pub sound : (k iv b c : List ℕ) → Usable C k iv → C.opened k iv b ≡ Some c → (C.seal k iv c ≡ b) × (length c ≤ 266)
  -- what contents seal to opens to them
  pub complete : (k iv c : List ℕ) → Usable C k iv → length c ≤ 266 → C.opened k iv (C.seal k iv c) ≡ Some c
  -- a body is 16 bytes longer than its contents
  pub longer : (k iv c : List ℕ) → Usable C k iv → length c ≤ 266 → length (C.seal k iv c) ≡ length c + 16
  -- different contents seal to different bodies
  pub apart : (k iv c d : List ℕ) → Usable C k iv → length c ≤ 266 → length d ≤ 266 → C.seal k iv c ≡ C.seal k iv d → c ≡ d

-- what checking an IV answers
abbrev pub iv_checked : Cipher → List ℕ → Result (Unit {0}) Fault
iv_checked C iv = cond (C.well_formed iv) (Ok tt) (Err (BadIv (C.first_wrong iv)))

-- the contents that a packet opens to: none where its IV is not well formed, or its body opens to none
abbrev pub opened_to : Cipher → List ℕ → List ℕ → List ℕ → Option (List ℕ)
opened_to C key iv body = cond (C.well_formed iv) (C.opened key iv body) None

-- what opening a body answers: how many bytes the contents have
abbrev pub opening : Option (List ℕ) → Result ℕ Fault
opening None = Err NotOpened
opening (Some c) = Ok (length c)

-- what opening leaves in 266 bytes: the contents with zeros behind them, or only zeros
abbrev pub yielded : Option (List ℕ) → List ℕ
yielded None = replicate 266 0
yielded (Some c) = c ++ replicate (266 - length c) 0
