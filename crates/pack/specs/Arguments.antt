-- What the arguments ask for: each is read by its own rule, and the first malformed one is named.
use Rattle.std.specs.Prelude.{ℕ, cond, List, Some, None, Ok, Err, codes, Option, Result}
use Rattle.std.specs.Str.{bytes_eq}
use Rattle.text.specs.Decimal.{decimal_read}
use Rattle.text.specs.Hex.{block_read, hex_number_read}
use Rattle.pack.specs.declared.arguments.Mode.{Mode}
use Rattle.pack.specs.declared.arguments.Mode.TheVariants.{Ccm, Gcm}
use Rattle.pack.specs.declared.arguments.DataArguments.{DataArguments}
use Rattle.pack.specs.declared.arguments.KeyArguments.{KeyArguments}
use Rattle.pack.specs.declared.usage.Argument.{Argument}
use Rattle.pack.specs.declared.usage.Argument.TheVariants.{Cipher, Key, Kek, Iv, Ver, Pn, Np, Address, Kt, Kv}

-- the mode that a word names
abbrev pub mode_read : List ℕ → Option Mode
mode_read word = cond (bytes_eq word (codes "ccm")) (Some Ccm) (cond (bytes_eq word (codes "gcm")) (Some Gcm) None)

-- its name
abbrev pub mode_text : Mode → List ℕ
mode_text Ccm = codes "AES-128 CCM"
mode_text Gcm = codes "AES-128 GCM"

-- what follows of a value; without one, the argument is malformed
abbrev pub want : {X Y : Type 0} → Option X → Argument → (X → Result Y Argument) → Result Y Argument
want None a f = Err a
want (Some x) a f = f x

-- the arguments of a data packet but its data
abbrev pub data_read : List ℕ → List ℕ → List ℕ → List ℕ → List ℕ → List ℕ → List ℕ → Result DataArguments Argument
data_read cipher key iv ver pn np address =
    want (mode_read cipher) Cipher (λ m. want (block_read key) Key (λ k. want (block_read iv) Iv (λ i.
    want (decimal_read 255 ver) Ver (λ v. want (decimal_read 65535 pn) Pn (λ n. want (decimal_read 65535 np) Np (λ c.
    want (hex_number_read address) Address (λ a.
    Ok (record { mode = m; key = k; iv = i; version = v; number = n; count = c; address = a }))))))))

-- the arguments of a key packet
abbrev pub key_read : List ℕ → List ℕ → List ℕ → List ℕ → List ℕ → List ℕ → Result KeyArguments Argument
key_read cipher kek iv kt kv key =
    want (mode_read cipher) Cipher (λ m. want (block_read kek) Kek (λ e. want (block_read iv) Iv (λ i.
    want (decimal_read 255 kt) Kt (λ t. want (decimal_read 255 kv) Kv (λ v. want (block_read key) Key (λ k.
    Ok (record { mode = m; kek = e; iv = i; kind = t; version = v; key = k })))))))
