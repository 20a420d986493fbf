-- What is told of malformed arguments, and of a packet that is refused.
use Rattle.std.specs.Prelude.{ℕ, List, ◌++◌, codes}
use Rattle.fault.specs.Refusals.{refusal_text}
use Rattle.pack.specs.declared.failure.Failure.{Failure}
use Rattle.pack.specs.declared.failure.Failure.TheVariants.{Malformed, Refused, NotOpened}
use Rattle.pack.specs.declared.usage.Argument.{Argument}
use Rattle.pack.specs.declared.usage.Argument.TheVariants.{Command, Count, Cipher, Key, Kek, Iv, Ver, Pn, Np, Address, Data, Kt, Kv}
use Rattle.pack.specs.declared.usage.Form.{Form}
use Rattle.pack.specs.declared.usage.Form.TheVariants.{Unknown, Data as DataForm, Key as KeyForm}

-- a usage of the program, or both
abbrev pub form_text : Form → List ℕ
form_text DataForm = codes "pack data CIPHER KEY IV VER PN NP ADDRESS DATA"
form_text KeyForm = codes "pack key CIPHER KEK IV KT KV KEY"
form_text Unknown = codes "pack data CIPHER KEY IV VER PN NP ADDRESS DATA, or pack key CIPHER KEK IV KT KV KEY"

-- what is wanted of an argument
abbrev pub wanted_text : Argument → List ℕ
wanted_text Command = codes "the first argument is data or key"
wanted_text Count = codes "there are too few arguments or too many"
wanted_text Cipher = codes "CIPHER is ccm or gcm"
wanted_text Key = codes "KEY has 32 hexadecimal digits"
wanted_text Kek = codes "KEK has 32 hexadecimal digits"
wanted_text Iv = codes "IV has 32 hexadecimal digits"
wanted_text Ver = codes "VER is a decimal number, 0 to 255"
wanted_text Pn = codes "PN is a decimal number, 0 to 65535"
wanted_text Np = codes "NP is a decimal number, 0 to 65535"
wanted_text Address = codes "ADDRESS is 0x and hexadecimal digits"
wanted_text Data = codes "DATA has hexadecimal digits, two to a byte"
wanted_text Kt = codes "KT is a decimal number, 0 to 255"
wanted_text Kv = codes "KV is a decimal number, 0 to 255"

-- why there is no frame
abbrev pub failure_text : Failure → List ℕ
failure_text (Malformed form argument) = codes "malformed: " ++ (wanted_text argument ++ (codes "; usage: " ++ form_text form))
failure_text (Refused fault) = codes "refused: " ++ refusal_text fault
failure_text NotOpened = codes "The frame did not open again to the same contents."
