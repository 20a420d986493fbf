-- A data packet that was asked for, with its data.
use Rattle.std.proofs.Common.{◌≡◌, ℕ, List, length, Some, None, Ok, Err, Option, Result, is_ok, false, refl, ap, ap₂, ◌∙◌}
use Rattle.std.specs.Option.{ok_or, option_map}
use Rattle.std.specs.Result.{MatchResult}
use Rattle.packer.specs.Packing.{packed_data}
use Rattle.pack.specs.Report.{cipher_of, data_given, data_packet, framed, reported}
use Rattle.pack.specs.declared.arguments.DataArguments.{DataArguments}
use Rattle.pack.specs.declared.failure.Failure.{Failure}
use Rattle.pack.specs.declared.report.Packet.TheVariants.{Data}
use Rattle.pack.specs.declared.report.Report.{Report}
use Rattle.pack.specs.declared.usage.Argument.{Argument}

asked_is : (asked : Result DataArguments Argument) (a : DataArguments) → MatchResult asked (λ x. ◌≡◌ {A = Result DataArguments Failure} (Ok a) (Ok x)) (λ e. ⊥) → Ok a ≡ asked
asked_is (Ok x) a h = let e : a ≡ x = cc in ap Ok e
asked_is (Err e) a h = absurd h

data_is : {X : Type 0} (f : X → List ℕ) (o : Option X) (x : X) (failure : Failure) → ◌≡◌ {A = Result X Failure} (Ok x) (ok_or o failure) → Some (f x) ≡ option_map f o
data_is f (Some y) x failure h = let e : x ≡ y = cc in ap (λ z. Some (f z)) e
data_is f None x failure h = cc

pub given : {X : Type 0} (f : X → List ℕ) (asked : Result DataArguments Argument) (o : Option X) (a : DataArguments) (x : X) (failure : Failure) (n : ℕ) (frame : List ℕ)
    → MatchResult asked (λ y. ◌≡◌ {A = Result DataArguments Failure} (Ok a) (Ok y)) (λ e. ⊥) → ◌≡◌ {A = Result X Failure} (Ok x) (ok_or o failure)
    → n ≡ length (f x) → Ok frame ≡ framed (packed_data (cipher_of a.mode) a.key a.iv (data_packet a (f x)) 304)
    → ◌≡◌ {A = Result Report Failure} (Ok (record { packet = Data a n; frame = frame })) (data_given asked (option_map f o))
given f asked o a x failure n frame ea eo en ef =
    ap (λ (k : ℕ). Ok (record { packet = Data a k; frame = frame })) en
    ∙ ap (reported (Data a (length (f x)))) ef
    ∙ ap₂ data_given (asked_is asked a ea) (data_is f o x failure eo)

-- where an argument is malformed, the data are not looked at
pub not_asked : (asked : Result DataArguments Argument) (o p : Option (List ℕ)) → is_ok asked ≡ false → data_given asked o ≡ data_given asked p
not_asked (Ok a) o p h = cc
not_asked (Err e) o p h = refl
