-- Answers of the reader of correspondences, and what is measured in order.
use Rattle.std.specs.Prelude.{◌≡◌, List, [], ◌∷◌, Result, Ok, Err}
use Rattle.nfg_text.specs.declared.fault.NfgFault.{NfgFault}
use Rattle.nfg_text.specs.declared.fault.NfgFault.TheVariants as text
use Rattle.selfgen_check.specs.declared.text_fault.CorrTextFault.{CorrTextFault}
use Rattle.selfgen_check.specs.declared.text_fault.CorrTextFault.TheVariants.{Bad, Limit, Wide, NoMemory}

-- a fault of the form, or a limit that a token passes
abbrev pub told : NfgFault → CorrTextFault
told (text.Bad at) = Bad at
told (text.Limit what number at) = Limit what number at
told text.NoMemory = NoMemory

abbrev pub lifted : {A : Type 0} → Result A NfgFault → Result A CorrTextFault
lifted (Ok x) = Ok x
lifted (Err e) = Err (told e)

infixl 10 ◌>>=◌
abbrev pub ◌>>=◌ : {A B : Type 0} → Result A CorrTextFault → (A → Result B CorrTextFault) → Result B CorrTextFault
(Ok x) >>= f = f x
(Err e) >>= f = Err e

-- What a function answered is what is said, unless memory ran out.
abbrev pub Fails : {A : Type 0} → CorrTextFault → Result A CorrTextFault → Type 0
Fails (Bad at) said = said ≡ Err (Bad at)
Fails (Limit what number at) said = said ≡ Err (Limit what number at)
Fails (Wide what number) said = said ≡ Err (Wide what number)
Fails NoMemory said = Unit {0}

abbrev pub Gives : {A : Type 0} → Result A CorrTextFault → Result A CorrTextFault → Type 0
Gives (Ok x) said = said ≡ Ok x
Gives (Err e) said = Fails e said

-- the same of what it answered, seen by view
abbrev pub Shows : {X Y : Type 0} → (X → Y) → Result X CorrTextFault → Result Y CorrTextFault → Type 0
Shows view (Ok x) said = said ≡ Ok (view x)
Shows view (Err e) said = Fails e said

-- a value that each item changes in turn, up to the first fault
abbrev pub folded : {A B : Type 0} → (B → A → Result B CorrTextFault) → B → List A → Result B CorrTextFault
folded f b [] = Ok b
folded f b (x ∷ xs) = f b x >>= λ c. folded f c xs

-- what each item gives, in order, or the first fault
abbrev pub each : {A B : Type 0} → (A → Result B CorrTextFault) → List A → Result (List B) CorrTextFault
each f [] = Ok []
each f (x ∷ xs) = f x >>= λ y. each f xs >>= λ ys. Ok (y ∷ ys)
