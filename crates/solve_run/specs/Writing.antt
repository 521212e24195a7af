-- What a sink has taken of a text, and what is then left.
use Rattle.std.specs.Prelude.{◌≡◌, ℕ, ◌<◌, List, ◌++◌, length, take, Option}
use Rattle.std.specs.Option.{option_map}
use Rattle.pay_outside.specs.Counts.{Rose}

-- A sink as its caller sees it: the bytes that it has taken, where it tells them, and its count of faults, before and after.
pub record Taking : Type 0 where
  pub before : Option (List ℕ)
  pub after : Option (List ℕ)
  pub faults_before : ℕ
  pub faults_after : ℕ

-- what a sink takes, by what it tells and counts
abbrev pub taking_of : {K : Type 0} → (K → Option (List ℕ)) → (K → ℕ) → K → K → Taking
taking_of taken faults old new = record {
  before = taken old;
  after = taken new;
  faults_before = faults old;
  faults_after = faults new;
}

-- the sink was offered nothing
pub record TookNothing (sink : Taking) : Type 0 where
  pub taken : sink.after ≡ sink.before
  pub faults : sink.faults_after ≡ sink.faults_before

-- the sink took the first n bytes of such a text, and not all of them
pub record TookPart (IsText : List ℕ → Type 0) (sink : Taking) (n : ℕ) : Type 0 where
  pub text : List ℕ
  pub is_text : IsText text
  pub within : n < length text
  pub taken : sink.after ≡ option_map (λ t. t ++ take n text) sink.before
  pub cause : Rose sink.faults_before sink.faults_after

-- the sink took the whole of such a text
pub record TookAll (IsText : List ℕ → Type 0) (sink : Taking) : Type 0 where
  pub text : List ℕ
  pub is_text : IsText text
  pub taken : sink.after ≡ option_map (λ t. t ++ text) sink.before
