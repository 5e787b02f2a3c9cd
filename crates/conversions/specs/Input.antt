-- What the reading of IN comes to.
use Rattle.std.specs.Prelude.{◌≡◌, ◌+◌, IsTrue, Some, take}
use Rattle.std.specs.FinMap.{contains_key}
use Rattle.semantics.specs.declared.limits.TheConstants.{MOST_INPUT_BYTES}
use Rattle.semantics.specs.Texts.{Bytes}
use Rattle.semantics.specs.Net.{NetValue, IsSound, IsSmall}
use Rattle.blif_semantics.specs.Reading.{Refusal}
use Rattle.outside_semantics.specs.Outside.{FilesTold, WhereTold, bytes_of}
use Rattle.file_reading.specs.Reading.{FileFailed, FilesStay}
use Rattle.job_semantics.specs.Input.{IsReadAs, IsRefusedFor}
use Rattle.job_semantics.specs.Synthesis.{WhereHeld}
use Rattle.blif_text.specs.Refusals.{refusal_of}
use Rattle.job_answers.specs.declared.status.Status.{Status}
use Rattle.job_answers.specs.declared.status.Status.TheVariants.{Text, NoMemory, ReadFault}

-- IN was read as far as one byte past the limit
pub record FrontRead (old new : FilesTold) (name text : Bytes) : Type 0 where
  pub stay : FilesStay old new name
  pub held : WhereTold old new (λ a b. IsTrue (contains_key a name))
  pub front : WhereTold old new (λ a b. text ≡ take (MOST_INPUT_BYTES + 1) (bytes_of a name))

-- the answer where IN was not read
abbrev pub FrontUnread : FilesTold → FilesTold → Bytes → Status → Type 0
FrontUnread old new name ReadFault = FileFailed old new name
FrontUnread old new name NoMemory = FilesStay old new name
FrontUnread old new name _ = ⊥

-- IN was read as the net
pub record NetRead (old new : FilesTold) (name : Bytes) (N : NetValue) : Type 0 where
  pub stay : FilesStay old new name
  pub told : WhereTold old new (λ a b. IsReadAs (bytes_of a name) N)
  pub at_entry : WhereHeld old name (λ a. IsReadAs (bytes_of a name) N)
  pub sound : IsSound N
  pub small : IsSmall N

-- IN is held and is refused
pub record TextRefused (refusal : Refusal) (old new : FilesTold) (name : Bytes) : Type 0 where
  pub stay : FilesStay old new name
  pub held : WhereTold old new (λ a b. IsTrue (contains_key a name))
  pub told : WhereTold old new (λ a b. IsRefusedFor (bytes_of a name) refusal)
  pub at_entry : WhereHeld old name (λ a. IsRefusedFor (bytes_of a name) refusal)

-- the answer where IN gives no net
abbrev pub NetUnread : FilesTold → FilesTold → Bytes → Status → Type 0
NetUnread old new name (Text reason) = (refusal : Refusal) × (refusal_of reason ≡ Some refusal)
    × TextRefused refusal old new name
NetUnread old new name ReadFault = FileFailed old new name
NetUnread old new name NoMemory = FilesStay old new name
NetUnread old new name _ = ⊥
