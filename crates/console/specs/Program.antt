-- What a program over the system came to.
use Rattle.std.specs.Prelude.{◌≡◌, ℕ, [], List, ◌⊎◌, None}
use Rattle.outside_semantics.specs.Outside.{FilesTold, SinkTold}
use Rattle.exit_numbers.specs.declared.numbers.TheConstants.{NO_MEMORY, WRITE_FAULT}
use Rattle.console.specs.Untold.{untold_sink}

-- what a run says of its words, of what files and sink told before and after it, and of its answer
abbrev pub RunRelation : Type 0 → Type 1
RunRelation A = List (List ℕ) → FilesTold → FilesTold → SinkTold → SinkTold → A → Type 0

-- files as they are before the first call: nothing is told, nothing is open, and no call has failed
abbrev pub IsUntouched : FilesTold → Type 0
IsUntouched told = (told.held ≡ None) × (told.opened ≡ None) × (told.turns ≡ []) × (told.faults ≡ 0)

-- the answer is that of a run on these words over files and a sink that were untouched before it
abbrev pub IsRunOn : {A : Type 0} → RunRelation A → List (List ℕ) → A → Type 0
IsRunOn says words answer = (old new : FilesTold) × (after : SinkTold)
    × IsUntouched old × says words old new (untold_sink 0) after answer

-- the number is that of the answer of a run on some words
abbrev pub IsExitOfRun : {A : Type 0} → RunRelation A → (A → ℕ) → ℕ → Type 0
IsExitOfRun {A} says exit_number number = (words : List (List ℕ)) × (answer : A)
    × IsRunOn says words answer × (number ≡ exit_number answer)

-- A process ended with this number: that of a run's answer or, where no run was made, that of want of memory
-- for the words, or that of a standard stream that can't be held.
abbrev pub IsEnd : {A : Type 0} → RunRelation A → (A → ℕ) → ℕ → Type 0
IsEnd says exit_number number =
    IsExitOfRun says exit_number number ⊎ ((number ≡ NO_MEMORY) ⊎ (number ≡ WRITE_FAULT))
