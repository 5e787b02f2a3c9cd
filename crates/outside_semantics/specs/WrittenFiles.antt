-- The files that a run writes, one after another, and what is on the disk when one of them could not be
-- written. Source: this tool's own bundles.
use Rattle.std.specs.Prelude.{◌≡◌, ◌⊎◌, ℕ, ◌≤◌, Bool, false, List, [], ◌∷◌, ◌++◌, length, take}
use Rattle.std.specs.List.{list_all}
use Rattle.std.specs.FinMap.{insert}
use Rattle.semantics.specs.Texts.{Bytes}
use Rattle.outside_semantics.specs.Outside.{Held, FilesTold, Goes, Rose, WhereTold}

-- a file and its whole text
pub record File : Type 0 where
  pub name : Bytes
  pub text : Bytes

-- the held files after these were written in their order; every other name keeps its bytes
abbrev pub with_files : Held → List File → Held
with_files held [] = held
with_files held (f ∷ files) = with_files (insert held f.name f.text) files

abbrev pub are_steady : FilesTold → List File → Bool
are_steady told files = list_all (λ f. told.steady_write f.name) files

pub record FilesWritten (old new : FilesTold) (files : List File) : Type 0 where
  pub goes : Goes old new
  pub held : WhereTold old new (λ a b. b ≡ with_files a files)

-- A file that could not be created is untouched; one that was created is empty or holds a first part of its
-- text.
abbrev pub IsCutAt : Held → File → Held → Type 0
IsCutAt before file now = (now ≡ before)
    ⊎ ((n : ℕ) × (n ≤ length file.text) × (now ≡ insert before file.name (take n file.text)))

-- The files before the one that failed are whole, and the later ones untouched.
pub record IsCutShort (before now : Held) (files : List File) : Type 0 where
  pub whole : List File
  pub failed : File
  pub later : List File
  pub order : files ≡ whole ++ failed ∷ later
  pub cut : IsCutAt (with_files before whole) failed now

-- A fault came while these files were written: the count rose, and one of the names is not steady.
pub record FilesCutShort (old new : FilesTold) (files : List File) : Type 0 where
  pub goes : Goes old new
  pub rose : Rose old.faults new.faults
  pub not_steady : are_steady old files ≡ false
  pub held : WhereTold old new (λ a b. IsCutShort a b files)
