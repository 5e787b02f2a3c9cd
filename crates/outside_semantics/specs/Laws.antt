-- The laws about files, each the contract of a function without parameters.
use Rattle.std.specs.Prelude.{◌≡◌, ◌≢◌, List, ◌∷◌, ◌++◌, Some}
use Rattle.std.specs.List.{AllByRecursion}
use Rattle.std.specs.FinMap.{get}
use Rattle.semantics.specs.Texts.{Bytes}
use Rattle.outside_semantics.specs.Outside.{Held}
use Rattle.outside_semantics.specs.WrittenFiles.{File, with_files}

-- once files were written one after another, each file is held with its text unless a later file has its
-- name, and every other name is held as before
pub record WrittenFilesLaw : Type 0 where
  pub holds : (held : Held) (before after : List File) (file : File)
      → AllByRecursion (λ f. f.name ≢ file.name) after
      → get (with_files held (before ++ file ∷ after)) file.name ≡ Some file.text
  pub others : (held : Held) (files : List File) (name : Bytes) → AllByRecursion (λ f. f.name ≢ name) files
      → get (with_files held files) name ≡ get held name
