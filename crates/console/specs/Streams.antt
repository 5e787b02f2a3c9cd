-- What holds the numbers of the standard streams.
use Rattle.std.specs.Prelude.{ℕ, List, ◌⊎◌, codes}
use Rattle.std.specs.declared.fs.options.OpenOptions.{OpenOptions}
use Rattle.console.specs.Options.{to_read}
use Rattle.console.specs.declared.streams.HeldStreams.{HeldStreams}

module _ {F : Type 0} (opened : OpenOptions → List ℕ → F → Type 0) where
  -- a file that was opened to be read at `/dev/null`, or at `/`
  abbrev pub IsNothing : F → Type 0
  IsNothing file = opened to_read (codes "/dev/null") file ⊎ opened to_read (codes "/") file

  -- each of the three files is such a file
  pub record AreHeld (held : HeldStreams F) : Type 0 where
    pub first : IsNothing held.first
    pub second : IsNothing held.second
    pub third : IsNothing held.third
