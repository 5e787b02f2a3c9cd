-- How files are opened.
use Rattle.std.specs.Prelude.{true}
use Rattle.std.specs.Fs.{new_options, with_read, with_write, with_create, with_truncate}
use Rattle.std.specs.declared.fs.options.OpenOptions.{OpenOptions}

-- to be read
abbrev pub to_read : OpenOptions
to_read = with_read new_options true

-- to be written from its start: it is made, or emptied where it is there
abbrev pub to_create : OpenOptions
to_create = with_truncate (with_create (with_write new_options true) true) true
