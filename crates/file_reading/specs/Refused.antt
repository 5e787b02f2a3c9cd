-- What each reason not to read says.
use Rattle.semantics.specs.Texts.{Bytes}
use Rattle.outside_semantics.specs.Outside.{FilesTold, ReadFailed, KeepsAtRead}
use Rattle.file_reading.specs.declared.unread.Unread.{Unread}
use Rattle.file_reading.specs.declared.unread.Unread.TheVariants.{Fault, OutOfMemory, Endless}
use Rattle.file_reading.specs.Reading.{FilesStay, FileFailed, FileEndless}

abbrev pub TurnRefused : FilesTold → FilesTold → Unread → Type 0
TurnRefused old new Fault = ReadFailed old new
TurnRefused old new OutOfMemory = KeepsAtRead old new
TurnRefused old new Endless = ⊥

abbrev pub FileUnread : FilesTold → FilesTold → Bytes → Bytes → Unread → Type 0
FileUnread old new name text Fault = FileFailed old new name
FileUnread old new name text OutOfMemory = FilesStay old new name
FileUnread old new name text Endless = FileEndless old new name text
