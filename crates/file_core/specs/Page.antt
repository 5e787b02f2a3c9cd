-- Text that is gathered in a page before it is appended, and what a call that gathers or writes a text, or
-- writes files, comes to.
use Rattle.std.specs.Prelude.{◌≡◌, List, [], ◌++◌, Result, OnOk, OnErr}
use Rattle.semantics.specs.Texts.{Bytes}
use Rattle.outside_semantics.specs.Outside.{FilesTold, SinkTold, Wrote, WriteFailed, Took, TakeFailed}
use Rattle.outside_semantics.specs.WrittenFiles.{File, FilesWritten, FilesCutShort}

-- the text came behind what the page held, a first part of both was appended, and the page holds the rest
pub record Gathered (old new : FilesTold) (before after text : Bytes) : Type 0 where
  pub sent : Bytes
  pub wrote : Wrote old new sent
  pub rest : before ++ text ≡ sent ++ after

-- what is told of the files, and what the page holds
pub record PagedFiles : Type 0 where
  pub told : FilesTold
  pub page : Bytes

abbrev pub with_page : FilesTold → Bytes → PagedFiles
with_page told page = record { told = told; page = page }

-- The text was gathered behind what the page held; or a fault came, a first part of both was appended, and
-- the page is empty.
pub record Gathers {T E : Type 0} (result : Result T E) (old new : PagedFiles) (text : Bytes) : Type 0 where
  pub ok : OnOk result (Gathered old.told new.told old.page new.page text)
  pub err : OnErr result (WriteFailed old.told new.told (old.page ++ text))
  pub emptied : OnErr result (new.page ≡ [])

-- the text was appended; or a fault came, and a first part of the text was appended
pub record Writes {T E : Type 0} (result : Result T E) (old new : FilesTold) (text : Bytes) : Type 0 where
  pub ok : OnOk result (Wrote old new text)
  pub err : OnErr result (WriteFailed old new text)

-- the text was put to the sink; or a fault came, and a first part of the text was put
pub record Puts {T E : Type 0} (result : Result T E) (old new : SinkTold) (text : Bytes) : Type 0 where
  pub ok : OnOk result (Took old new text)
  pub err : OnErr result (TakeFailed old new text)

-- the files were written in their order; or a fault came, and the writing was cut short at one of them
pub record WritesFiles {T E : Type 0} (result : Result T E) (old new : FilesTold)
    (files : List File) : Type 0 where
  pub ok : OnOk result (FilesWritten old new files)
  pub err : OnErr result (FilesCutShort old new files)
