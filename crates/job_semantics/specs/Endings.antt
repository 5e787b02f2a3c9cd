-- The files of a bundle, in the order in which they are written. Source: this tool's own bundles.
use Rattle.std.specs.Prelude.{Bool, List, [], ◌∷◌, ◌++◌, map, codes, bytes_eq}
use Rattle.std.specs.List.{list_any, list_all}
use Rattle.semantics.specs.Texts.{Bytes}
use Rattle.outside_semantics.specs.Outside.{FilesTold}
use Rattle.outside_semantics.specs.WrittenFiles.{File}
use Rattle.job_semantics.specs.declared.ending.Ending.{Ending}
use Rattle.job_semantics.specs.declared.ending.Ending.TheVariants.{Netlist, Formula, Log, Vectors, Report}

abbrev pub bundle_endings : List Ending
bundle_endings = Netlist ∷ Formula ∷ Log ∷ Vectors ∷ Report ∷ []

abbrev pub ending_word : Ending → Bytes
ending_word Netlist = codes ".blif"
ending_word Formula = codes ".cnf"
ending_word Log = codes ".lrat"
ending_word Vectors = codes ".wit"
ending_word Report = codes ".txt"

abbrev pub bundle_name : Bytes → Ending → Bytes
bundle_name stem ending = stem ++ ending_word ending

-- one of the five names
abbrev pub is_bundle_name : Bytes → Bytes → Bool
is_bundle_name stem name = list_any (λ ending. bytes_eq name (bundle_name stem ending)) bundle_endings

-- the files in the order in which they are written, each with its text
abbrev pub bundle_files : Bytes → (Ending → Bytes) → List File
bundle_files stem text = map (λ ending. record { name = bundle_name stem ending; text = text ending })
    bundle_endings

-- all five names can be written
abbrev pub are_bundle_names_steady : FilesTold → Bytes → Bool
are_bundle_names_steady told stem
    = list_all (λ ending. told.steady_write (bundle_name stem ending)) bundle_endings
