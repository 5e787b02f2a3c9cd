-- The names as which a stem is held.
use Rattle.std.specs.Prelude.{◌≡◌, ◌-◌, length, take}
use Rattle.semantics.specs.Texts.{Bytes}
use Rattle.job_semantics.specs.declared.ending.Ending.TheVariants.{Netlist, Formula, Log, Vectors, Report}
use Rattle.job_semantics.specs.Endings.{bundle_name}

-- the netlist's name without `.blif`
abbrev pub stem_of : Bytes → Bytes
stem_of name = take (length name - 5) name

-- a name for each file of a bundle
pub record BundleNames : Type 0 where
  pub netlist : Bytes
  pub formula : Bytes
  pub log : Bytes
  pub vectors : Bytes
  pub report : Bytes

-- they are the names of a stem
pub record AreNames (stem : Bytes) (names : BundleNames) : Type 0 where
  pub netlist_is : names.netlist ≡ bundle_name stem Netlist
  pub formula_is : names.formula ≡ bundle_name stem Formula
  pub log_is : names.log ≡ bundle_name stem Log
  pub vectors_is : names.vectors ≡ bundle_name stem Vectors
  pub report_is : names.report ≡ bundle_name stem Report
