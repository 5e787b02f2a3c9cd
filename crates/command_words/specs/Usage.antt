-- The line that tells which words are jobs. Source: this tool's own.
use Rattle.std.specs.Prelude.{codes}
use Rattle.semantics.specs.Texts.{Bytes}

abbrev pub usage_line : Bytes
usage_line
    = codes
    "usage: synth METRIC BOUND CONFLICTS IN STEM, certify METRIC BOUND CONFLICTS IN APPROX STEM, refine METRIC BOUND CONFLICTS IN START STEM, check METRIC BOUND IN STEM, confirm METRIC BOUND IN STEM, flat IN OUT, aag IN OUT, blif IN OUT, trim METRIC BOUND IN STEM OUT, or demo WIDTH BOUND CONFLICTS"
