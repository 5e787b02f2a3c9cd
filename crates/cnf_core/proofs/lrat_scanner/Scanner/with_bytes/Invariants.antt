use Rattle.std.proofs.Common.{◌≡◌, ◌+◌, ◌-◌, ◌≤◌, ◌++◌, length, drop}
use Rattle.cnf_core.specs.Drafts.{Grows}
use Rattle.cnf_core.specs.LratParts.{scanner_at}
use Rattle.cnf_core.specs.LratScanning.{scanned_all, all_given, FoundMore}
use Rattle.cnf_core.proofs.lrat_scanner.Scanner.with_bytes.Given as goal

-- what is left of the bytes leads where all of them lead
abbrev pub invariant-fronts : goal.invariant-fronts
invariant-fronts l = record {
  scanner : scanned_all (scanner_at l.scanner l.draft) (drop l.at l.bytes) ≡ scanned_all (scanner_at l.fn.self l.fn.draft) l.bytes;
  items : l.items.items ++ all_given (scanner_at l.scanner l.draft) (drop l.at l.bytes) ≡ l.fn.items.items ++ all_given (scanner_at l.fn.self l.fn.draft) l.bytes;
  found : FoundMore l.fn.items.items l.items.items;
  place : l.scanner.at ≤ l.fn.self.at + l.at;
  within : l.at ≤ length l.bytes;
  grows : Grows l.fn.draft l.draft;
}

abbrev pub decreases-fronts : goal.decreases-fronts
decreases-fronts l = length l.bytes - l.at
