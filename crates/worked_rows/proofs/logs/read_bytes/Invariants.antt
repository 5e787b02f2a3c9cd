use Rattle.std.proofs.Common.{◌≡◌, ◌+◌, ◌≤◌, length, false}
use Rattle.worked_rows.proofs.logs.read_bytes.Given as goal

abbrev pub invariant-loop-byte : goal.invariant-loop-byte
invariant-loop-byte l = record { going : l.reader.finished ≡ false; size : length l.reader.text ≤ length l.fn.reader.text + l.byte-index }
