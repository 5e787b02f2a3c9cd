-- How the fields of a reader stand to what it has read.
use Rattle.std.specs.Prelude.{◌≡◌, ◌-◌, None, [], true, false, length, drop}
use Rattle.proof_semantics.specs.LratReading.{whole_items, is_refused, refusal_at, refusal_at_end}
use Rattle.cnf_core.specs.declared.lrat_reader.LratReader.TheInside.{Inside}
use Rattle.cnf_core.specs.LratParts.{stage_at, scanner_at}
use Rattle.cnf_core.specs.LratScanning.{begin, scanned_all}
use Rattle.cnf_core.specs.LratReads.{LogRead, read_text, read_items}

-- the items that no longer wait were given
abbrev pub read_view : Inside → LogRead
read_view a = record {
  text = a.text.bytes;
  given = length (whole_items (read_text a.text.bytes a.is_finished)) - length a.waiting.items;
  finished = a.is_finished;
  refused = refusal_at (stage_at a.scanner.part a.draft);
}

pub record Stands (a : Inside) : Type 0 where
  pub scanner : is_refused (stage_at a.scanner.part a.draft) ≡ false
      → scanner_at a.scanner a.draft ≡ scanned_all begin (read_text a.text.bytes a.is_finished)
  pub waiting : a.waiting.items ≡ drop (read_view a).given (read_items (read_view a))
  pub literals : a.draft.literals.before ≡ []
  pub numbers : a.draft.numbers.before ≡ []
  -- a text that has ended is a log
  pub finished : a.is_finished ≡ true → refusal_at_end (stage_at a.scanner.part a.draft) ≡ None
