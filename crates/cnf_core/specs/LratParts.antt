-- Where a reader stands in the grammar of logs, as its fields say it.
use Rattle.proof_semantics.specs.LratMatching.{Stage, Outside, Begun, Literals, Hints, Deletion, Refused}
use Rattle.cnf_core.specs.declared.lrat_part.Part.{Part}
use Rattle.cnf_core.specs.declared.lrat_part.Part.TheVariants.{BetweenItems, AfterId, InLiterals, InHints}
use Rattle.cnf_core.specs.declared.lrat_part.Part.TheVariants.{InDeletion, AfterRefusal}
use Rattle.cnf_core.specs.declared.lrat_scanner.Scanner.{Scanner}
use Rattle.cnf_core.specs.LratScanning.{ScannerValue}
use Rattle.cnf_core.specs.Drafts.{ItemDraftValue}

abbrev pub stage_at : Part → ItemDraftValue → Stage
stage_at BetweenItems draft = Outside
stage_at (AfterId id) draft = Begun id
stage_at (InLiterals id) draft = Literals id draft.literals.at_hand
stage_at (InHints id) draft = Hints id draft.literals.at_hand draft.numbers.at_hand
stage_at InDeletion draft = Deletion draft.numbers.at_hand
stage_at (AfterRefusal refusal) draft = Refused refusal

abbrev pub scanner_at : Scanner → ItemDraftValue → ScannerValue
scanner_at s draft = record { stage = stage_at s.part draft; word = s.word; start = s.start; at = s.at }
