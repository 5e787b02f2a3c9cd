-- What a log's text says: the items that are whole in it, the refusal that is decided first, and the log of a
-- text that is read to its end. Source: LRAT, as this tool reads it.
use Rattle.std.specs.Prelude.{ℕ, Bool, true, false, List, [], ◌∷◌, ◌++◌, length, nat_lt, Option, Some, None}
use Rattle.std.specs.Prelude.{Result, Ok, Err, if◌then◌else◌}
use Rattle.std.specs.List.{take_while}
use Rattle.semantics.specs.Texts.{Bytes}
use Rattle.proof_semantics.specs.declared.lrat_refusal.LratRefusal.{LratRefusal}
use Rattle.proof_semantics.specs.declared.lrat_refusal.LratRefusal.TheVariants.{BadByte, Cut}
use Rattle.proof_semantics.specs.Logs.{LogItem}
use Rattle.proof_semantics.specs.LratTokens.{is_log_byte, ended_tokens}
use Rattle.proof_semantics.specs.LratMatching.{Stage, Outside, Refused, stage_after_all, items_given}

-- the text before its first bad byte
unfoldable pub good_part : Bytes → Bytes
good_part text = take_while is_log_byte text

-- an item is whole once its last token has ended
unfoldable pub whole_items : Bytes → List LogItem
whole_items text = items_given Outside (ended_tokens (good_part text))

abbrev pub is_refused : Stage → Bool
is_refused (Refused refusal) = true
is_refused _ = false

-- A token is decided where it ends, and a bad byte at its own place: a token before a bad byte may be refused
-- first, but not the token in which the bad byte stands.
abbrev pub stage_with_byte : Stage → ℕ → ℕ → Stage
stage_with_byte stage bad size
    = if is_refused stage then stage else (if nat_lt bad size then Refused (BadByte bad) else stage)

-- the stage at the end of the text
unfoldable pub stage_of : Bytes → Stage
stage_of text = stage_with_byte (stage_after_all Outside (ended_tokens (good_part text)))
    (length (good_part text)) (length text)

abbrev pub refusal_at : Stage → Option LratRefusal
refusal_at (Refused refusal) = Some refusal
refusal_at _ = None

-- the refusal that is decided first in a text that may go on
abbrev pub lrat_refusal : Bytes → Option LratRefusal
lrat_refusal text = refusal_at (stage_of text)

-- the text with a line end behind it, which ends its last token
abbrev pub with_end : Bytes → Bytes
with_end text = text ++ 10 ∷ []

abbrev pub refusal_at_end : Stage → Option LratRefusal
refusal_at_end (Refused refusal) = Some refusal
refusal_at_end Outside = None
refusal_at_end _ = Some Cut

-- why a text that ends here is no log: what was refused in it, or that it ends within an item
abbrev pub lrat_end_refusal : Bytes → Option LratRefusal
lrat_end_refusal text = refusal_at_end (stage_of (with_end text))

-- the log of a text that is read to its end, or the refusal that is decided first
abbrev pub lrat_items : Bytes → Result (List LogItem) LratRefusal
lrat_items text = elim (lrat_end_refusal text)
    [ None ↦ Ok (whole_items (with_end text)) | Some refusal ↦ Err refusal ]
