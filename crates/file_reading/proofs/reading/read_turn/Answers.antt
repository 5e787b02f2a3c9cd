use Rattle.std.proofs.Common.{◌≡◌, ℕ, ◌+◌, ◌<◌, ◌≤◌, false, true, ◌++◌, length, take, drop, Some, refl, sym, ap, ◌∙◌, inr, arith, length-append, length-take-le}
use Rattle.std.proofs.lemmas.List.{append-nil, length-take}
use Rattle.std.proofs.Math.Seq.{take-add}
use Rattle.semantics.specs.Texts.{Bytes}
use Rattle.outside_semantics.specs.Outside.{Held, FilesTold, Gave, bytes_of, turn_bytes}
use Rattle.outside_semantics.proofs.ReadTurns.{turn_counts}
use Rattle.file_reading.specs.Reading.{HasRead, TurnRead}
use Rattle.file_reading.proofs.reading.read_turn.Goals as goal

-- one more part of a list, behind the first part
joined_front : (content before part : Bytes) (n : ℕ) → before ≡ take (length before) content → part ≡ take n (drop (length before) content)
    → before ++ part ≡ take (length before + n) content
joined_front content before part n first second = (λ i. first i ++ second i) ∙ sym (take-add (length before) n content)

turn_reads : (old new : FilesTold) (before after buffer : Bytes) (n : ℕ) → n ≤ length buffer → Gave old new n buffer → after ≡ before ++ take n buffer
    → (held : Held) (name : Bytes) → old.held ≡ Some held → HasRead old held name before → HasRead new held name after
turn_reads old new before after buffer n within gave is held name told has =
    let next = gave.from_file held (record { name = name; at = length before }) told has.place in
    let long : length after ≡ length before + n = ap length is ∙ length-append before (take n buffer) ∙ ap (λ k. length before + k) (length-take-le n buffer within) in
    record {
      place = next.moves ∙ ap (λ k. Some (record { name = name; at = k })) (sym long);
      front = is ∙ joined_front (bytes_of held name) before (take n buffer) n has.front next.bytes ∙ ap (λ k. take k (bytes_of held name)) (sym long);
    }

-- bytes came
turn_gave : (old new : FilesTold) (before after buffer : Bytes) (n room : ℕ) → 0 < n → n ≤ length buffer → length buffer ≤ turn_bytes → Gave old new n buffer → after ≡ before ++ take n buffer
    → TurnRead (record { told = old; text = before }) (record { told = new; text = after }) room true
turn_gave old new before after buffer n room some within asked gave is = record {
  keeps = gave.keeps;
  reads = turn_reads old new before after buffer n within gave is;
  grows = λ _. omega (arith, ap length is, length-append before (take n buffer), length-take-le n buffer within);
  turn = λ _ name opened. turn_counts old new name (length buffer) n gave.turns opened asked some;
  stops = λ e. cc;
}

-- none are left
turn_ended : (old new : FilesTold) (before buffer : Bytes) (n room : ℕ) → n ≡ 0 → 0 < length buffer → Gave old new n buffer
    → TurnRead (record { told = old; text = before }) (record { told = new; text = before }) room false
turn_ended old new before buffer n room none asked gave =
    let nothing : before ≡ before ++ take n buffer = sym (ap (λ k. before ++ take k buffer) none ∙ append-nil before) in
    record {
      keeps = gave.keeps;
      reads = turn_reads old new before before buffer n (omega arith) gave nothing;
      grows = λ e. cc;
      turn = λ e. cc;
      stops = λ e. (refl, inr (record { ends = λ held name told has. (gave.from_file held (record { name = name; at = length before }) told has.place).ends asked none }));
    }

pub returns-then-count-eq0-clause-ok : goal.returns-then-count-eq0-clause-ok
returns-then-count-eq0-clause-ok g c =
    let whole : length c.read.new.buffer ≡ c.min-room.result = omega (arith, length-take {A = ℕ}) in
    turn_ended _ _ _ c.read.new.buffer c.in_ok-count.count _ (omega arith) (omega arith) c.in_ok-count.ensures.ok

pub returns-clause-ok : goal.returns-clause-ok
returns-clause-ok g c =
    let whole : length c.read.new.buffer ≡ c.min-room.result = omega (arith, length-take {A = ℕ}) in
    turn_gave _ _ _ _ c.read.new.buffer c.in_ok-count.count _ (omega arith) c.in_ok-count.ensures.within (omega arith) c.in_ok-count.ensures.ok c.in_ok-take_front.ensures.text
