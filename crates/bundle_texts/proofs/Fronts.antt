-- What the front of a text says of the whole.
use Rattle.std.proofs.Common.{◌≡◌, ℕ, ◌+◌, ◌-◌, ◌≤◌, length, inl, inr, ap, subst, arith}
use Rattle.std.proofs.lemmas.List.{length-take}
use Rattle.semantics.specs.Texts.{Bytes}
use Rattle.file_reading.specs.Reading.{IsAllWanted}

-- a front within the limit is the whole
pub whole_front : (content text : Bytes) (limit : ℕ) → IsAllWanted content text (limit + 1 - length text) → length text ≤ limit → text ≡ content
whole_front content text limit (inl whole) within = whole
whole_front content text limit (inr (none, front)) within = absurd (omega (arith, none, within))

-- the whole is no shorter than the front
pub front_at_most : (content text : Bytes) (room n : ℕ) → IsAllWanted content text room → n ≤ length text → n ≤ length content
front_at_most content text room n (inl whole) h = subst (λ t. n ≤ length t) whole h
front_at_most content text room n (inr (none, front)) h = omega (arith, h, ap length front, length-take (length text) content)
