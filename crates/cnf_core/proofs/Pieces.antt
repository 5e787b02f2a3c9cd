-- Bytes that are given in parts.
use Rattle.std.proofs.Common.{◌≡◌, ℕ, ◌+◌, ◌-◌, ◌≤◌, ◌<◌, List, [], ◌++◌, length, min, take, drop, get_or, ap, sym, ◌∙◌, append_assoc, arith}
use Rattle.std.specs.Borrow.{Bor}
use Rattle.std.proofs.lemmas.List.{drop-take, take-take, at_drop_more, take-append-drop, drop_all, drop-drop}
use Rattle.std.proofs.lemmas.Slice.{take-put_mid}
use Rattle.semantics.specs.Texts.{Bytes}
use Rattle.file_core.specs.Pieces.{joined}
use borrow.Rule.Slice.PartMut.{put_mid}

-- the first of the bytes from a start to an end
pub take-part : (bytes : Bytes) (start end count : ℕ) → start ≤ end → count ≤ end - start → take count (drop start (take end bytes)) ≡ take count (drop start bytes)
take-part bytes start end count s c =
    let whole : start + (end - start) ≡ end = omega arith in
    let part : drop start (take end bytes) ≡ take (end - start) (drop start bytes) = ap (λ n. drop start (take n bytes)) (sym whole) ∙ drop-take start (end - start) bytes in
    ap (take count) part ∙ take-take count (end - start) (drop start bytes) c

-- the part is written behind the first bytes
pub take-written : (buf part word : Bytes) (at room size count start : ℕ) → part ≡ take size (drop start word) → size ≡ count → length part ≡ count → at ≤ length buf
    → take (at + count) (put_mid at room buf part) ≡ take at buf ++ take count (drop start word)
take-written buf part word at room size count start e s l h =
    take-put_mid at room buf part (at + count) (omega (arith, l)) h ∙ ap (λ p. take at buf ++ p) (e ∙ ap (λ n. take n (drop start word)) s)

-- one more piece
pub joined-next : (pieces : List (Bor Bytes)) (i : ℕ) (piece : Bor Bytes) → i < length pieces → joined (drop i pieces) ≡ (get_or pieces i piece).now ++ joined (drop (i + 1) pieces)
joined-next pieces i piece h = at_drop_more joined pieces i piece h

-- A buffer that is filled with a text, word by word. The first bytes of the word at hand are given next.
pub given_more : (before word left rest text new : Bytes) (at count : ℕ) → before ++ (word ++ rest) ≡ text → left ≡ drop count word → take (at + count) new ≡ before ++ take count word
    → take (at + count) new ++ (left ++ rest) ≡ text
given_more before word left rest text new at count whole gone written =
    ap (λ t. t ++ (left ++ rest)) written ∙ append_assoc before (take count word) (left ++ rest)
    ∙ ap (λ t. before ++ t) (ap (λ t. take count word ++ (t ++ rest)) gone ∙ sym (append_assoc (take count word) (drop count word) rest) ∙ ap (λ t. t ++ rest) (take-append-drop count word)) ∙ whole

-- where the buffer has more room, the whole word was given
pub used_up : (word left : Bytes) (at count room : ℕ) → left ≡ drop count word → count ≡ min (length word) (room - at) → at + count < room → left ≡ []
used_up word left at count room gone c less = gone ∙ drop_all count word (omega arith)

pub kept_more : (first buf new : Bytes) (at count : ℕ) → drop at buf ≡ drop at first → drop (at + count) new ≡ drop (at + count) buf → drop (at + count) new ≡ drop (at + count) first
kept_more first buf new at count kept more = more ∙ sym (drop-drop count at buf) ∙ ap (drop count) kept ∙ drop-drop count at first

-- the token at hand is used up, and the next one comes in its place
pub next_token : (before old rest token left text : Bytes) → before ++ (old ++ rest) ≡ text → old ≡ [] → rest ≡ token ++ left → before ++ (token ++ left) ≡ text
next_token before old rest token left text whole none next = ap (λ t. before ++ t) (sym next) ∙ ap (λ t. before ++ (t ++ rest)) (sym none) ∙ whole
