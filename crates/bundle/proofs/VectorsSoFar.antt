-- The text of vectors that is taken, with what is known of its vectors.
use Rattle.std.proofs.Common.{◌≡◌, ◌≢◌, ℕ, ◌<◌, ◌==◌, Bool, true, false, if◌then◌else◌, Some, None, List, [], ◌∷◌, ◌++◌, length, refl, ap, sym, subst, ◌∙◌, arith}
use Rattle.std.specs.Prelude.{◌↔◌, IsTrue}
use Rattle.std.proofs.lemmas.Bool.{eqb-true, eqb-false, eq-eqb, ne_eqb}
use Rattle.semantics.specs.Texts.{Bytes}
use Rattle.file_reading.specs.Reading.{IsAllWanted}
use Rattle.bundle_texts.specs.TextCheck.{room_at}
use Rattle.bundle_texts.specs.VectorLine.{LineValue, is_next, line_after, is_whole}
use Rattle.bundle_texts.specs.VectorsTaken.{with_byte, AreVectorsSoFar}
use Rattle.bundle_texts.proofs.JudgedVectors.{starts_right, next_right, next_wrong, next_is, after_is, vectors_ended, vectors_still, ends_right, ends_wrong, whole_text, never_vectors, never_more}
use Rattle.bundle.specs.declared.vectors_check.VectorsCheck.TheInside.{Inside}
use Rattle.bundle.specs.Shown.{AskedValue, AreAllBroken, BrokenValue, HasSeen, VectorsText, StandsAt, AreShownIn}
use Rattle.bundle.specs.VectorsStanding.{check_view, Stands}

-- the vector of the line is taken, or the line goes on
pub vector_some : (b c : BrokenValue) (line : LineValue) (x : List Bool) → (x ≡ line.begun) × (length line.begun ≡ line.inputs)
    → ((vectors : List (List Bool)) → HasSeen b vectors → HasSeen c (vectors ++ x ∷ []))
    → (vectors : List (List Bool)) → HasSeen b vectors → HasSeen c (if length line.begun == line.inputs then vectors ++ line.begun ∷ [] else vectors)
vector_some b c line x (is, full) taken vectors seen =
    subst (λ t. HasSeen c (if t then vectors ++ line.begun ∷ [] else vectors)) (sym (eq-eqb (length line.begun) line.inputs full))
    (subst (λ y. HasSeen c (vectors ++ y ∷ [])) is (taken vectors seen))

pub vector_none : (b : BrokenValue) (line : LineValue) → length line.begun ≢ line.inputs → (vectors : List (List Bool)) → HasSeen b vectors
    → HasSeen b (if length line.begun == line.inputs then vectors ++ line.begun ∷ [] else vectors)
vector_none b line other vectors seen = subst (λ t. HasSeen b (if t then vectors ++ line.begun ∷ [] else vectors)) (sym (ne_eqb (length line.begun) line.inputs other)) seen

-- before the first byte
pub starts_standing : (b : BrokenValue) (line : LineValue) (text : Bytes) → line ≡ record { inputs = length b.asked.witness; begun = []; has_ended = false } → text ≡ [] → HasSeen b []
    → StandsAt true b line text
starts_standing b line text is none seen = (
  record { inputs = length b.asked.witness; vectors = []; begun = [] },
  sym is,
  starts_right b.asked.witness (record { inputs = length b.asked.witness; vectors = []; begun = [] }) text refl none,
  seen,
)

-- a byte that may not come next
pub byte_wrong : (b : BrokenValue) (line : LineValue) (text : Bytes) (byte : ℕ) → is_next b.asked.witness line byte ≡ false → StandsAt true b line text → StandsAt false b line (text ++ byte ∷ [])
byte_wrong b line text byte wrong (v, is, so_far, seen) =
    next_wrong b.asked.witness v text so_far byte (sym (next_is b.asked.witness v byte) ∙ ap (λ l. is_next b.asked.witness l byte) is ∙ wrong)

-- a byte that may
pub byte_right : (b c : BrokenValue) (line new : LineValue) (text : Bytes) (byte : ℕ) → c.asked ≡ b.asked → is_next b.asked.witness line byte ≡ true → new ≡ line_after line byte
    → ((vectors : List (List Bool)) → HasSeen b vectors → HasSeen c (if length line.begun == line.inputs then vectors ++ line.begun ∷ [] else vectors))
    → StandsAt true b line text → StandsAt true c new (text ++ byte ∷ [])
byte_right b c line new text byte same right is taken (v, of, so_far, seen) = (
  with_byte v byte,
  after_is v byte ∙ ap (λ l. line_after l byte) of ∙ sym is,
  subst (λ (a : AskedValue). AreVectorsSoFar a.witness (with_byte v byte) (text ++ byte ∷ [])) (sym same)
      (next_right b.asked.witness v text byte so_far (sym (next_is b.asked.witness v byte) ∙ ap (λ l. is_next b.asked.witness l byte) of ∙ right)),
  at (length v.begun == v.inputs) refl,
) where
  taken_at : HasSeen c (if length v.begun == v.inputs then v.vectors ++ v.begun ∷ [] else v.vectors)
  taken_at = subst (λ (l : LineValue). HasSeen c (if length l.begun == l.inputs then v.vectors ++ l.begun ∷ [] else v.vectors)) (sym of) (taken v.vectors seen)

  at : (t : Bool) → (length v.begun == v.inputs) ≡ t → HasSeen c (with_byte v byte).vectors
  at true full =
      subst (HasSeen c) (sym (vectors_ended v byte (eqb-true (length v.begun) v.inputs full)))
      (subst (λ t. HasSeen c (if t then v.vectors ++ v.begun ∷ [] else v.vectors)) full taken_at)
  at false part =
      subst (HasSeen c) (sym (vectors_still v byte (eqb-false (length v.begun) v.inputs part)))
      (subst (λ t. HasSeen c (if t then v.vectors ++ v.begun ∷ [] else v.vectors)) part taken_at)

-- no byte was taken, for want of memory
pub byte_refused : (b c : BrokenValue) (line : LineValue) (text : Bytes) → c.asked ≡ b.asked → ((vectors : List (List Bool)) → HasSeen b vectors → HasSeen c vectors)
    → StandsAt true b line text → StandsAt true c line text
byte_refused b c line text same taken (v, of, so_far, seen) =
    (v, of, subst (λ (a : AskedValue). AreVectorsSoFar a.witness v text) (sym same) so_far, taken v.vectors seen)

pub wrong_still : (b : BrokenValue) (line : LineValue) (text : Bytes) (byte : ℕ) → StandsAt false b line text → StandsAt false b line (text ++ byte ∷ [])
wrong_still b line text byte never = never_more b.asked.witness text byte never

-- ---- at the end

module _ (b : BrokenValue) (line : LineValue) (text content : Bytes) (room : ℕ) (wanted : IsAllWanted content text room) where
  pub ended_wrong : StandsAt false b line text → AreShownIn b.asked None content
  ended_wrong never pool k = never_vectors b.asked.witness content text room never wanted pool k

  module _ (going : 0 < room) (stands : StandsAt true b line text) where
    pub ended_early : is_whole line ≡ false → AreShownIn b.asked None content
    ended_early part =
        subst (AreShownIn b.asked None) (whole_text content text room going wanted)
        (ends_wrong b.asked.witness stands.0 text stands.2 (ap is_whole stands.1 ∙ part))

    pub ended_right : is_whole line ≡ true → (shown : Bool) → ((vectors : List (List Bool)) → HasSeen b vectors → IsTrue shown ↔ AreAllBroken b.asked vectors)
        → AreShownIn b.asked (Some shown) content
    ended_right whole shown decided =
        let held = ends_right b.asked.witness stands.0 text stands.2 (ap is_whole stands.1 ∙ whole) in
        subst (AreShownIn b.asked (Some shown)) (whole_text content text room going wanted)
        (record {
          pool = held.pool;
          read = held.read;
          decided = subst (λ vectors. IsTrue shown ↔ AreAllBroken b.asked vectors) held.vectors_are (decided stands.0.vectors stands.3);
        })

-- what the check of a text answers at its end
module _ (a : Inside) (v : VectorsText) (view : check_view a ≡ v) (stands : Stands a) where
  stands_at : (t : Bool) → a.is_right ≡ t → StandsAt t a.broken a.line a.text.bytes
  stands_at t is = subst (λ b. StandsAt b a.broken a.line a.text.bytes) is stands

  going : a.is_right ≡ true → 0 < room_at a.is_right
  going right = subst (λ b. 0 < room_at b) (sym right) (omega arith)

  pub finished_wrong : a.is_right ≡ false → (content : Bytes) → IsAllWanted content v.text v.room → AreShownIn v.asked None content
  finished_wrong wrong =
      subst (λ (u : VectorsText). (content : Bytes) → IsAllWanted content u.text u.room → AreShownIn u.asked None content) view
      (λ content wanted. ended_wrong a.broken a.line a.text.bytes content (room_at a.is_right) wanted (stands_at false wrong))

  pub finished_early : a.is_right ≡ true → is_whole a.line ≡ false → (content : Bytes) → IsAllWanted content v.text v.room → AreShownIn v.asked None content
  finished_early right part =
      subst (λ (u : VectorsText). (content : Bytes) → IsAllWanted content u.text u.room → AreShownIn u.asked None content) view
      (λ content wanted. ended_early a.broken a.line a.text.bytes content (room_at a.is_right) wanted (going right) (stands_at true right) part)

  pub finished_right : a.is_right ≡ true → is_whole a.line ≡ true → (shown : Bool) → ((vectors : List (List Bool)) → HasSeen a.broken vectors → IsTrue shown ↔ AreAllBroken a.broken.asked vectors)
      → (content : Bytes) → IsAllWanted content v.text v.room → AreShownIn v.asked (Some shown) content
  finished_right right whole shown decided =
      subst (λ (u : VectorsText). (content : Bytes) → IsAllWanted content u.text u.room → AreShownIn u.asked (Some shown) content) view
      (λ content wanted. ended_right a.broken a.line a.text.bytes content (room_at a.is_right) wanted (going right) (stands_at true right) whole shown decided)
