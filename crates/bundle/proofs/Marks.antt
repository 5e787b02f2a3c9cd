-- What marks of moves say, and how they go on with one block of vectors.
use Rattle.std.proofs.Common.{◌≡◌, ℕ, zero, suc, ◌<◌, Bool, true, false, ◌&&◌, ◌⊎◌, inl, inr, Option, Some, None, List, [], ◌∷◌, ◌++◌, length, get_or, refl, sym, ap, subst, ◌∙◌, append_assoc, arith}
use Rattle.std.specs.Prelude.{◌↔◌, IsTrue}
use Rattle.std.specs.Option.{is_some}
use Rattle.std.specs.List.{Contains, AllByRecursion, list_all}
use Rattle.std.proofs.lemmas.Bool.{and_parts, cases_lt}
use Rattle.std.proofs.lemmas.List.{append-nil, length_push, get_or_default, get_or_append_left}
use Rattle.std.proofs.lemmas.List.Elements.{Contains-append_left, Contains-append_right, Contains-append_cases}
use Rattle.std.proofs.Math.Seq.{get_or-append_seam}
use Rattle.semantics.specs.Net.{NetValue}
use Rattle.chain_semantics.specs.declared.moves.Move.{Move}
use Rattle.chain_semantics.specs.Care.{IsBrokenAt}
use Rattle.chain_semantics.specs.Moves.{moves_of}
use Rattle.chain_semantics.specs.Minimality.{IsBrokenBySome}
use Rattle.chain_semantics.proofs.MoveLists.{Contains-here}
use Rattle.chain_semantics.proofs.OldMoves.{old-move}
use Rattle.job_semantics.specs.declared.version.Version.{Version}
use Rattle.job_semantics.specs.declared.version.Version.TheVariants.{One, Two}
use Rattle.care_masks.specs.Growing.{GrowingValue}
use Rattle.care_masks.specs.Masks.{FindsFirstBroken}
use Rattle.bundle.specs.Shown.{AskedValue, claimed_moves, asked_moves, IsBroken, AreAllBroken, IsMoveAt, AreMarks, BrokenValue, HasSeen}

-- the moves that are claimed are moves of the net
pub claimed_move : (version : Option Version) (N : NetValue) (move : Move) → Contains (claimed_moves version N) move → Contains (moves_of N) move
claimed_move None N move (p, within, here) = absurd (omega (arith, within))
claimed_move (Some One) N move there = (old-move N move there).0
claimed_move (Some Two) N move there = there

-- ---- one move at the patterns of masks

module _ (m : GrowingValue) (move : Move) where
  -- a pattern that breaks the move is one of the vectors
  pub broken_by_some : (found : Option ℕ) → is_some found ≡ true → FindsFirstBroken m move found → IsBrokenBySome m.metric m.exact m.bound m.net m.vectors move
  broken_by_some None is h = absurd (cc (is))
  broken_by_some (Some p) is h = (get_or m.vectors p [], (p, h.within, get_or_default m.vectors p (get_or m.vectors p []) [] h.within), h.broken)

  pub some_by_broken : (found : Option ℕ) → FindsFirstBroken m move found → IsBrokenBySome m.metric m.exact m.bound m.net m.vectors move → is_some found ≡ true
  some_by_broken None h (x, (p, within, here), broken) =
      absurd (h p within (subst (λ y. IsBrokenAt m.metric m.exact m.bound m.net move y) (sym (get_or_default m.vectors p [] x within ∙ here)) broken))
  some_by_broken (Some p) h some = refl

-- ---- all marks

module _ (P : Move → Type 0) where
  abbrev Told : List Move → List Bool → Type 0
  Told moves marks = (i : ℕ) (move : Move) → IsMoveAt moves i move → (get_or marks i false ≡ true) ↔ P move

  told_first : (m : Move) (ms : List Move) (b : Bool) (bs : List Bool) → Told (m ∷ ms) (b ∷ bs) → (b ≡ true) ↔ P m
  told_first m ms b bs told = told 0 m (record { within = omega arith; here = refl })

  told_rest : (m : Move) (ms : List Move) (b : Bool) (bs : List Bool) → Told (m ∷ ms) (b ∷ bs) → Told ms bs
  told_rest m ms b bs told i move at = told (suc i) move (record { within = omega (arith, at.within); here = at.here })

  pub all_hold : (moves : List Move) (marks : List Bool) → length marks ≡ length moves → Told moves marks → list_all (λ mark. mark) marks ≡ true → AllByRecursion P moves
  all_hold [] marks same told all = tt
  all_hold (m ∷ ms) [] same told all = absurd (omega (arith, same))
  all_hold (m ∷ ms) (b ∷ bs) same told all =
      let parts = and_parts b (list_all (λ mark. mark) bs) all in
      ((told_first m ms b bs told).0 parts.0, all_hold ms bs (omega (arith, same)) (told_rest m ms b bs told) parts.1)

  pub all_are : (moves : List Move) (marks : List Bool) → length marks ≡ length moves → Told moves marks → AllByRecursion P moves → list_all (λ mark. mark) marks ≡ true
  all_are moves [] same told h = refl
  all_are [] (b ∷ bs) same told h = absurd (omega (arith, same))
  all_are (m ∷ ms) (b ∷ bs) same told h = λ i. (told_first m ms b bs told).1 h.0 i && all_are ms bs (omega (arith, same)) (told_rest m ms b bs told) h.1 i

all_true : (marks : List Bool) → list_all (λ mark. mark) marks ≡ true → (i : ℕ) → i < length marks → get_or marks i false ≡ true
all_true [] all i within = absurd (omega (arith, within))
all_true (b ∷ bs) all zero within = (and_parts b (list_all (λ mark. mark) bs) all).0
all_true (b ∷ bs) all (suc i) within = all_true bs (and_parts b (list_all (λ mark. mark) bs) all).1 i (omega (arith, within))

-- one more mark that is not set
pub push_false : (marks : List Bool) → ((i : ℕ) → get_or marks i false ≡ false) → (i : ℕ) → get_or (marks ++ false ∷ []) i false ≡ false
push_false [] none zero = refl
push_false [] none (suc i) = refl
push_false (b ∷ bs) none zero = none 0
push_false (b ∷ bs) none (suc i) = push_false bs (λ k. none (suc k)) i

-- ---- the marks so far, of moves that are given one after another

pub record AreMarkedSoFar (P : Move → Type 0) (moves left : List Move) (marks after : List Bool) : Type 0 where
  pub given : List Move
  pub stands : moves ≡ given ++ left
  pub count : length given ≡ length after
  pub told : (i : ℕ) (move : Move) → i < length after → IsMoveAt moves i move → (get_or after i false ≡ true) ↔ ((get_or marks i false ≡ true) ⊎ P move)

module _ (P : Move → Type 0) where
  pub marked_first : (moves left : List Move) (marks after : List Bool) → left ≡ moves → after ≡ [] → AreMarkedSoFar P moves left marks after
  marked_first moves left marks after are none = record {
    given = [];
    stands = sym are;
    count = ap length (sym none);
    told = λ i move within at. absurd (omega (arith, within, ap length none));
  }

  pub marked_member : (moves left rest : List Move) (marks after : List Bool) (move : Move) → left ≡ move ∷ rest → AreMarkedSoFar P moves left marks after → Contains moves move
  marked_member moves left rest marks after move is h =
      subst (λ l. Contains l move) (sym (h.stands ∙ ap (λ l. h.given ++ l) is)) (Contains-append_right h.given (move ∷ rest) move (Contains-here move rest))

  pub marked_next : (moves left rest : List Move) (marks after : List Bool) (move : Move) (mark : Bool) → left ≡ move ∷ rest → AreMarkedSoFar P moves left marks after
      → (mark ≡ true) ↔ ((get_or marks (length after) false ≡ true) ⊎ P move) → AreMarkedSoFar P moves rest marks (after ++ mark ∷ [])
  marked_next moves left rest marks after move mark is h here = record {
    given = h.given ++ move ∷ [];
    stands = h.stands ∙ ap (λ l. h.given ++ l) is ∙ sym (append_assoc h.given (move ∷ []) rest);
    count = omega (arith, length_push h.given move, length_push after mark, h.count);
    told = λ i other within at.
        elim (cases_lt i (length after)) [
          | inl before ↦
              let same = get_or_append_left after (mark ∷ []) false i before in
              let both = h.told i other before at in
              (λ e. both.0 (sym same ∙ e), λ e. same ∙ both.1 e)
          | inr late ↦
              let last : i ≡ length after = omega (arith, late, within, length_push after mark) in
              let is_move : move ≡ other =
              sym (get_or-append_seam h.given move rest other)
              ∙ ap (λ l. get_or l (length h.given) other) (sym (h.stands ∙ ap (λ l. h.given ++ l) is)) ∙ ap (λ n. get_or moves n other) (h.count ∙ sym last) ∙ at.here in
              let same : get_or (after ++ mark ∷ []) i false ≡ mark = ap (λ n. get_or (after ++ mark ∷ []) n false) last ∙ get_or-append_seam after mark [] false in
              let both : (mark ≡ true) ↔ ((get_or marks i false ≡ true) ⊎ P other) =
              subst (λ n. (mark ≡ true) ↔ ((get_or marks n false ≡ true) ⊎ P other)) (sym last) (subst (λ m. (mark ≡ true) ↔ ((get_or marks (length after) false ≡ true) ⊎ P m)) is_move here) in
              (λ e. both.0 (sym same ∙ e), λ e. same ∙ both.1 e)
        ];
  }

-- ---- marks of a net's moves

module _ (a : AskedValue) where
  broken_front : (xs ys : List (List Bool)) (move : Move) → IsBroken a xs move → IsBroken a (xs ++ ys) move
  broken_front xs ys move (x, there, broken) = (x, Contains-append_left xs ys x there, broken)

  broken_behind : (xs ys : List (List Bool)) (move : Move) → IsBroken a ys move → IsBroken a (xs ++ ys) move
  broken_behind xs ys move (x, there, broken) = (x, Contains-append_right xs ys x there, broken)

  broken_either : (xs ys : List (List Bool)) (move : Move) → IsBroken a (xs ++ ys) move → IsBroken a xs move ⊎ IsBroken a ys move
  broken_either xs ys move (x, there, broken) = elim (Contains-append_cases xs ys x there) [ inl front ↦ inl (x, front, broken) | inr behind ↦ inr (x, behind, broken) ]

  pub none_claimed : a.version ≡ None → (vectors : List (List Bool)) → AreMarks a vectors []
  none_claimed is vectors = record {
    as_many = ap (λ v. length (claimed_moves v a.approx)) (sym is);
    told = λ i move at. absurd (omega (arith, subst (λ v. i < length (claimed_moves v a.approx)) is at.within));
  }

  pub none_broken : (marks : List Bool) → length marks ≡ length (asked_moves a) → ((i : ℕ) → get_or marks i false ≡ false) → AreMarks a [] marks
  none_broken marks same none = record {
    as_many = same;
    told = λ i move at. (λ e. absurd (let is : get_or marks i false ≡ false = none i in cc (e, is)), λ (x, (p, within, here), broken). absurd (omega (arith, within)));
  }

  -- all moves are broken, so further vectors change no mark
  pub still_marked : (before block : List (List Bool)) (marks : List Bool) → list_all (λ mark. mark) marks ≡ true → AreMarks a before marks → AreMarks a (before ++ block) marks
  still_marked before block marks all h = record {
    as_many = h.as_many;
    told = λ i move at. (λ e. broken_front before block move ((h.told i move at).0 e), λ broken. all_true marks all i (omega (arith, at.within, h.as_many)));
  }

  pub marked_whole : (left : List Move) (before block : List (List Bool)) (marks after : List Bool) → length after ≡ length marks → AreMarkedSoFar (IsBroken a block) (asked_moves a) left marks after
      → AreMarks a before marks → AreMarks a (before ++ block) after
  marked_whole left before block marks after same so_far h = record {
    as_many = same ∙ h.as_many;
    told = λ i move at.
        let both = so_far.told i move (omega (arith, at.within, h.as_many, same)) at in
        let old = h.told i move at in (
          λ e. elim (both.0 e) [ inl marked ↦ broken_front before block move (old.0 marked) | inr broken ↦ broken_behind before block move broken ],
          λ broken. both.1 (elim (broken_either before block move broken) [ inl front ↦ inl (old.1 front) | inr behind ↦ inr behind ]),
        );
  }

  -- there are as many moves as marks
  pub marked_short : (left : List Move) (before block : List (List Bool)) (marks after : List Bool) → left ≡ [] → length after < length marks
      → AreMarkedSoFar (IsBroken a block) (asked_moves a) left marks after → ¬ AreMarks a before marks
  marked_short left before block marks after none few so_far h =
      omega (arith, few, so_far.count, h.as_many, ap length (so_far.stands ∙ ap (λ l. so_far.given ++ l) none ∙ append-nil so_far.given))

-- ---- a block

pub taken_first : (b : BrokenValue) → b.block ≡ [] → AreMarks b.asked [] b.marks → HasSeen b []
taken_first b none marks = record { before = []; vectors_are = sym none; marks = marks }

pub block_dropped : (old new : BrokenValue) → new.asked ≡ old.asked → new.block ≡ []
    → ((before : List (List Bool)) → AreMarks old.asked before old.marks → AreMarks old.asked (before ++ old.block) new.marks) → (vectors : List (List Bool)) → HasSeen old vectors
    → HasSeen new vectors
block_dropped old new same none marked vectors h = record {
  before = h.before ++ old.block;
  vectors_are = h.vectors_are ∙ sym (append-nil (h.before ++ old.block)) ∙ ap (λ b. (h.before ++ old.block) ++ b) (sym none);
  marks = subst (λ a. AreMarks a (h.before ++ old.block) new.marks) (sym same) (marked h.before h.marks);
}

pub vector_taken : (old new : BrokenValue) (x : List Bool) → new ≡ record old { block = old.block ++ x ∷ [] } → (vectors : List (List Bool)) → HasSeen old vectors → HasSeen new (vectors ++ x ∷ [])
vector_taken old new x is vectors h =
    subst (λ b. HasSeen b (vectors ++ x ∷ [])) (sym is)
    (record {
      before = h.before;
      vectors_are = ap (λ l. l ++ x ∷ []) h.vectors_are ∙ append_assoc h.before old.block (x ∷ []);
      marks = h.marks;
    })

pub all_shown : (b : BrokenValue) (answer : Bool) → answer ≡ list_all (λ mark. mark) b.marks → b.block ≡ [] → (vectors : List (List Bool)) → HasSeen b vectors
    → IsTrue answer ↔ AreAllBroken b.asked vectors
all_shown b answer is none vectors h =
    let are : vectors ≡ h.before = h.vectors_are ∙ ap (λ l. h.before ++ l) none ∙ append-nil h.before in
    let marks = subst (λ v. AreMarks b.asked v b.marks) (sym are) h.marks in (
      λ e. all_hold (IsBroken b.asked vectors) (asked_moves b.asked) b.marks marks.as_many marks.told (sym is ∙ e),
      λ broken. is ∙ all_are (IsBroken b.asked vectors) (asked_moves b.asked) b.marks marks.as_many marks.told broken,
    )
