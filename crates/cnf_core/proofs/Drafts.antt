-- What stands in drafts of items.
use Rattle.std.proofs.Common.{◌≡◌, ℕ, ℤ, List, [], ◌∷◌, ◌++◌, length, refl, ap, sym, subst, ◌∙◌, append_assoc, append-nil, Result, Ok, Err, OnOk, OnErr}
use Rattle.std.proofs.lemmas.List.{drop_at}
use Rattle.std.proofs.lemmas.List.Elements.{All-push, All-drop}
use Rattle.proof_parts.specs.Literals.{IsLiteral, AreLiterals}
use Rattle.cnf_core.specs.Drafts.{DraftValue, ItemDraftValue, whole, HasGrown, Grows}

-- of all literals those at hand are literals
pub AreLiterals-at_hand : (d : DraftValue ℤ) → AreLiterals (whole d) → AreLiterals d.at_hand
AreLiterals-at_hand d h = subst AreLiterals (drop_at d.before d.at_hand (length d.before) refl) (All-drop IsLiteral (length d.before) (whole d) h)

AreLiterals-pushed : (d : DraftValue ℤ) (l : ℤ) → AreLiterals (whole d) → IsLiteral l → AreLiterals (d.before ++ (d.at_hand ++ l ∷ []))
AreLiterals-pushed d l h is = subst AreLiterals (append_assoc d.before d.at_hand (l ∷ [])) (All-push IsLiteral (whole d) l h is)

pub AreLiterals-push : {E : Type 0} (r : Result (Unit {0}) E) (new old : DraftValue ℤ) (m l : ℤ) → m ≡ l → AreLiterals (whole old) → IsLiteral l
    → OnOk r (new ≡ record old { at_hand = old.at_hand ++ m ∷ [] }) → OnErr r (new ≡ old) → AreLiterals (whole new)
AreLiterals-push (Ok u) new old m l same h is ok err = rw (ok, same) (AreLiterals-pushed old l h is)
AreLiterals-push (Err e) new old m l same h is ok err = rw err h

pub Grows-refl : (d : ItemDraftValue) → Grows d d
Grows-refl d = record { literals = ([], sym (append-nil (whole d.literals))); numbers = ([], sym (append-nil (whole d.numbers))) }

pub Grows-from : (old new : ItemDraftValue) → new ≡ old → Grows old new
Grows-from old new is = rw is (Grows-refl old)

pub Grows-Grows : (a b c : ItemDraftValue) → Grows a b → Grows b c → Grows a c
Grows-Grows a b c g h = record {
  literals = (g.literals.0 ++ h.literals.0, h.literals.1 ∙ ap (λ xs. xs ++ h.literals.0) g.literals.1 ∙ append_assoc (whole a.literals) g.literals.0 h.literals.0);
  numbers = (g.numbers.0 ++ h.numbers.0, h.numbers.1 ∙ ap (λ xs. xs ++ h.numbers.0) g.numbers.1 ∙ append_assoc (whole a.numbers) g.numbers.0 h.numbers.0);
}

-- a list is begun, or one more item is pushed
pub Grows-begin_literals : (d : ItemDraftValue) → Grows d (record d { literals = record { before = whole d.literals; at_hand = [] } })
Grows-begin_literals d = record { literals = ([], refl); numbers = ([], sym (append-nil (whole d.numbers))) }

pub Grows-begin_numbers : (d : ItemDraftValue) → Grows d (record d { numbers = record { before = whole d.numbers; at_hand = [] } })
Grows-begin_numbers d = record { literals = ([], sym (append-nil (whole d.literals))); numbers = ([], refl) }

Grows-literal : (d : ItemDraftValue) (l : ℤ) → Grows d (record d { literals = record d.literals { at_hand = d.literals.at_hand ++ l ∷ [] } })
Grows-literal d l = record { literals = (l ∷ [], sym (append_assoc d.literals.before d.literals.at_hand (l ∷ []))); numbers = ([], sym (append-nil (whole d.numbers))) }

Grows-number : (d : ItemDraftValue) (n : ℕ) → Grows d (record d { numbers = record d.numbers { at_hand = d.numbers.at_hand ++ n ∷ [] } })
Grows-number d n = record { literals = ([], sym (append-nil (whole d.literals))); numbers = (n ∷ [], sym (append_assoc d.numbers.before d.numbers.at_hand (n ∷ []))) }

pub Grows-push_literal : {E : Type 0} (r : Result (Unit {0}) E) (old new : ItemDraftValue) (l : ℤ)
    → OnOk r (new.literals ≡ record old.literals { at_hand = old.literals.at_hand ++ l ∷ [] }) → OnErr r (new.literals ≡ old.literals) → new.numbers ≡ old.numbers → Grows old new
Grows-push_literal (Ok u) old new l ok err same = rw (ok, same) (Grows-literal old l)
Grows-push_literal (Err e) old new l ok err same = Grows-from old new (rw (err, same) refl)

pub Grows-push_number : {E : Type 0} (r : Result (Unit {0}) E) (old new : ItemDraftValue) (n : ℕ)
    → OnOk r (new.numbers ≡ record old.numbers { at_hand = old.numbers.at_hand ++ n ∷ [] }) → OnErr r (new.numbers ≡ old.numbers) → new.literals ≡ old.literals → Grows old new
Grows-push_number (Ok u) old new n ok err same = rw (ok, same) (Grows-number old n)
Grows-push_number (Err e) old new n ok err same = Grows-from old new (rw (err, same) refl)

-- one item more
pub HasGrown-push : {T : Type 0} (a b c : DraftValue T) (x : T) → HasGrown a b → c ≡ record b { at_hand = b.at_hand ++ x ∷ [] } → HasGrown a c
HasGrown-push {T} a b c x g is = (
  g.0 ++ x ∷ [],
  is ∙ ap (λ (d : DraftValue T). record d { at_hand = d.at_hand ++ x ∷ [] }) g.1 ∙ ap (λ (l : List T). record a { at_hand = l })
      (append_assoc a.at_hand g.0 (x ∷ [])),
)

-- hints or ids have grown
pub Grows-numbers : (old : ItemDraftValue) (new : DraftValue ℕ) → HasGrown old.numbers new → Grows old (record old { numbers = new })
Grows-numbers old new g = record {
  literals = ([], sym (append-nil (whole old.literals)));
  numbers = (g.0, ap whole g.1 ∙ sym (append_assoc old.numbers.before old.numbers.at_hand g.0));
}
