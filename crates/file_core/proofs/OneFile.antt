-- What the writing of one file comes to.
use Rattle.std.proofs.Common.{◌≡◌, true, false, ◌&&◌, [], ◌∷◌, take, Some, Result, Err, inl, inr, refl, ap, ◌∙◌, arith}
use Rattle.std.specs.FinMap.{insert}
use Rattle.std.proofs.lemmas.Bool.{false_from_ne_true}
use Rattle.std.proofs.lemmas.Result.{on_ok_weaker, on_err_weaker}
use Rattle.semantics.specs.Texts.{Bytes}
use Rattle.outside_semantics.specs.Outside.{Held, FilesTold, Created, CreateFailed, Wrote, WriteFailed, added_to, appended}
use Rattle.outside_semantics.specs.WrittenFiles.{File, are_steady, FilesWritten, FilesCutShort}
use Rattle.outside_semantics.proofs.HeldFiles.{get-insert_same, insert-insert}
use Rattle.file_core.specs.Page.{Writes, WritesFiles}
use Rattle.file_core.proofs.Told.{Goes-Goes, held_before}

-- a text that is added to a file just created is the file
created_with : (h : Held) (name text : Bytes) → appended (insert h name []) (Some name) text ≡ insert h name text
created_with h name text =
    ap (λ found. added_to found (insert h name []) name text) (get-insert_same h name []) ∙ insert-insert h name [] text

FilesWritten-one : {a b c : FilesTold} {name text : Bytes} → Created a b name → Wrote b c text → FilesWritten a c (record { name = name; text = text } ∷ [])
FilesWritten-one {a} {b} {c} {name} {text} made wrote = record {
  goes = Goes-Goes made.goes wrote.goes;
  held = λ h k told tells.
      let m = held_before b c wrote.goes k tells in
      wrote.held m.0 k m.1 tells
      ∙ (λ i. appended (made.made h m.0 told m.1 i) (made.writing h m.0 told m.1 i) text)
      ∙ created_with h name text;
}

pub not_steady_one : (a : FilesTold) (f : File) → a.steady_write f.name ≡ false → are_steady a (f ∷ []) ≡ false
not_steady_one a f fails = ap (λ t. t && true) fails

FilesCutShort-not_created : {a b : FilesTold} {name : Bytes} (text : Bytes) → CreateFailed a b name → FilesCutShort a b (record { name = name; text = text } ∷ [])
FilesCutShort-not_created {a} {b} {name} text failed = record {
  goes = failed.goes;
  rose = failed.rose;
  not_steady = not_steady_one a (record { name = name; text = text }) failed.not_steady;
  held = λ h k told tells. record {
    whole = [];
    failed = record { name = name; text = text };
    later = [];
    order = refl;
    cut = inl (failed.stays h k told tells);
  };
}

-- a file is not steady where its writing failed
not_steady_from : {a b : FilesTold} {name : Bytes} → Created a b name → b.calm_write ≡ false → a.steady_write name ≡ false
not_steady_from made fails = false_from_ne_true _ (λ steady. cc (made.calm steady, fails))

FilesCutShort-one : {a b c : FilesTold} {name text : Bytes} → Created a b name → WriteFailed b c text → FilesCutShort a c (record { name = name; text = text } ∷ [])
FilesCutShort-one {a} {b} {c} {name} {text} made failed = record {
  goes = Goes-Goes made.goes failed.goes;
  rose = omega (arith, made.goes.counts, failed.rose);
  not_steady = not_steady_one a (record { name = name; text = text }) (not_steady_from made failed.not_calm);
  held = λ h k told tells.
      let m = held_before b c failed.goes k tells in
      let part = failed.held m.0 k m.1 tells in
      record {
        whole = [];
        failed = record { name = name; text = text };
        later = [];
        order = refl;
        cut = inr (part.0, part.1, part.2 ∙ (λ i. appended (made.made h m.0 told m.1 i) (made.writing h m.0 told m.1 i) (take part.0 text)) ∙ created_with h name (take part.0 text));
      };
}

module _ {T E : Type 0} where
  -- a file was created, and then its text was written
  pub WritesFiles-one : {r : Result T E} {a b c : FilesTold} {name text : Bytes} → Created a b name → Writes r b c text → WritesFiles r a c (record { name = name; text = text } ∷ [])
  WritesFiles-one {r = r} made w = record {
    ok = on_ok_weaker r (λ wrote. FilesWritten-one made wrote) w.ok;
    err = on_err_weaker r (λ failed. FilesCutShort-one made failed) w.err;
  }

  -- a file could not be created
  pub WritesFiles-not_created : {e : E} {a b : FilesTold} {name : Bytes} (text : Bytes) → CreateFailed a b name → WritesFiles {T = T} {E = E} (Err e) a b (record { name = name; text = text } ∷ [])
  WritesFiles-not_created text failed = record { ok = tt; err = FilesCutShort-not_created text failed }
