-- Records that are put one by one.
use Rattle.std.proofs.Common.{◌≡◌, ℕ, ◌+◌, List, [], ◌∷◌, ◌++◌, length, map, refl, sym, ap, ◌∙◌, arith}
use Rattle.std.proofs.lemmas.List.{append_assoc, map-append}
use Rattle.wm_spec.specs.declared.record.Record.{Record}
use Rattle.wm_spec.specs.declared.record.Record.TheVariants as records
use Rattle.wm_spec.specs.declared.record.batch.Change.{Change}
use Rattle.wm_spec.specs.declared.record.piece.PieceRecord.{PieceRecord}
use Rattle.wm_spec.specs.declared.record.trace.Trace.{Trace}
use Rattle.wm_written.proofs.WrittenIds.{put_all-append}
use Rattle.wm_state.specs.Batches.{drop_one, put}
use Rattle.wm_state.specs.Touching.{trace_at}
use Rattle.wm_state.specs.Writes.{put_all}

-- one more is behind those that were taken
pub one_more : {A : Type 0} (start next : ℕ) (xs : List A) (x : A) → next ≡ start + length xs → next + 1 ≡ start + length (xs ++ x ∷ [])
one_more {A = A} start next xs x is = rw is (step start (length xs) ∙ ap (λ n. start + n) (sym (longer xs)))
  where
    step : (a b : ℕ) → a + b + 1 ≡ a + (b + 1)
    step a b = omega arith

    longer : (ys : List A) → length (ys ++ x ∷ []) ≡ length ys + 1
    longer [] = refl
    longer (y ∷ ys) = let h = longer ys in omega (arith, h)

-- and is put there
pub put_more : (front changes new : List Change) (id next : ℕ) (xs : List Record) (x : Record) (one : Change) → changes ≡ front ++ put_all id xs → next ≡ id + length xs → one ≡ put next x → new ≡ changes ++ one ∷ []
    → new ≡ front ++ put_all id (xs ++ x ∷ [])
put_more front changes new id next xs x one before place is pushed =
    pushed ∙ ap (λ cs. cs ++ one ∷ []) before ∙ ap (λ c. front ++ put_all id xs ++ c ∷ []) (is ∙ ap (λ n. put n x) place)
    ∙ append_assoc front (put_all id xs) (put (id + length xs) x ∷ []) ∙ ap (λ cs. front ++ cs) (sym (put_all-append id xs (x ∷ [])))

-- two changes, those that drop ids and others are put behind those in front
pub put_behind : (front one two three four puts : List Change) (x y p q : Change) (ids dropped : List ℕ) → one ≡ front ++ x ∷ [] → x ≡ p → two ≡ one ++ y ∷ [] → y ≡ q → three ≡ two ++ map drop_one ids → ids ≡ dropped → four ≡ three ++ puts
    → four ≡ front ++ (p ∷ q ∷ (map drop_one dropped ++ puts))
put_behind front one two three four puts x y p q ids dropped first x_is second y_is third ids_are fourth =
    fourth ∙ rw (third, second, first, x_is, y_is, ids_are)
    (append_assoc ((front ++ p ∷ []) ++ q ∷ []) (map drop_one dropped) puts ∙ append_assoc (front ++ p ∷ []) (q ∷ []) (map drop_one dropped ++ puts) ∙ append_assoc front (p ∷ []) (q ∷ (map drop_one dropped ++ puts)))

-- of some kind one more is behind others
pub one_behind : {A : Type 0} (kind : A → Record) (front : List Record) (xs : List A) (x : A) (before after : List Record) → before ≡ front ++ map kind xs → after ≡ before ++ kind x ∷ [] → after ≡ front ++ map kind (xs ++ x ∷ [])
one_behind kind front xs x before after is pushed =
    pushed ∙ ap (λ rs. rs ++ kind x ∷ []) is ∙ append_assoc front (map kind xs) (kind x ∷ []) ∙ ap (λ rs. front ++ rs) (sym (map-append kind xs (x ∷ [])))

-- a piece more as a touch
pub touch_behind : (n place : ℕ) (front : List Record) (xs : List PieceRecord) (x : PieceRecord) (before after : List Record) → before ≡ front ++ map records.Touch (map (trace_at n place) xs)
    → after ≡ before ++ records.Touch (trace_at n place x) ∷ [] → after ≡ front ++ map records.Touch (map (trace_at n place) (xs ++ x ∷ []))
touch_behind n place front xs x before after is pushed =
    one_behind records.Touch front (map (trace_at n place) xs) (trace_at n place x) before after is pushed
    ∙ ap (λ (ts : List Trace). front ++ map records.Touch ts) (sym (map-append (trace_at n place) xs (x ∷ [])))
