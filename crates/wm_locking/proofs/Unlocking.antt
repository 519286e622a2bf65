-- What comes of UnlockRows, by the locks that it drops.
use Rattle.std.proofs.Common.{◌≡◌, ℕ, suc, ◌+◌, ◌<◌, ◌==◌, ◌&&◌, nat_le, nat_lt, Bool, true, false, cond, List, [], ◌∷◌, ◌++◌, add-one, append_assoc, drop, drop-cons, get_or, length, map, Option, Some, None, refl, sym, ap, ◌∙◌, eqb-true, codes}
use denote.Ref.{Bor}
use Rattle.std.proofs.lemmas.Bool.{and_from, and_parts}
use Rattle.std.proofs.lemmas.List.{length-map}
use Rattle.std.specs.List.{filter, list_all}
use Rattle.std.specs.Option.{option_map_or}
use Rattle.wm_base.specs.declared.instant.TheConstants.{END}
use Rattle.wm_base.specs.declared.refusal.Refusal.{Refusal}
use Rattle.wm_decided.proofs.KeyRows.{key_fits}
use Rattle.wm_decided.specs.Keys.{columns_of_keys, key_as_row, meets_key}
use Rattle.wm_dml.specs.Changing.{meets}
use Rattle.wm_graph.specs.Parts.{Parts, parts_of, table_of}
use Rattle.wm_graph.specs.Rules.{are_cells, is_key_of, keep_rules}
use Rattle.wm_guard.proofs.Alike.{locks_in-listed, makings_differ}
use Rattle.wm_guard.specs.Barring.{is_of, locks_in}
use Rattle.wm_guard.specs.Orders.{nows}
use Rattle.wm_listing.specs.declared.columns.Column.{Column}
use Rattle.wm_model.specs.Seating.{Stay}
use Rattle.wm_model.specs.Step.Places.{least}
use Rattle.wm_model.specs.Step.{Asking, Outcome, at_its_end, is_freed, is_spent, first_fault, outcome, refused_if, refused_or, spent, unlock_edits, unlocking, unlocking_spent}
use Rattle.wm_outcome.proofs.Faults.{least_none}
use Rattle.wm_outcome.proofs.Named.{one_fault, told_first}
use Rattle.wm_outcome.proofs.Plans.{drafts_one}
use Rattle.wm_outline.specs.Outline.{Outline, SpaceOutline, outline_of}
use Rattle.wm_plan.specs.Idle.{is_idle}
use Rattle.wm_print.specs.Texts.{Done}
use Rattle.wm_spec.specs.Conditions.{fits}
use Rattle.wm_spec.specs.declared.record.lock.Lock.{Lock}
use Rattle.wm_spec.specs.declared.record.stored.Stored.{Stored}
use Rattle.wm_spec.specs.declared.record.table.Table.{Table}
use Rattle.wm_state.proofs.Apart.{ruled}
use Rattle.wm_state.proofs.Tests.{all_filter, all_if}
use Rattle.wm_state.specs.Drafts.{CanDraft}
use Rattle.wm_state.specs.Standing.{locks_by_making}
use Rattle.wm_state.specs.State.{Session}
use Rattle.wm_state.specs.declared.edit.Edit.TheVariants as edits
use Rattle.wm_syntax.specs.Trees.{Cond}
use Rattle.wm_view_rows.proofs.Locked.{is_ruled, locks_ruled}
use Rattle.wm_locking.proofs.LockingRows.{some_there}
use Rattle.wm_locking.specs.Asked.{AreLate, is_late}
use Rattle.wm_locking.specs.Freed.{is_users, unlocking_of}

-- ---- which locks

-- those that pass two tests, one after the other
filter_both : {A : Type 0} (P Q : A → Bool) (xs : List A) → filter Q (filter P xs) ≡ filter (λ x. P x && Q x) xs
filter_both P Q [] = refl
filter_both {A} P Q (x ∷ xs) = by_test (P x) (filter_both P Q xs)
  where
    by_test : (b : Bool) → filter Q (filter P xs) ≡ filter (λ y. P y && Q y) xs → filter Q (cond b (x ∷ filter P xs) (filter P xs)) ≡ cond (b && Q x) (x ∷ filter (λ y. P y && Q y) xs) (filter (λ y. P y && Q y) xs)
    by_test true rest = ap (λ (ys : List A). cond (Q x) (x ∷ ys) ys) rest
    by_test false rest = rest

all_kept : {A : Type 0} (xs : List A) → filter (λ (x : A). true) xs ≡ xs
all_kept [] = refl
all_kept {A} (x ∷ xs) = ap (λ (ys : List A). x ∷ ys) (all_kept xs)

-- all are meant, where there is no condition
pub all_meant : (condition : Option Cond) (columns : List Column) (xs : List Lock) → condition ≡ None → map (λ (x : Lock). x.making) xs ≡ map (λ (x : Lock). x.making) (filter (λ (x : Lock). meets condition columns (key_as_row x.cells.key)) xs)
all_meant condition columns xs none =
    ap (map (λ (x : Lock). x.making)) (sym (ap (λ (o : Option Cond). filter (λ (x : Lock). meets o columns (key_as_row x.cells.key)) xs) none ∙ all_kept xs))

module _ (p : Parts) (rules : keep_rules p ≡ true) (t : Table) (there : table_of p.tables t.number ≡ Some t) where
  fits_key : (x : Lock) → is_ruled p t.number x ≡ true → fits (columns_of_keys t) (key_as_row x.cells.key) ≡ true
  fits_key x is =
      let h = and_parts (is_of t.number x) (are_cells (table_of p.tables) x.cells) is in
      let cells = and_parts (nat_lt x.cells.from x.cells.till && nat_le x.cells.till END) (option_map_or (is_key_of x.cells.key) (table_of p.tables x.cells.table) false) h.1 in
      key_fits t x.cells.key
      (sym (ap (λ (n : ℕ). option_map_or (is_key_of x.cells.key) (table_of p.tables n) false) (eqb-true x.cells.table t.number h.0) ∙ ap (λ (o : Option Table). option_map_or (is_key_of x.cells.key) o false) there) ∙ cells.1)

  listed : locks_in t.number (locks_by_making p.locks) ≡ locks_in t.number p.locks
  listed = let r = ruled p rules in locks_in-listed t.number p.locks (makings_differ p r.counters.work r.locks)

  -- a condition over key columns can be judged on the keys of locks on the table
  pub keys_fit : (session : Session) (n : ℕ) (columns : List Column) (all held : List Lock) → columns ≡ columns_of_keys t → all ≡ locks_in t.number (locks_by_making p.locks) → held ≡ filter (is_users session n) all
      → list_all (λ (x : Lock). fits columns (key_as_row x.cells.key)) held ≡ true
  keys_fit session n columns all held own are kept =
      ap (λ (cs : List Column). list_all (λ (x : Lock). fits cs (key_as_row x.cells.key)) held) own
      ∙ ap (list_all (λ (x : Lock). fits (columns_of_keys t) (key_as_row x.cells.key))) (kept ∙ ap (filter (is_users session n)) (are ∙ listed))
      ∙ all_filter (λ (x : Lock). fits (columns_of_keys t) (key_as_row x.cells.key)) (is_users session n) (locks_in t.number p.locks)
      (all_if (is_ruled p t.number) (λ (x : Lock). fits (columns_of_keys t) (key_as_row x.cells.key)) fits_key (locks_in t.number p.locks) (locks_ruled p t.number rules))

-- those that are dropped
pub freed_are : (session : Session) (condition : Option Cond) (t : Table) (n : ℕ) (columns : List Column) (all held whole : List Lock) (makings : List ℕ) → columns ≡ columns_of_keys t → all ≡ whole → held ≡ filter (is_users session n) all
    → makings ≡ map (λ (x : Lock). x.making) (filter (λ (x : Lock). meets condition columns (key_as_row x.cells.key)) held) → makings ≡ map (λ (x : Lock). x.making) (filter (is_freed session condition t n) whole)
freed_are session condition t n columns all held whole makings own are kept told =
    told
    ∙ ap (λ (cs : List Column). map (λ (x : Lock). x.making) (filter (λ (x : Lock). meets condition cs (key_as_row x.cells.key)) held)) own
    ∙ ap (λ (xs : List Lock). map (λ (x : Lock). x.making) (filter (λ (x : Lock). meets_key t condition x.cells.key) xs)) (kept ∙ ap (filter (is_users session n)) are)
    ∙ ap (map (λ (x : Lock). x.making)) (filter_both (is_users session n) (λ (x : Lock). meets_key t condition x.cells.key) whole)

-- ---- what comes of it

-- by their makings
pub unlocking_is : (session : Session) (a : Asking) (o : Outline) (t : Table) (x : SpaceOutline)
    → outcome (unlocking_of (map (λ (y : Lock). y.making) (filter (is_freed session a.condition t x.number) (locks_in t.number o.locks))) o) ≡ outcome (unlocking session a o t x)
unlocking_is session a o t x = by_freed (filter (is_freed session a.condition t x.number) (locks_in t.number o.locks))
  where
    by_freed : (freed : List Lock) → outcome (unlocking_of (map (λ (y : Lock). y.making) freed) o) ≡ outcome (record { faults = unlocking_spent freed o ∷ []; edits = unlock_edits (map (λ (y : Lock). y.making) freed); seating = Stay; answer = Done (length freed) })
    by_freed [] = refl
    by_freed (y ∷ ys) =
        ap (λ k. outcome (record { faults = spent o ∷ []; edits = unlock_edits (map (λ (z : Lock). z.making) (y ∷ ys)); seating = Stay; answer = Done k })) (length-map (y ∷ ys) (λ (z : Lock). z.making))

-- it is told behind an empty period
pub unlocking_late : (session : Session) (a : Asking) (o : Outline) → AreLate (unlocking session a o)
unlocking_late session a o = λ t x. and_from (is_late (unlocking_spent (filter (is_freed session a.condition t x.number) (locks_in t.number o.locks)) o)) true (by_freed (filter (is_freed session a.condition t x.number) (locks_in t.number o.locks))) refl
  where
    by_test : (b : Bool) → is_late (refused_if b (at_its_end (codes "WORK"))) ≡ true
    by_test true = refl
    by_test false = refl

    by_freed : (freed : List Lock) → is_late (unlocking_spent freed o) ≡ true
    by_freed [] = refl
    by_freed (y ∷ ys) = by_test (is_spent o)

-- none are dropped
pub none_freed : (makings : List ℕ) (o : Outline) (q : Outcome) → makings ≡ [] → q ≡ record { edits = []; seating = Stay; answer = Done 0 } → q ≡ outcome (unlocking_of makings o)
unfolding least
none_freed makings o q none says = says ∙ ap (λ ms. outcome (unlocking_of ms o)) (sym none)

-- some are, or the work is at its end
pub some_freed : (makings : List ℕ) (o : Outline) (f : Option Refusal) (q : Outcome) → (makings ≡ [] → ⊥) → f ≡ spent o → q ≡ refused_or f (record { edits = unlock_edits makings; seating = Stay; answer = Done (length makings) }) → q ≡ outcome (unlocking_of makings o)
some_freed [] o f q some is says = absurd (some refl)
some_freed (x ∷ xs) o f q some is says = told_first (unlocking_of (x ∷ xs) o) f q (one_fault (spent o)) (is ∙ by_fault (spent o)) says
  where
    by_fault : (g : Option Refusal) → g ≡ first_fault (g ∷ [])
    by_fault None = refl
    by_fault (Some r) = refl

pub freed_done : (makings made : List ℕ) (count : ℕ) (o : Outline) (q : Outcome) → (makings ≡ [] → ⊥) → None ≡ spent o → made ≡ makings → count ≡ length makings → q ≡ record { edits = edits.Unlock made ∷ []; seating = Stay; answer = Done count } → q ≡ outcome (unlocking_of makings o)
freed_done [] made count o q some room same counted says = absurd (some refl)
freed_done (x ∷ xs) made count o q some room same counted says =
    some_freed (x ∷ xs) o None q some room
    (says
    ∙ ap (λ (ms : List ℕ). let r : Outcome = record { edits = edits.Unlock ms ∷ []; seating = Stay; answer = Done count } in r) same
    ∙ ap (λ (k : ℕ). let r : Outcome = record { edits = edits.Unlock (x ∷ xs) ∷ []; seating = Stay; answer = Done k } in r) counted)

-- what it drafts
unspent : (b : Bool) → refused_if b (at_its_end (codes "WORK")) ≡ None → b ≡ false
unspent true h = absurd (cc)
unspent false h = refl

pub can_unlock : (rs : List Stored) (xs : List Session) (m : ℕ) → keep_rules (parts_of rs) ≡ true → nat_lt m END ≡ true → (session : Session) (a : Asking) (t : Table) (x : SpaceOutline)
    → least (unlocking session a (outline_of (parts_of rs) xs m) t x).faults ≡ None → CanDraft rs m (unlocking session a (outline_of (parts_of rs) xs m) t x).edits
can_unlock rs xs m rules early session a t x clear = by_freed (filter (is_freed session a.condition t x.number) (locks_in t.number (outline_of (parts_of rs) xs m).locks)) (least_none _ _ clear).0
  where
    by_freed : (freed : List Lock) → unlocking_spent freed (outline_of (parts_of rs) xs m) ≡ None → CanDraft rs m (unlock_edits (map (λ (y : Lock). y.making) freed))
    by_freed [] room = tt
    by_freed (y ∷ ys) room = drafts_one rs xs m _ rules early refl (unspent _ room) tt

-- the answer
pub unlocking_idle : (session : Session) (a : Asking) (o : Outline) (t : Table) (x : SpaceOutline) → is_idle (unlocking session a o t x).answer ≡ true → ((unlocking session a o t x).edits ≡ []) × ((unlocking session a o t x).seating ≡ Stay)
unlocking_idle session a o t x idle = (by_freed (filter (is_freed session a.condition t x.number) (locks_in t.number o.locks)) idle, refl)
  where
    by_freed : (freed : List Lock) → (length freed == 0) ≡ true → unlock_edits (map (λ (y : Lock). y.making) freed) ≡ []
    by_freed [] e = refl
    by_freed (y ∷ ys) e = absurd (some_there y ys (eqb-true (length (y ∷ ys)) 0 e))

-- ---- a turn of the loop over locks whose keys are tested

next_lock : (locks : List (Bor Lock)) (i : ℕ) (one : Bor Lock) → i < length locks → one ≡ get_or locks i one → nows (drop i locks) ≡ one.now ∷ nows (drop (i + 1) locks)
next_lock locks i one within at = rw add-one (ap nows (drop-cons locks i one within) ∙ ap (λ (b : Bor Lock). b.now ∷ nows (drop (suc i) locks)) (sym at))

-- the lock is kept
pub kept_more : (P : Lock → Bool) (locks : List (Bor Lock)) (i : ℕ) (one : Bor Lock) (old new total : List ℕ) → i < length locks → one ≡ get_or locks i one
    → old ++ map (λ (x : Lock). x.making) (filter P (nows (drop i locks))) ≡ total → P one.now ≡ true → new ≡ old ++ one.now.making ∷ [] → new ++ map (λ (x : Lock). x.making) (filter P (nows (drop (i + 1) locks))) ≡ total
kept_more P locks i one old new total within at was keeps pushed =
    ap (λ (ms : List ℕ). ms ++ map (λ (x : Lock). x.making) (filter P (nows (drop (i + 1) locks)))) pushed
    ∙ append_assoc old (one.now.making ∷ []) (map (λ (x : Lock). x.making) (filter P (nows (drop (i + 1) locks))))
    ∙ ap (λ (b : Bool). old ++ map (λ (x : Lock). x.making) (cond b (one.now ∷ filter P (nows (drop (i + 1) locks))) (filter P (nows (drop (i + 1) locks))))) (sym keeps)
    ∙ ap (λ (xs : List Lock). old ++ map (λ (x : Lock). x.making) (filter P xs)) (sym (next_lock locks i one within at))
    ∙ was

-- it is passed over
pub passed_more : (P : Lock → Bool) (locks : List (Bor Lock)) (i : ℕ) (one : Bor Lock) (old total : List ℕ) → i < length locks → one ≡ get_or locks i one
    → old ++ map (λ (x : Lock). x.making) (filter P (nows (drop i locks))) ≡ total → P one.now ≡ false → old ++ map (λ (x : Lock). x.making) (filter P (nows (drop (i + 1) locks))) ≡ total
passed_more P locks i one old total within at was passes =
    ap (λ (b : Bool). old ++ map (λ (x : Lock). x.making) (cond b (one.now ∷ filter P (nows (drop (i + 1) locks))) (filter P (nows (drop (i + 1) locks))))) (sym passes)
    ∙ ap (λ (xs : List Lock). old ++ map (λ (x : Lock). x.making) (filter P xs)) (sym (next_lock locks i one within at))
    ∙ was

-- what holds of all that are left holds of all behind it
pub fits_more : (F : Lock → Bool) (locks : List (Bor Lock)) (i : ℕ) (one : Bor Lock) → i < length locks → one ≡ get_or locks i one → list_all F (nows (drop i locks)) ≡ true → list_all F (nows (drop (i + 1) locks)) ≡ true
fits_more F locks i one within at all = (and_parts (F one.now) (list_all F (nows (drop (i + 1) locks))) (ap (list_all F) (sym (next_lock locks i one within at)) ∙ all)).1
