-- The records stand for the state after the batches that lines make.
use Rattle.std.proofs.Common.{◌≡◌, ◌≢◌, ℕ, ◌+◌, ◌≤◌, ◌==◌, Bool, true, false, cond, if◌then◌else◌, List, [], ◌∷◌, ◌++◌, Some, refl, sym, ap, subst, ◌∙◌, ◌⊎◌, inl, inr, arith}
use Rattle.std.proofs.lemmas.Bool.{cases_eq, ne_eqb}
use Rattle.std.proofs.lemmas.Option.{same_Some}
use Rattle.std.specs.List.{filter}
use Rattle.wm_graph.specs.Parts.{Parts, parts_of, as_table}
use Rattle.wm_graph.specs.Rules.{are_counters, has_key, keep_rules}
use Rattle.wm_spec.specs.Records.{record_at}
use Rattle.wm_spec.specs.declared.record.Record.{Record}
use Rattle.wm_spec.specs.declared.record.Record.TheVariants as records
use Rattle.wm_spec.specs.declared.record.stored.Stored.{Stored}
use Rattle.wm_spec.specs.declared.record.batch.Change.{Change}
use Rattle.wm_spec.specs.declared.record.counters.Counters.{Counters}
use Rattle.wm_spec.specs.declared.record.table.Table.{Table}
use Rattle.wm_state.specs.ById.{Ascend, set_at, applied}
use Rattle.wm_state.specs.Batches.{AllUnder, create_batch, enable_batch, ready}
use Rattle.wm_state.specs.State.{Durable, Readiness, enabled}
use Rattle.wm_state.specs.Standing.{CountersStand, FieldsStand, Stands}
use Rattle.wm_state.proofs.ById.{Ascend-set, record_at-set}
use Rattle.wm_state.proofs.ByKind.{kinds, stored, Split, split_of, set-split}
use Rattle.wm_state.proofs.Planning.{AllUnder-put, recounted, parts-counted, parts-tabled, tables-split, parts-created}
use Rattle.wm_state.proofs.Enabling.{readied, FieldsStand-readied, Stands-readied}
use Rattle.wm_state.proofs.Tables.{created, MayCreate, FieldsStand-created, Stands-created}

-- ---- counters

-- the counters in their place
pub counted : (ss : List Stored) (id : ℕ) (old new : Counters) → Ascend ss → record_at ss id ≡ Some (records.Counters old) → (parts_of ss).counters ≡ old ∷ []
    → parts_of (set_at id (Some (records.Counters new)) ss) ≡ recounted (parts_of ss) new
counted ss id old new sorted found one = by_split (split_of ss id (records.Counters old) found)
  where
    by_split : Split ss id (records.Counters old) → parts_of (set_at id (Some (records.Counters new)) ss) ≡ recounted (parts_of ss) new
    by_split s =
        ap parts_of (ap (set_at id (Some (records.Counters new))) s.is ∙ set-split s.front s.back id (records.Counters old) (records.Counters new) (subst (λ xs. Ascend xs) s.is sorted))
        ∙ parts-counted s.front s.back id old new (subst (λ xs. (parts_of xs).counters ≡ old ∷ []) s.is one)
        ∙ ap (λ xs. recounted (parts_of xs) new) (sym s.is)

-- a record of another kind is found as before
pub found_still : (ss : List Stored) (counters_id id : ℕ) (old new : Counters) (r : Record) → Ascend ss → record_at ss counters_id ≡ Some (records.Counters old) → record_at ss id ≡ Some r
    → ((c : Counters) → r ≡ records.Counters c → ⊥) → record_at (set_at counters_id (Some (records.Counters new)) ss) id ≡ Some r
found_still ss counters_id id old new r sorted counters found other =
    record_at-set counters_id (Some (records.Counters new)) ss sorted id ∙ by_id (cases_eq id counters_id)
  where
    by_id : (id ≡ counters_id) ⊎ (id ≢ counters_id) → (if id == counters_id then Some (records.Counters new) else record_at ss id) ≡ Some r
    by_id (inl same) = absurd (other old (same_Some r (records.Counters old) (sym found ∙ ap (record_at ss) same ∙ counters)))
    by_id (inr apart) = rw (ne_eqb _ _ apart) found

-- ---- a table becomes ready

pub record Readied (ss : List Stored) (cs : List Change) (new : Counters) (how : Readiness) (t : Table) : Type 0 where
  pub front : List Table
  pub back : List Table
  pub old : (parts_of ss).tables ≡ front ++ t ∷ back
  pub is : parts_of (applied cs ss) ≡ readied (parts_of ss) new front how t back

pub parts-readied : (ss : List Stored) (counters_id id : ℕ) (old new : Counters) (how : Readiness) (t : Table) → Ascend ss → record_at ss counters_id ≡ Some (records.Counters old) → (parts_of ss).counters ≡ old ∷ []
    → record_at ss id ≡ Some (records.Table t) → Readied ss (enable_batch counters_id new id how t) new how t
parts-readied ss counters_id id old new how t sorted counters one found =
    by_split (split_of first id (records.Table t) (found_still ss counters_id id old new (records.Table t) sorted counters found (λ c e. cc)))
  where
    first : List Stored
    first = set_at counters_id (Some (records.Counters new)) ss

    parts : parts_of first ≡ recounted (parts_of ss) new
    parts = counted ss counters_id old new sorted counters one

    by_split : Split first id (records.Table t) → Readied ss (enable_batch counters_id new id how t) new how t
    by_split s =
        let tables : (parts_of first).tables ≡ kinds as_table s.front ++ t ∷ kinds as_table s.back = ap (λ xs. (parts_of xs).tables) s.is ∙ tables-split s.front s.back id t in
        record {
          front = kinds as_table s.front;
          back = kinds as_table s.back;
          old = sym (ap (λ (p : Parts). p.tables) parts) ∙ tables;
          is =
              ap parts_of (ap (set_at id (Some (records.Table (ready how t)))) s.is ∙ set-split s.front s.back id (records.Table t) (records.Table (ready how t)) (subst (λ xs. Ascend xs) s.is (Ascend-set counters_id (Some (records.Counters new)) ss sorted)))
              ∙ parts-tabled s.front s.back id t (ready how t)
              ∙ ap (λ xs. record (parts_of xs) { tables = kinds as_table s.front ++ ready how t ∷ kinds as_table s.back }) (sym s.is)
              ∙ ap (λ (p : Parts). record p { tables = kinds as_table s.front ++ ready how t ∷ kinds as_table s.back }) parts;
        }

-- ---- ids that are below, and records that are dropped

pub AllUnder-filter : (n : ℕ) (keep : Stored → Bool) (ss : List Stored) → AllUnder n ss → AllUnder n (filter keep ss)
AllUnder-filter n keep [] under = tt
AllUnder-filter n keep (s ∷ ss) under = by_test (keep s) (AllUnder-filter n keep ss under.1)
  where
    by_test : (b : Bool) → AllUnder n (filter keep ss) → AllUnder n (cond b (s ∷ filter keep ss) (filter keep ss))
    by_test true rest = (under.0, rest)
    by_test false rest = rest

pub AllUnder-next : (n : ℕ) (ss : List Stored) (r : Record) → AllUnder n ss → AllUnder (n + 1) (ss ++ stored n r ∷ [])
AllUnder-next n [] r under = (omega arith, tt)
AllUnder-next n (s ∷ ss) r under = (omega (arith, under.0), AllUnder-next n ss r under.1)

pub applied-append : (xs ys : List Change) (ss : List Stored) → applied (xs ++ ys) ss ≡ applied ys (applied xs ss)
applied-append [] ys ss = refl
applied-append (x ∷ xs) ys ss = applied-append xs ys (set_at x.id x.becomes ss)

pub AllUnder-set : (n : ℕ) (ss : List Stored) (id : ℕ) (r q : Record) → Ascend ss → record_at ss id ≡ Some r → AllUnder n ss → AllUnder n (set_at id (Some q) ss)
AllUnder-set n ss id r q sorted found under = by_split (split_of ss id r found)
  where
    by_split : Split ss id r → AllUnder n (set_at id (Some q) ss)
    by_split s = subst (λ xs. AllUnder n xs)
        (sym (ap (set_at id (Some q)) s.is ∙ set-split s.front s.back id r q (subst (λ xs. Ascend xs) s.is sorted)))
        (AllUnder-put n s.front s.back id r q (subst (λ xs. AllUnder n xs) s.is under))

-- ---- the laws of the two batches

-- a table was made: the records agree with the state with it
pub agree_created : (ss : List Stored) (counters_id id : ℕ) (old new : Counters) (t : Table) (s u : Durable) → FieldsStand (parts_of ss) s → Ascend ss → record_at ss counters_id ≡ Some (records.Counters old)
    → AllUnder id ss → MayCreate (parts_of ss) old new t → u.spaces ≡ s.spaces → u.tables ≡ s.tables ++ t ∷ [] → CountersStand (created (parts_of ss) new t) u
    → FieldsStand (parts_of (applied (create_batch counters_id new id t) ss)) u
agree_created ss counters_id id old new t s u st sorted counters under may spaces tables stands =
    subst (λ p. FieldsStand p u) (sym (parts-created ss counters_id id old new t sorted counters may.one under))
    (FieldsStand-created (parts_of ss) old new t s u st may spaces tables stands)

-- and stand for it
pub plan_created : (ss : List Stored) (counters_id id : ℕ) (old new : Counters) (t : Table) (s u : Durable) → Stands (parts_of ss) s → Ascend ss → record_at ss counters_id ≡ Some (records.Counters old)
    → AllUnder id ss → MayCreate (parts_of ss) old new t → u.spaces ≡ s.spaces → u.tables ≡ s.tables ++ t ∷ [] → u.locks ≡ s.locks → CountersStand (created (parts_of ss) new t) u
    → Stands (parts_of (applied (create_batch counters_id new id t) ss)) u
plan_created ss counters_id id old new t s u st sorted counters under may spaces tables locks stands =
    subst (λ p. Stands p u) (sym (parts-created ss counters_id id old new t sorted counters may.one under))
    (Stands-created (parts_of ss) old new t s u st may spaces tables locks stands)

-- a table became ready: the records agree with the state whose table it is
pub agree_readied : (ss : List Stored) (counters_id id : ℕ) (old new : Counters) (how : Readiness) (t : Table) (s u : Durable) → keep_rules (parts_of ss) ≡ true → FieldsStand (parts_of ss) s → Ascend ss
    → record_at ss counters_id ≡ Some (records.Counters old) → (parts_of ss).counters ≡ old ∷ [] → record_at ss id ≡ Some (records.Table t) → u.spaces ≡ s.spaces → u.tables ≡ enabled t.number how s.tables
    → ((front back : List Table) → CountersStand (readied (parts_of ss) new front how t back) u) → FieldsStand (parts_of (applied (enable_batch counters_id new id how t) ss)) u
agree_readied ss counters_id id old new how t s u rules st sorted counters one found spaces tables stands =
    let r = parts-readied ss counters_id id old new how t sorted counters one found in
    subst (λ p. FieldsStand p u) (sym r.is) (FieldsStand-readied (parts_of ss) new r.front how t r.back s u rules st r.old spaces tables (stands r.front r.back))

-- and stand for it
pub plan_readied : (ss : List Stored) (counters_id id : ℕ) (old new : Counters) (how : Readiness) (t : Table) (s u : Durable) → Stands (parts_of ss) s → Ascend ss → record_at ss counters_id ≡ Some (records.Counters old)
    → (parts_of ss).counters ≡ old ∷ [] → record_at ss id ≡ Some (records.Table t) → t.versioned ≡ false → has_key t ≡ true → are_counters new ≡ true → new.next_version ≡ old.next_version → new.next_stamp ≡ old.next_stamp → old.work ≤ new.work → u.spaces ≡ s.spaces
    → u.tables ≡ enabled t.number how s.tables → u.locks ≡ s.locks → ((front back : List Table) → CountersStand (readied (parts_of ss) new front how t back) u)
    → Stands (parts_of (applied (enable_batch counters_id new id how t) ss)) u
plan_readied ss counters_id id old new how t s u st sorted counters one found off key counts versions stamps work spaces tables locks stands =
    let r = parts-readied ss counters_id id old new how t sorted counters one found in
    subst (λ p. Stands p u) (sym r.is)
    (Stands-readied (parts_of ss) new r.front how t r.back s u st r.old off key counts
    (λ c is_one.
    let same : old ≡ c = only old c (sym one ∙ is_one) in (
      versions ∙ ap (λ (k : Counters). k.next_version) same,
      stamps ∙ ap (λ (k : Counters). k.next_stamp) same,
      subst (λ (k : Counters). k.work ≤ new.work) same work,
    ))
    spaces tables locks (stands r.front r.back))
  where
    only : (a b : Counters) → (a ∷ []) ≡ (b ∷ []) → a ≡ b
    only a b h = cc
