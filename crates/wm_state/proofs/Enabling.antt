-- The records with one table ready for rows.
use Rattle.std.proofs.Common.{◌≡◌, ◌≢◌, ℕ, ◌≤◌, ◌==◌, nat_lt, nat_le, Bool, true, false, not, ◌&&◌, cond, if◌then◌else◌, List, [], ◌∷◌, ◌++◌, Some, refl, sym, ap, ◌∙◌, ◌⊎◌, inl, inr, length, length-append}
use Rattle.std.proofs.lemmas.Bool.{cases_eq, eq-eqb, ne_eqb, and_from, and_parts, eqb-false, le-leb, not-true, or_parts}
use Rattle.std.specs.List.{list_all, list_any}
use Rattle.std.specs.Str.{bytes_eq}
use Rattle.wm_base.proofs.Plain.{nat_le-itself}
use Rattle.wm_graph.specs.Parts.{Parts, table_of}
use Rattle.wm_graph.specs.Rules.{keep_rules, are_counters, are_key_columns, are_tables, has_key, is_table, are_versions, differ}
use Rattle.wm_spec.specs.declared.record.counters.Counters.{Counters}
use Rattle.wm_spec.specs.declared.record.table.Table.{Table}
use Rattle.wm_state.specs.State.{Durable, Readiness, enabled}
use Rattle.wm_state.specs.Batches.{ready}
use Rattle.wm_state.specs.Standing.{by_number, place_table, CountersStand, TablesStand, FieldsStand, Stands}
use Rattle.wm_state.proofs.Tests.{all_swap, all_middle, differ_swap}
use Rattle.wm_state.proofs.Apart.{Ruled, ruled, keeps_all}
use Rattle.wm_state.proofs.Standing.{FieldsStand-retabled, Stands-retabled}
use Rattle.wm_state.proofs.Keeping.{KeepTables, KeepTables-swap, KeepSpaces-same, KeepVersions-same, KeepRows-same, are_savepoints-kept, are_rows-kept, are_pieces-kept, are_hists-kept, few-same}
use Rattle.wm_state.proofs.KeepingTurns.{are_locks-kept, are_marks-kept, are_touches-kept}
use Rattle.wm_state.proofs.Ready.{KeepReady-enabled, tables_found}
use Rattle.wm_state.proofs.Staying.{LocksStand-same}

-- the records with one table so ready, and other counters
abbrev pub readied : Parts → Counters → List Table → Readiness → Table → List Table → Parts
readied p c front how t back = record p { counters = c ∷ []; tables = front ++ ready how t ∷ back }

-- ---- what the rules ask of tables

table_ready : (how : Readiness) (t : Table) → has_key t ≡ true → is_table t ≡ true → is_table (ready how t) ≡ true
table_ready how t key e =
    let h = and_parts _ (are_key_columns t && (if t.versioned then has_key t else true)) e in
    let g = and_parts (are_key_columns t) (if t.versioned then has_key t else true) h.1 in
    and_from _ (are_key_columns t && has_key t) h.0 (and_from (are_key_columns t) (has_key t) g.0 key)

tables_ready : (front back : List Table) (how : Readiness) (t : Table) → has_key t ≡ true → are_tables (front ++ t ∷ back) ≡ true → are_tables (front ++ ready how t ∷ back) ≡ true
tables_ready front back how t key e =
    let h = and_parts (nat_le (length (front ++ t ∷ back)) 256) (differ (λ (t u : Table). t.number == u.number) (front ++ t ∷ back) && (differ (λ (t u : Table). bytes_eq t.name u.name) (front ++ t ∷ back) && list_all is_table (front ++ t ∷ back))) e in
    let g = and_parts (differ (λ (t u : Table). t.number == u.number) (front ++ t ∷ back)) (differ (λ (t u : Table). bytes_eq t.name u.name) (front ++ t ∷ back) && list_all is_table (front ++ t ∷ back)) h.1 in
    let k = and_parts (differ (λ (t u : Table). bytes_eq t.name u.name) (front ++ t ∷ back)) (list_all is_table (front ++ t ∷ back)) g.1 in
    and_from (nat_le (length (front ++ ready how t ∷ back)) 256) _ (ap (λ n. nat_le n 256) (length-append front (ready how t ∷ back) ∙ sym (length-append front (t ∷ back))) ∙ h.0)
    (and_from (differ (λ (t u : Table). t.number == u.number) (front ++ ready how t ∷ back)) _ (differ_swap (λ (t u : Table). t.number == u.number) t (ready how t) (λ x. refl) (λ x. refl) front back ∙ g.0)
    (and_from (differ (λ (t u : Table). bytes_eq t.name u.name) (front ++ ready how t ∷ back)) (list_all is_table (front ++ ready how t ∷ back))
    (differ_swap (λ (t u : Table). bytes_eq t.name u.name) t (ready how t) (λ x. refl) (λ x. refl) front back ∙ k.0)
    (all_swap is_table is_table t (ready how t) front back (λ x is. is) (table_ready how t key (all_middle is_table t front back k.1)) k.1)))

pub keep-readied : (p : Parts) (new : Counters) (front : List Table) (how : Readiness) (t : Table) (back : List Table) → keep_rules p ≡ true → p.tables ≡ front ++ t ∷ back → has_key t ≡ true → are_counters new ≡ true
    → ((c : Counters) → p.counters ≡ c ∷ [] → (new.next_version ≡ c.next_version) × (new.next_stamp ≡ c.next_stamp) × (c.work ≤ new.work)) → keep_rules (readied p new front how t back) ≡ true
keep-readied p new front how t back rules old key counted same = keeps_all q new refl counted
    (tables_ready front back how t key (ap are_tables (sym old) ∙ r.tables))
    r.spaces
    (ap (are_versions q) c.0 ∙ r.versions)
    (are_savepoints-kept p q r.counters.work new.work (le-leb r.counters.work new.work c.2) (KeepSpaces-same p q refl) (KeepVersions-same p q refl) refl (few-same p q r.counters.work refl r.savepoints) r.savepoints)
    (are_rows-kept p q r.counters.next_stamp new.next_stamp stamps tables refl r.rows)
    (are_pieces-kept p q r.counters.next_stamp new.next_stamp stamps tables (KeepVersions-same p q refl) (KeepRows-same p q refl) refl r.pieces)
    (are_hists-kept p q r.counters.next_stamp new.next_stamp stamps tables (KeepSpaces-same p q refl) (KeepRows-same p q refl) refl r.hists)
    (are_touches-kept p q tables (KeepSpaces-same p q refl) refl r.touches)
    (are_locks-kept p q r.counters.work new.work (le-leb r.counters.work new.work c.2) tables (KeepSpaces-same p q refl) refl r.locks)
    (are_marks-kept p q tables (KeepSpaces-same p q refl) refl r.marks)
    r.turns
  where
    q : Parts
    q = readied p new front how t back

    r : Ruled p
    r = ruled p rules

    c : (new.next_version ≡ r.counters.next_version) × (new.next_stamp ≡ r.counters.next_stamp) × (r.counters.work ≤ new.work)
    c = same r.counters r.one

    tables : KeepTables p q
    tables = KeepTables-swap p q front back t (ready how t) refl refl refl old refl

    stamps : nat_le r.counters.next_stamp new.next_stamp ≡ true
    stamps = ap (nat_le r.counters.next_stamp) c.1 ∙ nat_le-itself r.counters.next_stamp

-- ---- the tables by number

-- a table that is none of these by number
abbrev is_other : ℕ → List Table → Type 0
is_other n [] = Unit {0}
is_other n (t ∷ ts) = (t.number ≢ n) × is_other n ts

other-place : (n : ℕ) (t : Table) (ts : List Table) → t.number ≢ n → is_other n ts → is_other n (place_table t ts)
other-place n t [] apart other = (apart, tt)
other-place n t (u ∷ us) apart other = by_test (nat_lt u.number t.number) (other-place n t us apart other.1)
  where
    by_test : (b : Bool) → is_other n (place_table t us) → is_other n (cond b (u ∷ place_table t us) (t ∷ u ∷ us))
    by_test true rest = (other.0, rest)
    by_test false rest = (apart, other)

other-sorted : (n : ℕ) (ts : List Table) → is_other n ts → is_other n (by_number ts)
other-sorted n [] other = tt
other-sorted n (t ∷ ts) other = other-place n t (by_number ts) other.0 (other-sorted n ts other.1)

-- the one that is made ready takes its place
enabled-here : (how : Readiness) (t : Table) (ts : List Table) → is_other t.number ts → place_table (ready how t) ts ≡ enabled t.number how (place_table t ts)
enabled-here how t [] other = rw (eq-eqb t.number t.number refl) refl
enabled-here how t (u ∷ us) other = by_test (nat_lt u.number t.number) refl (enabled-here how t us other.1)
  where
    by_test : (b : Bool) → nat_lt u.number t.number ≡ b → place_table (ready how t) us ≡ enabled t.number how (place_table t us) → place_table (ready how t) (u ∷ us) ≡ enabled t.number how (place_table t (u ∷ us))
    by_test true e rest = rw (e, ne_eqb _ _ other.0) (ap (λ vs. u ∷ vs) rest)
    by_test false e rest = rw (e, eq-eqb t.number t.number refl) refl

-- another takes its place as before
enabled-away : (n : ℕ) (how : Readiness) (y : Table) (ts : List Table) → y.number ≢ n → place_table y (enabled n how ts) ≡ enabled n how (place_table y ts)
enabled-away n how y [] apart = rw (ne_eqb _ _ apart) refl
enabled-away n how y (u ∷ us) apart = by_number (cases_eq u.number n) (nat_lt u.number y.number) refl (enabled-away n how y us apart)
  where
    by_number : (u.number ≡ n) ⊎ (u.number ≢ n) → (b : Bool) → nat_lt u.number y.number ≡ b → place_table y (enabled n how us) ≡ enabled n how (place_table y us) → place_table y (enabled n how (u ∷ us)) ≡ enabled n how (place_table y (u ∷ us))
    by_number (inl here) true e rest = rw (eq-eqb _ _ here, e, eq-eqb _ _ here) refl
    by_number (inl here) false e rest = rw (eq-eqb _ _ here, e, ne_eqb _ _ apart, eq-eqb _ _ here) refl
    by_number (inr other) true e rest = rw (ne_eqb _ _ other, e, ne_eqb _ _ other) (ap (λ vs. u ∷ vs) rest)
    by_number (inr other) false e rest = rw (ne_eqb _ _ other, e, ne_eqb _ _ apart, ne_eqb _ _ other) refl

-- no other table of the list has the number
pub record AreOthers (n : ℕ) (front back : List Table) : Type 0 where
  pub before : is_other n front
  pub behind : is_other n back

other-if : (n : ℕ) (same : Table → Bool) → ((t : Table) → same t ≡ false → t.number ≢ n) → (ts : List Table) → list_any same ts ≡ false → is_other n ts
other-if n same to [] e = tt
other-if n same to (t ∷ ts) e = let h = or_parts (same t) (list_any same ts) e in (to t h.0, other-if n same to ts h.1)

others_of : (t : Table) (front back : List Table) → differ (λ (t u : Table). t.number == u.number) (front ++ t ∷ back) ≡ true → AreOthers t.number front back
others_of t [] back e =
    let h = and_parts (not (list_any (λ (u : Table). t.number == u.number) back)) (differ (λ (t u : Table). t.number == u.number) back) e in
    record {
      before = tt;
      behind = other-if t.number (λ (u : Table). t.number == u.number) (λ u apart same. eqb-false t.number u.number apart (sym same)) back (not-true (list_any (λ (u : Table). t.number == u.number) back) h.0);
    }
others_of t (y ∷ front) back e =
    let h = and_parts (not (list_any (λ (u : Table). y.number == u.number) (front ++ t ∷ back))) (differ (λ (t u : Table). t.number == u.number) (front ++ t ∷ back)) e in
    let r = others_of t front back h.1 in
    record { before = (eqb-false y.number t.number (middle (λ (u : Table). y.number == u.number) front back t (not-true (list_any (λ (u : Table). y.number == u.number) (front ++ t ∷ back)) h.0)), r.before); behind = r.behind }
  where
    middle : (P : Table → Bool) (front back : List Table) (t : Table) → list_any P (front ++ t ∷ back) ≡ false → P t ≡ false
    middle P [] back t e = (or_parts (P t) (list_any P back) e).0
    middle P (z ∷ front) back t e = middle P front back t (or_parts (P z) (list_any P (front ++ t ∷ back)) e).1

sorted-ready : (how : Readiness) (t : Table) (front back : List Table) → is_other t.number front → is_other t.number back → by_number (front ++ ready how t ∷ back) ≡ enabled t.number how (by_number (front ++ t ∷ back))
sorted-ready how t [] back before behind = enabled-here how t (by_number back) (other-sorted t.number back behind)
sorted-ready how t (y ∷ front) back before behind =
    ap (place_table y) (sorted-ready how t front back before.1 behind) ∙ enabled-away t.number how y (by_number (front ++ t ∷ back)) before.0

-- the table is the only one of its number
alone_of : (p : Parts) (front back : List Table) (t : Table) → keep_rules p ≡ true → p.tables ≡ front ++ t ∷ back → AreOthers t.number front back
alone_of p front back t rules old =
    let rule = ruled p rules in
    let h = and_parts (nat_le (length p.tables) 256) (differ (λ (t u : Table). t.number == u.number) p.tables && (differ (λ (t u : Table). bytes_eq t.name u.name) p.tables && list_all is_table p.tables)) rule.tables in
    let g = and_parts (differ (λ (t u : Table). t.number == u.number) p.tables) (differ (λ (t u : Table). bytes_eq t.name u.name) p.tables && list_all is_table p.tables) h.1 in
    others_of t front back (ap (differ (λ (t u : Table). t.number == u.number)) (sym old) ∙ g.0)

-- so it is found
found_in : (front back : List Table) (t : Table) → is_other t.number front → table_of (front ++ t ∷ back) t.number ≡ Some t
found_in [] back t before = rw (eq-eqb t.number t.number refl) refl
found_in (u ∷ front) back t before = rw (ne_eqb _ _ before.0) (found_in front back t before.1)

-- the records agree with the state whose table is ready
tables_readied : (p : Parts) (new : Counters) (front : List Table) (how : Readiness) (t : Table) (back : List Table) (s u : Durable) → keep_rules p ≡ true → TablesStand p s → p.tables ≡ front ++ t ∷ back
    → u.tables ≡ enabled t.number how s.tables → TablesStand (readied p new front how t back) u
tables_readied p new front how t back s u rules st old tables =
    let others = alone_of p front back t rules old in
    record { same = sorted-ready how t front back others.before others.behind ∙ ap (enabled t.number how) (ap by_number (sym old) ∙ st.same) ∙ sym tables }

pub FieldsStand-readied : (p : Parts) (new : Counters) (front : List Table) (how : Readiness) (t : Table) (back : List Table) (s u : Durable) → keep_rules p ≡ true → FieldsStand p s → p.tables ≡ front ++ t ∷ back → u.spaces ≡ s.spaces
    → u.tables ≡ enabled t.number how s.tables → CountersStand (readied p new front how t back) u → FieldsStand (readied p new front how t back) u
FieldsStand-readied p new front how t back s u rules st old spaces tables counters =
    FieldsStand-retabled p (readied p new front how t back) s u (record { rest = refl }) spaces st (tables_readied p new front how t back s u rules st.tables old tables) counters

-- and stand for it, where the table was not ready before
pub Stands-readied : (p : Parts) (new : Counters) (front : List Table) (how : Readiness) (t : Table) (back : List Table) (s u : Durable) → Stands p s → p.tables ≡ front ++ t ∷ back → t.versioned ≡ false → has_key t ≡ true → are_counters new ≡ true
    → ((c : Counters) → p.counters ≡ c ∷ [] → (new.next_version ≡ c.next_version) × (new.next_stamp ≡ c.next_stamp) × (c.work ≤ new.work)) → u.spaces ≡ s.spaces → u.tables ≡ enabled t.number how s.tables → u.locks ≡ s.locks
    → CountersStand (readied p new front how t back) u → Stands (readied p new front how t back) u
Stands-readied p new front how t back s u st old off key counted same spaces tables locks counters =
    Stands-retabled p (readied p new front how t back) s u (record { rest = refl }) spaces st (tables_readied p new front how t back s u st.rules st.tables old tables)
    (LocksStand-same p (readied p new front how t back) s u refl locks st.locks) counters
    (keep-readied p new front how t back st.rules old key counted same)
    (KeepReady-enabled s.tables u.tables how t
    (tables_found p s st.tables t.number ∙ ap (λ ts. table_of ts t.number) old ∙ found_in front back t (alone_of p front back t st.rules old).before)
    off tables)
