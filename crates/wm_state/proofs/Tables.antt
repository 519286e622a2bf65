-- The records with a table made.
use Rattle.std.proofs.Common.{◌≡◌, ℕ, ◌+◌, ◌≤◌, ◌==◌, nat_lt, nat_le, Bool, true, false, ◌&&◌, ◌||◌, cond, List, [], ◌∷◌, ◌++◌, refl, sym, ap, ◌∙◌, length, length-append, arith}
use Rattle.std.proofs.lemmas.Bool.{and_from, and_parts, le-leb}
use Rattle.std.specs.List.{list_all, list_any}
use Rattle.std.specs.Str.{bytes_eq}
use Rattle.wm_base.proofs.Plain.{and_swap, nat_le-itself, nat_lt-apart, nat_lt-turned, or_swap}
use Rattle.wm_graph.specs.Parts.{Parts}
use Rattle.wm_graph.specs.Rules.{keep_rules, are_counters, are_tables, is_table, are_versions, differ}
use Rattle.wm_spec.specs.declared.record.counters.Counters.{Counters}
use Rattle.wm_spec.specs.declared.record.table.Table.{Table}
use Rattle.wm_state.specs.State.{Durable}
use Rattle.wm_state.specs.Standing.{by_number, place_table, CountersStand, TablesStand, FieldsStand, Stands}
use Rattle.wm_state.proofs.Tests.{all_push, differ_push, none_if}
use Rattle.wm_state.proofs.Apart.{Ruled, ruled, keeps_all}
use Rattle.wm_state.proofs.Standing.{FieldsStand-retabled, Stands-retabled}
use Rattle.wm_state.proofs.Keeping.{KeepTables-push, KeepSpaces-same, KeepVersions-same, KeepRows-same, are_savepoints-kept, are_rows-kept, are_pieces-kept, are_hists-kept, few-same}
use Rattle.wm_state.proofs.KeepingTurns.{are_locks-kept, are_marks-kept, are_touches-kept}
use Rattle.wm_state.proofs.Ready.{KeepReady-push}
use Rattle.wm_state.proofs.Staying.{LocksStand-same}

-- ---- the tables by number

-- a table under one that is behind all others comes before it
place-before : (y : Table) (us : List Table) (t : Table) → nat_lt y.number t.number ≡ true → place_table y (us ++ t ∷ []) ≡ place_table y us ++ t ∷ []
place-before y [] t lt = rw (nat_lt-turned y.number t.number lt) refl
place-before y (u ∷ us) t lt = by_test (nat_lt u.number y.number) (place-before y us t lt)
  where
    by_test : (b : Bool) → place_table y (us ++ t ∷ []) ≡ place_table y us ++ t ∷ []
        → cond b (u ∷ place_table y (us ++ t ∷ [])) (y ∷ u ∷ (us ++ t ∷ [])) ≡ cond b (u ∷ place_table y us) (y ∷ u ∷ us) ++ t ∷ []
    by_test true rest = ap (λ vs. u ∷ vs) rest
    by_test false rest = refl

-- a table of a greater number is the last
by_number-push : (ts : List Table) (t : Table) → list_all (λ (u : Table). nat_lt u.number t.number) ts ≡ true → by_number (ts ++ t ∷ []) ≡ by_number ts ++ t ∷ []
by_number-push [] t above = refl
by_number-push (y ∷ ts) t above =
    let h = and_parts (nat_lt y.number t.number) (list_all (λ (u : Table). nat_lt u.number t.number) ts) above in
    ap (place_table y) (by_number-push ts t h.1) ∙ place-before y (by_number ts) t h.0

-- what is asked of all tables, of any, and how many they are does not turn on their order
all-place : (P : Table → Bool) (t : Table) (ts : List Table) → list_all P (place_table t ts) ≡ (P t && list_all P ts)
all-place P t [] = refl
all-place P t (u ∷ us) = by_test (nat_lt u.number t.number) (all-place P t us)
  where
    by_test : (b : Bool) → list_all P (place_table t us) ≡ (P t && list_all P us) → list_all P (cond b (u ∷ place_table t us) (t ∷ u ∷ us)) ≡ (P t && (P u && list_all P us))
    by_test true rest = ap (λ x. P u && x) rest ∙ and_swap (P u) (P t) (list_all P us)
    by_test false rest = refl

pub by_number-all : (P : Table → Bool) (ts : List Table) → list_all P (by_number ts) ≡ list_all P ts
by_number-all P [] = refl
by_number-all P (t ∷ ts) = all-place P t (by_number ts) ∙ ap (λ x. P t && x) (by_number-all P ts)

pub any-place : (P : Table → Bool) (t : Table) (ts : List Table) → list_any P (place_table t ts) ≡ (P t || list_any P ts)
any-place P t [] = refl
any-place P t (u ∷ us) = by_test (nat_lt u.number t.number) (any-place P t us)
  where
    by_test : (b : Bool) → list_any P (place_table t us) ≡ (P t || list_any P us) → list_any P (cond b (u ∷ place_table t us) (t ∷ u ∷ us)) ≡ (P t || (P u || list_any P us))
    by_test true rest = ap (λ x. P u || x) rest ∙ or_swap (P u) (P t) (list_any P us)
    by_test false rest = refl

pub by_number-any : (P : Table → Bool) (ts : List Table) → list_any P (by_number ts) ≡ list_any P ts
by_number-any P [] = refl
by_number-any P (t ∷ ts) = any-place P t (by_number ts) ∙ ap (λ x. P t || x) (by_number-any P ts)

length-place : (t : Table) (ts : List Table) → length (place_table t ts) ≡ length ts + 1
length-place t [] = refl
length-place t (u ∷ us) = by_test (nat_lt u.number t.number) (length-place t us)
  where
    by_test : (b : Bool) → length (place_table t us) ≡ length us + 1 → length (cond b (u ∷ place_table t us) (t ∷ u ∷ us)) ≡ length (u ∷ us) + 1
    by_test true rest = omega (arith, rest)
    by_test false rest = omega arith

pub by_number-length : (ts : List Table) → length (by_number ts) ≡ length ts
by_number-length [] = refl
by_number-length (t ∷ ts) = length-place t (by_number ts) ∙ ap (λ n. n + 1) (by_number-length ts) ∙ omega arith

-- ---- a table is made

abbrev pub created : Parts → Counters → Table → Parts
created p c t = record p { counters = c ∷ []; tables = p.tables ++ t ∷ [] }

-- what is asked of it: its number is above those of all others, and its name is none of theirs
pub record MayCreate (p : Parts) (old new : Counters) (t : Table) : Type 0 where
  pub one : p.counters ≡ old ∷ []
  pub counters : are_counters new ≡ true
  pub versions : new.next_version ≡ old.next_version
  pub stamps : new.next_stamp ≡ old.next_stamp
  pub work : old.work ≤ new.work
  pub is : is_table t ≡ true
  pub room : nat_lt (length p.tables) 256 ≡ true
  pub number : list_all (λ (u : Table). nat_lt u.number t.number) p.tables ≡ true
  pub name : list_any (λ (u : Table). bytes_eq u.name t.name) p.tables ≡ false

tables_more : (ts : List Table) (t : Table) → is_table t ≡ true → nat_lt (length ts) 256 ≡ true → list_all (λ (u : Table). nat_lt u.number t.number) ts ≡ true
    → list_any (λ (u : Table). bytes_eq u.name t.name) ts ≡ false → are_tables ts ≡ true → are_tables (ts ++ t ∷ []) ≡ true
tables_more ts t is room above name e =
    let h = and_parts (nat_le (length ts) 256) (differ (λ (t u : Table). t.number == u.number) ts && (differ (λ (t u : Table). bytes_eq t.name u.name) ts && list_all is_table ts)) e in
    let g = and_parts (differ (λ (t u : Table). t.number == u.number) ts) (differ (λ (t u : Table). bytes_eq t.name u.name) ts && list_all is_table ts) h.1 in
    let k = and_parts (differ (λ (t u : Table). bytes_eq t.name u.name) ts) (list_all is_table ts) g.1 in
    and_from (nat_le (length (ts ++ t ∷ [])) 256) _ (ap (λ n. nat_le n 256) (length-append ts (t ∷ [])) ∙ fits (length ts) room)
    (and_from (differ (λ (t u : Table). t.number == u.number) (ts ++ t ∷ [])) _
    (differ_push (λ (t u : Table). t.number == u.number) ts t g.0 (none_if (λ (u : Table). nat_lt u.number t.number) (λ (u : Table). u.number == t.number) (λ u lt. nat_lt-apart u.number t.number lt) ts above))
    (and_from (differ (λ (t u : Table). bytes_eq t.name u.name) (ts ++ t ∷ [])) (list_all is_table (ts ++ t ∷ []))
    (differ_push (λ (t u : Table). bytes_eq t.name u.name) ts t k.0 name)
    (all_push is_table ts t k.1 is)))
  where
    fits : (n : ℕ) → nat_lt n 256 ≡ true → nat_le (n + 1) 256 ≡ true
    fits n lt = grind (arith, lt)

pub keep-created : (p : Parts) (old new : Counters) (t : Table) → MayCreate p old new t → keep_rules p ≡ true → keep_rules (created p new t) ≡ true
keep-created p old new t may rules = keeps_all q new refl may.counters
    (tables_more p.tables t may.is may.room may.number may.name r.tables)
    r.spaces
    (ap (are_versions q) (may.versions ∙ ap (λ (c : Counters). c.next_version) same) ∙ r.versions)
    (are_savepoints-kept p q r.counters.work new.work work (KeepSpaces-same p q refl) (KeepVersions-same p q refl) refl (few-same p q r.counters.work refl r.savepoints) r.savepoints)
    (are_rows-kept p q r.counters.next_stamp new.next_stamp stamps (KeepTables-push p q t refl) refl r.rows)
    (are_pieces-kept p q r.counters.next_stamp new.next_stamp stamps (KeepTables-push p q t refl) (KeepVersions-same p q refl) (KeepRows-same p q refl) refl r.pieces)
    (are_hists-kept p q r.counters.next_stamp new.next_stamp stamps (KeepTables-push p q t refl) (KeepSpaces-same p q refl) (KeepRows-same p q refl) refl r.hists)
    (are_touches-kept p q (KeepTables-push p q t refl) (KeepSpaces-same p q refl) refl r.touches)
    (are_locks-kept p q r.counters.work new.work work (KeepTables-push p q t refl) (KeepSpaces-same p q refl) refl r.locks)
    (are_marks-kept p q (KeepTables-push p q t refl) (KeepSpaces-same p q refl) refl r.marks)
    r.turns
  where
    q : Parts
    q = created p new t

    r : Ruled p
    r = ruled p rules

    same : old ≡ r.counters
    same = first_same old r.counters (sym may.one ∙ r.one)
      where
        first_same : (b d : Counters) → (b ∷ []) ≡ (d ∷ []) → b ≡ d
        first_same b d h = cc

    work : nat_le r.counters.work new.work ≡ true
    work = ap (λ (c : Counters). nat_le c.work new.work) (sym same) ∙ le-leb old.work new.work may.work

    stamps : nat_le r.counters.next_stamp new.next_stamp ≡ true
    stamps = ap (λ (c : Counters). nat_le c.next_stamp new.next_stamp) (sym same) ∙ ap (nat_le old.next_stamp) may.stamps ∙ nat_le-itself old.next_stamp

-- the records agree with the state with the table
tables_created : (p : Parts) (old new : Counters) (t : Table) (s u : Durable) → TablesStand p s → MayCreate p old new t → u.tables ≡ s.tables ++ t ∷ [] → TablesStand (created p new t) u
tables_created p old new t s u st may tables = record { same = by_number-push p.tables t may.number ∙ ap (λ ts. ts ++ t ∷ []) st.same ∙ sym tables }

pub FieldsStand-created : (p : Parts) (old new : Counters) (t : Table) (s u : Durable) → FieldsStand p s → MayCreate p old new t → u.spaces ≡ s.spaces → u.tables ≡ s.tables ++ t ∷ [] → CountersStand (created p new t) u
    → FieldsStand (created p new t) u
FieldsStand-created p old new t s u st may spaces tables counters =
    FieldsStand-retabled p (created p new t) s u (record { rest = refl }) spaces st (tables_created p old new t s u st.tables may tables) counters

-- and stand for it
pub Stands-created : (p : Parts) (old new : Counters) (t : Table) (s u : Durable) → Stands p s → MayCreate p old new t → u.spaces ≡ s.spaces → u.tables ≡ s.tables ++ t ∷ [] → u.locks ≡ s.locks → CountersStand (created p new t) u
    → Stands (created p new t) u
Stands-created p old new t s u st may spaces tables locks counters =
    Stands-retabled p (created p new t) s u (record { rest = refl }) spaces st (tables_created p old new t s u st.tables may tables) (LocksStand-same p (created p new t) s u refl locks st.locks) counters (keep-created p old new t may st.rules) (KeepReady-push s.tables u.tables t tables)
