-- Tables that are ready for rows stay so where tables are made and made ready, with or without their history; the records have the tables
-- of the state.
use Rattle.std.proofs.Common.{◌≡◌, ◌≢◌, ℕ, ◌==◌, nat_lt, Bool, true, false, cond, List, [], ◌∷◌, ◌++◌, Option, Some, None, refl, sym, ap, ◌∙◌, ◌⊎◌, inl, inr, arith}
use Rattle.std.proofs.lemmas.Bool.{cases_eq, eq-eqb, ne_eqb, eqb-true, true≢false}
use Rattle.std.specs.List.{All}
use Rattle.std.specs.Option.{option_map_or}
use Rattle.wm_graph.specs.Parts.{Parts, table_of}
use Rattle.wm_spec.specs.Lists.{Entry}
use Rattle.wm_spec.specs.declared.record.table.Table.{Table}
use Rattle.wm_state.specs.State.{Durable, Readiness, enabled}
use Rattle.wm_state.specs.Standing.{IsReal, TablesStand, by_number, has_history, is_ready, place_table}
use Rattle.wm_state.proofs.Tests.{find_push}

-- ---- the tables of the state are those of the records

-- a table in its place is found as before others
table_of-place : (t : Table) (ts : List Table) (n : ℕ) → table_of (place_table t ts) n ≡ table_of (t ∷ ts) n
table_of-place t [] n = refl
table_of-place t (u ∷ us) n = by_test (nat_lt u.number t.number) refl (table_of-place t us n)
  where
    swapped : (b c : Bool) → (u.number == n) ≡ b → (t.number == n) ≡ c → nat_lt u.number t.number ≡ true → cond b (Some u) (cond c (Some t) (table_of us n)) ≡ cond c (Some t) (cond b (Some u) (table_of us n))
    swapped true true e f lt = absurd (not_both u.number t.number lt (eqb-true u.number n e ∙ sym (eqb-true t.number n f)))
      where
        not_both : (i j : ℕ) → nat_lt i j ≡ true → i ≡ j → ⊥
        not_both i j lt same = grind (arith, lt, same)
    swapped true false e f lt = refl
    swapped false c e f lt = refl

    by_test : (b : Bool) → nat_lt u.number t.number ≡ b → table_of (place_table t us) n ≡ table_of (t ∷ us) n → table_of (cond b (u ∷ place_table t us) (t ∷ u ∷ us)) n ≡ table_of (t ∷ u ∷ us) n
    by_test true e rest = ap (λ o. cond (u.number == n) (Some u) o) rest ∙ swapped (u.number == n) (t.number == n) refl refl e
    by_test false e rest = refl

by_number-of : (ts : List Table) (n : ℕ) → table_of (by_number ts) n ≡ table_of ts n
by_number-of [] n = refl
by_number-of (t ∷ ts) n = table_of-place t (by_number ts) n ∙ ap (λ o. cond (t.number == n) (Some t) o) (by_number-of ts n)

pub tables_found : (p : Parts) (d : Durable) → TablesStand p d → (n : ℕ) → table_of d.tables n ≡ table_of p.tables n
tables_found p d stand n = ap (λ ts. table_of ts n) (sym stand.same) ∙ by_number-of p.tables n

-- ---- tables that stay ready

-- each table that is ready is so still, with or without its history
pub record KeepReady (was now : List Table) : Type 0 where
  pub on : (n : ℕ) → is_ready was n ≡ true → is_ready now n ≡ true
  pub history : (n : ℕ) → is_ready was n ≡ true → has_history now n ≡ has_history was n

-- where each is found
KeepReady-found : (was now : List Table) → ((n : ℕ) (t : Table) → table_of was n ≡ Some t → t.versioned ≡ true → table_of now n ≡ Some t) → KeepReady was now
KeepReady-found was now each = record { on = λ n is. ap (λ o. option_map_or (λ (t : Table). t.versioned) o false) (still n is) ∙ is; history = λ n is. ap (λ o. option_map_or (λ (t : Table). t.history) o false) (still n is) }
  where
    by_table : (n : ℕ) (o : Option Table) → table_of was n ≡ o → option_map_or (λ (t : Table). t.versioned) o false ≡ true → table_of now n ≡ o
    by_table n None found is = absurd (true≢false (sym is))
    by_table n (Some t) found is = each n t found is

    still : (n : ℕ) → is_ready was n ≡ true → table_of now n ≡ table_of was n
    still n is = by_table n (table_of was n) refl is

pub KeepReady-same : (was now : List Table) → now ≡ was → KeepReady was now
KeepReady-same was now same = KeepReady-found was now (λ n t found on. ap (λ ts. table_of ts n) same ∙ found)

-- those of the records are those of the state
pub KeepReady-stands : (p : Parts) (d : Durable) → TablesStand p d → KeepReady p.tables d.tables
KeepReady-stands p d stand = KeepReady-found p.tables d.tables (λ n t found on. tables_found p d stand n ∙ found)

-- where a table is made
pub KeepReady-push : (was now : List Table) (t : Table) → now ≡ was ++ t ∷ [] → KeepReady was now
KeepReady-push was now t more = KeepReady-found was now (λ n u found on. ap (λ ts. table_of ts n) more ∙ find_push (λ (x : Table). x.number == n) was t u found)

-- where one becomes ready that was not
enabled-of : (number : ℕ) (how : Readiness) (ts : List Table) (n : ℕ) → n ≢ number → table_of (enabled number how ts) n ≡ table_of ts n
enabled-of number how [] n other = refl
enabled-of number how (t ∷ ts) n other = by_number_of (cases_eq t.number number) (enabled-of number how ts n other)
  where
    by_number_of : (t.number ≡ number) ⊎ (t.number ≢ number) → table_of (enabled number how ts) n ≡ table_of ts n → table_of (enabled number how (t ∷ ts)) n ≡ table_of (t ∷ ts) n
    by_number_of (inl here) rest = rw (eq-eqb _ _ here, ne_eqb t.number n (λ same. other (sym same ∙ here))) refl
    by_number_of (inr away) rest = rw (ne_eqb _ _ away) (ap (λ o. cond (t.number == n) (Some t) o) rest)

pub KeepReady-enabled : (was now : List Table) (how : Readiness) (t : Table) → table_of was t.number ≡ Some t → t.versioned ≡ false → now ≡ enabled t.number how was → KeepReady was now
KeepReady-enabled was now how t there off same = KeepReady-found was now (λ n u found on. ap (λ ts. table_of ts n) same ∙ enabled-of t.number how was n (other n u found on) ∙ found)
  where
    one_table : (u : Table) → Some u ≡ Some t → u ≡ t
    one_table u e = cc

    other : (n : ℕ) (u : Table) → table_of was n ≡ Some u → u.versioned ≡ true → n ≢ t.number
    other n u found on here = true≢false (sym on ∙ ap (λ (x : Table). x.versioned) (one_table u (sym found ∙ ap (table_of was) here ∙ there)) ∙ off)

-- ---- entries of tables that stay ready

pub IsReal-kept : (was now : List Table) → KeepReady was now → (e : Entry) → IsReal was e → IsReal now e
IsReal-kept was now keep e is = record { some = is.some; till = is.till; on = keep.on e.table is.on }

pub all_real-kept : (was now : List Table) → KeepReady was now → (es : List Entry) → All (IsReal was) es → All (IsReal now) es
all_real-kept was now keep es all i d lt = IsReal-kept was now keep _ (all i d lt)
