-- How many pages of its file a line changes.
use Rattle.std.proofs.Common.{◌≡◌, ◌≤◌, ◌+◌, ◌*◌, ◌==◌, ℕ, List, [], ◌∷◌, length, false, cond, refl, sym, ap, subst, ◌∙◌, arith}
use Rattle.std.specs.List.{list_any}
use Rattle.std.proofs.lemmas.Bool.{eq-eqb}
use Rattle.wm_prices.specs.Prices.{ChangesAtMost}
use Rattle.wm_spec.specs.Records.{AreChanges, AreRecords, record_at}
use Rattle.wm_spec.specs.declared.record.batch.Change.{Change}
use Rattle.wm_spec.specs.declared.record.stored.Stored.{Stored}
use Rattle.wm_state.specs.ById.{Ascend, applied, by_id, set_at}
use Rattle.wm_state.specs.Drafts.{ChangesFew}
use Rattle.wm_state.proofs.ById.{record_at-by_id, record_at-set, Ascend-by_id, Ascend-set}
use Rattle.wm_station.specs.History.{History, now}
use Rattle.wm_store.specs.Stores.{ChangesOnly}
use Rattle.wm_store.specs.declared.store.Store.{Store}
use Rattle.wm_store.proofs.Distinct.{held_differ}
use Rattle.wm_engine.specs.Pages.{ChangesPages}
use Rattle.wm_engine.specs.Working.{KeepsOver}
use Rattle.wm_engine.proofs.DraftsFit.{once_more, still}

pages_wider : (store : Store) (most more : ℕ) (old new : List ℕ) → most ≤ more → ChangesPages store most old new → ChangesPages store more old new
pages_wider store most more old new le few = record { rewritten = few.rewritten; few = omega (arith, few.few); pages = few.pages }

-- changes after which the records are those of before but for these ids say nothing else of others
only_changed : (ids : List ℕ) (cs : List Change) (rs ss : List Stored) → AreChanges cs → Ascend ss → ((id : ℕ) → list_any (λ k. k == id) ids ≡ false → record_at (applied cs ss) id ≡ record_at rs id) → ChangesOnly ids rs cs
only_changed ids [] rs ss once sorted same = tt
only_changed ids (c ∷ cs) rs ss once sorted same =
    let o = once_more c cs once in (
      λ out. sym (same c.id out) ∙ still cs (set_at c.id c.becomes ss) c.id o.0 ∙ record_at-set c.id c.becomes ss sorted c.id ∙ ap (λ b. cond b c.becomes (record_at ss c.id)) (eq-eqb c.id c.id refl),
      only_changed ids cs rs (set_at c.id c.becomes ss) o.1 (Ascend-set c.id c.becomes ss sorted) same,
    )

-- the records that a store keeps stand in order
kept_order : (store : Store) (rs : List Stored) (h : History) → KeepsOver store rs h → Ascend rs
kept_order store rs h works =
    let at = works.holds.here in subst Ascend (sym at.same) (Ascend-by_id at.records (held_differ at.records (now h) at.held))

-- what changes say of the records that a store keeps they say of those that its file holds
pub only_kept : (store : Store) (rs : List Stored) (ids : List ℕ) (cs : List Change) (h : History) → (works : KeepsOver store rs h) → ChangesOnly ids rs cs → ChangesOnly ids works.holds.here.records cs
only_kept store rs ids cs h works only =
    let at = works.holds.here in only_held rs at.records at.same (held_differ at.records (now h) at.held) cs only
  where
    only_held : (rs records : List Stored) → rs ≡ by_id records → AreRecords records → (cs : List Change) → ChangesOnly ids rs cs → ChangesOnly ids records cs
    only_held rs records same are [] only = tt
    only_held rs records same are (c ∷ cs) only = (
      λ out. sym (record_at-by_id records are c.id) ∙ ap (λ ss. record_at ss c.id) (sym same) ∙ only.0 out,
      only_held rs records same are cs only.1,
    )

-- ---- as the calls say it

only_most : (store : Store) (rs new : List Stored) (cs : List Change) (n : ℕ) (h : History) → KeepsOver store rs h → AreChanges cs → new ≡ applied cs rs → (most : ChangesAtMost n rs new) → ChangesOnly most.ids rs cs
only_most store rs new cs n h works once is most =
    only_changed most.ids cs rs rs once (kept_order store rs h works) (λ id out. ap (λ ss. record_at ss id) (sym is) ∙ most.others id out)

pub pages_changed : (store after : Store) (rs new : List Stored) (cs : List Change) (h : History) (file : List ℕ) → KeepsOver store rs h → AreChanges cs → new ≡ applied cs rs
    → ((ids : List ℕ) → ChangesOnly ids rs cs → ChangesPages after (2 * length ids + 2) (now h) file) → (n : ℕ) → ChangesAtMost n rs new → ChangesPages after (2 * n + 2) (now h) file
pages_changed store after rs new cs h file works once is few n most =
    pages_wider after (2 * length most.ids + 2) (2 * n + 2) (now h) file (omega (arith, most.few)) (few most.ids (only_most store rs new cs n h works once is most))

pub still_changed : (store : Store) (rs new : List Stored) (cs : List Change) (h : History) → KeepsOver store rs h → AreChanges cs → new ≡ applied cs rs → ChangesAtMost 0 rs new → ChangesOnly [] rs cs
still_changed store rs new cs h works once is most =
    subst (λ ids. ChangesOnly ids rs cs) (empty most.ids most.few) (only_most store rs new cs 0 h works once is most)
  where
    empty : (ids : List ℕ) → length ids ≤ 0 → ids ≡ []
    empty [] le = refl
    empty (id ∷ ids) le = absurd (omega arith)

-- savepoints and workspaces change six records at most
pub fork_most : (rs new : List Stored) → ChangesFew rs new → ChangesAtMost 6 rs new
fork_most rs new few = record { ids = few.ids; few = few.few; others = few.others }
