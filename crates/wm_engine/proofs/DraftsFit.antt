-- The changes that draft edits fit pages.
use Rattle.std.proofs.Common.{◌≡◌, ℕ, ◌==◌, true, false, IfSome, List, [], ◌∷◌, map, Option, Some, None, refl, sym, ap, ◌∙◌}
use Rattle.std.proofs.lemmas.Bool.{and_parts, eqb-false, or_parts}
use Rattle.std.specs.List.{list_all, list_any}
use Rattle.std.specs.Option.{option_map_or}
use Rattle.wm_base.proofs.Plain.{unless_parts}
use Rattle.wm_graph.specs.Parts.{parts_of}
use Rattle.wm_graph.specs.Rules.{keep_rules}
use Rattle.wm_spec.specs.Records.{AreChanges, ids_differ, record_at}
use Rattle.wm_spec.specs.declared.record.Record.{Record}
use Rattle.wm_spec.specs.declared.record.batch.Change.{Change}
use Rattle.wm_spec.specs.declared.record.stored.Stored.{Stored}
use Rattle.wm_state.specs.ById.{applied, set_at}
use Rattle.wm_state.specs.Drafts.{Drafts, is_kept, is_kept_change}
use Rattle.wm_state.specs.declared.edit.Edit.{Edit}
use Rattle.wm_state.proofs.Putting.{set_here, set_other}
use Rattle.wm_store.specs.Spelled.{FitPages}
use Rattle.wm_store.proofs.Fitting.{FitsPage}
use Rattle.wm_engine.proofs.Fitting.{record_fits}

-- the ids that change
abbrev pub ids_of : List Change → List ℕ
ids_of cs = map (λ (c : Change). c.id) cs

-- an id that does not change has what it had
pub still : (cs : List Change) (ss : List Stored) (id : ℕ) → list_any (λ other. other == id) (ids_of cs) ≡ false → record_at (applied cs ss) id ≡ record_at ss id
still [] ss id e = refl
still (c ∷ cs) ss id e =
    let h = or_parts (c.id == id) (list_any (λ other. other == id) (ids_of cs)) e in still cs (set_at c.id c.becomes ss) id h.1 ∙ set_other c.id c.becomes ss id (eqb-false c.id id h.0)

-- no id changes twice, nor does the first one
pub once_more : (c : Change) (cs : List Change) → AreChanges (c ∷ cs) → (list_any (λ other. other == c.id) (ids_of cs) ≡ false) × AreChanges cs
unfolding ids_differ
once_more c cs e = unless_parts (list_any (λ other. other == c.id) (ids_of cs)) (ids_differ (ids_of cs)) e

-- changes whose records keep the rules once they are made
changes_fit : (cs : List Change) (ss : List Stored) → AreChanges cs → keep_rules (parts_of (applied cs ss)) ≡ true → list_all is_kept_change cs ≡ true → FitPages cs
changes_fit [] ss once rules kept = tt
changes_fit (c ∷ cs) ss once rules kept =
    let o = once_more c cs once in
    let k = and_parts (is_kept_change c) (list_all is_kept_change cs) kept in
    (by_record c.becomes refl k.0 o.0, changes_fit cs (set_at c.id c.becomes ss) o.1 rules k.1)
  where
    by_record : (becomes : Option Record) → c.becomes ≡ becomes → is_kept_change c ≡ true → list_any (λ other. other == c.id) (ids_of cs) ≡ false → IfSome becomes FitsPage
    by_record None is kept alone = tt
    by_record (Some r) is kept alone =
        record_fits (applied (c ∷ cs) ss) c.id r rules
        (still cs (set_at c.id c.becomes ss) c.id alone ∙ ap (λ b. record_at (set_at c.id b ss) c.id) is ∙ set_here c.id r ss)
        (sym (ap (λ o. option_map_or is_kept o true) is) ∙ kept)

pub drafts_fit : (rs : List Stored) (m : ℕ) (es : List Edit) (changes : List Change) → Drafts rs m es changes → FitPages changes
drafts_fit rs m es changes drafts = changes_fit changes rs drafts.once drafts.keeps drafts.kept
