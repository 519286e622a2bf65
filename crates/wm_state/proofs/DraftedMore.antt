-- Drafts of edits behind those of others, and the room that is left for their work.
use Rattle.std.proofs.Common.{◌≡◌, ℕ, ◌+◌, ◌*◌, ◌<◌, ◌≤◌, nat_lt, true, false, List, [], ◌∷◌, ◌++◌, length, length-append, refl, sym, ap, subst, ◌∙◌, arith}
use Rattle.std.proofs.lemmas.List.Folds.{list_all-append}
use Rattle.std.proofs.lemmas.Bool.{and_parts}
use Rattle.std.specs.List.{list_all}
use Rattle.wm_graph.specs.Parts.{Parts, parts_of}
use Rattle.wm_graph.specs.Rules.{keep_rules}
use Rattle.wm_spec.specs.Records.{record_at}
use Rattle.wm_spec.specs.declared.record.batch.Change.{Change}
use Rattle.wm_spec.specs.declared.record.counters.Counters.{Counters}
use Rattle.wm_spec.specs.declared.record.stored.Stored.{Stored}
use Rattle.wm_state.specs.ById.{Ascend, applied}
use Rattle.wm_state.specs.Drafts.{CanWork, DraftsBy, FewChanges, ForksAlone, WorksOn, followed_by, is_fork, is_kept_change, leaves_turns}
use Rattle.wm_state.specs.Editing.{counter_limit, drafted_by}
use Rattle.wm_state.specs.Standing.{FieldsStand, Stands}
use Rattle.wm_state.specs.State.{Durable}
use Rattle.wm_state.specs.declared.edit.Edit.{Edit}
use Rattle.wm_state.specs.declared.edit.Edit.TheVariants as edits
use Rattle.wm_state.proofs.EditedLater.{drafted_append}
use Rattle.wm_state.proofs.Following.{AreChanges-followed, all_followed, applied_followed, length-followed}
use Rattle.wm_state.proofs.Growing.{same_counters}

-- ---- drafts behind others

-- the work of both is told
works_more : (p q r : Parts) (k l : ℕ) → WorksOn p q k → WorksOn q r l → WorksOn p r (k + l)
works_more p q r k l one two = record {
  before = one.before;
  one = one.one;
  after = two.after;
  same = two.same;
  more = summed two.before.work one.before.work one.after.work two.after.work (ap (λ (c : Counters). c.work) (same_counters q one.after two.before one.same two.one)) one.more two.more;
}
  where
    summed : (middle before after end : ℕ) → middle ≡ after → after ≡ before + k → end ≡ middle + l → end ≡ before + (k + l)
    summed middle before after end same first last = omega (arith, same, first, last)

-- what only forks change, behind what only forks change
pub alone_more : (p q r : Parts) → ForksAlone p q → ForksAlone q r → ForksAlone p r
alone_more p q r one two = ap (λ (z : Parts). record z { counters = p.counters; spaces = p.spaces; versions = p.versions; savepoints = p.savepoints; turns = p.turns }) two ∙ one

-- few changes behind few
few_more : (rs : List Stored) (most more : ℕ) (cs ds : List Change) → Ascend rs → FewChanges rs most cs → FewChanges (applied cs rs) more ds → FewChanges rs (most + more) (followed_by cs ds)
few_more rs most more cs ds sorted one two = record {
  count = at_most (length (followed_by cs ds)) (length cs) (length ds) (length-followed cs ds) one.count two.count;
  rest =
      subst (λ (ss : List Stored). ForksAlone (parts_of rs) (parts_of ss)) (sym (applied_followed rs cs ds sorted))
      (alone_more (parts_of rs) (parts_of (applied cs rs)) (parts_of (applied ds (applied cs rs))) one.rest two.rest);
}
  where
    at_most : (n i j : ℕ) → n ≤ i + j → i ≤ most → j ≤ more → n ≤ most + more
    at_most n i j le one two = omega (arith, le, one, two)

-- so many for each edit
few_each : (rs : List Stored) (cs ds : List Change) (xs ys : List Edit) → Ascend rs → FewChanges rs (6 * length xs) cs → FewChanges (applied cs rs) (6 * length ys) ds → FewChanges rs (6 * length (xs ++ ys)) (followed_by cs ds)
few_each rs cs ds xs ys sorted one two =
    subst (λ most. FewChanges rs most (followed_by cs ds)) (summed (length xs) (length ys) ∙ ap (λ n. 6 * n) (sym (length-append xs ys))) (few_more rs (6 * length xs) (6 * length ys) cs ds sorted one two)
  where
    summed : (i j : ℕ) → 6 * i + 6 * j ≡ 6 * (i + j)
    summed i j = omega arith

-- some edits behind some are not none
not_none : (f e : Edit) (fs es : List Edit) (cs : List Change) → f ∷ fs ++ e ∷ es ≡ [] → cs ≡ []
not_none f e fs es cs none = cc

one_there : (e : Edit) (es : List Edit) → e ∷ es ≡ [] → ⊥
one_there e es none = cc

-- what some edits make, and what others make of that, is what all of them make
pub drafts_followed : (rs : List Stored) (k l m : ℕ) (e : Edit) (front es : List Edit) (cs ds : List Change) → Ascend rs → DraftsBy k rs m front cs → (front ≡ [] → ⊥) → DraftsBy l (applied cs rs) m (e ∷ es) ds
    → DraftsBy (k + l) rs m (front ++ e ∷ es) (followed_by cs ds)
drafts_followed rs k l m e [] es cs ds sorted one some two = absurd (some refl)
drafts_followed rs k l m e (f ∷ fs) es cs ds sorted one some two = record {
  keeps = ap (λ (ss : List Stored). keep_rules (parts_of ss)) same ∙ two.keeps;
  once = AreChanges-followed cs ds one.once two.once;
  stands = λ s st.
      subst (λ (ss : List Stored). Stands (parts_of ss) (drafted_by (k + l) m (f ∷ fs ++ e ∷ es) s)) (sym same)
      (subst (λ (u : Durable). Stands (parts_of (applied ds (applied cs rs))) u) (drafted_append k l m f e fs es s) (two.stands (drafted_by k m (f ∷ fs) s) (one.stands s st)));
  fields = λ s st.
      subst (λ (ss : List Stored). FieldsStand (parts_of ss) (drafted_by (k + l) m (f ∷ fs ++ e ∷ es) s)) (sym same)
      (subst (λ (u : Durable). FieldsStand (parts_of (applied ds (applied cs rs))) u) (drafted_append k l m f e fs es s) (two.fields (drafted_by k m (f ∷ fs) s) (one.fields s st)));
  rows = λ id r found. ap (λ (ss : List Stored). record_at ss id) same ∙ two.rows id r (one.rows id r found);
  kept = all_followed is_kept_change cs ds one.kept two.kept;
  counted = λ any.
      subst (λ (ss : List Stored). WorksOn (parts_of rs) (parts_of ss) (k + l)) (sym same)
      (works_more (parts_of rs) (parts_of (applied cs rs)) (parts_of (applied ds (applied cs rs))) k l (one.counted some) (two.counted (one_there e es)));
  nothing = not_none f e fs es (followed_by cs ds);
  few = λ forks.
      let h = and_parts (list_all is_fork (f ∷ fs)) (list_all is_fork (e ∷ es)) (sym (list_all-append is_fork (f ∷ fs) (e ∷ es)) ∙ forks) in
      few_each rs cs ds (f ∷ fs) (e ∷ es) sorted (one.few h.0) (two.few h.1);
  spared = λ n entries alone. absurd (two_edits (edits.Append n entries) fs alone);
  turned = λ left.
      let h = and_parts (list_all leaves_turns (f ∷ fs)) (list_all leaves_turns (e ∷ es)) (sym (list_all-append leaves_turns (f ∷ fs) (e ∷ es)) ∙ left) in
      ap (λ (ss : List Stored). (parts_of ss).turns) same ∙ two.turned h.1 ∙ one.turned h.0;
}
  where
    two_edits : (g : Edit) (gs : List Edit) → f ∷ gs ++ e ∷ es ≡ g ∷ [] → ⊥
    two_edits g [] alone = cc
    two_edits g (x ∷ gs) alone = cc

    same : applied (followed_by cs ds) rs ≡ applied ds (applied cs rs)
    same = applied_followed rs cs ds sorted

-- ---- room for work

lt_test : (n : ℕ) → 0 < n → nat_lt 0 n ≡ true
lt_test n lt = grind (arith, lt)

-- there is room for the first of two
pub work_first : (p : Parts) (m k l : ℕ) → CanWork p m (k + l) → 0 < k → CanWork p m k
work_first p m k l can some = record { counters = can.counters; one = can.one; some = lt_test k some; room = fits can.counters.work can.room; early = can.early }
  where
    fits : (w : ℕ) → nat_lt counter_limit (w + (k + l)) ≡ false → nat_lt counter_limit (w + k) ≡ false
    fits w room = grind (arith, room)

-- and then for the second
pub work_left : (p q : Parts) (m k l : ℕ) → CanWork p m (k + l) → 0 < l → WorksOn p q k → CanWork q m l
work_left p q m k l can some works = record {
  counters = works.after;
  one = works.same;
  some = lt_test l some;
  room = fits can.counters.work works.before.work works.after.work (ap (λ (c : Counters). c.work) (same_counters p works.before can.counters works.one can.one)) works.more can.room;
  early = can.early;
}
  where
    fits : (w before after : ℕ) → w ≡ before → after ≡ before + k → nat_lt counter_limit (w + (k + l)) ≡ false → nat_lt counter_limit (after + l) ≡ false
    fits w before after same more room = grind (arith, same, more, room)
