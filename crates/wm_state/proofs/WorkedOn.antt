-- The one record of counters behind a batch that puts it.
use Rattle.std.proofs.Common.{◌≡◌, ◌≢◌, ℕ, ◌+◌, true, List, [], ◌∷◌, ◌++◌, Some, refl, sym, ap, ◌∙◌}
use Rattle.std.proofs.lemmas.Bool.{eq-eqb, ne_eqb}
use Rattle.wm_graph.specs.Parts.{as_counters, parts_of}
use Rattle.wm_graph.specs.Rules.{keep_rules}
use Rattle.wm_spec.specs.Records.{AreChanges, change_at, record_at}
use Rattle.wm_spec.specs.declared.record.Record.{Record}
use Rattle.wm_spec.specs.declared.record.Record.TheVariants as records
use Rattle.wm_spec.specs.declared.record.batch.Change.{Change}
use Rattle.wm_spec.specs.declared.record.counters.Counters.{Counters}
use Rattle.wm_spec.specs.declared.record.stored.Stored.{Stored}
use Rattle.wm_state.specs.Batches.{put}
use Rattle.wm_state.specs.ById.{Ascend, applied}
use Rattle.wm_state.specs.Drafts.{WorksOn}
use Rattle.wm_state.proofs.Apart.{ruled}
use Rattle.wm_state.proofs.Batches.{over_it, record_at-applied}
use Rattle.wm_state.proofs.ByKind.{Split, kinds, kinds-one, split_of, stored}

-- ---- what a batch says of an id

-- of that of its first change
pub first_change : (id : ℕ) (r : Record) (cs : List Change) → change_at (put id r ∷ cs) id ≡ Some (Some r)
unfolding change_at
first_change id r cs = rw (eq-eqb id id refl) refl

-- and of its second
pub second_change : (other id : ℕ) (q r : Record) (cs : List Change) → other ≢ id → change_at (put other q ∷ put id r ∷ cs) id ≡ Some (Some r)
unfolding change_at
second_change other id q r cs apart = rw (ne_eqb other id apart, eq-eqb id id refl) refl

-- ---- the counters

-- one in a list of one is all of it
all_of_it : (xs ys : List Counters) (d e : Counters) → xs ++ d ∷ ys ≡ e ∷ [] → xs ++ d ∷ ys ≡ d ∷ []
all_of_it [] [] d e is = refl
all_of_it [] (y ∷ ys) d e is = cc
all_of_it (x ∷ []) ys d e is = cc
all_of_it (x ∷ y ∷ xs) ys d e is = cc

-- the counters of records in one of which they are
counters_among : (front back : List Stored) (id : ℕ) (d : Counters) → (parts_of (front ++ stored id (records.Counters d) ∷ back)).counters ≡ kinds as_counters front ++ d ∷ kinds as_counters back
unfolding parts_of
counters_among front back id d = kinds-one as_counters front back id (records.Counters d) d refl

-- the one record of counters is the one that is found
counters_found : (ss : List Stored) (id : ℕ) (d e : Counters) → record_at ss id ≡ Some (records.Counters d) → (parts_of ss).counters ≡ e ∷ [] → (parts_of ss).counters ≡ d ∷ []
counters_found ss id d e found one = by_split (split_of ss id (records.Counters d) found)
  where
    by_split : Split ss id (records.Counters d) → (parts_of ss).counters ≡ d ∷ []
    by_split s =
        let are : (parts_of ss).counters ≡ kinds as_counters s.front ++ d ∷ kinds as_counters s.back = ap (λ (xs : List Stored). (parts_of xs).counters) s.is ∙ counters_among s.front s.back id d in
        are ∙ all_of_it (kinds as_counters s.front) (kinds as_counters s.back) d e (sym are ∙ one)

-- a batch that keeps the rules and puts counters of so much more work
pub counted_put : (rs : List Stored) (work counters_id : ℕ) (c d : Counters) (cs : List Change) → Ascend rs → (parts_of rs).counters ≡ c ∷ [] → AreChanges cs → change_at cs counters_id ≡ Some (Some (records.Counters d))
    → keep_rules (parts_of (applied cs rs)) ≡ true → d.work ≡ c.work + work → WorksOn (parts_of rs) (parts_of (applied cs rs)) work
counted_put rs work counters_id c d cs sorted one once says rules more =
    let r = ruled (parts_of (applied cs rs)) rules in
    record {
      before = c;
      one = one;
      after = d;
      same = counters_found (applied cs rs) counters_id d r.counters (record_at-applied cs rs once sorted counters_id ∙ ap (λ o. over_it o (record_at rs counters_id)) says) r.one;
      more = more;
    }
