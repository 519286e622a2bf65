-- The marks that go where a workspace stands on its parent: all of it, each once.
use Rattle.std.proofs.Common.{◌≡◌, ℕ, ◌==◌, Bool, true, false, not, cond, List, [], ◌∷◌, length, is_some, refl, ap, ◌∙◌, arith, sym}
use Rattle.std.proofs.Math.Bool.{not-not}
use Rattle.std.specs.List.{cons_option, filter, list_all, list_any}
use Rattle.wm_changes.proofs.Dropping.{differ-with, told-with}
use Rattle.wm_changes.proofs.DroppingAll.{there_all}
use Rattle.wm_graph.specs.Parts.{as_mark, parts_of}
use Rattle.wm_index.specs.Sought.{MarksIn, ids_with, is_sought}
use Rattle.wm_prices.specs.Prices.{marks_at}
use Rattle.wm_rebased.specs.Rebasing.{AreMarksOf, keeps_unmarked}
use Rattle.wm_spec.specs.Records.{ids_differ, record_at}
use Rattle.wm_spec.specs.declared.record.Record.{Record}
use Rattle.wm_spec.specs.declared.record.Record.TheVariants as records
use Rattle.wm_spec.specs.declared.record.stored.Stored.{Stored}
use Rattle.wm_spec.specs.declared.record.trace.Trace.{Trace}
use Rattle.wm_state.proofs.ByKind.{kinds}
use Rattle.wm_state.specs.ById.{Ascend}

-- what goes is what is sought
sought_goes : (n : ℕ) (r : Record) → is_sought (MarksIn n) r ≡ not (keeps_unmarked n r)
sought_goes n (records.Mark x) = sym (not-not (x.space == n))
sought_goes n _ = refl

pub marks_are : (rs : List Stored) (n : ℕ) (ids : List ℕ) → Ascend rs → ids ≡ ids_with (is_sought (MarksIn n)) rs → AreMarksOf rs n ids
marks_are rs n ids sorted are = record {
  gone = λ id r found. ap (λ ds. list_any (λ d. d == id) ds) are ∙ told-with (is_sought (MarksIn n)) rs sorted id r found ∙ sought_goes n r;
  once = ap ids_differ are ∙ differ-with (is_sought (MarksIn n)) rs sorted;
  there = ap (list_all (λ id. is_some (record_at rs id))) are ∙ there_all (is_sought (MarksIn n)) rs;
}

-- there are as many as the parts have
pub marks_many : (n : ℕ) (ss : List Stored) → length (ids_with (is_sought (MarksIn n)) ss) ≡ length (marks_at (parts_of ss) n)
unfolding parts_of
marks_many n [] = refl
marks_many n (s ∷ ss) = by_record s.record (marks_many n ss)
  where
    test : Trace → Bool
    test x = x.space == n

    ids : List ℕ
    ids = ids_with (is_sought (MarksIn n)) ss

    by_test : (b : Bool) (x : Trace) → length ids ≡ length (filter test (kinds as_mark ss)) → length (cond b (s.id ∷ ids) ids) ≡ length (cond b (x ∷ filter test (kinds as_mark ss)) (filter test (kinds as_mark ss)))
    by_test true x rest = omega (arith, rest)
    by_test false x rest = rest

    by_record : (r : Record) → length ids ≡ length (filter test (kinds as_mark ss)) → length (cond (is_sought (MarksIn n) r) (s.id ∷ ids) ids) ≡ length (filter test (cons_option (as_mark r) (kinds as_mark ss)))
    by_record (records.Mark x) rest = by_test (x.space == n) x rest
    by_record _ rest = rest
