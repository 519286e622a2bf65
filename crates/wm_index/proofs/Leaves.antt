-- Versions with none under them.
use Rattle.std.proofs.Common.{◌≡◌, ℕ, ◌==◌, Bool, true, false, not, eqb, List, [], ◌∷◌, length, Option, Some, None, refl, ap, ◌∙◌}
use Rattle.std.specs.List.{filter_map, list_any}
use Rattle.std.specs.Option.{option_map_or}
use Rattle.wm_chunks.specs.Numbers.{Numbers}
use Rattle.wm_graph.specs.Parts.{parts_of, as_version}
use Rattle.wm_spec.specs.declared.record.Record.{Record}
use Rattle.wm_spec.specs.declared.record.Record.TheVariants as records
use Rattle.wm_spec.specs.declared.record.stored.Stored.{Stored}
use Rattle.wm_spec.specs.declared.record.version.Version.{Version}
use Rattle.wm_ids.proofs.IdLists.{nil_told}
use Rattle.wm_ids.specs.Ids.{is_nil}
use Rattle.wm_index.proofs.Finding.{Tests, all_of}
use Rattle.wm_index.proofs.Using.{some_ids}
use Rattle.wm_index.specs.Indexed.{IsIndexed, ids_at, listed}
use Rattle.wm_index.specs.Sought.{VersionsUnder, is_sought, ids_with}
use Rattle.wm_index.specs.declared.index.Index.{Index}

-- ---- versions with none under them

under_test : (n : ℕ) → Tests as_version (λ (v : Version). v.parent == n) (is_sought (VersionsUnder n))
under_test n (records.Version v) = refl
under_test n _ = refl

-- some of a kind passes a test
pub any-kind : {A : Type 0} (kind : Record → Option A) (p : A → Bool) (q : Record → Bool) → Tests kind p q → (rs : List Record) → list_any q rs ≡ list_any p (filter_map kind rs)
any-kind kind p q tests [] = refl
any-kind {A} kind p q tests (r ∷ rs) = by_kind (kind r) refl (tests r) (any-kind kind p q tests rs)
  where
    by_kind : (o : Option A) → kind r ≡ o → q r ≡ option_map_or p o false → list_any q rs ≡ list_any p (filter_map kind rs) → list_any q (r ∷ rs) ≡ list_any p (filter_map kind (r ∷ rs))
    by_kind None none test rest = rw (none, test) rest
    by_kind (Some x) some test rest = rw (some, test, rest) refl

not_not : (b : Bool) → b ≡ not (not b)
not_not true = refl
not_not false = refl

-- the index has no ids of versions under one where there are none
pub leaf_told : (kept : Numbers Record) (x : Index) → IsIndexed kept x → (ss : List Stored) → listed kept.entries ≡ ss → (version : ℕ)
    → eqb (length (ids_at x (VersionsUnder version))) 0 ≡ not (list_any (λ (v : Version). v.parent == version) (parts_of ss).versions)
unfolding parts_of
leaf_told kept x is ss view version =
    nil_told (ids_at x (VersionsUnder version))
    ∙ ap is_nil (is.told (VersionsUnder version) ∙ ap (ids_with (is_sought (VersionsUnder version))) view)
    ∙ not_not (is_nil (ids_with (is_sought (VersionsUnder version)) ss))
    ∙ ap not
    (some_ids (is_sought (VersionsUnder version)) ss
    ∙ any-kind as_version (λ (v : Version). v.parent == version) (is_sought (VersionsUnder version)) (under_test version) (all_of ss))
