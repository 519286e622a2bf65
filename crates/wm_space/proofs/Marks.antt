-- Marks of a workspace, found by its ids.
use Rattle.std.proofs.Common.{◌≡◌, ℕ, ◌+◌, ◌<◌, ◌==◌, ◌||◌, nat_le, nat_lt, Bool, false, List, ◌∷◌, length, drop, get_or, Option, Some, None, refl, sym, ap, ◌∙◌}
use Rattle.std.proofs.lemmas.List.{drop_more}
use Rattle.std.specs.List.{filter_map, list_any}
use Rattle.std.specs.Option.{option_and_then, option_map_or}
use Rattle.wm_graph.specs.Parts.{as_mark, parts_of}
use Rattle.wm_image.proofs.Lists.{taken-with}
use Rattle.wm_index.proofs.Finding.{Tests, all_of, filter-kind}
use Rattle.wm_index.specs.Kinds.{kind_at}
use Rattle.wm_index.specs.Sought.{MarksIn, ids_with, is_sought}
use Rattle.wm_outline.proofs.Tops.{beyond_top, reached_top}
use Rattle.wm_outline.specs.Outline.{marks_in, top}
use Rattle.wm_spec.specs.Records.{record_at}
use Rattle.wm_spec.specs.declared.record.Record.{Record}
use Rattle.wm_spec.specs.declared.record.Record.TheVariants as records
use Rattle.wm_spec.specs.declared.record.stored.Stored.{Stored}
use Rattle.wm_spec.specs.declared.record.trace.Trace.{Trace}
use Rattle.wm_state.specs.ById.{Ascend}

mark_test : (n : ℕ) → Tests as_mark (λ (m : Trace). m.space == n) (is_sought (MarksIn n))
mark_test n (records.Mark m) = refl
mark_test n _ = refl

-- one of the ids whose mark fails a test
pub marked-next : (p : Trace → Bool) (ss : List Stored) (ids : List ℕ) (i : ℕ) → i < length ids → option_map_or p (option_and_then as_mark (record_at ss (get_or ids i 0))) false ≡ false
    → list_any p (kind_at as_mark ss (drop (i + 1) ids)) ≡ list_any p (kind_at as_mark ss (drop i ids))
marked-next p ss ids i within fails = sym (ap (λ l. list_any p (kind_at as_mark ss l)) (drop_more ids i 0 within) ∙ by_record (record_at ss (get_or ids i 0)) refl fails)
  where
    rest : List ℕ
    rest = drop (i + 1) ids

    by_record : (o : Option Record) → record_at ss (get_or ids i 0) ≡ o → option_map_or p (option_and_then as_mark o) false ≡ false → list_any p (kind_at as_mark ss (get_or ids i 0 ∷ rest)) ≡ list_any p (kind_at as_mark ss rest)
    by_record None is fails = rw is refl
    by_record (Some r) is fails = rw is (by_kind (as_mark r) refl fails)
      where
        by_kind : (o : Option Trace) → as_mark r ≡ o → option_map_or p o false ≡ false → list_any p (filter_map as_mark (r ∷ filter_map (record_at ss) rest)) ≡ list_any p (kind_at as_mark ss rest)
        by_kind None kind fails = rw kind refl
        by_kind (Some m) kind fails = rw kind (ap (λ b. b || list_any p (kind_at as_mark ss rest)) fails)

-- some mark of a workspace passes a test
any_marked : (p : Trace → Bool) (n : ℕ) (ss : List Stored) → Ascend ss → list_any p (kind_at as_mark ss (ids_with (is_sought (MarksIn n)) ss)) ≡ list_any p (marks_in (parts_of ss) n)
unfolding parts_of
any_marked p n ss sorted =
    ap (λ rs. list_any p (filter_map as_mark rs)) (taken-with (is_sought (MarksIn n)) ss sorted)
    ∙ ap (λ ms. list_any p ms) (filter-kind as_mark (λ (m : Trace). m.space == n) (is_sought (MarksIn n)) (mark_test n) (all_of ss))

-- ---- what the outline tells of them

-- some mark of a workspace is beyond a position
pub any_beyond : (limit n : ℕ) (ss : List Stored) → Ascend ss
    → list_any (λ (m : Trace). nat_lt limit m.position) (kind_at as_mark ss (ids_with (is_sought (MarksIn n)) ss)) ≡ nat_lt (limit + 1) (top (λ (m : Trace). m.position) (marks_in (parts_of ss) n))
any_beyond limit n ss sorted = any_marked (λ m. nat_lt limit m.position) n ss sorted ∙ beyond_top (λ (m : Trace). m.position) limit (marks_in (parts_of ss) n)

-- some mark of a workspace was made at a place or behind
pub any_since : (place n : ℕ) (ss : List Stored) → Ascend ss
    → list_any (λ (m : Trace). nat_le place m.place) (kind_at as_mark ss (ids_with (is_sought (MarksIn n)) ss)) ≡ nat_lt place (top (λ (m : Trace). m.place) (marks_in (parts_of ss) n))
any_since place n ss sorted = any_marked (λ m. nat_le place m.place) n ss sorted ∙ reached_top (λ (m : Trace). m.place) place (marks_in (parts_of ss) n)
