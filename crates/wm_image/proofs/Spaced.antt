-- Workspaces by name, how many there are, and the versions that nothing names.
use Rattle.std.proofs.Common.{◌≡◌, ℕ, ◌<◌, ◌==◌, Bool, true, false, not, ◌&&◌, ◌||◌, eqb, List, [], ◌∷◌, length, Option, Some, refl, sym, ap, ◌∙◌, subst, arith}
use Rattle.std.specs.BTreeMap.{IsOrdered}
use Rattle.std.specs.List.{list_any}
use Rattle.std.specs.Ordering.{nat_cmp}
use Rattle.std.proofs.lemmas.Bool.{or_parts}
use Rattle.wm_state.proofs.Mapped.{found-fails}
use Rattle.wm_chunks.specs.Numbers.{Numbers}
use Rattle.wm_graph.specs.Parts.{Parts, parts_of, as_savepoint, as_space, space_of}
use Rattle.wm_spec.specs.declared.record.Record.TheVariants as records
use Rattle.wm_spec.specs.declared.record.Record.{Record}
use Rattle.wm_spec.specs.declared.record.savepoint.Savepoint.{Savepoint}
use Rattle.wm_spec.specs.declared.record.space.Space.{Space}
use Rattle.wm_spec.specs.declared.record.stored.Stored.{Stored}
use Rattle.wm_state.specs.Effects.{IsFree}
use Rattle.wm_state.proofs.Named.{saved_space, space_number}
use Rattle.wm_ids.proofs.Lasts.{LastOf, has_ids, last-same, last_told}
use Rattle.wm_index.proofs.Finding.{Tests, space_test}
use Rattle.wm_index.proofs.Firsts.{sought_kind, any_sought, count_sought, filter_all, count_all}
use Rattle.wm_image.proofs.Saved.{kept_test, rest_test}
use Rattle.wm_ids.proofs.IdLists.{nil_told}
use Rattle.wm_index.specs.Indexed.{IsIndexed, ids_at, listed}
use Rattle.wm_index.specs.Kinds.{kind_at}
use Rattle.wm_image.specs.Shown.{names, rests_on}
use Rattle.wm_ids.specs.Ids.{is_nil, last_used}
use Rattle.wm_index.specs.Sought.{Spaces, SpaceAt, KeptAs, KeptUnder, BornAs, SeenUnder, is_sought}
use Rattle.wm_index.specs.declared.index.Index.{Index}

-- ---- the tests

spaces_test : Tests as_space (λ (r : Space). true) (is_sought Spaces)
spaces_test (records.Space r) = refl
spaces_test _ = refl

-- a workspace with a parent was born from the version
abbrev born : ℕ → Space → Bool
born version r = not (r.number == 0) && (r.birth_version == version)

-- a workspace with a parent sees the version under its own
abbrev under : ℕ → Space → Bool
under version r = not (r.number == 0) && (r.base_version == version)

born_test : (n : ℕ) → Tests as_space (born n) (is_sought (BornAs n))
born_test n (records.Space r) = refl
born_test n _ = refl

under_test : (n : ℕ) → Tests as_space (under n) (is_sought (SeenUnder n))
under_test n (records.Space r) = refl
under_test n _ = refl

-- ---- all of them

pub spaces_told : (kept : Numbers Record) (x : Index) → IsIndexed kept x → kind_at as_space (listed kept.entries) (ids_at x Spaces) ≡ (parts_of (listed kept.entries)).spaces
unfolding parts_of
spaces_told kept x is = sought_kind as_space (λ (r : Space). true) Spaces spaces_test kept x is ∙ filter_all (parts_of (listed kept.entries)).spaces

pub spaces_counted : (kept : Numbers Record) (x : Index) → IsIndexed kept x → length (ids_at x Spaces) ≡ length (parts_of (listed kept.entries)).spaces
unfolding parts_of
spaces_counted kept x is = count_sought as_space (λ (r : Space). true) Spaces spaces_test kept x is ∙ count_all (parts_of (listed kept.entries)).spaces

-- the number of a workspace
abbrev pub is_numbered : Parts → ℕ → Bool
is_numbered p q = list_any (λ (r : Space). r.number == q) p.spaces

pub last_numbered : (kept : Numbers Record) (x : Index) → IsIndexed kept x → (ss : List Stored) → listed kept.entries ≡ ss → (o : Option ℕ) → IsOrdered nat_cmp x.spaces → o ≡ last_used x.spaces.entries
    → LastOf (is_numbered (parts_of ss)) o
unfolding parts_of
last_numbered kept x is ss view o sorted last =
    subst (λ (l : List Stored). LastOf (is_numbered (parts_of l)) o) view
    (last-same (has_ids x.spaces.entries) (is_numbered (parts_of (listed kept.entries)))
    (λ q. any_sought as_space (λ (r : Space). r.number == q) (SpaceAt q) (space_test q) kept x is) o
    (last_told x.spaces o sorted last))

-- ---- versions that nothing names

names_split : (version : ℕ) (rs : List Space) → list_any (names version) rs ≡ (list_any (born version) rs || list_any (under version) rs)
names_split version [] = refl
names_split version (r ∷ rs) =
    ap (λ b. names version r || b) (names_split version rs)
    ∙ swap (not (r.number == 0)) (r.birth_version == version) (r.base_version == version) (list_any (born version) rs) (list_any (under version) rs)
  where
    swap : (a b c d e : Bool) → ((a && (b || c)) || (d || e)) ≡ (((a && b) || d) || ((a && c) || e))
    swap true true c d e = refl
    swap true false true true e = refl
    swap true false true false e = refl
    swap true false false d e = refl
    swap false b c d e = refl

none_of : (a b c d : Bool) → (not a && (not b && (not c && not d))) ≡ not (a || (b || (c || d)))
none_of true b c d = refl
none_of false true c d = refl
none_of false false true d = refl
none_of false false false d = refl

is_empty : (ids : List ℕ) (b : Bool) → not (is_nil ids) ≡ b → eqb (length ids) 0 ≡ not b
is_empty ids b e = nil_told ids ∙ twice (is_nil ids) ∙ ap not e
  where
    twice : (a : Bool) → a ≡ not (not a)
    twice true = refl
    twice false = refl

-- no record of a savepoint and of a workspace names the version
abbrev pub is_unnamed : Parts → ℕ → Bool
is_unnamed p version = not (list_any (λ (x : Savepoint). x.version == version) p.savepoints || (list_any (rests_on version) p.savepoints || list_any (names version) p.spaces))

free_told : (kept : Numbers Record) (x : Index) → IsIndexed kept x → (version : ℕ)
    → (eqb (length (ids_at x (KeptAs version))) 0 && (eqb (length (ids_at x (KeptUnder version))) 0 && (eqb (length (ids_at x (BornAs version))) 0 && eqb (length (ids_at x (SeenUnder version))) 0))) ≡ is_unnamed (parts_of (listed kept.entries)) version
unfolding parts_of
free_told kept x is version =
    rw (
      is_empty (ids_at x (KeptAs version)) _ (any_sought as_savepoint (λ (y : Savepoint). y.version == version) (KeptAs version) (kept_test version) kept x is),
      is_empty (ids_at x (KeptUnder version)) _ (any_sought as_savepoint (rests_on version) (KeptUnder version) (rest_test version) kept x is),
      is_empty (ids_at x (BornAs version)) _ (any_sought as_space (born version) (BornAs version) (born_test version) kept x is),
      is_empty (ids_at x (SeenUnder version)) _ (any_sought as_space (under version) (SeenUnder version) (under_test version) kept x is),
      names_split version (parts_of (listed kept.entries)).spaces,
    ) (none_of (list_any (λ (y : Savepoint). y.version == version) (parts_of (listed kept.entries)).savepoints) (list_any (rests_on version) (parts_of (listed kept.entries)).savepoints) (list_any (born version) (parts_of (listed kept.entries)).spaces) (list_any (under version) (parts_of (listed kept.entries)).spaces))

-- the same of lists that are those of the index
pub free_by : (kept : Numbers Record) (x : Index) → IsIndexed kept x → (version : ℕ) (saved rested births bases : List ℕ) → saved ≡ ids_at x (KeptAs version) → rested ≡ ids_at x (KeptUnder version) → births ≡ ids_at x (BornAs version) → bases ≡ ids_at x (SeenUnder version)
    → ((length saved == 0) && ((length rested == 0) && ((length births == 0) && (length bases == 0)))) ≡ is_unnamed (parts_of (listed kept.entries)) version
free_by kept x is version saved rested births bases e f g h = rw (e, f, g, h) (free_told kept x is version)

-- a version that no record of a savepoint and of a workspace names is free
free_of : (p : Parts) (version : ℕ) → list_any (λ (x : Savepoint). x.version == version) p.savepoints ≡ false → list_any (rests_on version) p.savepoints ≡ false → list_any (names version) p.spaces ≡ false → IsFree p version
free_of p version unsaved unrested unnamed = record {
  kept = λ n making x found. found-fails (λ (x : Savepoint). (x.space == n) && (x.making == making)) (λ (x : Savepoint). x.version == version) p.savepoints x found unsaved;
  kept_bases = λ n making x some found.
      second (not (x.space == 0)) (x.base_version == version) (ap (λ k. not (k == 0)) (saved_space p n making x found) ∙ not_zero n some)
      (found-fails (λ (y : Savepoint). (y.space == n) && (y.making == making)) (rests_on version) p.savepoints x found unrested);
  births = λ n r some found. (or_parts (r.birth_version == version) (r.base_version == version) (named n r some found)).0;
  bases = λ n r some found. (or_parts (r.birth_version == version) (r.base_version == version) (named n r some found)).1;
}
  where
    not_zero : (m : ℕ) → 0 < m → not (m == 0) ≡ true
    not_zero m lt = grind (arith, lt)

    second : (a b : Bool) → a ≡ true → (a && b) ≡ false → b ≡ false
    second a b e h = sym (ap (λ t. t && b) e) ∙ h

    named : (n : ℕ) (r : Space) → 0 < n → space_of p.spaces n ≡ Some r → ((r.birth_version == version) || (r.base_version == version)) ≡ false
    named n r some found = second (not (r.number == 0)) _ (ap (λ k. not (k == 0)) (space_number p n r found) ∙ not_zero n some)
        (found-fails (λ (x : Space). x.number == n) (names version) p.spaces r found unnamed)

pub free_where : (p : Parts) (version : ℕ) → is_unnamed p version ≡ true → IsFree p version
free_where p version e =
    let two = or_parts (list_any (λ (x : Savepoint). x.version == version) p.savepoints) (list_any (rests_on version) p.savepoints || list_any (names version) p.spaces) (off _ e) in
    let more = or_parts (list_any (rests_on version) p.savepoints) (list_any (names version) p.spaces) two.1 in
    free_of p version two.0 more.0 more.1
  where
    off : (b : Bool) → not b ≡ true → b ≡ false
    off true h = cc
    off false h = refl
