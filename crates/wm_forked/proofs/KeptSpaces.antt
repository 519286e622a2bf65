-- The rules on workspaces and on versions hold of each record still where all that they look up is there still: the laws is_space-kept,
-- is_version-kept and has_versions-kept.
use Rattle.std.proofs.Common.{◌≡◌, ℕ, ◌==◌, ◌^◌, nat_lt, nat_le, Bool, true, false, ◌&&◌, ◌||◌, if◌then◌else◌, List, [], ◌∷◌, ◌++◌, Option, Some, None, is_some, refl, sym, ap, ◌∙◌}
use Rattle.std.proofs.lemmas.Bool.{and_from, and_parts, true≢false}
use Rattle.std.specs.Option.{option_map_or}
use Rattle.std.specs.Str.{bytes_eq}
use Rattle.wm_base.proofs.Plain.{either_if, else_if}
use Rattle.wm_graph.specs.Parts.{Parts, space_of, version_of, has_version}
use Rattle.wm_graph.specs.Rules.{is_placed, is_space, is_short, live, is_version_of, stands_under, is_version, has_versions}
use Rattle.wm_spec.specs.declared.record.space.Space.{Space}
use Rattle.wm_spec.specs.declared.record.version.Version.{Version}
use Rattle.wm_state.proofs.Keeping.{KeepSpaces, KeepVersions, is_version_of-kept, lt_le}

-- ---- tests joined

both_if : (a b c d : Bool) → (a ≡ true → c ≡ true) → (b ≡ true → d ≡ true) → (a && b) ≡ true → (c && d) ≡ true
both_if a b c d f g e = let h = and_parts a b e in and_from c d (f h.0) (g h.1)

-- ---- workspaces

pub some-kept : (p q : Parts) → KeepSpaces p q → (n : ℕ) → is_some (space_of p.spaces n) ≡ true → is_some (space_of q.spaces n) ≡ true
some-kept p q spaces n e = by_found (space_of p.spaces n) refl e
  where
    by_found : (o : Option Space) → space_of p.spaces n ≡ o → is_some o ≡ true → is_some (space_of q.spaces n) ≡ true
    by_found None is h = absurd (true≢false (sym h))
    by_found (Some s) is h = ap is_some (spaces n s is).is

placed-kept : (p q : Parts) → KeepSpaces p q → (s : Space) → is_placed (space_of p.spaces) s ≡ true → is_placed (space_of q.spaces) s ≡ true
placed-kept p q spaces s =
    else_if (s.number == 0) (bytes_eq s.name live) (nat_lt s.parent s.number && is_some (space_of p.spaces s.parent)) (nat_lt s.parent s.number && is_some (space_of q.spaces s.parent))
    (both_if (nat_lt s.parent s.number) (is_some (space_of p.spaces s.parent)) (nat_lt s.parent s.number) (is_some (space_of q.spaces s.parent)) (λ h. h) (some-kept p q spaces s.parent))

pub is_space-kept : (p q : Parts) → KeepSpaces p q → (s : Space) → is_space (space_of p.spaces) s ≡ true → is_space (space_of q.spaces) s ≡ true
is_space-kept p q spaces s =
    both_if (is_placed (space_of p.spaces) s && (is_short s.name && is_short s.writer)) (nat_le 1 s.next_place && (nat_le 1 s.next_implicit && nat_le s.log_length (2 ^ 62)))
    (is_placed (space_of q.spaces) s && (is_short s.name && is_short s.writer)) (nat_le 1 s.next_place && (nat_le 1 s.next_implicit && nat_le s.log_length (2 ^ 62)))
    (both_if (is_placed (space_of p.spaces) s) (is_short s.name && is_short s.writer) (is_placed (space_of q.spaces) s) (is_short s.name && is_short s.writer) (placed-kept p q spaces s) (λ h. h))
    (λ h. h)

-- ---- versions

under-kept : (p q : Parts) → KeepVersions p q → (v : Version) (s t : Space) → t.parent ≡ s.parent → stands_under (version_of p.versions) v s ≡ true → stands_under (version_of q.versions) v t ≡ true
under-kept p q versions v s t parent e =
    let wider : stands_under (version_of q.versions) v s ≡ true =
    both_if (nat_lt v.parent v.number) (is_version_of (version_of p.versions) v.parent v.space || is_version_of (version_of p.versions) v.parent s.parent)
    (nat_lt v.parent v.number) (is_version_of (version_of q.versions) v.parent v.space || is_version_of (version_of q.versions) v.parent s.parent) (λ h. h)
    (either_if (is_version_of (version_of p.versions) v.parent v.space) (is_version_of (version_of p.versions) v.parent s.parent)
    (is_version_of (version_of q.versions) v.parent v.space) (is_version_of (version_of q.versions) v.parent s.parent)
    (is_version_of-kept p q versions v.parent v.space) (is_version_of-kept p q versions v.parent s.parent)) e in
    ap (λ k. nat_lt v.parent v.number && (is_version_of (version_of q.versions) v.parent v.space || is_version_of (version_of q.versions) v.parent k)) parent ∙ wider

pub is_version-kept : (p q : Parts) (next more : ℕ) → nat_le next more ≡ true → KeepSpaces p q → KeepVersions p q → (v : Version) → is_version (space_of p.spaces) (version_of p.versions) next v ≡ true
    → is_version (space_of q.spaces) (version_of q.versions) more v ≡ true
is_version-kept p q next more le spaces versions v e =
    let h = and_parts (nat_lt v.number next) _ e in
    and_from (nat_lt v.number more) _ (lt_le v.number next more le h.0) (by_space (space_of p.spaces v.space) refl h.1)
  where
    stands : Parts → Space → Bool
    stands parts s = if v.parent == 0 then v.number == 1 else stands_under (version_of parts.versions) v s

    by_space : (o : Option Space) → space_of p.spaces v.space ≡ o → option_map_or (stands p) o false ≡ true → option_map_or (stands q) (space_of q.spaces v.space) false ≡ true
    by_space None is h = absurd (true≢false (sym h))
    by_space (Some s) is h =
        let still = spaces v.space s is in
        ap (λ o. option_map_or (stands q) o false) still.is
        ∙ else_if (v.parent == 0) (v.number == 1) (stands_under (version_of p.versions) v s) (stands_under (version_of q.versions) v still.new) (under-kept p q versions v s still.new still.parent) h

pub has_versions-kept : (p q : Parts) → KeepVersions p q → (s : Space) → (has_version p.versions s.number ≡ true → has_version q.versions s.number ≡ true)
    → has_versions (has_version p.versions) (version_of p.versions) s ≡ true → has_versions (has_version q.versions) (version_of q.versions) s ≡ true
has_versions-kept p q versions s has =
    both_if (has_version p.versions s.number) (if s.number == 0 then (s.birth_version == 1) && (s.base_version == 0) else named p)
    (has_version q.versions s.number) (if s.number == 0 then (s.birth_version == 1) && (s.base_version == 0) else named q) has
    (else_if (s.number == 0) ((s.birth_version == 1) && (s.base_version == 0)) (named p) (named q)
    (both_if (is_version_of (version_of p.versions) s.birth_version s.parent) (is_version_of (version_of p.versions) s.base_version s.parent)
    (is_version_of (version_of q.versions) s.birth_version s.parent) (is_version_of (version_of q.versions) s.base_version s.parent)
    (is_version_of-kept p q versions s.birth_version s.parent) (is_version_of-kept p q versions s.base_version s.parent)))
  where
    named : Parts → Bool
    named parts = is_version_of (version_of parts.versions) s.birth_version s.parent && is_version_of (version_of parts.versions) s.base_version s.parent

pub has_new : (vs : List Version) (v : Version) (n : ℕ) → (v.space == n) ≡ true → has_version (vs ++ v ∷ []) n ≡ true
has_new [] v n e = rw e refl
has_new (w ∷ vs) v n e = by_test (w.space == n) (has_new vs v n e)
  where
    by_test : (b : Bool) → has_version (vs ++ v ∷ []) n ≡ true → (b || has_version (vs ++ v ∷ []) n) ≡ true
    by_test true rest = refl
    by_test false rest = rest
