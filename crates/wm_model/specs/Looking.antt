-- What a session looks at, by the records.
use Rattle.std.specs.Prelude.{ℕ, ◌≡◌, ◌<◌, List, Option, Some, None, unwrap_or}
use Rattle.std.specs.List.{find}
use Rattle.std.specs.Str.{bytes_eq}
use Rattle.wm_graph.specs.Parts.{Parts, space_of}
use Rattle.wm_spec.specs.declared.record.space.Space.{Space}
use Rattle.wm_spec.specs.declared.record.table.Table.{Table}
use Rattle.wm_state.specs.State.{Session}
use Rattle.wm_model.specs.Sources.{Look, reading_at}
use Rattle.wm_model.specs.Step.{within}

-- ---- the workspace whose conflicts are looked at

-- the workspace of a name
abbrev pub space_named : List ℕ → List Space → Option Space
space_named name spaces = find (λ (r : Space). bytes_eq name r.name) spaces

-- the one that was set for it, where it is there, and else the one that it stands in
abbrev pub conflicting_space : List Space → Option (List ℕ) → Space → Space
conflicting_space spaces None home = home
conflicting_space spaces (Some name) home = unwrap_or (space_named name spaces) home

-- ---- the look

-- a workspace with its parent, or neither of LIVE
abbrev pub IsFamilyOf : Parts → Space → Option (Space × Space) → Type 0
IsFamilyOf p a None = a.number ≡ 0
IsFamilyOf p a (Some x) = (x.0 ≡ a) × ((0 < a.number) × (space_of p.spaces a.parent ≡ Some x.1))

-- what the session looks at
pub record IsLook (p : Parts) (moment : ℕ) (session : Session) (look : Look) : Type 0 where
  pub reading : (t : Table) → look.reading t ≡ reading_at p session.space session.stand t
  pub period : (t : Table) → look.period t ≡ within moment session t
  pub home : space_of p.spaces session.space ≡ Some look.home
  pub family : IsFamilyOf p (conflicting_space p.spaces session.conflict look.home) look.family
  pub difference : look.difference ≡ session.difference
