-- What records tell of the two sides from which decisions copy.
use Rattle.std.specs.Prelude.{ℕ, ◌≡◌, List, length}
use Rattle.std.specs.Option.{option_map}
use Rattle.wm_graph.specs.Parts.{Parts}
use Rattle.wm_net.specs.Conflicts.{Sides}
use Rattle.wm_net.specs.Nets.{Stamped}
use Rattle.wm_spec.specs.Lists.{Cell, Entry, Told, told}
use Rattle.wm_spec.specs.declared.record.space.Space.{Space}
use Rattle.wm_state.specs.Standing.{HasRows, held_of, latest, seen}

-- a version holds what a list does, the rows of that are there, and one stamp tells one thing in it
pub record TellsList (p : Parts) (version : ℕ) (es : List Entry) : Type 0 where
  pub holds : (c : Cell) → seen p version c ≡ option_map held_of (told es c)
  pub rows : HasRows p es
  pub tells : ℕ → Told
  pub stamped : Stamped tells es

-- the records of a workspace and its parent tell what these lists do: the newest version of the parent what it holds, and the version that the
-- workspace sees under its own its base
pub record TellSides (p : Parts) (a b : Space) (s : Sides) : Type 0 where
  pub parent : TellsList p (latest p b.number) s.parent
  pub base : TellsList p a.base_version s.base
  pub log : b.log_length ≡ length s.log
