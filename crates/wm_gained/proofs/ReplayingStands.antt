-- The records stand for the state in which a workspace has entries that were made before: the laws of a version more and of entries that
-- are written, one behind the other.
use Rattle.std.proofs.Common.{◌≡◌, ℕ, true, List, refl}
use Rattle.wm_graph.specs.Parts.{Parts}
use Rattle.wm_graph.specs.Rules.{keep_rules}
use Rattle.wm_spec.specs.Lists.{Entry}
use Rattle.wm_state.specs.State.{Durable, with_entries, with_space}
use Rattle.wm_state.specs.Standing.{CountersStand, FieldsStand, Stands}
use Rattle.wm_state.proofs.Apart.{Ruled, ruled}
use Rattle.wm_state.proofs.Forking.{FieldsStand-forked, Stands-forked}
use Rattle.wm_written.proofs.WritingAll.{FieldsStand-wrote_all, Stands-wrote_all}
use Rattle.wm_gained.specs.Replaying.{Replayed}

module _ (p q : Parts) (s t : Durable) (n number : ℕ) (es : List Entry) (y : Replayed p q n number es) (spaces : t.spaces ≡ with_space n (with_entries es) s.spaces) (tables : t.tables ≡ s.tables) (counters : CountersStand q t) where
  r : Ruled y.between
  r = ruled y.between y.rules

  -- the state between, which nobody sees
  abbrev halfway : Durable
  halfway = record s { next_stamp = r.counters.next_stamp; last_moment = r.counters.last_moment; limit = r.counters.limit; work = r.counters.work }

  counted : CountersStand y.between halfway
  counted = record { counters = r.counters; one = r.one; next_stamp = refl; last_moment = refl; limit = refl; work = refl }

  pub FieldsStand-replayed : FieldsStand p s → FieldsStand q t
  FieldsStand-replayed st = FieldsStand-wrote_all y.between q halfway t n es y.wrote (FieldsStand-forked p y.between s halfway n number y.forked st refl refl counted) spaces tables counters

  pub Stands-replayed : Stands p s → t.locks ≡ s.locks → keep_rules q ≡ true → Stands q t
  Stands-replayed st locks rules = Stands-wrote_all y.between q halfway t n es y.wrote (Stands-forked p y.between s halfway n number y.forked st refl refl refl counted y.rules) spaces tables locks counters rules
