-- The plans of CONNECT and DISCONNECT: their faults stand in the order of their rows, and they fit the records.
use Rattle.std.proofs.Common.{◌≡◌, ℕ, nat_le, nat_lt, true, not, ◌&&◌, List, [], ◌∷◌, length, is_some, refl}
use Rattle.wm_base.specs.declared.instant.TheConstants.{END}
use Rattle.wm_graph.specs.Parts.{parts_of}
use Rattle.wm_graph.specs.Rules.{keep_rules}
use Rattle.wm_model.specs.Step.{bad_name, connect_plan, disconnect_plan, is_name, most_sessions, no_session, refused_if, session_of, session_there}
use Rattle.wm_outcome.proofs.Faults.{at_if, least_first}
use Rattle.wm_outcome.proofs.Fitting.{fits_done}
use Rattle.wm_outcome.proofs.Named.{InOrder, one_fault}
use Rattle.wm_outcome.specs.Fitting.{Fits}
use Rattle.wm_outline.specs.Outline.{Outline, outline_of}
use Rattle.wm_spec.specs.declared.record.stored.Stored.{Stored}
use Rattle.wm_state.specs.State.{Session}

pub connect_order : (name user : List ℕ) (o : Outline) → InOrder (connect_plan name user o).faults
connect_order name user o =
    least_first (6 ∷ 7 ∷ 48 ∷ []) (connect_plan name user o).faults (
      at_if 6 (is_some (session_of name o.sessions)) (session_there name) refl,
      (at_if 7 (not (is_name name && is_name user)) bad_name refl, (at_if 48 (nat_le 256 (length o.sessions)) most_sessions refl, tt)),
    )
    refl

pub disconnect_order : (name : List ℕ) (o : Outline) → InOrder (disconnect_plan name o).faults
disconnect_order name o = one_fault (refused_if (not (is_some (session_of name o.sessions))) (no_session name))

module _ (rs : List Stored) (xs : List Session) (m : ℕ) (rules : keep_rules (parts_of rs) ≡ true) (early : nat_lt m END ≡ true) where
  pub connect_fits : (name user : List ℕ) → Fits rs m (connect_plan name user (outline_of (parts_of rs) xs m))
  connect_fits name user = fits_done rs m (connect_plan name user (outline_of (parts_of rs) xs m)) (λ clear. tt) tt refl

  pub disconnect_fits : (name : List ℕ) → Fits rs m (disconnect_plan name (outline_of (parts_of rs) xs m))
  disconnect_fits name = fits_done rs m (disconnect_plan name (outline_of (parts_of rs) xs m)) (λ clear. tt) tt refl
