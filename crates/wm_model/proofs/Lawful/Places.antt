-- In a lawful state the workspace that a session stands in is there, and so is the savepoint.
use Rattle.std.proofs.Common.{◌≡◌, ℕ, Bool, true, false, List, [], ◌∷◌, Option, Some, unwrap_or, sym, ap, ◌∙◌, subst, if◌then◌else◌}
use Rattle.std.proofs.lemmas.Option.{same_Some}
use Rattle.std.specs.List.{find}
use Rattle.std.specs.Str.{bytes_eq}
use Rattle.wm_model.specs.Lawful.{IsPlace, LawfulState, Seats}
use Rattle.wm_model.specs.Step.{home_of, session_of}
use Rattle.wm_state.specs.State.{Session, State, Workspace, fresh_live, workspace_of}

seat_found : (ws : List Workspace) (P : Session → Bool) (xs : List Session) (x : Session) → Seats ws xs → find P xs ≡ Some x → IsPlace ws x.space x.stand
seat_found ws P [] x s found = absurd (cc)
seat_found ws P (y ∷ ys) x s found = by_test (P y) found (seat_found ws P ys x s.1)
  where
    by_test : (b : Bool) → (if b then Some y else find P ys) ≡ Some x → (find P ys ≡ Some x → IsPlace ws x.space x.stand) → IsPlace ws x.space x.stand
    by_test true h rest = subst (λ (z : Session). IsPlace ws z.space z.stand) (same_Some y x h) s.0
    by_test false h rest = rest h

-- where a session of the state stands
pub place_of : (s : State) (name : List ℕ) (session : Session) → LawfulState s → session_of name s.sessions ≡ Some session → IsPlace s.durable.spaces session.space session.stand
place_of s name session l found = seat_found s.durable.spaces (λ (x : Session). bytes_eq name x.name) s.sessions session l.seats found

-- its workspace is there
pub home_found : (s : State) (session : Session) → IsPlace s.durable.spaces session.space session.stand → workspace_of s.durable.spaces session.space ≡ Some (home_of s session)
home_found s session p = p.is ∙ ap (λ (o : Option Workspace). Some (unwrap_or o fresh_live)) (sym p.is)
