-- What stands above a base holds what the workspace's own changes hold.
use Rattle.std.proofs.Common.{◌≡◌, ℕ, ◌==◌, Bool, true, false, cond, List, [], ◌∷◌, ◌++◌, Option, Some, None, is_some, refl, sym, ap, ◌∙◌}
use Rattle.std.proofs.lemmas.Bool.{true≢false}
use Rattle.std.specs.Option.{option_or, option_map}
use Rattle.wm_graph.specs.Parts.{Parts, space_of}
use Rattle.wm_period.specs.Pieces.{Held}
use Rattle.wm_spec.specs.Lists.{Cell, Entry, Told, told, touched}
use Rattle.wm_spec.specs.declared.record.piece.PieceRecord.{PieceRecord}
use Rattle.wm_spec.specs.declared.record.savepoint.Savepoint.{Savepoint as Record}
use Rattle.wm_spec.specs.declared.record.space.Space.{Space}
use Rattle.wm_spec.proofs.Lists.{told-append}
use Rattle.wm_tree.specs.declared.version.Version.{Version as Node}
use Rattle.wm_state.specs.State.{Durable, Savepoint, Workspace, savepoint_made, workspace_of}
use Rattle.wm_state.specs.Standing.{Kept, KeptOwn, NamedStand, Newest, Own, OwnsStand, held_of, latest, own_at, saved_as, seen, seen_above, seen_at, stored_at}

-- what stands at a cell above a base is what is seen there
pub own-seen : (pieces : List PieceRecord) (nodes : List Node) (base v : ℕ) (c : Cell) (h : Held) → own_at pieces nodes base v c ≡ Some h → seen_at pieces nodes v c ≡ Some h
own-seen pieces [] base v c h e = cc
own-seen pieces (x ∷ older) base v c h e = by_test (v == base) (x.number == v) (stored_at pieces v c) e (own-seen pieces older base x.parent c h) (own-seen pieces older base v c h)
  where
    nothing : Option Held
    nothing = None

    by_test : (a b : Bool) (o : Option Held) → cond a nothing (cond b (option_or o (own_at pieces older base x.parent c)) (own_at pieces older base v c)) ≡ Some h
        → (own_at pieces older base x.parent c ≡ Some h → seen_at pieces older x.parent c ≡ Some h) → (own_at pieces older base v c ≡ Some h → seen_at pieces older v c ≡ Some h)
        → cond b (option_or o (seen_at pieces older x.parent c)) (seen_at pieces older v c) ≡ Some h
    by_test true b o is up along = cc
    by_test false true (Some k) is up along = is
    by_test false true None is up along = up is
    by_test false false o is up along = along is

-- where a version holds what entries over others hold, and above a base covers their cells, it holds there what they hold
pub own_holds : (p : Parts) (base v : ℕ) (under own : List Entry) (c : Cell) → seen p v c ≡ option_map held_of (told (under ++ own) c) → is_some (seen_above p base v c) ≡ touched own c
    → seen_above p base v c ≡ option_map held_of (told own c)
own_holds p base v under own c sees covers = by_held (seen_above p base v c) (told own c) refl refl covers
  where
    none_is : (t : Told) → false ≡ is_some (Some t) → ⊥
    none_is t e = true≢false (sym e)

    by_held : (o : Option Held) (t : Option Told) → seen_above p base v c ≡ o → told own c ≡ t → is_some o ≡ is_some t → o ≡ option_map held_of t
    by_held None None has is e = refl
    by_held None (Some t) has is e = absurd (none_is t e)
    by_held (Some h) None has is e = absurd (true≢false e)
    by_held (Some h) (Some t) has is e =
        sym (own-seen p.pieces _ base v c h has)
        ∙ sees
        ∙ ap (option_map held_of) (told-append under own c ∙ ap (λ o. option_or o (told under c)) is)

-- so it is of a workspace
pub own_is : (p : Parts) (d : Durable) → NamedStand p d → OwnsStand p d → (n : ℕ) (w : Workspace) (r : Space) → workspace_of d.spaces n ≡ Some w → space_of p.spaces n ≡ Some r → (c : Cell)
    → seen_above p r.base_version (latest p n) c ≡ option_map held_of (told w.lists.own c)
own_is p d named owns n w r is recorded c =
    own_holds p r.base_version (latest p n) w.lists.base w.lists.own c ((named.tells _ _ _ _ (Newest w is)).holds c) ((owns.covers _ _ _ (Own n w r is recorded)).cells c)

-- and of a savepoint of a workspace that was not rebased since
pub kept_own_is : (p : Parts) (d : Durable) → NamedStand p d → OwnsStand p d → (n making : ℕ) (w : Workspace) (k : Savepoint) (x : Record) → workspace_of d.spaces n ≡ Some w
    → savepoint_made making w.savepoints ≡ Some k → saved_as p n making ≡ Some x → k.rebases ≡ w.rebases → (c : Cell) → seen_above p x.base_version x.version c ≡ option_map held_of (told k.own c)
kept_own_is p d named owns n making w k x is made recorded based c =
    own_holds p x.base_version x.version k.base k.own c ((named.tells _ _ _ _ (Kept making w k x is made recorded)).holds c) ((owns.covers _ _ _ (KeptOwn n making w k x is made recorded based)).cells c)
