-- Turns of a workspace and a number.
use Rattle.std.proofs.Common.{◌≡◌, ℕ, eqb, not, List, length, refl, ap, ◌∙◌}
use Rattle.std.specs.List.{list_any}
use Rattle.std.specs.Option.{option_and_then}
use Rattle.wm_chunks.specs.Numbers.{Numbers}
use Rattle.wm_graph.specs.Parts.{parts_of, as_turn}
use Rattle.wm_ids.proofs.IdLists.{nil_told}
use Rattle.wm_index.proofs.Finding.{Tests, found_kind}
use Rattle.wm_index.proofs.Firsts.{any_sought}
use Rattle.wm_index.specs.Indexed.{IsIndexed, ids_at, listed}
use Rattle.wm_index.specs.Sought.{TurnAt, first_of, is_sought}
use Rattle.wm_index.specs.declared.index.Index.{Index}
use Rattle.wm_spec.specs.declared.record.Record.{Record}
use Rattle.wm_spec.specs.declared.record.Record.TheVariants as records
use Rattle.wm_spec.specs.declared.record.stored.Stored.{Stored}
use Rattle.wm_state.specs.Drafts.{is_turn}
use Rattle.wm_state.specs.Standing.{turn_at}

turn_test : (space number : ℕ) → Tests as_turn (is_turn space number) (is_sought (TurnAt space number))
turn_test space number (records.Turn x) = refl
turn_test space number _ = refl

-- there is one where the index has ids of it
pub turn_told : (kept : Numbers Record) (x : Index) → IsIndexed kept x → (ss : List Stored) → listed kept.entries ≡ ss → (space number : ℕ)
    → not (eqb (length (ids_at x (TurnAt space number))) 0) ≡ list_any (is_turn space number) (parts_of ss).turns
unfolding parts_of
turn_told kept x is ss view space number =
    ap not (nil_told (ids_at x (TurnAt space number)))
    ∙ any_sought as_turn (is_turn space number) (TurnAt space number) (turn_test space number) kept x is
    ∙ ap (λ (rs : List Stored). list_any (is_turn space number) (parts_of rs).turns) view

-- the first id of one is that of the turn
pub turn_found : (kept : Numbers Record) (x : Index) → IsIndexed kept x → (space number : ℕ)
    → option_and_then as_turn (first_of (listed kept.entries) (ids_at x (TurnAt space number))) ≡ turn_at (parts_of (listed kept.entries)).turns space number
unfolding parts_of
turn_found kept x is space number = found_kind as_turn (is_turn space number) (TurnAt space number) (turn_test space number) kept x is
