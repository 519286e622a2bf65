-- The rows of all stretches, one stretch after another.
use Rattle.std.proofs.Common.{◌≡◌, ℕ, ◌+◌, ◌<◌, ◌≤◌, List, [], ◌∷◌, ◌++◌, map, length, take, get_or, Option, sym, ap, ◌∙◌}
use Rattle.std.proofs.lemmas.Grind.{flat_map-append}
use Rattle.std.proofs.lemmas.List.{append-nil, map-append, take_all, take_more}
use Rattle.std.specs.List.{flat_map}
use Rattle.wm_base.specs.declared.row.Row.{Row}
use Rattle.wm_base.specs.declared.value.Value.{Value}
use Rattle.wm_graph.specs.Parts.{Parts}
use Rattle.wm_pending.specs.Clashes.{AreConflicts, conflict_pair}
use Rattle.wm_pending.specs.declared.clash.Conflict.{Conflict}
use Rattle.wm_spec.specs.declared.record.space.Space.{Space}
use Rattle.wm_spec.specs.declared.record.table.Table.{Table}
use Rattle.wm_view_rows.specs.Conflicts.{IsConflictView, clash_rows}
use Rattle.wm_view_rows.specs.Rows.{SideRows}
use Rattle.wm_conflicts.specs.Shown.{rows_shown}

pub rows_made : (a b c x y z : Option (List Value)) → a ≡ x → b ≡ y → c ≡ z → record { base = a; parent = b; child = c } ≡ (let s : SideRows = record { base = x; parent = y; child = z } in s)
rows_made a b c x y z e f g = λ i. record { base = e i; parent = f i; child = g i }

-- those of conflicts
abbrev pub all_shown : Parts → Space → Space → Table → List Conflict → List Row
all_shown p a b t cs = flat_map (clash_rows p a b t) (map (conflict_pair t.number) cs)

-- those of one conflict more
pub shown_more : (p : Parts) (a b : Space) (t : Table) (cs : List Conflict) (i : ℕ) (c : Conflict) (rows new : List Row) → i < length cs → c ≡ get_or cs i c
    → rows ≡ all_shown p a b t (take i cs) → new ≡ rows ++ rows_shown p t b.name a.name c → new ≡ all_shown p a b t (take (i + 1) cs)
shown_more p a b t cs i c rows new within is so more =
    more
    ∙ ap (λ (l : List Row). l ++ rows_shown p t b.name a.name c) so
    ∙ ap (λ (l : List Row). all_shown p a b t (take i cs) ++ l) (sym (append-nil (rows_shown p t b.name a.name c)))
    ∙ sym (flat_map-append (clash_rows p a b t) (map (conflict_pair t.number) (take i cs)) (conflict_pair t.number c ∷ []))
    ∙ ap (flat_map (clash_rows p a b t)) (sym (map-append (conflict_pair t.number) (take i cs) (c ∷ [])))
    ∙ ap (all_shown p a b t) (ap (λ (x : Conflict). take i cs ++ x ∷ []) is ∙ sym (take_more cs i c within))

-- all of them
pub shown_all : (p : Parts) (a b : Space) (t : Table) (cs : List Conflict) (i : ℕ) (rows : List Row) → length cs ≤ i → AreConflicts p a b t.number cs → rows ≡ all_shown p a b t (take i cs)
    → IsConflictView p a b t rows
shown_all p a b t cs i rows past listed so = record { found = map (conflict_pair t.number) cs; listed = listed; are = so ∙ ap (all_shown p a b t) (take_all i cs past) }
