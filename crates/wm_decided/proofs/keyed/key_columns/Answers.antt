use Rattle.std.proofs.Common.{◌≡◌, List, [], ◌∷◌, ◌++◌, get_or, if◌then◌else◌, option_map, slice_get, sym, ap, ◌∙◌, take}
use Rattle.std.proofs.lemmas.List.{append-nil}
use Rattle.std.specs.Option.{option_copied}
use Rattle.std.specs.declared.alloc.Global.{Global}
use Rattle.std.specs.declared.vec.Vec.{Vec}
use Rattle.wm_listing.specs.declared.columns.Column.{Column}
use Rattle.wm_typing.specs.Columns.{declared_column, valid_column}
use Rattle.wm_decided.proofs.KeyColumns.{declared_at, key_none, key_some, keys_more}
use Rattle.wm_decided.proofs.keyed.key_columns.Goals.{in-Some+in_ok-copy+in_ok-push, in_default}
use Rattle.wm_decided.proofs.keyed.key_columns.Goals as goal

pub loop-place-preserved : goal.loop-place-preserved
loop-place-preserved c =
    let t = c.args.table.now in
    let act = declared_column c.args.source.now in
    let place = get_or c.as_slice-place-items.result.now c.loop-place.place-index 0 in
    let now = c.loop-place.columns.items in
    let more : List Column = if t.valid then valid_column c.args.source.now ∷ [] else [] in
    let looked : option_map act (slice_get t.columns place) ≡ option_copied c.column_at.result =
    sym (c.column_at.ensures ∙ ap (λ (cs : List Column). slice_get (take c.len.result cs) place) (c.as_slice.ensures ∙ c.in_ok-all.ensures)
    ∙ declared_at act t.columns more c.len.result place c.len.ensures) in
    keys_more t.columns act c.as_slice-place-items.result.now c.loop-place.place-index now c.match-column_at.columns.items c.loop-place-test.true
    (elim c.match-column_at.branch [
      | in-Some+in_ok-copy+in_ok-push w ↦
          ap (λ (v : Vec Column Global). v.items) w.columns-is
          ∙ w.in_ok-push.ensures.items
          ∙ ap (λ (x : Column). now ++ x ∷ []) w.in_ok-copy.ensures
          ∙ ap (λ (xs : List Column). now ++ xs) (sym (key_some t.columns act place w.in-Some.column.now (looked ∙ ap option_copied w.in-Some.is)))
      | in_default w ↦
          ap (λ (v : Vec Column Global). v.items) w.columns-is
          ∙ sym (append-nil now)
          ∙ ap (λ (xs : List Column). now ++ xs) (sym (key_none t.columns act place (looked ∙ ap option_copied w.in_default.is)))
    ])
    c.loop-place.invariant
