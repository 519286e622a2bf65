use Rattle.std.proofs.Common.{List, [], ◌∷◌, ◌++◌, map, refl, sym, ap, ◌∙◌}
use Rattle.std.proofs.lemmas.List.{append-nil, map-append}
use Rattle.std.specs.declared.alloc.Global.{Global}
use Rattle.std.specs.declared.vec.Vec.{Vec}
use Rattle.wm_net.specs.Listed.{Stretch}
use Rattle.wm_spec.specs.Lists.{Entry, Told}
use Rattle.wm_state.specs.Editing.{entry_of}
use Rattle.wm_state.specs.declared.edit.NewEntry.{NewEntry}
use Rattle.wm_decided.proofs.Pushed.{copied_none, copied_some, copies_more, entry_read, pushed, shared_of}
use Rattle.wm_decided.specs.Counted.{copies_in, group_in}
use Rattle.wm_decided.specs.Netted.{entry_copied}
use Rattle.wm_decided.proofs.netted.push_copies.Goals.{in-Some+in_ok-copy+in_ok-row_copy+in_ok-copy-2+in_ok-push, in_default}
use Rattle.wm_decided.proofs.netted.push_copies.Goals as goal

pub loop-one-preserved : goal.loop-one-preserved
loop-one-preserved c =
    let g = group_in c.args.key.now in
    let entry = entry_copied c.args.moment c.args.user.now g in
    let from = c.args.piece.now.period.from in
    let till = c.args.piece.now.period.till in
    let place = c.args.piece.now.stamp.number in
    let x = c.one-item.result in
    let view = c.one.view_is in
    let now = map entry_of c.loop-one.entries.items in
    pushed (λ (xs : List (Stretch Told)). map entry (copies_in from till place xs)) c.args.copied.now c.loop-one.one-index x
    (map entry_of c.args.entries.now.items) now (map entry_of c.match-shared.entries.items) (map entry (copies_in from till place (x ∷ [])))
    c.loop-one-test.true c.one-item.is (copies_more from till place entry x)
    (elim c.match-shared.branch [
      | in-Some+in_ok-copy+in_ok-row_copy+in_ok-copy-2+in_ok-push w ↦
          let e : NewEntry = record {
            table = c.args.key.now.0;
            key = w.in_ok-copy.field-0;
            period = w.in-Some.period;
            row = w.in_ok-row_copy.field-0;
            stamp = c.one.inside.stamp;
            kind = c.one.inside.kind;
            moment = c.args.moment;
            user = w.in_ok-copy-2.field-0;
          } in
          ap (λ (v : Vec NewEntry Global). map entry_of v.items) w.entries-is
          ∙ ap (map entry_of) w.in_ok-push.ensures.items
          ∙ map-append entry_of c.loop-one.entries.items (e ∷ [])
          ∙ ap (λ (ys : List Entry). now ++ ys) (
          ap (λ (y : Entry). let none : List Entry = [] in y ∷ none)
          (entry_read c.args.moment c.args.user.now g place x e refl w.in_ok-copy.ensures (w.in_ok-row_copy.ensures ∙ ap (λ (s : Stretch Told). s.value.row) view)
          (ap (λ (s : Stretch Told). s.value.stamp) view) (ap (λ (s : Stretch Told). s.value.kind) view) refl w.in_ok-copy-2.ensures)
          ∙ sym (ap (map entry) (copied_some from till place x w.in-Some.period (ap (shared_of from till) (sym view) ∙ sym c.shared.ensures ∙ w.in-Some.is))))
      | in_default w ↦
          ap (λ (v : Vec NewEntry Global). map entry_of v.items) w.entries-is
          ∙ sym (append-nil now)
          ∙ ap (λ (ys : List Entry). now ++ ys) (sym (ap (map entry) (copied_none from till place x (ap (shared_of from till) (sym view) ∙ sym c.shared.ensures ∙ w.in_default.is))))
    ])
    c.loop-one.invariant
