use Rattle.std.proofs.Common.{◌≡◌, ◌/◌, ◌<◌, ◌++◌, [], ◌∷◌, length, Some, sym, ap, subst, ◌∙◌}
use Rattle.std.proofs.lemmas.List.{append-nil}
use Rattle.wm_chunks.proofs.Joining.{none_left, some_left}
use Rattle.wm_chunks.proofs.Newest.{begun_newest, begun_told, moved_chunks, moved_same}
use Rattle.wm_chunks.specs.Numbers.{IsNewest, Sets, joined, value_at}
use Rattle.wm_chunks.proofs.number_map.begin_newest.Goals as goal

-- the one before was empty
pub returns-then-is_empty-clause-sets : goal.returns-then-is_empty-clause-sets
returns-then-is_empty-clause-sets g c =
    let one : c.replace-before.new.dest.entries.items ≡ (c.args.number, c.args.value) ∷ [] =
    ap (λ n. n.entries.items) c.replace-before.ensures.after ∙ c.in_ok-push.ensures.items ∙ ap (λ es. es ++ (c.args.number, c.args.value) ∷ []) c.new-entries.ensures.items in
    let none : c.args.newest.now.entries.items ≡ [] =
    ap (λ n. n.entries.items) (sym c.replace-before.ensures.value) ∙ none_left c.replace-before.result.entries c.is_empty.result c.is_empty.ensures c.if-is_empty.true in
    rw one
    (begun_told c.args.older.now.entries c.args.older.now.entries c.args.newest.now.place c.args.newest.now.entries.items c.args.number c.args.value c.requires.newest c.requires.greater
    (λ q. ap (λ es. value_at es q) (sym (append-nil (joined c.args.older.now.entries)) ∙ ap (λ es. joined c.args.older.now.entries ++ es) (sym none))))

-- it joined the older ones
pub returns-in-Ok-clause-newest : goal.returns-in-Ok-clause-newest
returns-in-Ok-clause-newest g c =
    let one : c.replace-before.new.dest.entries.items ≡ (c.args.number, c.args.value) ∷ [] =
    ap (λ n. n.entries.items) c.replace-before.ensures.after ∙ c.in_ok-push.ensures.items ∙ ap (λ es. es ++ (c.args.number, c.args.value) ∷ []) c.new-entries.ensures.items in
    let place : c.replace-before.new.dest.place ≡ c.args.number / 32 = ap (λ n. n.place) c.replace-before.ensures.after in
    let was : IsNewest c.args.older.now.entries c.replace-before.result.place c.replace-before.result.entries.items =
    subst (λ n. IsNewest c.args.older.now.entries n.place n.entries.items) (sym c.replace-before.ensures.value) c.requires.newest in
    let some : 0 < length c.replace-before.result.entries.items = some_left c.replace-before.result.entries c.is_empty.result c.is_empty.ensures c.if-is_empty.false in
    rw (one, place)
    (begun_newest c.args.older.now.entries c.insert.new.self.entries c.replace-before.result.place c.replace-before.result.entries.items c.args.number c.args.value was
    (subst (λ n. n.place < c.args.number / 32) (sym c.replace-before.ensures.value) c.requires.greater)
    (moved_chunks c.args.older.now.entries c.insert.new.self.entries c.replace-before.result.place c.replace-before.result.entries was c.in-Ok.ensures.ordered some c.in-Ok.ensures.updates.0)
    (moved_same c.args.older.now.entries c.insert.new.self.entries c.replace-before.result.place c.replace-before.result.entries was c.in-Ok.ensures.ordered some c.in-Ok.ensures.updates.0))

pub returns-in-Ok-clause-sets : goal.returns-in-Ok-clause-sets
returns-in-Ok-clause-sets g c =
    let one : c.replace-before.new.dest.entries.items ≡ (c.args.number, c.args.value) ∷ [] =
    ap (λ n. n.entries.items) c.replace-before.ensures.after ∙ c.in_ok-push.ensures.items ∙ ap (λ es. es ++ (c.args.number, c.args.value) ∷ []) c.new-entries.ensures.items in
    let was : IsNewest c.args.older.now.entries c.replace-before.result.place c.replace-before.result.entries.items =
    subst (λ n. IsNewest c.args.older.now.entries n.place n.entries.items) (sym c.replace-before.ensures.value) c.requires.newest in
    let some : 0 < length c.replace-before.result.entries.items = some_left c.replace-before.result.entries c.is_empty.result c.is_empty.ensures c.if-is_empty.false in
    rw one
    (subst (λ n. Sets c.args.number (Some c.args.value) (joined c.args.older.now.entries ++ n.entries.items) (joined c.insert.new.self.entries ++ (c.args.number, c.args.value) ∷ [])) c.replace-before.ensures.value
    (begun_told c.args.older.now.entries c.insert.new.self.entries c.replace-before.result.place c.replace-before.result.entries.items c.args.number c.args.value was
    (subst (λ n. n.place < c.args.number / 32) (sym c.replace-before.ensures.value) c.requires.greater)
    (moved_same c.args.older.now.entries c.insert.new.self.entries c.replace-before.result.place c.replace-before.result.entries was c.in-Ok.ensures.ordered some c.in-Ok.ensures.updates.0)))
