use Rattle.std.proofs.Common.{◌≡◌, ◌++◌, ◌∷◌, [], ℕ, List, Bool, false, not, refl, ap, ◌∙◌, append_assoc}
use Rattle.std.proofs.lemmas.List.Elements.{filter_agree}
use Rattle.std.proofs.lemmas.Result.{on_ok_weaker}
use Rattle.std.specs.BTreeMap.{is_at}
use Rattle.std.specs.BTreeSet.{contains}
use Rattle.std.specs.List.{filter, list_any}
use Rattle.std.specs.Ordering.{nat_cmp}
use Rattle.wm_spec.specs.declared.record.batch.Change.{Change}
use Rattle.wm_state.specs.Drafts.{followed_by, is_change_of}
use Rattle.wm_draft.proofs.followed.push_both.Goals as goal

-- where no id is found each change stays
all_stay : (finds : ℕ → Bool) (cs : List Change) → ((id : ℕ) → finds id ≡ false) → filter (λ (c : Change). not (finds c.id)) cs ≡ cs
all_stay finds [] none = refl
all_stay finds (c ∷ cs) none = rw (none c.id) (ap (λ ds. c ∷ ds) (all_stay finds cs none))

-- those of other ids are behind those of before, and then come the later ones
both_behind : (taken none : ℕ → Bool) (old front all changes first later last : List Change) → ((id : ℕ) → taken id ≡ list_any (is_change_of id) later) → ((id : ℕ) → none id ≡ false) → first ≡ changes → last ≡ later
    → front ≡ old ++ filter (λ (c : Change). not (taken c.id)) first → all ≡ front ++ filter (λ (c : Change). not (none c.id)) last → all ≡ old ++ followed_by changes later
both_behind taken none old front all changes first later last ids nothing begins ends fronts alls =
    alls ∙ ap (λ xs. xs ++ filter (λ (c : Change). not (none c.id)) last) (fronts ∙ ap (λ xs. old ++ xs) (filter_agree (λ (c : Change). not (taken c.id)) (λ (c : Change). not (list_any (is_change_of c.id) later)) (λ c. ap not (ids c.id)) first ∙ ap (filter (λ (c : Change). not (list_any (is_change_of c.id) later))) begins))
    ∙ ap (λ xs. old ++ filter (λ (c : Change). not (list_any (is_change_of c.id) later)) changes ++ xs) (all_stay none last nothing ∙ ends)
    ∙ append_assoc old (filter (λ (c : Change). not (list_any (is_change_of c.id) later)) changes) later

pub returns-in-Ok-pushed : goal.returns-in-Ok-pushed
returns-in-Ok-pushed c =
    on_ok_weaker c.push_others.result
    (both_behind (contains nat_cmp c.in-Ok.ids) (contains nat_cmp c.new.result) _ _ _ _ _ _ _ (λ id. c.in-Ok.ensures id ∙ ap (λ cs. list_any (is_change_of id) cs) c.as_slice.ensures) (λ id. ap (list_any (is_at (nat_cmp id))) c.new.ensures.empty) c.into_vec.ensures c.into_vec-in-Ok-pushed.ensures c.in-Ok-pushed.ensures)
    c.push_others.ensures
