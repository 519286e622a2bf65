-- Edits that are drafted one after the other.
use Rattle.std.proofs.Common.{◌≡◌, ◌<◌, ◌≤◌, ◌+◌, ◌-◌, ◌==◌, ℕ, suc, true, false, List, [], ◌∷◌, ◌++◌, length, vec_len, refl, sym, ap, subst, ◌∙◌, append_assoc, append-nil, arith}
use Rattle.std.proofs.lemmas.Bool.{eqb-false, or_parts}
use Rattle.wm_graph.specs.Parts.{parts_of}
use Rattle.wm_spec.specs.declared.record.batch.Change.{Change}
use Rattle.wm_spec.specs.declared.record.stored.Stored.{Stored}
use Rattle.std.specs.List.{list_any}
use Rattle.std.specs.declared.alloc.Global.{Global}
use Rattle.std.specs.declared.vec.Vec.{Vec}
use Rattle.wm_graph.specs.Rules.{keep_rules}
use Rattle.wm_prices.proofs.Spending.{spends_more}
use Rattle.wm_prices.specs.Prices.{Costs, Spends}
use Rattle.wm_state.proofs.Batches.{Ascend-applied}
use Rattle.wm_state.proofs.ById.{one_order}
use Rattle.wm_state.proofs.Drafted.{drafts_nothing}
use Rattle.wm_state.proofs.DraftedMore.{drafts_followed, work_first, work_left}
use Rattle.wm_state.proofs.Following.{applied_followed, applied_same}
use Rattle.wm_state.proofs.RowsStay.{AwayFrom, stays}
use Rattle.wm_state.specs.ById.{Ascend, applied}
use Rattle.wm_state.specs.Drafts.{CanDraft, CanEdit, CanEditAll, CanWork, Drafts, DraftsBy, edit_limit, followed_by, is_change_of}
use Rattle.wm_state.specs.Editing.{locks_by, locks_in, work_of}
use Rattle.wm_state.specs.declared.edit.Edit.{Edit}

-- an edit and those behind it that are done are drafted by changes of two lists, those of the last one in the second; of the work of all
-- there is left 1 for each edit that is left, and one for each lock that it makes; the records have become what the first list makes of
-- them, and what is left can be made of what both make of them
pub record AreDrafting (rs : List Stored) (m whole : ℕ) (e : Edit) (done left : List Edit) (front last : List Change) (now : List Stored) : Type 0 where
  pub work : ℕ
  pub some : 0 < work
  pub all : work + (length left + locks_in left) ≡ whole
  pub is : now ≡ applied front rs
  pub drafts : DraftsBy work rs m (e ∷ done) (followed_by front last)
  pub can : CanEditAll (applied (followed_by front last) rs) m left

-- the first edit is drafted
pub drafting_first : (rs : List Stored) (m whole work : ℕ) (e : Edit) (left : List Edit) (last : List Change) → 0 < work → work + (length left + locks_in left) ≡ whole → CanEditAll rs m (e ∷ left) → DraftsBy work rs m (e ∷ []) last
    → AreDrafting rs m whole e [] left [] last rs
drafting_first rs m whole work e left last some all can drafts = record { work = work; some = some; all = all; is = refl; drafts = drafts; can = can.1 work last drafts }

-- what the records become for the next one
goes_on : (rs : List Stored) (front last : List Change) (now next : List Stored) → Ascend rs → now ≡ applied front rs → next ≡ applied last now → next ≡ applied (followed_by front last) rs
goes_on rs front last now next sorted is becomes = becomes ∙ ap (applied last) is ∙ sym (applied_followed rs front last sorted)

-- there is room for its work
pub room_next : (rs : List Stored) (m whole : ℕ) (e x : Edit) (done left : List Edit) (front last : List Change) (now next : List Stored) → Ascend rs → CanWork (parts_of rs) m whole
    → AreDrafting rs m whole e done (x ∷ left) front last now → next ≡ applied last now → CanWork (parts_of next) m (1 + locks_by x)
room_next rs m whole e x done left front last now next sorted room d becomes =
    subst (λ ss. CanWork (parts_of ss) m (1 + locks_by x)) (sym (goes_on rs front last now next sorted d.is becomes))
    (work_left (parts_of rs) (parts_of (applied (followed_by front last) rs)) m d.work (1 + locks_by x)
    (work_first (parts_of rs) m (d.work + (1 + locks_by x)) (length left + locks_in left)
    (subst (CanWork (parts_of rs) m) (splits d.work (length left) (locks_by x) (locks_in left) d.all) room)
    (some_more d.work (locks_by x)))
    (some_work (locks_by x)) (d.drafts.counted some))
  where
    some : (e ∷ done) ≡ [] → ⊥
    some h = cc

    some_work : (k : ℕ) → 0 < 1 + k
    some_work k = omega arith

    some_more : (k l : ℕ) → 0 < k + (1 + l)
    some_more k l = omega arith

    splits : (k l b n : ℕ) → k + (suc l + (b + n)) ≡ whole → whole ≡ k + (1 + b) + (l + n)
    splits k l b n h = omega (arith, h)

-- the rules stay kept before it
pub rules_next : (rs : List Stored) (m whole : ℕ) (e : Edit) (done left : List Edit) (front last : List Change) (now next : List Stored) → Ascend rs → AreDrafting rs m whole e done left front last now → next ≡ applied last now → keep_rules (parts_of next) ≡ true
rules_next rs m whole e done left front last now next sorted d becomes =
    subst (λ ss. keep_rules (parts_of ss) ≡ true) (sym (goes_on rs front last now next sorted d.is becomes)) d.drafts.keeps

-- and it can be made
pub can_next : (rs : List Stored) (m whole : ℕ) (e x : Edit) (done left : List Edit) (front last : List Change) (now next : List Stored) → Ascend rs → AreDrafting rs m whole e done (x ∷ left) front last now
    → next ≡ applied last now → CanEdit (parts_of next) m x
can_next rs m whole e x done left front last now next sorted d becomes = subst (λ ss. CanEdit (parts_of ss) m x) (sym (goes_on rs front last now next sorted d.is becomes)) d.can.0

-- the next one is drafted
pub drafting_next : (rs : List Stored) (m whole : ℕ) (e x : Edit) (done left : List Edit) (front last both newest : List Change) (now next : List Stored) → Ascend rs → AreDrafting rs m whole e done (x ∷ left) front last now
    → next ≡ applied last now → both ≡ followed_by front last → DraftsBy (1 + locks_by x) next m (x ∷ []) newest → AreDrafting rs m whole e (done ++ x ∷ []) left both newest next
drafting_next rs m whole e x done left front last both newest now next sorted d becomes are drafts =
    subst (λ cs. AreDrafting rs m whole e (done ++ x ∷ []) left cs newest next) (sym are)
    (record {
      work = d.work + (1 + locks_by x);
      some = some_more d.work (locks_by x);
      all = all d.work (length left) (locks_by x) (locks_in left) d.all;
      is = onward;
      drafts = drafts_followed rs d.work (1 + locks_by x) m x (e ∷ done) [] (followed_by front last) newest sorted d.drafts some there;
      can = subst (λ ss. CanEditAll ss m left) (sym (applied_followed rs (followed_by front last) newest sorted)) (d.can.1 (1 + locks_by x) newest there);
    })
  where
    onward : next ≡ applied (followed_by front last) rs
    onward = goes_on rs front last now next sorted d.is becomes

    there : DraftsBy (1 + locks_by x) (applied (followed_by front last) rs) m (x ∷ []) newest
    there = subst (λ ss. DraftsBy (1 + locks_by x) ss m (x ∷ []) newest) onward drafts

    some : (e ∷ done) ≡ [] → ⊥
    some h = cc

    some_more : (k l : ℕ) → 0 < k + (1 + l)
    some_more k l = omega arith

    all : (k l b n : ℕ) → k + (suc l + (b + n)) ≡ whole → k + (1 + b) + (l + n) ≡ whole
    all k l b n h = omega (arith, h)

-- ---- in the end

-- all are drafted
pub drafted_all : (rs : List Stored) (m : ℕ) (e : Edit) (done edits : List Edit) (front last all : List Change) (now : List Stored) → AreDrafting rs m (work_of edits) e done [] front last now → edits ≡ e ∷ done → all ≡ followed_by front last
    → Drafts rs m edits all
drafted_all rs m e done edits front last all now d are is =
    subst (λ k. DraftsBy k rs m edits all) (whole d.work (work_of edits) d.all)
    (subst (λ es. DraftsBy d.work rs m es all) (sym are) (subst (DraftsBy d.work rs m (e ∷ done)) (sym is) d.drafts))
  where
    whole : (k n : ℕ) → k + 0 ≡ n → k ≡ n
    whole k n h = omega (arith, h)

-- changes are away from an id that they do not change
away : (id : ℕ) (cs : List Change) → list_any (is_change_of id) cs ≡ false → AwayFrom id cs
away id [] none = tt
away id (c ∷ cs) none = let h = or_parts (c.id == id) (list_any (is_change_of id) cs) none in (eqb-false c.id id h.0, away id cs h.1)

-- changes that are made once more make nothing of the records
again : (rs : List Stored) (cs : List Change) → Ascend rs → applied cs (applied cs rs) ≡ applied cs rs
again rs cs sorted =
    one_order (applied cs (applied cs rs)) (applied cs rs) (Ascend-applied cs (applied cs rs) first) first
    (λ id. applied_same cs id (applied cs rs) rs first sorted (λ none. stays cs rs id (away id cs none)))
  where
    first : Ascend (applied cs rs)
    first = Ascend-applied cs rs sorted

-- the changes make of what the records have become what they make of the records
pub rest_is : (rs : List Stored) (m whole : ℕ) (e : Edit) (done left : List Edit) (front last all : List Change) (now : List Stored) → Ascend rs → AreDrafting rs m whole e done left front last now → all ≡ followed_by front last
    → applied all now ≡ applied all rs
rest_is rs m whole e done left front last all now sorted d is =
    subst (λ cs. applied cs now ≡ applied cs rs) (sym is)
    (ap (applied (followed_by front last)) d.is ∙ applied_followed (applied front rs) front last (Ascend-applied front rs sorted) ∙ ap (applied last) (again rs front sorted) ∙ sym (applied_followed rs front last sorted))

-- ---- a list of edits that is gone through

-- its first edit and those that were yielded are drafted
pub record Goes (rs : List Stored) (m : ℕ) (edits yielded left : List Edit) (count : ℕ) (front last : List Change) (now : List Stored) : Type 0 where
  pub first : Edit
  pub drafting : AreDrafting rs m (work_of edits) first yielded left front last now
  pub all : edits ≡ first ∷ (yielded ++ left)
  pub counted : count ≡ length left
  pub still : yielded ≡ [] → front ≡ []
  pub spends : Spends m rs (first ∷ yielded) (applied last now)

-- what is asked of a list that has a first edit
pub asked_some : (rs : List Stored) (m : ℕ) (edits left : List Edit) (e : Edit) → CanDraft rs m edits → edits ≡ e ∷ left → CanWork (parts_of rs) m (work_of (e ∷ left)) × (length (e ∷ left) ≤ edit_limit) × CanEditAll rs m (e ∷ left)
asked_some rs m edits left e can is = subst (CanDraft rs m) is can

-- the work of the first one, and what is left to the others
first_work : (work count many b n : ℕ) → work ≡ 4096 - count + b → count ≡ many → suc many ≤ 2048 → (0 < work) × (b + n + 4096 ≡ work + (many + n))
first_work work count many b n is same few = (omega (arith, is, same, few), omega (arith, is, same, few))

-- the first one is drafted
pub goes_first : (rs : List Stored) (m work left_count : ℕ) (edits left : List Edit) (e : Edit) (front last : List Change) → CanDraft rs m edits → edits ≡ e ∷ left → left_count ≡ length left → work ≡ 4096 - left_count + locks_by e
    → DraftsBy work rs m (e ∷ []) last → Costs rs e (applied last rs) → front ≡ [] → Goes rs m edits [] left left_count front last rs
goes_first rs m work left_count edits left e front last can is left_many works drafts costs none =
    subst (λ cs. Goes rs m edits [] left left_count cs last rs) (sym none)
    (record {
      first = e;
      drafting = drafting_first rs m (work_of edits) work e left last h.0 (sym (ap work_of is ∙ h.1)) asked.2 drafts;
      all = is;
      counted = left_many;
      still = λ none. refl;
      spends = record { next = applied last rs; spent = record { work = work; changes = last; drafts = drafts; is = refl; costs = costs }; rest = refl };
    })
  where
    asked : CanWork (parts_of rs) m (work_of (e ∷ left)) × (length (e ∷ left) ≤ edit_limit) × CanEditAll rs m (e ∷ left)
    asked = asked_some rs m edits left e can is

    h : (0 < work) × (locks_by e + locks_in left + 4096 ≡ work + (length left + locks_in left))
    h = first_work work left_count (length left) (locks_by e) (locks_in left) works left_many asked.1

-- the rules are kept before the next one
pub goes_rules : (rs : List Stored) (m count : ℕ) (edits yielded left : List Edit) (front last : List Change) (now next : List Stored) → Ascend rs → Goes rs m edits yielded left count front last now → next ≡ applied last now
    → keep_rules (parts_of next) ≡ true
goes_rules rs m count edits yielded left front last now next sorted g becomes = rules_next rs m (work_of edits) g.first yielded left front last now next sorted g.drafting becomes

-- there is room for its work
pub goes_room : (rs : List Stored) (m count : ℕ) (edits yielded old left : List Edit) (x : Edit) (front last : List Change) (now next : List Stored) → Ascend rs → CanDraft rs m edits → Goes rs m edits yielded old count front last now
    → old ≡ x ∷ left → next ≡ applied last now → CanWork (parts_of next) m (1 + locks_by x)
goes_room rs m count edits yielded old left x front last now next sorted can g is becomes =
    room_next rs m (work_of edits) g.first x yielded left front last now next sorted
    (subst (λ k. CanWork (parts_of rs) m k) (sym (ap work_of g.all)) (asked_some rs m edits (yielded ++ old) g.first can g.all).0)
    (subst (λ es. AreDrafting rs m (work_of edits) g.first yielded es front last now) is g.drafting) becomes

-- and it can be made
pub goes_can : (rs : List Stored) (m count : ℕ) (edits yielded old left : List Edit) (x : Edit) (front last : List Change) (now next : List Stored) → Ascend rs → Goes rs m edits yielded old count front last now → old ≡ x ∷ left
    → next ≡ applied last now → CanEdit (parts_of next) m x
goes_can rs m count edits yielded old left x front last now next sorted g is becomes =
    can_next rs m (work_of edits) g.first x yielded left front last now next sorted (subst (λ es. AreDrafting rs m (work_of edits) g.first yielded es front last now) is g.drafting) becomes

-- it is drafted
pub goes_next : (rs : List Stored) (m count fewer : ℕ) (edits yielded old left : List Edit) (x : Edit) (front last both newest : List Change) (now next : List Stored) → Ascend rs → Goes rs m edits yielded old count front last now
    → old ≡ x ∷ left → fewer + 1 ≡ count → next ≡ applied last now → both ≡ followed_by front last → DraftsBy (1 + locks_by x) next m (x ∷ []) newest → Costs next x (applied newest next)
    → Goes rs m edits (yielded ++ x ∷ []) left fewer both newest next
goes_next rs m count fewer edits yielded old left x front last both newest now next sorted g is one becomes are drafts costs = record {
  first = g.first;
  drafting = drafting_next rs m (work_of edits) g.first x yielded left front last both newest now next sorted (subst (λ es. AreDrafting rs m (work_of edits) g.first yielded es front last now) is g.drafting) becomes are drafts;
  all = g.all ∙ ap (λ es. g.first ∷ (yielded ++ es)) is ∙ ap (λ es. g.first ∷ es) (sym (append_assoc yielded (x ∷ []) left));
  counted = less fewer count (length left) one (g.counted ∙ ap length is);
  still = λ none. absurd (some yielded none);
  spends = spends_more m rs next (applied newest next) (g.first ∷ yielded) x (subst (λ (ss : List Stored). Spends m rs (g.first ∷ yielded) ss) (sym becomes) g.spends)
      (record { work = 1 + locks_by x; changes = newest; drafts = drafts; is = refl; costs = costs });
}
  where
    less : (c n l : ℕ) → c + 1 ≡ n → n ≡ suc l → c ≡ l
    less c n l one many = omega (arith, one, many)

    some : (ys : List Edit) → ys ++ x ∷ [] ≡ [] → ⊥
    some [] h = cc
    some (y ∷ ys) h = cc

-- and in the end all are
pub goes_drafts : (rs : List Stored) (m count : ℕ) (edits yielded left : List Edit) (front last all : List Change) (now : List Stored) → Goes rs m edits yielded left count front last now → count ≡ 0 → all ≡ followed_by front last → Drafts rs m edits all
goes_drafts rs m count edits yielded left front last all now g none is = by_left left (sym g.counted ∙ none) g.drafting g.all
  where
    by_left : (es : List Edit) → length es ≡ 0 → AreDrafting rs m (work_of edits) g.first yielded es front last now → edits ≡ g.first ∷ (yielded ++ es) → Drafts rs m edits all
    by_left [] zero d are = drafted_all rs m g.first yielded edits front last all now d (are ∙ ap (λ es. g.first ∷ es) (append-nil yielded)) is
    by_left (x ∷ es) more d are = absurd (omega (arith, more))

pub goes_rest : (rs : List Stored) (m count : ℕ) (edits yielded left : List Edit) (front last all : List Change) (now : List Stored) → Ascend rs → Goes rs m edits yielded left count front last now → all ≡ followed_by front last
    → applied all now ≡ applied all rs
goes_rest rs m count edits yielded left front last all now sorted g is = rest_is rs m (work_of edits) g.first yielded left front last all now sorted g.drafting is

-- each at its price
pub goes_spends : (rs : List Stored) (m count : ℕ) (edits yielded left : List Edit) (front last all : List Change) (now : List Stored) → Ascend rs → Goes rs m edits yielded left count front last now → count ≡ 0 → all ≡ followed_by front last
    → Spends m rs edits (applied all rs)
goes_spends rs m count edits yielded left front last all now sorted g none is =
    subst (λ (es : List Edit). Spends m rs es (applied all rs)) (sym (whole left (sym g.counted ∙ none) g.all))
    (subst (Spends m rs (g.first ∷ yielded)) (goes_on rs front last now (applied last now) sorted g.drafting.is refl ∙ ap (λ cs. applied cs rs) (sym is)) g.spends)
  where
    whole : (es : List Edit) → length es ≡ 0 → edits ≡ g.first ∷ (yielded ++ es) → edits ≡ g.first ∷ yielded
    whole [] zero are = are ∙ ap (λ es. g.first ∷ es) (append-nil yielded)
    whole (x ∷ es) more are = absurd (omega (arith, more))

-- where there is one edit alone the records are as they were
pub goes_still : (rs : List Stored) (m count : ℕ) (edits yielded left : List Edit) (front last : List Change) (now : List Stored) → Goes rs m edits yielded left count front last now → length edits ≤ 1 → now ≡ rs
goes_still rs m count edits yielded left front last now g one = g.drafting.is ∙ ap (λ cs. applied cs rs) (g.still (none yielded g.all))
  where
    too_many : (n : ℕ) → suc (suc n) ≤ 1 → ⊥
    too_many n h = omega (arith, h)

    none : (ys : List Edit) → edits ≡ g.first ∷ (ys ++ left) → ys ≡ []
    none [] is = refl
    none (y ∷ ys) is = absurd (too_many (length (ys ++ left)) (subst (λ (es : List Edit). length es ≤ 1) is one))

-- a list without a first edit
pub goes_none : (rs : List Stored) (m : ℕ) (edits : List Edit) (changes : List Change) → keep_rules (parts_of rs) ≡ true → edits ≡ [] → changes ≡ [] → Drafts rs m edits changes
goes_none rs m edits changes rules none is = subst (λ es. Drafts rs m es changes) (sym none) (subst (Drafts rs m []) (sym is) (drafts_nothing rs m rules))

-- and it costs nothing
pub none_spends : (rs : List Stored) (m : ℕ) (edits : List Edit) (changes : List Change) → edits ≡ [] → changes ≡ [] → Spends m rs edits (applied changes rs)
none_spends rs m edits changes none is = subst (λ (es : List Edit). Spends m rs es (applied changes rs)) (sym none) (ap (λ cs. applied cs rs) is)

-- as many are left as are told
pub many_left : (n k : ℕ) (v : Vec Edit Global) (e : Edit) (left : List Edit) → v.items ≡ e ∷ left → n + 1 ≡ k → k ≡ vec_len v → n ≡ length left
many_left n k v e left is one many = so (length v.items) (length left) (ap length is) (omega (arith, many))
  where
    so : (a l : ℕ) → a ≡ suc l → k ≡ a → n ≡ l
    so a l more same = omega (arith, more, same, one)

-- what has no length has no items
pub no_edits : (v : Vec Edit Global) → vec_len v ≡ 0 → v.items ≡ []
no_edits v none = none_of v.items (omega (arith, none))
  where
    none_of : (es : List Edit) → length es ≡ 0 → es ≡ []
    none_of [] e = refl
    none_of (e ∷ es) h = absurd (omega (arith, h))
