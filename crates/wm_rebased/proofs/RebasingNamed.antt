-- What records name tells what it told once a workspace was rebased: the new version tells what the parent's newest one tells, with the
-- workspace's own over it, and its path leads up from there.
use Rattle.std.proofs.Common.{◌≡◌, ◌≢◌, ℕ, ◌+◌, ◌≤◌, Bool, true, false, if◌then◌else◌, List, [], ◌++◌, Option, Some, None, refl, sym, ap, subst, ◌∙◌, ◌⊎◌, inl, inr, arith}
use Rattle.std.proofs.lemmas.Bool.{cases_eq}
use Rattle.std.proofs.lemmas.Option.{same_Some}
use Rattle.std.specs.List.{list_all}
use Rattle.std.specs.Option.{option_map, option_or}
use Rattle.wm_graph.specs.Parts.{Parts, row_of, space_of}
use Rattle.wm_graph.specs.Rules.{keep_rules}
use Rattle.wm_spec.proofs.Lists.{told-append}
use Rattle.wm_spec.specs.Lists.{Cell, Entry, Told, told}
use Rattle.wm_spec.specs.declared.record.piece.PieceRecord.{PieceRecord}
use Rattle.wm_spec.specs.declared.record.row.RowRecord.{RowRecord}
use Rattle.wm_spec.specs.declared.record.savepoint.Savepoint.{Savepoint as Record}
use Rattle.wm_spec.specs.declared.record.space.Space.{Space}
use Rattle.wm_tree.specs.declared.version.Version.{Version as Node}
use Rattle.wm_state.specs.State.{Durable, Savepoint, Turn, Workspace, content, savepoint_made, turn_of, with_space, workspace_of}
use Rattle.wm_state.specs.Standing.{Base, Birth, Covers, HasRows, Kept, KeptBase, KeptOwn, Names, NamedStand, Newest, Own, Owns, OwnsStand, SpacesStand, Tells, TurnsStand, Up, has_ends, held_of, latest, newest_first, owned, saved_as, seen, stored_at}
use Rattle.wm_state.proofs.Climbing.{first-sprout, ordered_of}
use Rattle.wm_state.proofs.FirstIn.{first-itself}
use Rattle.wm_state.proofs.Frames.{KeepRows, HasRows-kept}
use Rattle.wm_state.proofs.Keeping.{KeepRows-same}
use Rattle.wm_state.proofs.Named.{version_below}
use Rattle.wm_state.proofs.Naming.{Carries, Covers-as, Named-as, NamedStand-kept, Owned-as, OwnsStand-kept, Stays, Tells-as, WasNamed, carries-more, climbs_kept, named_of, own_there, there_of}
use Rattle.wm_rebased.specs.Rebasing.{IsRebase, RebasedTo, node_on}
use Rattle.wm_rebased.proofs.RebasingEnds.{ends_own}
use Rattle.wm_rebased.proofs.RebasingFields.{WasRebased, WasSpace, base_away, base_here, before, found_away, found_here, new_here, old_here, same_parent, slice_get-front, space_before, turn_before, turn_new}
use Rattle.wm_rebased.proofs.RebasingGrown.{covers-graft, covers-old, newest-graft, newest-old, seen-graft, seen-old}
use Rattle.wm_state.proofs.Owning.{own_is}
use Rattle.wm_state.specs.Editing.{rebased, turn_on}
use Rattle.wm_written.proofs.WritingNamed.{map-or}

-- what a workspace has of its own once it is rebased
abbrev pub own_left : Bool → Workspace → List Entry
own_left emptied w = if emptied then [] else w.lists.own

-- the rows of entries over others are there, where those of each are
rows_over : (p : Parts) (under own whole : List Entry) → HasRows p under → HasRows p whole → ((c : Cell) (x : Told) → told own c ≡ Some x → told whole c ≡ Some x) → HasRows p (under ++ own)
rows_over p under own whole lower upper same c t row is has = by_own (told own c) refl
  where
    by_own : (o : Option Told) → told own c ≡ o → option_map (λ (r : RowRecord). r.values) (row_of p.rows t.stamp) ≡ Some row.values
    by_own None none = lower c t row (sym (told-append under own c ∙ ap (λ o. option_or o (told under c)) none) ∙ is) has
    by_own (Some x) some = upper c t row (same c x some ∙ sym (told-append under own c ∙ ap (λ o. option_or o (told under c)) some) ∙ is) has

module _ (p q : Parts) (s t : Durable) (n number : ℕ) (emptied : Bool) (a b : Space) (news : List PieceRecord) (w pw : Workspace) (v : RebasedTo p q n number emptied a b news) (g : IsRebase s n w pw) (rules : keep_rules p ≡ true)
    (there : SpacesStand p s) (named : NamedStand p s) (owns : OwnsStand p s) (turns : TurnsStand p s) (spaces : t.spaces ≡ with_space n (rebased emptied pw) s.spaces) where
  was : (m : ℕ) (new : Workspace) → workspace_of t.spaces m ≡ Some new → WasRebased n emptied pw s.spaces m new
  was m new is = before p q s t n number emptied a b news w pw v g there spaces m new is

  it : (m : ℕ) (old : Workspace) → workspace_of s.spaces m ≡ Some old → m ≡ n → old ≡ w
  it m old is here = old_here p q s t n number emptied a b news w pw v g there spaces m old is here

  now : (m : ℕ) (new : Workspace) → workspace_of t.spaces m ≡ Some new → m ≡ n → new ≡ rebased emptied pw w
  now m new is here = new_here p q s t n number emptied a b news w pw v g there spaces m new is here

  was_space : (m : ℕ) (new : Space) → space_of q.spaces m ≡ Some new → WasSpace p n (latest p a.parent) m new
  was_space m new is = space_before p q s t n number emptied a b news w pw v g there spaces m new is

  base_is : (m : ℕ) (new : Space) → m ≡ n → WasSpace p n (latest p a.parent) m new → new.base_version ≡ latest p a.parent
  base_is m new here z = base_here p q s t n number emptied a b news w pw v g there spaces m new here z

  base_was : (m : ℕ) (new : Space) → m ≢ n → (z : WasSpace p n (latest p a.parent) m new) → new.base_version ≡ z.old.base_version
  base_was m new away z = base_away p q s t n number emptied a b news w pw v g there spaces m new away z

  it_found : workspace_of t.spaces n ≡ Some (rebased emptied pw w)
  it_found = found_here p q s t n number emptied a b news w pw v g there spaces

  parent_is : a.parent ≡ w.parent
  parent_is = same_parent p q s t n number emptied a b news w pw v g there spaces

  new_turn : turn_of (rebased emptied pw w) (w.rebases + 1) ≡ Some (turn_on pw)
  new_turn = turn_new p q s t n number emptied a b news w pw v g there spaces turns

  saved_before : (m at : ℕ) (y : Record) → saved_as q m at ≡ Some y → saved_as p m at ≡ Some y
  saved_before m at y saved = ap (λ (z : Parts). saved_as z m at) (sym v.rest) ∙ saved

  -- a turn that was taken before
  turn_was : (m : ℕ) (new : Workspace) (is : workspace_of t.spaces m ≡ Some new) (y : WasRebased n emptied pw s.spaces m new) (k : ℕ) (x : Turn) → (m ≡ n → k ≤ w.rebases) → turn_of new k ≡ Some x → turn_of y.old k ≡ Some x
  turn_was m new is y k x le taken = by_how y.how
    where
      by_how : ((m ≡ n) × (new ≡ rebased emptied pw y.old)) ⊎ ((m ≢ n) × (new ≡ y.old)) → turn_of y.old k ≡ Some x
      by_how (inl h) =
          ap (λ (o : Workspace). turn_of o k) (it m y.old y.is h.0)
          ∙ sym (turn_before p q s t n number emptied a b news w pw v g there spaces turns k (le h.0))
          ∙ ap (λ (o : Workspace). turn_of o k) (sym (now m new is h.0))
          ∙ taken
      by_how (inr h) = ap (λ (o : Workspace). turn_of o k) (sym h.1) ∙ taken

  past_was : (m at : ℕ) (new : Workspace) (j : Savepoint) (y : WasRebased n emptied pw s.spaces m new) → savepoint_made at new.savepoints ≡ Some j → j.rebases ≤ y.old.rebases
  past_was m at new j y made = owns.past m at y.old j y.is (rw (sym y.savepoints) made)

  past_it : (m at : ℕ) (new : Workspace) (j : Savepoint) (y : WasRebased n emptied pw s.spaces m new) → savepoint_made at new.savepoints ≡ Some j → m ≡ n → j.rebases ≤ w.rebases
  past_it m at new j y made here = subst (λ (o : Workspace). j.rebases ≤ o.rebases) (it m y.old y.is here) (past_was m at new j y made)

  -- ---- the new version

  abbrev node : Node
  node = node_on p n number a

  abbrev own : List Entry
  own = own_left emptied w

  -- what is written into it is what the workspace has of its own
  own_of_next : (c : Cell) → stored_at news number c ≡ option_map held_of (told own c)
  own_of_next c = v.held c ∙ by_emptied emptied
    where
      by_emptied : (d : Bool) → (if d then None else owned p a.base_version n c) ≡ option_map held_of (told (own_left d w) c)
      by_emptied true = refl
      by_emptied false = own_is p s named owns n w a g.found v.old c

  ends_next : list_all (λ (y : PieceRecord). has_ends own y.cells) news ≡ true
  ends_next = ends_own number news own own_of_next news v.ends

  parent_name : Names p s (latest p a.parent) w.parent pw.rebases (content pw)
  parent_name = Named-as p s _ _ _ _ _ _ _ _ (ap (latest p) parent_is) refl refl refl (Newest pw g.parent)

  -- ---- what is named

  rows : KeepRows p q
  rows = KeepRows-same p q (ap (λ (z : Parts). z.rows) v.rest)

  stays : (m : ℕ) (old : Workspace) → workspace_of s.spaces m ≡ Some old → Stays t.spaces m old
  stays m old is = by_number (cases_eq m n)
    where
      by_number : (m ≡ n) ⊎ (m ≢ n) → Stays t.spaces m old
      by_number (inl here) =
          let same = it m old is here in
          record {
            new = rebased emptied pw w;
            is = ap (workspace_of t.spaces) here ∙ it_found;
            parent = ap (λ (o : Workspace). o.parent) (sym same);
            turns = λ r x turn. slice_get-front w.turns (turn_on pw) r x (ap (λ (o : Workspace). turn_of o r) (sym same) ∙ turn);
          }
      by_number (inr away) = record { new = old; is = found_away p q s t n number emptied a b news w pw v g there spaces m away ∙ is; parent = refl; turns = λ r x turn. turn }

  carries : Carries p q s.spaces t.spaces
  carries = carries-more p q s.spaces t.spaces node rules v.grafted.versions v.grafted.below (λ u c lt. seen-old p q node news v.grafted u c lt) stays rows

  was_named : (u m r : ℕ) (es : List Entry) → Names p s u m r es → WasNamed p q s u m r es
  was_named u m r es name = record { named = name; sees = λ c. seen-old p q node news v.grafted u c (version_below p rules number v.grafted.below u (there_of p s rules there u m r es name)) }

  -- the new version tells what the workspace holds now
  newest : Tells q t.spaces number n (w.rebases + 1) (content pw ++ own)
  newest = record {
    holds = λ c.
        seen-graft p q node news v.grafted c
        ∙ ap (λ o. option_or o (seen p (latest p a.parent) c)) (own_of_next c)
        ∙ ap (option_or (option_map held_of (told own c))) ((named.tells _ _ _ _ parent_name).holds c)
        ∙ map-or (told own c) (told (content pw) c)
        ∙ ap (option_map held_of) (sym (told-append (content pw) own c));
    climbs =
        Up (latest p a.parent) (rebased emptied pw w) (turn_on pw) it_found new_turn
        (first-sprout q node (newest_first p.versions) v.grafted.versions v.grafted.under w.parent (latest p a.parent) ((ordered_of p s rules there).lower n w v.child g.found)
        (carries.path w.parent (latest p a.parent) (latest p a.parent) (first-itself (newest_first p.versions) (latest p a.parent) w.parent (named_of p s rules there _ _ _ _ parent_name))))
        (λ c. (was_named _ _ _ _ parent_name).sees c ∙ (named.tells _ _ _ _ parent_name).holds c)
        (climbs_kept p q s t rules there named carries _ _ _ _ parent_name);
    rows = HasRows-kept p q rows (content pw ++ own) (rows_over p (content pw) own (content w) (named.tells _ _ _ _ parent_name).rows (named.tells _ _ _ _ (Newest w g.found)).rows (own_in emptied));
  }
    where
      own_in : (d : Bool) (c : Cell) (x : Told) → told (own_left d w) c ≡ Some x → told (content w) c ≡ Some x
      own_in true c x is = cc
      own_in false c x is = told-append w.lists.base w.lists.own c ∙ ap (λ o. option_or o (told w.lists.base c)) is

  names_rebased : (u m r : ℕ) (es : List Entry) → Names q t u m r es → WasNamed p q s u m r es ⊎ Tells q t.spaces u m r es
  names_rebased u m r es (Newest new is) = by_how (was m new is)
    where
      by_how : WasRebased n emptied pw s.spaces m new → WasNamed p q s u m r es ⊎ Tells q t.spaces u m r es
      by_how y = by_case y.how
        where
          by_case : ((m ≡ n) × (new ≡ rebased emptied pw y.old)) ⊎ ((m ≢ n) × (new ≡ y.old)) → WasNamed p q s (latest q m) m new.rebases (content new) ⊎ Tells q t.spaces (latest q m) m new.rebases (content new)
          by_case (inl h) = let same = now m new is h.0 in
              inr (Tells-as q t.spaces _ _ _ _ _ _ _ _ (ap (latest q) h.0 ∙ newest-graft p q node news v.grafted) h.0 (ap (λ (o : Workspace). o.rebases) same) (ap content same) newest)
          by_case (inr h) = inl (was_named _ _ _ _ (Named-as p s _ _ _ _ _ _ _ _ (newest-old p q node news v.grafted m h.0) refl (ap (λ (o : Workspace). o.rebases) h.1) (ap content h.1) (Newest y.old y.is)))
  names_rebased u m r es (Kept at new j x is made saved) =
      let y = was m new is in
      inl (was_named _ _ _ _ (Kept at y.old j x y.is (rw (sym y.savepoints) made) (saved_before m at x saved)))
  names_rebased u m r es (Birth {n = i} new c turn some is recorded turned) =
      let y = was i new is in
      let z = was_space i c recorded in
      inl (was_named _ _ _ _ (Named-as p s _ _ _ _ _ _ _ _ z.birth y.parent_is refl refl (Birth y.old z.old turn some y.is z.is (turn_was i new is y 0 turn (λ here. first w.rebases) turned))))
    where
      first : (k : ℕ) → 0 ≤ k
      first k = omega arith
  names_rebased u m r es (Base {n = i} new c turn some is recorded turned) = by_how (was i new is)
    where
      z : WasSpace p n (latest p a.parent) i c
      z = was_space i c recorded

      by_how : WasRebased n emptied pw s.spaces i new → WasNamed p q s c.base_version new.parent turn.rebases turn.content ⊎ Tells q t.spaces c.base_version new.parent turn.rebases turn.content
      by_how y = by_case y.how
        where
          -- it is the newest one of the parent
          from_parent : i ≡ n → Names p s c.base_version new.parent turn.rebases turn.content
          from_parent here =
              let taken : turn ≡ turn_on pw = same_Some turn (turn_on pw) (sym turned ∙ ap (λ (o : Workspace). turn_of o o.rebases) (now i new is here) ∙ new_turn) in
              Named-as p s _ _ _ _ _ _ _ _ (base_is i c here z) (ap (λ (o : Workspace). o.parent) (now i new is here)) (ap (λ (o : Turn). o.rebases) taken) (ap (λ (o : Turn). o.content) taken) parent_name

          by_case : ((i ≡ n) × (new ≡ rebased emptied pw y.old)) ⊎ ((i ≢ n) × (new ≡ y.old)) → WasNamed p q s c.base_version new.parent turn.rebases turn.content ⊎ Tells q t.spaces c.base_version new.parent turn.rebases turn.content
          by_case (inl h) = inl (was_named _ _ _ _ (from_parent h.0))
          by_case (inr h) = inl (was_named _ _ _ _ (Named-as p s _ _ _ _ _ _ _ _ (base_was i c h.0 z) y.parent_is refl refl (Base y.old z.old turn some y.is z.is (ap (λ (o : Workspace). turn_of o o.rebases) (sym h.1) ∙ turned))))
  names_rebased u m r es (KeptBase {n = i} at new j x turn some is made saved turned) =
      let y = was i new is in
      inl (was_named _ _ _ _ (Named-as p s _ _ _ _ _ _ _ _ refl y.parent_is refl refl
      (KeptBase at y.old j x turn some y.is (rw (sym y.savepoints) made) (saved_before i at x saved) (turn_was i new is y j.rebases turn (past_it i at new j y made) turned))))

  pub NamedStand-rebased : NamedStand q t
  NamedStand-rebased = NamedStand-kept p q s t rules there named carries names_rebased

  -- ---- what is own

  was_own : (base version : ℕ) (es : List Entry) → Owns p s base version es → Owns p s base version es × (Covers p base version es → Covers q base version es)
  was_own base version es owned = (owned, covers-old p q node news v.grafted rules base version (version_below p rules number v.grafted.below version (own_there p s rules there base version es owned)) es)

  owns_rebased : (base version : ℕ) (es : List Entry) → Owns q t base version es → (Owns p s base version es × (Covers p base version es → Covers q base version es)) ⊎ Covers q base version es
  owns_rebased base version es (Own m new c is recorded) = by_how (was m new is)
    where
      z : WasSpace p n (latest p a.parent) m c
      z = was_space m c recorded

      by_how : WasRebased n emptied pw s.spaces m new → (Owns p s base version es × (Covers p base version es → Covers q base version es)) ⊎ Covers q base version es
      by_how y = by_case y.how
        where
          by_case : ((m ≡ n) × (new ≡ rebased emptied pw y.old)) ⊎ ((m ≢ n) × (new ≡ y.old))
              → (Owns p s c.base_version (latest q m) new.lists.own × (Covers p c.base_version (latest q m) new.lists.own → Covers q c.base_version (latest q m) new.lists.own)) ⊎ Covers q c.base_version (latest q m) new.lists.own
          by_case (inl h) = inr (Covers-as q _ _ _ _ _ _ (base_is m c h.0 z) (ap (latest q) h.0 ∙ newest-graft p q node news v.grafted) (ap (λ (o : Workspace). o.lists.own) (now m new is h.0))
              (covers-graft p q node news v.grafted rules own own_of_next ends_next))
          by_case (inr h) = inl (was_own _ _ _
              (Owned-as p s _ _ _ _ _ _ (base_was m c h.0 z) (newest-old p q node news v.grafted m h.0) (ap (λ (o : Workspace). o.lists.own) h.1) (Own m y.old z.old y.is z.is)))
  owns_rebased base version es (KeptOwn m at new j x is made saved based) = by_how (was m new is)
    where
      not_more : (i k : ℕ) → i ≤ k → i ≡ k + 1 → ⊥
      not_more i k le same = omega (arith, le, same)

      by_how : WasRebased n emptied pw s.spaces m new → (Owns p s base version es × (Covers p base version es → Covers q base version es)) ⊎ Covers q base version es
      by_how y = by_case y.how
        where
          -- a savepoint has no more rebases than its workspace had
          by_case : ((m ≡ n) × (new ≡ rebased emptied pw y.old)) ⊎ ((m ≢ n) × (new ≡ y.old)) → (Owns p s x.base_version x.version j.own × (Covers p x.base_version x.version j.own → Covers q x.base_version x.version j.own)) ⊎ Covers q x.base_version x.version j.own
          by_case (inl h) = absurd (not_more j.rebases w.rebases (past_it m at new j y made h.0) (based ∙ ap (λ (o : Workspace). o.rebases) (now m new is h.0)))
          by_case (inr h) = inl (was_own _ _ _ (KeptOwn m at y.old j x y.is (rw (sym y.savepoints) made) (saved_before m at x saved) (based ∙ ap (λ (o : Workspace). o.rebases) h.1)))

  pub OwnsStand-rebased : OwnsStand q t
  OwnsStand-rebased = OwnsStand-kept p q s t owns owns_rebased past
    where
      one_more : (i k l : ℕ) → i ≤ k → l ≡ k + 1 → i ≤ l
      one_more i k l le same = omega (arith, le, same)

      past : (m at : ℕ) (new : Workspace) (j : Savepoint) → workspace_of t.spaces m ≡ Some new → savepoint_made at new.savepoints ≡ Some j → j.rebases ≤ new.rebases
      past m at new j is made = by_how (was m new is)
        where
          by_how : WasRebased n emptied pw s.spaces m new → j.rebases ≤ new.rebases
          by_how y = by_case y.how
            where
              by_case : ((m ≡ n) × (new ≡ rebased emptied pw y.old)) ⊎ ((m ≢ n) × (new ≡ y.old)) → j.rebases ≤ new.rebases
              by_case (inl h) = one_more j.rebases y.old.rebases new.rebases (past_was m at new j y made) (ap (λ (o : Workspace). o.rebases) h.1)
              by_case (inr h) = subst (λ (o : Workspace). j.rebases ≤ o.rebases) (sym h.1) (past_was m at new j y made)
