-- What records name, and what is own, where a workspace went back to a savepoint: its newest version tells what the savepoint's told, and
-- its base is the savepoint's; all else was named, and was own, before.
use Rattle.std.proofs.Common.{◌≡◌, ◌≢◌, ℕ, ◌<◌, ◌≤◌, ◌==◌, Bool, true, false, if◌then◌else◌, List, ◌∷◌, Some, is_some, refl, sym, ap, subst, ◌∙◌, ◌⊎◌, inl, inr, arith}
use Rattle.std.proofs.lemmas.Bool.{cases_eq, eq-eqb, eqb-true, ne_eqb}
use Rattle.std.proofs.lemmas.Option.{same_Some}
use Rattle.wm_graph.specs.Parts.{Parts, space_of, version_of}
use Rattle.wm_graph.specs.Rules.{keep_rules, is_version_of}
use Rattle.wm_spec.specs.Lists.{Entry}
use Rattle.wm_spec.specs.declared.record.savepoint.Savepoint.{Savepoint as Record}
use Rattle.wm_spec.specs.declared.record.space.Space.{Space}
use Rattle.wm_tree.specs.declared.version.Version.{Version as Node}
use Rattle.wm_state.specs.State.{Durable, Workspace, Savepoint, content, kept, workspace_of, with_space, savepoint_made, turn_of}
use Rattle.wm_state.specs.Standing.{newest_first, latest, own_at, is_above, saved_as, SpacesStand, SavepointsStand, Names, Newest, Kept, Birth, Base, KeptBase, Tells, NamedStand, Owns, Own, KeptOwn, Covers, OwnsStand}
use Rattle.wm_state.proofs.Above.{ends-under, pieces_lower}
use Rattle.wm_state.proofs.Climbing.{above_zero, ordered_of}
use Rattle.wm_state.proofs.Ending.{all_end}
use Rattle.wm_state.proofs.Forking.{own-under}
use Rattle.wm_state.proofs.Frames.{KeepRows, HasRows-kept}
use Rattle.wm_state.proofs.Keeping.{KeepRows-same}
use Rattle.wm_state.proofs.Named.{SavedThere, saved_base_there, saved_there, version_below}
use Rattle.wm_state.proofs.Naming.{Carries, Climbs-sprout, Covers-as, Named-as, NamedStand-kept, Owned-as, OwnsStand-kept, Tells-as, WasNamed, carries-more, climbs_kept, own_there, stays-changed, there_of}
use Rattle.wm_forked.proofs.Sprouting.{Sprouted, covers-before, newest-away, newest-here, seen-before, seen-sprout}
use Rattle.wm_undone.specs.Restoring.{GoesBack, RestoredTo, restored, restored_to}
use Rattle.wm_undone.proofs.RestoringFields.{WasMade, WasRestored, before, made_before, old_here, saved_before}

-- the version that comes in a workspace under that of a savepoint
abbrev back_node : ℕ → ℕ → Record → Node
back_node n number x = record { number = number; space = n; parent = x.version }

-- the record of a workspace of after, by what it was before
pub record WasSpace (p : Parts) (n : ℕ) (x : Record) (m : ℕ) (new : Space) : Type 0 where
  pub old : Space
  pub is : space_of p.spaces m ≡ Some old
  pub birth : new.birth_version ≡ old.birth_version
  pub base : ((m ≡ n) × (new.base_version ≡ x.base_version)) ⊎ ((m ≢ n) × (new.base_version ≡ old.base_version))

module _ (p q : Parts) (s t : Durable) (n number making : ℕ) (a : Space) (w : Workspace) (k : Savepoint) (x : Record) (v : RestoredTo p q n number a x) (g : GoesBack p s n making w k x) (rules : keep_rules p ≡ true) (there : SpacesStand p s)
    (saves : SavepointsStand p s) (spaces : t.spaces ≡ with_space n (restored k) s.spaces) where
  was : (m : ℕ) (new : Workspace) → workspace_of t.spaces m ≡ Some new → WasRestored n k s.spaces m new
  was m new is = before p q s t n number making a w k x v g rules there saves spaces m new is

  was_made : (m at : ℕ) (new : Workspace) (j : Savepoint) → workspace_of t.spaces m ≡ Some new → savepoint_made at new.savepoints ≡ Some j → WasMade n k s.spaces m at new j
  was_made m at new j is made = made_before p q s t n number making a w k x v g rules there saves spaces m at new j is made

  was_saved : (m at : ℕ) (y : Record) → saved_as q m at ≡ Some y → saved_as p m at ≡ Some y
  was_saved m at y saved = saved_before p q s t n number making a w k x v g rules there saves spaces m at y saved

  it : (m : ℕ) (old : Workspace) → workspace_of s.spaces m ≡ Some old → m ≡ n → old ≡ w
  it m old is here = old_here p q s t n number making a w k x v g rules there saves spaces m old is here

  was_space : (m : ℕ) (new : Space) → space_of q.spaces m ≡ Some new → WasSpace p n x m new
  was_space m new is = by_number (cases_eq m n)
    where
      by_number : (m ≡ n) ⊎ (m ≢ n) → WasSpace p n x m new
      by_number (inl here) =
          let same = same_Some new (restored_to x a) (sym is ∙ ap (space_of q.spaces) here ∙ v.here) in
          record { old = a; is = ap (space_of p.spaces) here ∙ v.old; birth = ap (λ (b : Space). b.birth_version) same; base = inl (here, ap (λ (b : Space). b.base_version) same) }
      by_number (inr away) = record { old = new; is = sym (v.elsewhere m (ne_eqb _ _ away)) ∙ is; birth = refl; base = inr (away, refl) }

  base_here : (m : ℕ) (new : Space) → m ≡ n → WasSpace p n x m new → new.base_version ≡ x.base_version
  base_here m new here y = by_base y.base
    where
      by_base : ((m ≡ n) × (new.base_version ≡ x.base_version)) ⊎ ((m ≢ n) × (new.base_version ≡ y.old.base_version)) → new.base_version ≡ x.base_version
      by_base (inl h) = h.1
      by_base (inr h) = absurd (h.0 here)

  base_away : (m : ℕ) (new : Space) → m ≢ n → (y : WasSpace p n x m new) → new.base_version ≡ y.old.base_version
  base_away m new away y = by_base y.base
    where
      by_base : ((m ≡ n) × (new.base_version ≡ x.base_version)) ⊎ ((m ≢ n) × (new.base_version ≡ y.old.base_version)) → new.base_version ≡ y.old.base_version
      by_base (inl h) = absurd (away h.0)
      by_base (inr h) = h.1

  -- ---- the new version

  sprouted : Sprouted p q (back_node n number x)
  sprouted = record { some = v.some; below = v.below; versions = v.versions; empty = v.empty; pieces = ap (λ (z : Parts). z.pieces) v.rest }

  its_name : Names p s x.version n k.rebases (kept k)
  its_name = Kept making w k x g.found g.made g.recorded

  version_lower : x.version < number
  version_lower = version_below p rules number v.below x.version (there_of p s rules there _ _ _ _ its_name)

  -- what the savepoint's workspace saw under its own is older
  base_lower : x.base_version < number
  base_lower = by_number (cases_eq n 0)
    where
      y : SavedThere p n making x
      y = saved_there p rules n making x g.recorded

      by_number : (n ≡ 0) ⊎ (n ≢ 0) → x.base_version < number
      by_number (inl live) =
          subst (λ (i : ℕ). i < number)
          (sym (eqb-true x.base_version 0 (sym (ap (λ (b : Bool). if b then x.base_version == 0 else is_version_of (version_of p.versions) x.base_version y.space.parent) (eq-eqb _ _ (y.number ∙ live))) ∙ y.base))) v.some
      by_number (inr child) = version_below p rules number v.below x.base_version (saved_base_there p rules n making x (above_zero n child) g.recorded)

  above : (number == x.base_version) ≡ false
  above = ne_eqb number x.base_version (λ same. not_itself x.base_version number base_lower same)
    where
      not_itself : (i j : ℕ) → i < j → j ≡ i → ⊥
      not_itself i j lt same = omega (arith, lt, same)

  -- it covers what the savepoint's covers
  covers_under : (es : List Entry) → Covers p x.base_version x.version es → Covers q x.base_version number es
  covers_under es h = record {
    cells = λ c.
        ap is_some
        (ap (λ nodes. own_at q.pieces nodes x.base_version number c) v.versions
        ∙ ap (λ xs. own_at xs (back_node n number x ∷ newest_first p.versions) x.base_version number c) sprouted.pieces
        ∙ own-under p.pieces (back_node n number x) (newest_first p.versions) x.base_version c above (v.empty c))
        ∙ h.cells c;
    ends =
        ap (λ nodes. all_end (is_above nodes x.base_version number) es q.pieces) v.versions
        ∙ ap (all_end (is_above (back_node n number x ∷ newest_first p.versions) x.base_version number) es) sprouted.pieces
        ∙ ends-under (back_node n number x) (newest_first p.versions) x.base_version es p.pieces above (pieces_lower p rules number v.below) h.ends;
  }

  -- ---- what is named

  rows : KeepRows p q
  rows = KeepRows-same p q (ap (λ (z : Parts). z.rows) v.rest)

  carries : Carries p q s.spaces t.spaces
  carries = carries-more p q s.spaces t.spaces (back_node n number x) rules v.versions v.below (λ u c lt. seen-before p q (back_node n number x) sprouted u c lt)
      (stays-changed s.spaces t.spaces n (restored k) (λ o. refl) (λ o. refl) (λ o. refl) spaces) rows

  was_named : (u m r : ℕ) (es : List Entry) → Names p s u m r es → WasNamed p q s u m r es
  was_named u m r es name = record { named = name; sees = λ c. seen-before p q (back_node n number x) sprouted u c (version_below p rules number v.below u (there_of p s rules there u m r es name)) }

  -- the new version tells what the savepoint's tells
  newest : NamedStand p s → Tells q t.spaces number n k.rebases (kept k)
  newest named = record {
    holds = λ c. seen-sprout p q (back_node n number x) sprouted c ∙ (named.tells _ _ _ _ its_name).holds c;
    climbs = Climbs-sprout q t.spaces (back_node n number x) (newest_first p.versions) k.rebases v.versions version_lower lower (climbs_kept p q s t rules there named carries _ _ _ _ its_name);
    rows = HasRows-kept p q rows (kept k) (named.tells _ _ _ _ its_name).rows;
  }
    where
      lower : (m : ℕ) (o : Workspace) → 0 < m → workspace_of t.spaces m ≡ Some o → m ≢ o.parent
      lower m o some is same = let y = was m o is in (ordered_of p s rules there).lower m y.old some y.is (same ∙ y.parent)

  names_restored : NamedStand p s → (u m r : ℕ) (es : List Entry) → Names q t u m r es → WasNamed p q s u m r es ⊎ Tells q t.spaces u m r es
  names_restored named u m r es (Newest new is) = by_how (was m new is)
    where
      by_how : WasRestored n k s.spaces m new → WasNamed p q s u m r es ⊎ Tells q t.spaces u m r es
      by_how y = by_case y.how
        where
          by_case : ((m ≡ n) × (new ≡ restored k y.old)) ⊎ ((m ≢ n) × (new ≡ y.old)) → WasNamed p q s (latest q m) m new.rebases (content new) ⊎ Tells q t.spaces (latest q m) m new.rebases (content new)
          by_case (inl h) = inr (Tells-as q t.spaces _ _ _ _ _ _ _ _
              (ap (latest q) h.0 ∙ newest-here p q (back_node n number x) sprouted) h.0
              (y.rebases ∙ ap (λ (o : Workspace). o.rebases) (it m y.old y.is h.0) ∙ sym g.based)
              (ap content h.1) (newest named))
          by_case (inr h) = inl (was_named _ _ _ _ (Named-as p s _ _ _ _ _ _ _ _ (newest-away p q (back_node n number x) sprouted m h.0) refl y.rebases (ap content h.1) (Newest y.old y.is)))
  names_restored named u m r es (Kept at new j y is made saved) =
      let z = was_made m at new j is made in
      inl (was_named _ _ _ _ (Kept at z.was.old j y z.was.is z.made (was_saved m at y saved)))
  names_restored named u m r es (Birth {n = i} new b turn some is recorded turned) =
      let y = was i new is in
      let z = was_space i b recorded in
      inl (was_named _ _ _ _ (Named-as p s _ _ _ _ _ _ _ _ z.birth y.parent refl refl (Birth y.old z.old turn some y.is z.is (rw (sym y.turns) turned))))
  names_restored named u m r es (Base {n = i} new b turn some is recorded turned) = by_how (was i new is)
    where
      z : WasSpace p n x i b
      z = was_space i b recorded

      by_how : WasRestored n k s.spaces i new → WasNamed p q s b.base_version new.parent turn.rebases turn.content ⊎ Tells q t.spaces b.base_version new.parent turn.rebases turn.content
      by_how y = by_case y.how
        where
          -- it is that of the savepoint
          from_point : i ≡ n → Names p s b.base_version new.parent turn.rebases turn.content
          from_point here =
              let same = it i y.old y.is here in
              Named-as p s _ _ _ _ _ _ _ _ (base_here i b here z) (y.parent ∙ ap (λ (o : Workspace). o.parent) same) refl refl
              (KeptBase making w k x turn (subst (λ l. 0 < l) here some) g.found g.made g.recorded
              (ap (turn_of w) (g.based ∙ ap (λ (o : Workspace). o.rebases) (sym same) ∙ sym y.rebases) ∙ ap (λ (o : Workspace). turn_of o new.rebases) (sym same) ∙ rw (sym y.turns) turned))

          by_case : ((i ≡ n) × (new ≡ restored k y.old)) ⊎ ((i ≢ n) × (new ≡ y.old)) → WasNamed p q s b.base_version new.parent turn.rebases turn.content ⊎ Tells q t.spaces b.base_version new.parent turn.rebases turn.content
          by_case (inl h) = inl (was_named _ _ _ _ (from_point h.0))
          by_case (inr h) = inl (was_named _ _ _ _ (Named-as p s _ _ _ _ _ _ _ _ (base_away i b h.0 z) y.parent refl refl (Base y.old z.old turn some y.is z.is (rw (sym y.turns, sym y.rebases) turned))))
  names_restored named u m r es (KeptBase {n = i} at new j y turn some is made saved turned) =
      let z = was_made i at new j is made in
      inl (was_named _ _ _ _ (Named-as p s _ _ _ _ _ _ _ _ refl z.was.parent refl refl (KeptBase at z.was.old j y turn some z.was.is z.made (was_saved i at y saved) (rw (sym z.was.turns) turned))))

  pub NamedStand-restored : NamedStand p s → NamedStand q t
  NamedStand-restored named = NamedStand-kept p q s t rules there named carries (names_restored named)

  -- ---- what is own

  was_own : (base version : ℕ) (es : List Entry) → Owns p s base version es → Owns p s base version es × (Covers p base version es → Covers q base version es)
  was_own base version es own = (own, covers-before p q (back_node n number x) sprouted rules base version (version_below p rules number v.below version (own_there p s rules there base version es own)) es)

  owns_restored : OwnsStand p s → (base version : ℕ) (es : List Entry) → Owns q t base version es → (Owns p s base version es × (Covers p base version es → Covers q base version es)) ⊎ Covers q base version es
  owns_restored owns base version es (Own m new b is recorded) = by_how (was m new is)
    where
      z : WasSpace p n x m b
      z = was_space m b recorded

      by_how : WasRestored n k s.spaces m new → (Owns p s base version es × (Covers p base version es → Covers q base version es)) ⊎ Covers q base version es
      by_how y = by_case y.how
        where
          by_case : ((m ≡ n) × (new ≡ restored k y.old)) ⊎ ((m ≢ n) × (new ≡ y.old))
              → (Owns p s b.base_version (latest q m) new.lists.own × (Covers p b.base_version (latest q m) new.lists.own → Covers q b.base_version (latest q m) new.lists.own)) ⊎ Covers q b.base_version (latest q m) new.lists.own
          by_case (inl h) = inr (Covers-as q _ _ _ _ _ _ (base_here m b h.0 z) (ap (latest q) h.0 ∙ newest-here p q (back_node n number x) sprouted) (ap (λ (o : Workspace). o.lists.own) h.1)
              (covers_under k.own (owns.covers _ _ _ (KeptOwn n making w k x g.found g.made g.recorded g.based))))
          by_case (inr h) = inl (was_own _ _ _
              (Owned-as p s _ _ _ _ _ _ (base_away m b h.0 z) (newest-away p q (back_node n number x) sprouted m h.0) (ap (λ (o : Workspace). o.lists.own) h.1) (Own m y.old z.old y.is z.is)))
  owns_restored owns base version es (KeptOwn m at new j y is made saved based) =
      let z = was_made m at new j is made in
      inl (was_own _ _ _ (KeptOwn m at z.was.old j y z.was.is z.made (was_saved m at y saved) (based ∙ z.was.rebases)))

  pub OwnsStand-restored : OwnsStand p s → OwnsStand q t
  OwnsStand-restored owns =
      OwnsStand-kept p q s t owns (owns_restored owns)
      (λ m at new j is made. let z = was_made m at new j is made in
      subst (λ (b : ℕ). j.rebases ≤ b) (sym z.was.rebases) (owns.past m at z.was.old j z.was.is z.made))
