-- What records name where entries are written: the newest version of their workspace tells them over what it told, and covers their cells
-- above its base; nothing else that is named is written.
use Rattle.std.proofs.Common.{◌≡◌, ℕ, List, ◌++◌, Option, Some, None, is_some, refl, sym, ap, ◌∙◌, ◌==◌, ◌⊎◌, inl, inr, ⊎_elim, true, false}
use Rattle.std.specs.Option.{option_or, option_map}
use Rattle.wm_graph.specs.Parts.{Parts, row_of, space_of}
use Rattle.wm_graph.specs.Rules.{keep_rules}
use Rattle.wm_period.specs.Pieces.{Held}
use Rattle.wm_spec.specs.Lists.{Entry, Told, told}
use Rattle.wm_spec.specs.declared.record.row.RowRecord.{RowRecord}
use Rattle.wm_spec.specs.declared.record.space.Space.{Space}
use Rattle.wm_spec.specs.declared.record.version.Version.{Version}
use Rattle.wm_spec.proofs.Lists.{told-append}
use Rattle.wm_state.specs.State.{Durable, Workspace, content, workspace_of, with_entries}
use Rattle.wm_state.specs.Standing.{held_of, newest_first, latest, seen_at, seen_above, own_at, first_in, is_above, SpacesStand, HasRows, Newest, Tells, NamedStand, Owns, Own, Covers, OwnsStand}
use Rattle.wm_state.specs.Writes.{WroteAll}
use Rattle.wm_state.proofs.Changing.{WasChanged}
use Rattle.wm_state.proofs.DrawingEnds.{more-front, more-behind}
use Rattle.wm_state.proofs.Ending.{all_end, all_end-drawn, more-ends}
use Rattle.wm_state.proofs.FirstIn.{first-apart}
use Rattle.wm_state.proofs.Frames.{row-kept}
use Rattle.wm_state.proofs.Naming.{Carries, Covers-as, Framed, IsKeptOwn, IsMarked, IsNewest, IsNewestOwn, Named-as, NamedStand-kept, Owned-as, OwnsStand-kept, Tells-as, WasNamed, climbs_kept, named_framed, owns_framed, past_framed, stays-changed}
use Rattle.wm_written.proofs.Longer.{before, framed_longer}
use Rattle.wm_written.proofs.Nearest.{seen-here, own-here}
use Rattle.wm_written.proofs.Wrote.{above_away, appended_all, ends_away, laid-away, laid-here, longer_wrote, newest_away, sees_away, told-with_all, versions_wrote}

pub map-or : (t o : Option Told) → option_or (option_map held_of t) (option_map held_of o) ≡ option_map held_of (option_or t o)
map-or None o = refl
map-or (Some t) o = refl

some-or : (t : Option Told) (h : Option Held) (o : Option Told) → is_some h ≡ is_some o → is_some (option_or (option_map held_of t) h) ≡ is_some (option_or t o)
some-or None h o same = same
some-or (Some t) h o same = refl

module _ (p q : Parts) (s t : Durable) (n : ℕ) (es : List Entry) (w : WroteAll p q n es) (spaces : t.spaces ≡ appended_all n es s.spaces) where
  was : (m : ℕ) (new : Workspace) → workspace_of t.spaces m ≡ Some new → WasChanged n (with_entries es) s.spaces m new
  was m new is = before p q s t n es (λ own. own ++ es) (longer_wrote p q n es w) spaces m new is

  newest_same : (m : ℕ) → latest q m ≡ latest p m
  newest_same m = ap (λ (z : Parts). latest z m) w.rest

  framed_wrote : Framed p q s t
  framed_wrote = framed_longer p q s t n es (λ own. own ++ es) (longer_wrote p q n es w) spaces

  -- paths lead up as they did: what stands above a version is not the one that is written
  carries_wrote : Carries p q s.spaces t.spaces
  carries_wrote = record {
    stays = stays-changed s.spaces t.spaces n (with_entries es) (λ v. refl) (λ v. refl) (λ v. refl) spaces;
    path = λ space version first found. ap (λ (vs : List Version). first_in (newest_first vs) space version) (versions_wrote p q n es w) ∙ found;
    sees = λ m space version first other is found. sees_away p q n es w first (first-apart (latest p n) (newest_first p.versions) m space version first w.leaf other is found);
    rows = w.rows_kept;
  }

  -- the rows of what stands in the workspace are there
  rows_here : (o : Workspace) → HasRows p (content o) → HasRows q (content (with_entries es o))
  rows_here o has c x row held standing = by_told (told es c) refl (sym (told-with_all es o c) ∙ held)
    where
      by_told : (k : Option Told) → told es c ≡ k → option_or k (told (content o) c) ≡ Some x → option_map (λ (r : RowRecord). r.values) (row_of q.rows x.stamp) ≡ Some row.values
      by_told None none h = row-kept p q w.rows_kept x.stamp row (has c x row h standing)
      by_told (Some k) found h = w.rows_new c x row (found ∙ h) standing

  -- the version that is written tells what it is named for
  told_here : keep_rules p ≡ true → SpacesStand p s → NamedStand p s → (o : Workspace) → workspace_of s.spaces n ≡ Some o → Tells q t.spaces (latest p n) n o.rebases (content (with_entries es o))
  told_here rules there named o is = record {
    holds = λ c.
        ap (λ (vs : List Version). seen_at q.pieces (newest_first vs) (latest p n) c) (versions_wrote p q n es w)
        ∙ seen-here (latest p n) p.pieces q.pieces c (option_map held_of (told es c)) (laid-away (latest p n) es p.pieces q.pieces c w.pieces) (laid-here (latest p n) es p.pieces q.pieces c w.pieces) (newest_first p.versions) w.leaf w.apart.there
        ∙ ap (option_or (option_map held_of (told es c))) (tells.holds c)
        ∙ map-or (told es c) (told (content o) c)
        ∙ ap (option_map held_of) (sym (told-with_all es o c));
    climbs = climbs_kept p q s t rules there named carries_wrote (latest p n) n o.rebases (content o) (Newest o is);
    rows = rows_here o tells.rows;
  }
    where
      tells : Tells p s.spaces (latest p n) n o.rebases (content o)
      tells = named.tells (latest p n) n o.rebases (content o) (Newest o is)

  pub NamedStand-wrote : keep_rules p ≡ true → SpacesStand p s → NamedStand p s → NamedStand q t
  NamedStand-wrote rules there named =
      NamedStand-kept p q s t rules there named carries_wrote
      (λ v m r fs x. ⊎_elim (λ (k : IsMarked p s v m r fs). inl (record { named = k.named; sees = sees_away p q n es w v (k.free (latest p n) w.free) })) (newest v m r fs) (named_framed p q s t framed_wrote v m r fs x))
    where
      newest : (v m r : ℕ) (fs : List Entry) → IsNewest q t v m r fs → WasNamed p q s v m r fs ⊎ Tells q t.spaces v m r fs
      newest v m r fs k = by_how (was m k.now k.is)
        where
          over : v ≡ latest p m
          over = k.version ∙ newest_same m

          by_how : WasChanged n (with_entries es) s.spaces m k.now → WasNamed p q s v m r fs ⊎ Tells q t.spaces v m r fs
          by_how y = ⊎_elim
              (λ h. inr (Tells-as q t.spaces _ _ _ _ _ _ _ _ (over ∙ ap (latest p) h.0) h.0 (k.rebases ∙ ap (λ (o : Workspace). o.rebases) h.1) (k.content ∙ ap content h.1)
              (told_here rules there named y.old (ap (workspace_of s.spaces) (sym h.0) ∙ y.is))))
              (λ h. inl (record {
                named = Named-as p s _ _ _ _ _ _ _ _ over refl (k.rebases ∙ ap (λ (o : Workspace). o.rebases) h.1) (k.content ∙ ap content h.1) (Newest y.old y.is);
                sees = sees_away p q n es w v (ap (λ u. u == latest p n) over ∙ newest_away p q n es w s there m y.old y.is h.0);
              }))
              y.how

  -- what covers above a base where nothing is written does so still
  covers_away : (base v : ℕ) (fs : List Entry) → (v == latest p n) ≡ false → Covers p base v fs → Covers q base v fs
  covers_away base v fs other k = record { cells = λ c. ap is_some (above_away p q n es w base v other c) ∙ k.cells c; ends = ends_away p q n es w base v other fs k.ends }

  -- and the version that is written covers the cells of the entries too
  covers_here : (a : Space) (o : Workspace) → space_of p.spaces n ≡ Some a → Covers p a.base_version (latest p n) o.lists.own → Covers q a.base_version (latest p n) (o.lists.own ++ es)
  covers_here a o recorded k = record {
    cells = λ c.
        ap (λ (vs : List Version). is_some (own_at q.pieces (newest_first vs) a.base_version (latest p n) c)) (versions_wrote p q n es w)
        ∙ ap is_some (own-here (latest p n) p.pieces q.pieces c (option_map held_of (told es c)) (laid-away (latest p n) es p.pieces q.pieces c w.pieces) (laid-here (latest p n) es p.pieces q.pieces c w.pieces) a.base_version
        (w.apart.above a recorded) (newest_first p.versions) w.leaf w.apart.there)
        ∙ some-or (told es c) (seen_above p a.base_version (latest p n) c) (told o.lists.own c) (k.cells c)
        ∙ ap is_some (sym (told-append o.lists.own es c));
    ends =
        ap (λ (vs : List Version). all_end (is_above (newest_first vs) a.base_version (latest p n)) (o.lists.own ++ es) q.pieces) (versions_wrote p q n es w)
        ∙ all_end-drawn (is_above (newest_first p.versions) a.base_version (latest p n)) (latest p n) es o.lists.own (o.lists.own ++ es) p.pieces q.pieces (more-ends o.lists.own (o.lists.own ++ es) (more-front o.lists.own es))
        (λ on. more-ends es (o.lists.own ++ es) (more-behind o.lists.own es)) k.ends w.ends;
  }

  pub OwnsStand-wrote : SpacesStand p s → OwnsStand p s → OwnsStand q t
  OwnsStand-wrote there owns =
      OwnsStand-kept p q s t owns
      (λ base v fs x. ⊎_elim (λ (k : IsKeptOwn p s base v fs). inl (k.owned, covers_away base v fs (k.free (latest p n) w.free))) (newest base v fs) (owns_framed p q s t framed_wrote base v fs x))
      (past_framed p q s t framed_wrote owns)
    where
      newest : (base v : ℕ) (fs : List Entry) → IsNewestOwn p q t base v fs → (Owns p s base v fs × (Covers p base v fs → Covers q base v fs)) ⊎ Covers q base v fs
      newest base v fs k = by_how (was k.number k.now k.is)
        where
          over : v ≡ latest p k.number
          over = k.over ∙ newest_same k.number

          by_how : WasChanged n (with_entries es) s.spaces k.number k.now → (Owns p s base v fs × (Covers p base v fs → Covers q base v fs)) ⊎ Covers q base v fs
          by_how y = ⊎_elim
              (λ h.
              let is : workspace_of s.spaces n ≡ Some y.old = ap (workspace_of s.spaces) (sym h.0) ∙ y.is in
              let recorded : space_of p.spaces n ≡ Some k.old = ap (space_of p.spaces) (sym h.0) ∙ k.recorded in
              inr (Covers-as q _ _ _ _ _ _ k.under (over ∙ ap (latest p) h.0) (k.own ∙ ap (λ (o : Workspace). o.lists.own) h.1)
              (covers_here k.old y.old recorded (owns.covers k.old.base_version (latest p n) y.old.lists.own (Own n y.old k.old is recorded)))))
              (λ h. inl (
                Owned-as p s _ _ _ _ _ _ k.under over (k.own ∙ ap (λ (o : Workspace). o.lists.own) h.1) (Own k.number y.old k.old y.is k.recorded),
                covers_away base v fs (ap (λ u. u == latest p n) over ∙ newest_away p q n es w s there k.number y.old y.is h.0),
              ))
              y.how
