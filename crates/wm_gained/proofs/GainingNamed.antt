-- What records name after a log gained entries tells what it told, and what is own covers what it did: no version and no piece changes.
use Rattle.std.proofs.Common.{◌≡◌, ℕ, true, List, Some, is_some, refl, ap, ◌∙◌, inl, ⊎_elim}
use Rattle.wm_graph.specs.Parts.{Parts}
use Rattle.wm_graph.specs.Rules.{keep_rules}
use Rattle.wm_spec.specs.Lists.{Entry, Cell}
use Rattle.wm_state.specs.State.{content, with_gained, with_space, workspace_of, Durable, Workspace}
use Rattle.wm_state.specs.Standing.{Covers, NamedStand, Newest, Own, Owns, OwnsStand, SpacesStand, have_ends, latest, seen, seen_above}
use Rattle.wm_state.proofs.Changing.{WasChanged, told_still}
use Rattle.wm_state.proofs.Keeping.{KeepRows-same}
use Rattle.wm_state.proofs.Naming.{Carries, Framed, IsKeptOwn, IsMarked, IsNewest, IsNewestOwn, Named-as, NamedStand-kept, Owned-as, OwnsStand-kept, WasNamed, carries-same, named_framed, owns_framed, past_framed, stays-changed}
use Rattle.wm_written.proofs.Longer.{before, framed_longer}
use Rattle.wm_gained.specs.Gaining.{Gained}
use Rattle.wm_gained.proofs.Gained.{longer_gained}

module _ (p q : Parts) (s t : Durable) (n : ℕ) (es : List Entry) (g : Gained p q n es) (spaces : t.spaces ≡ with_space n (with_gained es) s.spaces) where
  was_one : (m : ℕ) (new : Workspace) → workspace_of t.spaces m ≡ Some new → WasChanged n (with_gained es) s.spaces m new
  was_one m new is = before p q s t n es (λ own. own) (longer_gained p q n es g) spaces m new is

  part : {A : Type 0} (m : ℕ) (new : Workspace) (f : Workspace → A) → ((w : Workspace) → f (with_gained es w) ≡ f w) → (y : WasChanged n (with_gained es) s.spaces m new) → f new ≡ f y.old
  part m new f same y = told_still n (with_gained es) s.spaces m new f same y

  -- versions and pieces are those of before
  versions_still : q.versions ≡ p.versions
  versions_still = ap (λ (z : Parts). z.versions) g.rest

  newest_still : (m : ℕ) → latest q m ≡ latest p m
  newest_still m = ap (λ (z : Parts). latest z m) g.rest

  sees_still : (v : ℕ) (c : Cell) → seen q v c ≡ seen p v c
  sees_still v c = ap (λ (z : Parts). seen z v c) g.rest

  framed_gained : Framed p q s t
  framed_gained = framed_longer p q s t n es (λ own. own) (longer_gained p q n es g) spaces

  carries_gained : Carries p q s.spaces t.spaces
  carries_gained = carries-same p q s.spaces t.spaces versions_still (ap (λ (z : Parts). z.pieces) g.rest)
      (stays-changed s.spaces t.spaces n (with_gained es) (λ v. refl) (λ v. refl) (λ v. refl) spaces)
      (KeepRows-same p q (ap (λ (z : Parts). z.rows) g.rest))

  pub NamedStand-gained : keep_rules p ≡ true → SpacesStand p s → NamedStand p s → NamedStand q t
  NamedStand-gained rules there named =
      NamedStand-kept p q s t rules there named carries_gained
      (λ v m r fs x. inl (⊎_elim (λ (k : IsMarked p s v m r fs). was v m r fs k) (newest v m r fs) (named_framed p q s t framed_gained v m r fs x)))
    where
      was : (v m r : ℕ) (fs : List Entry) → IsMarked p s v m r fs → WasNamed p q s v m r fs
      was v m r fs k = record { named = k.named; sees = sees_still v }

      newest : (v m r : ℕ) (fs : List Entry) → IsNewest q t v m r fs → WasNamed p q s v m r fs
      newest v m r fs k =
          let y = was_one m k.now k.is in
          record {
            named = Named-as p s _ _ _ _ _ _ _ _ (k.version ∙ newest_still m) refl (k.rebases ∙ part m k.now (λ (w : Workspace). w.rebases) (λ w. refl) y) (k.content ∙ part m k.now content (λ w. refl) y) (Newest y.old y.is);
            sees = sees_still v;
          }

  -- what is own covers and ends as it did
  covers_still : (base v : ℕ) (fs : List Entry) → Covers p base v fs → Covers q base v fs
  covers_still base v fs k = record { cells = λ c. ap (λ (z : Parts). is_some (seen_above z base v c)) g.rest ∙ k.cells c; ends = ap (λ (z : Parts). have_ends z base v fs) g.rest ∙ k.ends }

  pub OwnsStand-gained : OwnsStand p s → OwnsStand q t
  OwnsStand-gained owns =
      OwnsStand-kept p q s t owns
      (λ base v fs x. inl (⊎_elim (λ (k : IsKeptOwn p s base v fs). k.owned) (newest base v fs) (owns_framed p q s t framed_gained base v fs x), covers_still base v fs))
      (past_framed p q s t framed_gained owns)
    where
      newest : (base v : ℕ) (fs : List Entry) → IsNewestOwn p q t base v fs → Owns p s base v fs
      newest base v fs k =
          let y = was_one k.number k.now k.is in
          Owned-as p s _ _ _ _ _ _ k.under (k.over ∙ newest_still k.number) (k.own ∙ part k.number k.now (λ (w : Workspace). w.lists.own) (λ w. refl) y) (Own k.number y.old k.old y.is k.recorded)
