-- A workspace gets a version more, with nothing in it, under its newest one.
use Rattle.std.proofs.Common.{◌≡◌, ◌≢◌, ℕ, ◌<◌, ◌==◌, Bool, true, false, cond, List, [], ◌∷◌, Option, Some, None, is_some, refl, sym, ap, ◌∙◌, ◌⊎◌, inl, inr, ⊎_elim, arith}
use Rattle.std.proofs.lemmas.Bool.{cases_eq, eq-eqb, ne_eqb}
use Rattle.wm_graph.specs.Parts.{Parts, space_of}
use Rattle.wm_graph.specs.Rules.{keep_rules}
use Rattle.wm_period.specs.Pieces.{Held}
use Rattle.wm_spec.specs.Lists.{Entry, Cell}
use Rattle.wm_spec.specs.declared.record.piece.PieceRecord.{PieceRecord}
use Rattle.wm_spec.specs.declared.record.space.Space.{Space}
use Rattle.wm_tree.specs.Versions.{latest_in, AllBelow}
use Rattle.wm_tree.specs.declared.version.Version.{Version as Node}
use Rattle.wm_state.specs.State.{Durable, Workspace, content, workspace_of, savepoints_of, log_of}
use Rattle.wm_state.specs.Standing.{stored_at, seen_at, own_at, newest_first, latest, seen, by_number, is_above, have_ends, Names, Newest, Tells, NamedStand, Owns, Own, Covers, OwnsStand, SpacesStand, CountersStand, FieldsStand, Stands}
use Rattle.wm_state.specs.Effects.{Forked, node_under}
use Rattle.wm_state.proofs.Above.{ends-beside, ends-under, pieces_lower}
use Rattle.wm_state.proofs.Climbing.{ordered_of}
use Rattle.wm_state.proofs.Ending.{all_end}
use Rattle.wm_state.proofs.Frames.{KeepRows, fields_stand, HasRows-kept, OnceStand-same, SavepointsStand-same}
use Rattle.wm_state.proofs.Keeping.{KeepRows-same}
use Rattle.wm_state.proofs.Logging.{HistsStand-frame}
use Rattle.wm_state.proofs.Marking.{MarksStand-same}
use Rattle.wm_state.proofs.Named.{version_below}
use Rattle.wm_state.proofs.Naming.{Carries, Climbs-sprout, Covers-as, Framed, IsKeptOwn, IsMarked, IsNewest, IsNewestOwn, NamedStand-kept, Named-as, Owned-as, OwnsStand-kept, Tells-as, WasNamed, carries-more, climbs_kept, framed_same, named_framed, own_there, owns_framed, past_framed, stays-same, there_of}
use Rattle.wm_state.proofs.Ready.{KeepReady, KeepReady-same}
use Rattle.wm_state.proofs.Staying.{EntriesStand-same, LocksStand-same, RowsStand-alike, SameTurns, SameTurns-same, TouchesStand-same, TurnsStand-alike}

-- the newest version of a workspace is below what all versions are below
pub latest-below : (n : ℕ) (nodes : List Node) (m : ℕ) → 0 < n → AllBelow n nodes → latest_in nodes m < n
latest-below n [] m some below = some
latest-below n (x ∷ older) m some below = by_test (x.space == m) (latest-below n older m some below.1)
  where
    by_test : (b : Bool) → latest_in older m < n → cond b x.number (latest_in older m) < n
    by_test true rest = below.0
    by_test false rest = rest

-- a version stores nothing of its own above itself
pub own-none : (pieces : List PieceRecord) (nodes : List Node) (base : ℕ) (c : Cell) → own_at pieces nodes base base c ≡ None
own-none pieces [] base c = refl
own-none pieces (x ∷ older) base c = rw (eq-eqb base base refl) refl

-- a version beside the new one sees what it saw
pub seen-beside : (pieces : List PieceRecord) (x : Node) (older : List Node) (v : ℕ) (c : Cell) → v < x.number → seen_at pieces (x ∷ older) v c ≡ seen_at pieces older v c
seen-beside pieces x older v c lt = rw (ne_eqb x.number v (λ same. omega (arith, lt, same))) refl

pub own-beside : (pieces : List PieceRecord) (x : Node) (older : List Node) (base v : ℕ) (c : Cell) → v < x.number → own_at pieces (x ∷ older) base v c ≡ own_at pieces older base v c
own-beside pieces x older base v c lt = by_base (cases_eq v base)
  where
    nothing : Option Held
    nothing = None

    by_base : (v ≡ base) ⊎ (v ≢ base) → own_at pieces (x ∷ older) base v c ≡ own_at pieces older base v c
    by_base (inl same) = rw same (own-none pieces (x ∷ older) base c ∙ sym (own-none pieces older base c))
    by_base (inr other) = rw (ne_eqb _ _ other, ne_eqb x.number v (λ same. omega (arith, lt, same))) refl

-- the new version sees what its parent saw
pub seen-under : (pieces : List PieceRecord) (x : Node) (older : List Node) (c : Cell) → stored_at pieces x.number c ≡ None → seen_at pieces (x ∷ older) x.number c ≡ seen_at pieces older x.parent c
seen-under pieces x older c empty = rw (eq-eqb x.number x.number refl, empty) refl

pub own-under : (pieces : List PieceRecord) (x : Node) (older : List Node) (base : ℕ) (c : Cell) → (x.number == base) ≡ false → stored_at pieces x.number c ≡ None
    → own_at pieces (x ∷ older) base x.number c ≡ own_at pieces older base x.parent c
own-under pieces x older base c above empty = rw (above, eq-eqb x.number x.number refl, empty) refl

-- ---- what becomes of versions

module _ (p q : Parts) (n number : ℕ) (f : Forked p q n number) where
  pieces : q.pieces ≡ p.pieces
  pieces = ap (λ (z : Parts). z.pieces) f.rest

  -- the newest version of the workspace is the new one, and that of another is the one of before
  latest_here : (m : ℕ) → n ≡ m → latest q m ≡ number
  latest_here m same = ap (λ nodes. latest_in nodes m) f.versions ∙ ap (λ b. cond b number (latest p m)) (eq-eqb n m same)

  latest_away : (m : ℕ) → n ≢ m → latest q m ≡ latest p m
  latest_away m other = ap (λ nodes. latest_in nodes m) f.versions ∙ ap (λ b. cond b number (latest p m)) (ne_eqb n m other)

  -- a version of before sees what it saw
  seen_beside : (v : ℕ) → v < number → (c : Cell) → seen q v c ≡ seen p v c
  seen_beside v lt c =
      ap (λ nodes. seen_at q.pieces nodes v c) f.versions ∙ ap (λ xs. seen_at xs (node_under p n number ∷ newest_first p.versions) v c) pieces ∙ seen-beside p.pieces (node_under p n number) (newest_first p.versions) v c lt

  -- what stands on its path
  ends_in : (base v : ℕ) (es : List Entry) → have_ends q base v es ≡ all_end (is_above (node_under p n number ∷ newest_first p.versions) base v) es p.pieces
  ends_in base v es = ap (λ nodes. all_end (is_above nodes base v) es q.pieces) f.versions ∙ ap (all_end (is_above (node_under p n number ∷ newest_first p.versions) base v) es) pieces

  -- and covers what it covered
  covers_beside : keep_rules p ≡ true → (base v : ℕ) (es : List Entry) → v < number → Covers p base v es → Covers q base v es
  covers_beside rules base v es lt h = record {
    cells = λ c.
        ap is_some
        (ap (λ nodes. own_at q.pieces nodes base v c) f.versions
        ∙ ap (λ xs. own_at xs (node_under p n number ∷ newest_first p.versions) base v c) pieces
        ∙ own-beside p.pieces (node_under p n number) (newest_first p.versions) base v c lt)
        ∙ h.cells c;
    ends = ends_in base v es ∙ ends-beside (node_under p n number) (newest_first p.versions) base v es p.pieces lt (pieces_lower p rules number f.below) h.ends;
  }

  -- so does the new one with what the newest one saw and covered
  seen_under : (c : Cell) → seen q number c ≡ seen p (latest p n) c
  seen_under c =
      ap (λ nodes. seen_at q.pieces nodes number c) f.versions
      ∙ ap (λ xs. seen_at xs (node_under p n number ∷ newest_first p.versions) number c) pieces
      ∙ seen-under p.pieces (node_under p n number) (newest_first p.versions) c (f.empty c)

  covers_under : keep_rules p ≡ true → (r : Space) → space_of p.spaces n ≡ Some r → (es : List Entry) → Covers p r.base_version (latest p n) es → Covers q r.base_version number es
  covers_under rules r found es h = record {
    cells = λ c.
        ap is_some
        (ap (λ nodes. own_at q.pieces nodes r.base_version number c) f.versions
        ∙ ap (λ xs. own_at xs (node_under p n number ∷ newest_first p.versions) r.base_version number c) pieces
        ∙ own-under p.pieces (node_under p n number) (newest_first p.versions) r.base_version c (f.above r found) (f.empty c))
        ∙ h.cells c;
    ends = ends_in r.base_version number es ∙ ends-under (node_under p n number) (newest_first p.versions) r.base_version es p.pieces (f.above r found) (pieces_lower p rules number f.below) h.ends;
  }

-- ---- what is named and what is own

module _ (p q : Parts) (s t : Durable) (n number : ℕ) (f : Forked p q n number) (rules : keep_rules p ≡ true) (there : SpacesStand p s) (spaces : t.spaces ≡ s.spaces) where
  framed : Framed p q s t
  framed = framed_same p q s t (ap (λ (z : Parts). z.savepoints) f.rest) (ap (λ (z : Parts). z.spaces) f.rest) spaces

  rows : KeepRows p q
  rows = KeepRows-same p q (ap (λ (z : Parts). z.rows) f.rest)

  carries : Carries p q s.spaces t.spaces
  carries = carries-more p q s.spaces t.spaces (node_under p n number) rules f.versions f.below (λ v c lt. seen_beside p q n number f v lt c) (stays-same s.spaces t.spaces spaces) rows

  was_there : (m : ℕ) (w : Workspace) → workspace_of t.spaces m ≡ Some w → workspace_of s.spaces m ≡ Some w
  was_there m w is = ap (λ ws. workspace_of ws m) (sym spaces) ∙ is

  -- a version that was named sees what it saw
  was_named : (v m r : ℕ) (es : List Entry) → Names p s v m r es → WasNamed p q s v m r es
  was_named v m r es named = record { named = named; sees = seen_beside p q n number f v (version_below p rules number f.below v (there_of p s rules there v m r es named)) }

  pub NamedStand-forked : NamedStand p s → NamedStand q t
  NamedStand-forked named = NamedStand-kept p q s t rules there named carries (λ v m r es x. ⊎_elim
      (λ (h : IsMarked p s v m r es). inl (was_named v m r es h.named))
      (λ (h : IsNewest q t v m r es). newest v m r es h (cases_eq n m))
      (named_framed p q s t framed v m r es x))
    where
      -- the new version is led up from the newest one, and tells what that one told
      grown : (w : Workspace) → workspace_of s.spaces n ≡ Some w → Tells q t.spaces number n w.rebases (content w)
      grown w found = let name = Newest w found in record {
        holds = λ c. seen_under p q n number f c ∙ (named.tells _ _ _ _ name).holds c;
        climbs = Climbs-sprout q t.spaces (node_under p n number) (newest_first p.versions) w.rebases f.versions (latest-below number (newest_first p.versions) n f.some f.below)
            (λ m v some is. (ordered_of p s rules there).lower m v some (was_there m v is))
            (climbs_kept p q s t rules there named carries _ _ _ _ name);
        rows = HasRows-kept p q rows (content w) (named.tells _ _ _ _ name).rows;
      }

      newest : (v m r : ℕ) (es : List Entry) → IsNewest q t v m r es → (n ≡ m) ⊎ (n ≢ m) → WasNamed p q s v m r es ⊎ Tells q t.spaces v m r es
      newest v m r es h (inl same) =
          inr (Tells-as q t.spaces v m r es _ _ _ _ (h.version ∙ latest_here p q n number f m same) (sym same) h.rebases h.content (grown h.now (ap (workspace_of s.spaces) same ∙ was_there m h.now h.is)))
      newest v m r es h (inr other) =
          inl (was_named v m r es (Named-as p s v m r es _ _ _ _ (h.version ∙ latest_away p q n number f m other) refl h.rebases h.content (Newest h.now (was_there m h.now h.is))))

  pub OwnsStand-forked : OwnsStand p s → OwnsStand q t
  OwnsStand-forked owns = OwnsStand-kept p q s t owns
      (λ base version es x. ⊎_elim
      (λ (h : IsKeptOwn p s base version es). inl (was_own base version es h.owned))
      (λ (h : IsNewestOwn p q t base version es). newest base version es h (cases_eq n h.number))
      (owns_framed p q s t framed base version es x))
      (past_framed p q s t framed owns)
    where
      was_own : (base version : ℕ) (es : List Entry) → Owns p s base version es → Owns p s base version es × (Covers p base version es → Covers q base version es)
      was_own base version es own = (own, covers_beside p q n number f rules base version es (version_below p rules number f.below version (own_there p s rules there base version es own)))

      newest : (base version : ℕ) (es : List Entry) → (h : IsNewestOwn p q t base version es) → (n ≡ h.number) ⊎ (n ≢ h.number)
          → (Owns p s base version es × (Covers p base version es → Covers q base version es)) ⊎ Covers q base version es
      newest base version es h (inl same) =
          let found : space_of p.spaces n ≡ Some h.old = ap (space_of p.spaces) same ∙ h.recorded in
          inr (Covers-as q base version es _ _ _ h.under (h.over ∙ latest_here p q n number f h.number same) h.own
          (covers_under p q n number f rules h.old found h.now.lists.own
          (owns.covers _ _ _ (Own n h.now h.old (ap (workspace_of s.spaces) same ∙ was_there h.number h.now h.is) found))))
      newest base version es h (inr other) =
          inl (was_own base version es
          (Owned-as p s base version es _ _ _ h.under (h.over ∙ latest_away p q n number f h.number other) h.own (Own h.number h.now h.old (was_there h.number h.now h.is) h.recorded)))

-- ---- all clauses

-- the records agree with what they agreed with, with counters of their own
pub FieldsStand-forked : (p q : Parts) (s t : Durable) (n number : ℕ) → Forked p q n number → FieldsStand p s → t.spaces ≡ s.spaces → t.tables ≡ s.tables → CountersStand q t → FieldsStand q t
FieldsStand-forked p q s t n number f st spaces tables counters = record {
  counters = counters;
  tables = record { same = ap (λ (z : Parts). by_number z.tables) f.rest ∙ st.tables.same ∙ sym tables };
  spaces = record { same = λ m. rw (ap (λ (z : Parts). z.spaces) f.rest, spaces) (st.spaces.same m) };
  once = OnceStand-same p q s t (ap (λ (z : Parts). z.spaces) f.rest) spaces st.once;
  savepoints = SavepointsStand-same p q s t (ap (λ (z : Parts). z.savepoints) f.rest) (λ m. ap (λ ws. savepoints_of ws m) spaces) st.savepoints;
}

-- the records stand for what they stood for, with counters of their own
pub Stands-forked : (p q : Parts) (s t : Durable) (n number : ℕ) → Forked p q n number → Stands p s → t.spaces ≡ s.spaces → t.tables ≡ s.tables → t.locks ≡ s.locks → CountersStand q t → keep_rules q ≡ true → Stands q t
Stands-forked p q s t n number f st spaces tables locks counters rules = record {
  rules = rules;
  counters = counters;
  tables = fields.tables;
  spaces = fields.spaces;
  once = fields.once;
  savepoints = fields.savepoints;
  named = NamedStand-forked p q s t n number f st.rules st.spaces spaces st.named;
  owns = OwnsStand-forked p q s t n number f st.rules st.spaces spaces st.owns;
  turns = TurnsStand-alike p q s t (ap (λ (z : Parts). z.turns) f.rest) alike st.turns;
  touches = TouchesStand-same p q s t (ap (λ (z : Parts). z.touches) f.rest) spaces st.touches;
  marks = MarksStand-same p q s t (ap (λ (z : Parts). z.marks) f.rest) spaces st.marks;
  locks = LocksStand-same p q s t (ap (λ (z : Parts). z.locks) f.rest) locks st.locks;
  hists = HistsStand-frame p q s t (ap (λ (z : Parts). z.hists) f.rest) logs ready st.entries st.hists;
  entries = EntriesStand-same s t ready spaces st.entries;
  rows = RowsStand-alike p q s t (KeepRows-same p q (ap (λ (z : Parts). z.rows) f.rest)) ready logs alike st.entries st.rows;
}
  where
    fields : FieldsStand q t
    fields = FieldsStand-forked p q s t n number f (fields_stand p s st) spaces tables counters

    ready : KeepReady s.tables t.tables
    ready = KeepReady-same s.tables t.tables tables

    alike : SameTurns s.spaces t.spaces
    alike = SameTurns-same s.spaces t.spaces spaces

    logs : (m : ℕ) → log_of t.spaces m ≡ log_of s.spaces m
    logs m = ap (λ ws. log_of ws m) spaces
