-- What comes of LockRows, by the cells of the rows that are meant.
use Rattle.std.proofs.Common.{◌≡◌, ℕ, ◌+◌, ◌==◌, ◌&&◌, nat_lt, Bool, true, false, List, [], ◌∷◌, length, map, Option, Some, None, refl, sym, ap, ◌∙◌, subst, arith, codes, eqb-true}
use Rattle.std.proofs.lemmas.Bool.{and_from, and_parts, eq-eqb}
use Rattle.std.proofs.lemmas.List.{length-map}
use Rattle.std.proofs.lemmas.List.Folds.{list_all-map}
use Rattle.std.specs.List.{list_all}
use Rattle.std.specs.Option.{option_map_or}
use Rattle.wm_base.specs.Period.{Span, always}
use Rattle.wm_base.specs.declared.instant.TheConstants.{END}
use Rattle.wm_base.specs.declared.refusal.Refusal.{Refusal}
use Rattle.wm_base.specs.declared.row.Row.{Row}
use Rattle.wm_chosen.specs.Chosen.{AreChosen, are_keyed, is_keyed_row, is_keyed_shown}
use Rattle.wm_dml.specs.Changing.{declared_values, row_key}
use Rattle.wm_graph.specs.Parts.{Parts, parts_of, space_of, table_of}
use Rattle.wm_graph.specs.Rules.{are_cells, is_key_of, is_row_of, is_short, keep_rules}
use Rattle.wm_model.proofs.Parting.{parts_fit, parts_kept}
use Rattle.wm_model.specs.Step.{Asking, Holder, Outcome, at_its_end, barring, cells_in, claim_of, counter_limit, done_so, is_spent_by, line_work, lock_edits, lock_fault, lock_parts, locked_told, locking, locks_spent, outcome, first_fault, refused_for, refused_if, refused_or, refused_with, within}
use Rattle.wm_model.specs.Step.Places.{least}
use Rattle.wm_outcome.proofs.Faults.{AtPlace, at_if, least_first, least_none}
use Rattle.wm_outcome.proofs.Named.{InOrder, can_outcome, told_first}
use Rattle.wm_outline.proofs.Outlines.{counted_is}
use Rattle.wm_outline.specs.Outline.{Outline, SpaceOutline, outline_by, outline_of}
use Rattle.wm_plan.specs.Idle.{is_idle}
use Rattle.wm_print.specs.Texts.{Done}
use Rattle.wm_spec.specs.declared.record.cell_range.CellRange.{CellRange}
use Rattle.wm_spec.specs.declared.record.counters.Counters.{Counters}
use Rattle.wm_spec.specs.declared.record.lock.Lock.{Lock}
use Rattle.wm_spec.specs.declared.record.lock.LockMode.{LockMode}
use Rattle.wm_spec.specs.declared.record.space.Space.{Space}
use Rattle.wm_spec.specs.declared.record.stored.Stored.{Stored}
use Rattle.wm_spec.specs.declared.record.table.Table.{Table}
use Rattle.wm_state.proofs.Apart.{ruled}
use Rattle.wm_state.specs.Drafts.{CanDraft, CanWork, can_keep, cells_locked}
use Rattle.wm_state.specs.Standing.{latest}
use Rattle.wm_state.specs.State.{Session}
use Rattle.wm_state.specs.declared.edit.Edit.TheVariants as edits
use Rattle.wm_state.specs.declared.edit.NewLock.{NewLock}
use Rattle.wm_model.specs.Seating.{Stay}
use Rattle.wm_locking.specs.Asked.{AreLate, is_late}
use Rattle.wm_locking.specs.Rows.{AreMeant, is_lasting_lock, keeps_key, locking_cells, locking_parts}

-- ---- how many

pub some_there : {A : Type 0} (x : A) (xs : List A) → length (x ∷ xs) ≡ 0 → ⊥
some_there x xs e = omega arith

pub none_there : {A : Type 0} (xs : List A) → length xs ≡ 0 → xs ≡ []
none_there [] e = refl
none_there (x ∷ xs) e = absurd (some_there x xs e)

-- ---- in order

at_locked : (o : Outline) (l : Option Lock) → AtPlace 42 (refused_for (locked_told o) l)
at_locked o None = tt
at_locked o (Some x) = refl

at_spent : (o : Outline) (parts : List NewLock) → AtPlace 49 (locks_spent parts o)
at_spent o [] = tt
at_spent o (x ∷ xs) = at_if 49 (is_spent_by (length (x ∷ xs)) o) (at_its_end (codes "WORK")) refl

module _ (session : Session) (mode : LockMode) (o : Outline) (cells : List CellRange) (n : ℕ) where
  abbrev pub parts_of_cells : List NewLock
  parts_of_cells = lock_parts o (record { space = n; mode = mode; user = session.user }) cells

  order : InOrder (locking_cells session mode o cells n).faults
  order = least_first (42 ∷ 49 ∷ []) (locking_cells session mode o cells n).faults (at_locked o (barring o (claim_of session n) cells), (at_spent o parts_of_cells, tt)) refl

  -- a lock bars it
  pub cells_told : (r : Refusal) (q : Outcome) → Some r ≡ lock_fault o (claim_of session n) cells → q ≡ refused_with r → q ≡ outcome (locking_cells session mode o cells n)
  cells_told r q is says = told_first (locking_cells session mode o cells n) (Some r) q order (by_fault (lock_fault o (claim_of session n) cells) is) says
    where
      by_fault : (f : Option Refusal) → Some r ≡ f → Some r ≡ first_fault (f ∷ locks_spent parts_of_cells o ∷ [])
      by_fault (Some s) e = e
      by_fault None e = absurd (cc)

  -- none does
  pub cells_clear : (q : Outcome) → None ≡ lock_fault o (claim_of session n) cells → q ≡ locking_parts session.user mode n parts_of_cells (length cells) o → q ≡ outcome (locking_cells session mode o cells n)
  cells_clear q none says = told_first (locking_cells session mode o cells n) (locks_spent parts_of_cells o) q order (by_fault (lock_fault o (claim_of session n) cells) none (locks_spent parts_of_cells o)) says
    where
      by_fault : (f : Option Refusal) → None ≡ f → (g : Option Refusal) → g ≡ first_fault (f ∷ g ∷ [])
      by_fault None e None = refl
      by_fault None e (Some r) = refl
      by_fault (Some r) e g = absurd (cc)

  -- as they are asked for
  pub claimed : (user : List ℕ) (f : Option Refusal) → user ≡ session.user → f ≡ lock_fault o (record { space = n; user = user; except = None }) cells → f ≡ lock_fault o (claim_of session n) cells
  claimed user f is told = told ∙ ap (λ (u : List ℕ). lock_fault o (record { space = n; user = u; except = None }) cells) is

  pub cells_done : (user : List ℕ) (parts : List NewLock) (count : ℕ) (q : Outcome) → user ≡ session.user → None ≡ lock_fault o (claim_of session n) cells → parts ≡ lock_parts o (record { space = n; mode = mode; user = user }) cells → count ≡ length cells
      → q ≡ locking_parts session.user mode n parts count o → q ≡ outcome (locking_cells session mode o cells n)
  cells_done user parts count q is none are counted says =
      cells_clear q none
      (says
      ∙ ap (λ (ps : List NewLock). locking_parts session.user mode n ps count o) (are ∙ ap (λ (u : List ℕ). lock_parts o (record { space = n; mode = mode; user = u }) cells) is)
      ∙ ap (λ (k : ℕ). locking_parts session.user mode n parts_of_cells k o) counted)

-- ---- parts, if there are any, while the work has room

pub spent_is : (p : Parts) (xs : List Session) (m : ℕ) (c : Counters) (k : ℕ) (b : Bool) → p.counters ≡ c ∷ [] → b ≡ nat_lt counter_limit (c.work + (k + line_work)) → b ≡ is_spent_by k (outline_of p xs m)
spent_is p xs m c k b one is = is ∙ sym (ap (λ w. nat_lt counter_limit (w + (k + line_work))) (counted_is p c (λ c. c.work) one))

module _ (user : List ℕ) (mode : LockMode) (n count : ℕ) (o : Outline) (q : Outcome) where
  pub parts_none : (parts : List NewLock) → parts ≡ [] → q ≡ record { edits = []; seating = Stay; answer = Done count } → q ≡ locking_parts user mode n parts count o
  parts_none parts none says = says ∙ ap (λ (ps : List NewLock). locking_parts user mode n ps count o) (sym none)

  abbrev spent_or : Bool → List NewLock → Outcome
  spent_or b parts = refused_or (refused_if b (at_its_end (codes "WORK"))) (record { edits = lock_edits n mode user parts; seating = Stay; answer = Done count })

  pub parts_spent : (parts : List NewLock) → (parts ≡ [] → ⊥) → is_spent_by (length parts) o ≡ true → q ≡ record { edits = []; seating = Stay; answer = at_its_end (codes "WORK") } → q ≡ locking_parts user mode n parts count o
  parts_spent [] some spent says = absurd (some refl)
  parts_spent (x ∷ xs) some spent says = says ∙ ap (λ b. spent_or b (x ∷ xs)) (sym spent)

  pub parts_locked : (parts : List NewLock) → (parts ≡ [] → ⊥) → is_spent_by (length parts) o ≡ false → q ≡ record { edits = edits.Lock n mode user parts ∷ []; seating = Stay; answer = Done count } → q ≡ locking_parts user mode n parts count o
  parts_locked [] some room says = absurd (some refl)
  parts_locked (x ∷ xs) some room says = says ∙ ap (λ b. spent_or b (x ∷ xs)) (sym room)

-- what is done with rows is told behind an empty period
pub locking_late : (session : Session) (mode : LockMode) (o : Outline) (rows : Table → SpaceOutline → List Row) → AreLate (λ t x. locking session mode o t (rows t x) x)
locking_late session mode o rows = λ t x.
    let cells = map (cells_in t (within o.moment session t)) (rows t x) in
    and_from (is_late (lock_fault o (claim_of session x.number) cells)) _ (by_lock (barring o (claim_of session x.number) cells))
    (and_from (is_late (locks_spent (lock_parts o (record { space = x.number; mode = mode; user = session.user }) cells) o)) true (by_parts (lock_parts o (record { space = x.number; mode = mode; user = session.user }) cells)) refl)
  where
    by_lock : (l : Option Lock) → is_late (refused_for (locked_told o) l) ≡ true
    by_lock None = refl
    by_lock (Some y) = refl

    by_test : (b : Bool) → is_late (refused_if b (at_its_end (codes "WORK"))) ≡ true
    by_test true = refl
    by_test false = refl

    by_parts : (parts : List NewLock) → is_late (locks_spent parts o) ≡ true
    by_parts [] = refl
    by_parts (p ∷ ps) = by_test (is_spent_by (length (p ∷ ps)) o)

-- rows are locked by their cells
pub locking_is : (session : Session) (mode : LockMode) (o : Outline) (t : Table) (rows : List Row) (x : SpaceOutline) → outcome (locking_cells session mode o (map (cells_in t (within o.moment session t)) rows) x.number) ≡ outcome (locking session mode o t rows x)
locking_is session mode o t rows x =
    let cells = map (cells_in t (within o.moment session t)) rows in
    let parts = lock_parts o (record { space = x.number; mode = mode; user = session.user }) cells in
    ap (λ k. outcome (record { faults = lock_fault o (claim_of session x.number) cells ∷ locks_spent parts o ∷ []; edits = lock_edits x.number mode session.user parts; seating = Stay; answer = Done k })) (length-map rows (cells_in t (within o.moment session t)))

-- ---- what it drafts

some_work : (k : ℕ) → nat_lt 0 (k + line_work) ≡ true
some_work k = grind arith

module _ (rs : List Stored) (xs : List Session) (m : ℕ) (rules : keep_rules (parts_of rs) ≡ true) (early : nat_lt m END ≡ true) where
  abbrev o : Outline
  o = outline_of (parts_of rs) xs m

  can_work : (k : ℕ) → is_spent_by k o ≡ false → CanWork (parts_of rs) m (k + line_work)
  can_work k room =
      let r = ruled (parts_of rs) rules in
      record { counters = r.counters; one = r.one; some = some_work k; room = ap (λ w. nat_lt counter_limit (w + (k + line_work))) (sym (counted_is (parts_of rs) r.counters (λ c. c.work) r.one)) ∙ room; early = early }

  unspent : (b : Bool) → refused_if b (at_its_end (codes "WORK")) ≡ None → b ≡ false
  unspent true h = absurd (cc)
  unspent false h = refl

  pub can_lock : (session : Session) (mode : LockMode) (cells : List CellRange) (r : Space) → space_of (parts_of rs).spaces r.number ≡ Some r → is_short session.user ≡ true → list_all (are_cells (table_of (parts_of rs).tables)) cells ≡ true
      → list_all (λ (c : CellRange). list_all can_keep c.key) cells ≡ true → CanDraft rs m (outcome (locking_cells session mode o cells r.number)).edits
  can_lock session mode cells r here short fit kept =
      can_outcome rs m (locking_cells session mode o cells r.number)
      (λ clear. by_parts (parts_of_cells session mode o cells r.number) (least_none _ _ (least_none _ _ clear).1).0 (parts_fit (parts_of rs).tables o holder cells fit) (parts_kept o holder cells kept))
    where
      holder : Holder
      holder = record { space = r.number; mode = mode; user = session.user }

      by_parts : (parts : List NewLock) → locks_spent parts o ≡ None → list_all (λ (x : NewLock). are_cells (table_of (parts_of rs).tables) (cells_locked x)) parts ≡ true → list_all (λ (x : NewLock). list_all can_keep x.key) parts ≡ true
          → CanDraft rs m (lock_edits r.number mode session.user parts)
      by_parts [] room fit kept = tt
      by_parts (p ∷ ps) room fit kept = (
        subst (CanWork (parts_of rs) m) (ap (λ k. k + line_work) plain) (can_work (length (p ∷ ps)) (unspent (is_spent_by (length (p ∷ ps)) o) room)),
        omega arith,
        (record { space = r; there = here; some = some; short = short; cells = fit; kept = kept }, λ given changes drafts. tt),
      )
        where
          plain : length (p ∷ ps) ≡ length (p ∷ ps) + 0
          plain = omega arith

          some : nat_lt 0 (length (p ∷ ps)) ≡ true
          some = grind arith

-- ---- cells

-- the keys of rows are their cells'
pub keys_kept : (t : Table) (within : Span) (rows : List Row) → list_all (λ (c : CellRange). list_all can_keep c.key) (map (cells_in t within) rows) ≡ list_all (keeps_key t) rows
keys_kept t within rows = list_all-map (λ (c : CellRange). list_all can_keep c.key) (cells_in t within) rows

pub locks_kept : (cells : List NewLock) → list_all (λ (c : CellRange). list_all can_keep c.key) (map cells_locked cells) ≡ list_all (λ (x : NewLock). list_all can_keep x.key) cells
locks_kept cells = list_all-map (λ (c : CellRange). list_all can_keep c.key) cells_locked cells

-- cells of a table that keep the rules, but for their periods
abbrev is_on_key : Table → CellRange → Bool
is_on_key t c = (c.table == t.number) && is_key_of c.key t

rows_on_keys : (t : Table) (within : Span) (rows : List Row) → are_keyed t rows ≡ true → list_all (is_on_key t) (map (cells_in t within) rows) ≡ true
rows_on_keys t within [] keyed = refl
rows_on_keys t within (r ∷ rs) keyed =
    let h = and_parts (is_keyed_shown t r) (are_keyed t rs) keyed in
    let row = and_parts (is_keyed_row t (declared_values t r.values)) _ h.0 in
    and_from (is_on_key t (cells_in t within r)) (list_all (is_on_key t) (map (cells_in t within) rs))
    (and_from (t.number == t.number) (is_key_of (row_key t (declared_values t r.values)) t) (eq-eqb t.number t.number refl) (and_parts (is_row_of (declared_values t r.values) t) (is_key_of (row_key t (declared_values t r.values)) t) row.0).1)
    (rows_on_keys t within rs h.1)

cells_fit : (tables : List Table) (t : Table) → table_of tables t.number ≡ Some t → (cells : List NewLock) → list_all is_lasting_lock cells ≡ true → list_all (is_on_key t) (map cells_locked cells) ≡ true
    → list_all (are_cells (table_of tables)) (map cells_locked cells) ≡ true
cells_fit tables t there [] lasting keyed = refl
cells_fit tables t there (x ∷ xs) lasting keyed =
    let l = and_parts (is_lasting_lock x) (list_all is_lasting_lock xs) lasting in
    let k = and_parts (is_on_key t (cells_locked x)) (list_all (is_on_key t) (map cells_locked xs)) keyed in
    let own = and_parts (x.table == t.number) (is_key_of x.key t) k.0 in
    and_from (are_cells (table_of tables) (cells_locked x)) (list_all (are_cells (table_of tables)) (map cells_locked xs))
    (and_from (is_lasting_lock x) (option_map_or (is_key_of x.key) (table_of tables x.table) false) l.0
    (ap (λ (n : ℕ). option_map_or (is_key_of x.key) (table_of tables n) false) (eqb-true x.table t.number own.0) ∙ ap (λ (f : Option Table). option_map_or (is_key_of x.key) f false) there ∙ own.1))
    (cells_fit tables t there xs l.1 k.1)

pub rows_fit : (tables : List Table) (t : Table) (within : Span) (rows : List Row) (cells : List NewLock) → table_of tables t.number ≡ Some t → are_keyed t rows ≡ true → list_all is_lasting_lock cells ≡ true
    → map cells_locked cells ≡ map (cells_in t within) rows → list_all (are_cells (table_of tables)) (map cells_locked cells) ≡ true
rows_fit tables t within rows cells there keyed lasting exact = cells_fit tables t there cells lasting (ap (list_all (is_on_key t)) exact ∙ rows_on_keys t within rows keyed)

-- ---- the rows that are meant

pub plain_within : (m : ℕ) (session : Session) (t : Table) → t.valid ≡ false → within m session t ≡ always
plain_within m session t plain = rw plain refl

module _ (rs : List Stored) (xs : List Session) (m : ℕ) (session : Session) (a : Asking) (t : Table) (x : Space) (version : ℕ) (period : Span) (list : List Row) (cells : List NewLock) (newest : version ≡ latest (parts_of rs) x.number) (sees : period ≡ within m session t)
    (are : AreChosen rs version t period a.condition list) (exact : map cells_locked cells ≡ map (cells_in t period) list) (rows : List Row) (meant : AreMeant rs session m a t x rows) where
  same : rows ≡ list
  same = meant.chosen list (subst (λ (v : ℕ). AreChosen rs v t (within m session t) a.condition list) newest (subst (λ (p : Span). AreChosen rs version t p a.condition list) sees are))

  -- their cells can be kept
  pub meant_kept : list_all (λ (y : NewLock). list_all can_keep y.key) cells ≡ true
  meant_kept = sym (locks_kept cells) ∙ ap (list_all (λ (c : CellRange). list_all can_keep c.key)) exact ∙ keys_kept t period list ∙ ap (list_all (keeps_key t)) (sym same) ∙ meant.kept

  -- and are locked
  pub meant_locked : (mode : LockMode) (n : ℕ) (q : Outcome) → n ≡ x.number → q ≡ outcome (locking_cells session mode (outline_of (parts_of rs) xs m) (map cells_locked cells) n)
      → q ≡ outcome (locking session mode (outline_of (parts_of rs) xs m) t rows (outline_by (parts_of rs) x))
  meant_locked mode n q number says =
      let o = outline_of (parts_of rs) xs m in
      says
      ∙ ap (λ (cs : List CellRange). outcome (locking_cells session mode o cs n)) (exact ∙ ap (λ (p : Span). map (cells_in t p) list) sees ∙ ap (map (cells_in t (within m session t))) (sym same))
      ∙ ap (λ (k : ℕ). outcome (locking_cells session mode o (map (cells_in t (within m session t)) rows) k)) number
      ∙ locking_is session mode o t rows (outline_by (parts_of rs) x)

-- ---- the sessions, and the answer

pub locking_stays : (session : Session) (mode : LockMode) (o : Outline) (cells : List CellRange) (n : ℕ) → (outcome (locking_cells session mode o cells n)).seating ≡ Stay
locking_stays session mode o cells n = by_least (least (locking_cells session mode o cells n).faults)
  where
    by_least : (f : Option Refusal) → (refused_or f (done_so (locking_cells session mode o cells n))).seating ≡ Stay
    by_least None = refl
    by_least (Some r) = refl

-- where no row is told nothing is locked
pub none_locked : (session : Session) (mode : LockMode) (o : Outline) (cells : List CellRange) (n : ℕ) → is_idle (locking_cells session mode o cells n).answer ≡ true → ((locking_cells session mode o cells n).edits ≡ []) × ((locking_cells session mode o cells n).seating ≡ Stay)
none_locked session mode o [] n idle = (refl, refl)
none_locked session mode o (c ∷ cs) n idle = absurd (some_there c cs (eqb-true (length (c ∷ cs)) 0 idle))
