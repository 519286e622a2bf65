-- The rules, as the code asks them of indexes and of references.
use Rattle.std.proofs.Common.{◌≡◌, ◌≢◌, ℕ, Bool, true, false, ◌&&◌, nat_lt, nat_le, List, [], ◌∷◌, length, Option, is_some, refl, sym, ap, ◌∙◌, arith, get_or}
use Rattle.std.proofs.lemmas.Bool.{and_parts}
use Rattle.std.specs.BTreeSet.{contains}
use Rattle.std.specs.List.{filter, list_all}
use Rattle.std.specs.Ordering.{nat_cmp}
use Rattle.std.specs.Str.{bytes_eq}
use Rattle.wm_base.specs.declared.instant.TheConstants.{END}
use Rattle.wm_rules.specs.Indexing.{IndexesOf}
use Rattle.wm_cells.specs.Lookups.{found, referred}
use Rattle.wm_graph.specs.Parts.{Parts}
use Rattle.wm_graph.specs.Rules.{differ, is_space, are_spaces, is_version, has_versions, are_versions, is_piece, is_trace, is_touch, is_asked, same_turn, has_turns, are_turns, keep_rules, keep_rules_with, are_cells}
use Rattle.wm_rules.specs.declared.indexes.Indexes.{Indexes}
use Rattle.wm_spec.specs.declared.record.cell_range.CellRange.{CellRange}
use Rattle.wm_spec.specs.declared.record.counters.Counters.{Counters}
use Rattle.wm_spec.specs.declared.record.space.Space.{Space}
use Rattle.wm_spec.specs.declared.record.version.Version.{Version}
use Rattle.wm_spec.specs.declared.record.row.RowRecord.{RowRecord}
use Rattle.wm_spec.specs.declared.record.piece.PieceRecord.{PieceRecord}
use Rattle.wm_spec.specs.declared.record.table.Table.{Table}
use Rattle.wm_spec.specs.declared.record.trace.Trace.{Trace}
use Rattle.wm_spec.specs.declared.record.turn.Turn.{Turn}
use denote.Ref.{Bor}

pub spaces_told : (p : Parts) (i : Indexes) (spaces : List Space) → IndexesOf p i → spaces ≡ p.spaces → i.spaces.differ ≡ true → ((nat_le (length spaces) 1024 && is_some (found i.spaces.index.entries 0)) && (differ (λ (s t : Space). bytes_eq s.name t.name) spaces && list_all (is_space (found i.spaces.index.entries)) spaces)) ≡ are_spaces p.spaces
spaces_told p i spaces o all numbers =
    let apart = sym numbers ∙ o.spaces_differ in
    λ k. (nat_le (length (all k)) 1024 && is_some (o.spaces k 0)) && (apart k && (differ (λ (s t : Space). bytes_eq s.name t.name) (all k) && list_all (is_space (o.spaces k)) (all k)))

pub versions_told : (p : Parts) (i : Indexes) (next : ℕ) (versions : List Version) (spaces : List Space) → IndexesOf p i → versions ≡ p.versions → spaces ≡ p.spaces → (i.versions.differ && (list_all (is_version (found i.spaces.index.entries) (found i.versions.index.entries) next) versions && list_all (has_versions (contains nat_cmp i.having) (found i.versions.index.entries)) spaces)) ≡ are_versions p next
versions_told p i next versions spaces o all others =
    λ k. o.versions_differ k && (list_all (is_version (o.spaces k) (o.versions k) next) (all k) && list_all (has_versions (o.having k) (o.versions k)) (others k))

-- what is left of a test where its first two parts are true
pub two_held : (a b c : Bool) → a ≡ true → b ≡ true → c ≡ (a && (b && c))
two_held a b c first second = rw (first, second) refl

-- cells that keep the rules begin before they end
cells_last : (tables : ℕ → Option Table) (c : CellRange) → are_cells tables c ≡ true → nat_lt c.from c.till ≡ true
cells_last tables c e =
    let period = and_parts (nat_lt c.from c.till && nat_le c.till END) _ e in
    (and_parts (nat_lt c.from c.till) (nat_le c.till END) period.0).0

-- items last for a time, where each passes a test that asks it of its cells
all_last : {A : Type 0} (cells : A → CellRange) (tables : ℕ → Option Table) (test : A → Bool) → ((x : A) → test x ≡ true → are_cells tables (cells x) ≡ true) → (xs : List A) → list_all test xs ≡ true → list_all (λ x. nat_lt (cells x).from (cells x).till) xs ≡ true
all_last cells tables test asks [] e = refl
all_last cells tables test asks (x ∷ xs) e =
    let parts = and_parts (test x) (list_all test xs) e in
    rw (cells_last tables (cells x) (asks x parts.0)) (all_last cells tables test asks xs parts.1)

pub pieces_last : (tables : ℕ → Option Table) (versions : ℕ → Option Version) (rows : ℕ → Option RowRecord) (next : ℕ) (xs : List PieceRecord) → list_all (is_piece tables versions rows next) xs ≡ true → list_all (λ (x : PieceRecord). nat_lt x.cells.from x.cells.till) xs ≡ true
pieces_last tables versions rows next =
    all_last (λ (x : PieceRecord). x.cells) tables (is_piece tables versions rows next)
    (λ x e. let others = and_parts (is_some (versions x.version)) _ e in (and_parts (are_cells tables x.cells) _ others.1).0)

pub marks_last : (tables : ℕ → Option Table) (spaces : ℕ → Option Space) (xs : List Trace) → list_all (is_trace tables spaces) xs ≡ true → list_all (λ (x : Trace). nat_lt x.cells.from x.cells.till) xs ≡ true
marks_last tables spaces =
    all_last (λ (x : Trace). x.cells) tables (is_trace tables spaces) (λ x e. (and_parts (are_cells tables x.cells) _ e).0)

pub touches_last : (tables : ℕ → Option Table) (spaces : ℕ → Option Space) (xs : List Trace) → list_all (is_touch tables spaces) xs ≡ true → list_all (λ (x : Trace). nat_lt x.cells.from x.cells.till) xs ≡ true
touches_last tables spaces =
    all_last (λ (x : Trace). x.cells) tables (is_touch tables spaces)
    (λ x e. let trace = and_parts (is_trace tables spaces x) _ e in (and_parts (are_cells tables x.cells) _ trace.0).0)

pub turns_told : (p : Parts) (i : Indexes) (spaces : List Space) (turns : List Turn) → IndexesOf p i → spaces ≡ p.spaces → turns ≡ p.turns → (list_all (λ (x : Turn). is_some (found i.spaces.index.entries x.space)) turns && (differ same_turn (filter (is_asked (found i.spaces.index.entries)) turns) && list_all (has_turns (filter (is_asked (found i.spaces.index.entries)) turns)) spaces)) ≡ are_turns p
turns_told p i spaces turns o others all =
    λ k. list_all (λ (x : Turn). is_some (o.spaces k x.space)) (all k) && (differ same_turn (filter (is_asked (o.spaces k)) (all k)) && list_all (has_turns (filter (is_asked (o.spaces k)) (all k))) (others k))

-- the counters are these alone
pub one_told : (p : Parts) (counters : List (Bor Counters)) (x : Bor Counters) → p.counters ≡ referred counters → length counters ≡ 1 → x ≡ get_or counters 0 x → keep_rules_with p (x.now ∷ []) ≡ keep_rules p
unfolding keep_rules
one_told p [] x all one at = absurd (omega (arith, one))
one_told p (y ∷ []) x all one at = ap (λ (r : Bor Counters). keep_rules_with p (r.now ∷ [])) at ∙ ap (keep_rules_with p) (sym all)
one_told p (y ∷ (z ∷ zs)) x all one at = absurd (omega (arith, one))

-- there are none, or several
pub not_one_told : (p : Parts) (counters : List (Bor Counters)) → p.counters ≡ referred counters → length counters ≢ 1 → false ≡ keep_rules p
unfolding keep_rules
not_one_told p [] all other = ap (keep_rules_with p) (sym all)
not_one_told p (y ∷ []) all other = absurd (other refl)
not_one_told p (y ∷ (z ∷ zs)) all other = ap (keep_rules_with p) (sym all)
