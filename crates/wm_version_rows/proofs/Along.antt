-- What is held along a path by the pieces of one key, laid version by version.
use Rattle.std.proofs.Common.{◌≡◌, ◌≢◌, ◌<◌, ◌≤◌, ◌+◌, ◌++◌, ◌&&◌, ◌||◌, ℕ, zero, suc, max, length, get_or, take, drop, Bool, true, false, cond, nat_eq, ◌==◌, nat_le, nat_lt, List, [], ◌∷◌, Option, Some, None, is_some, refl, sym, ap, ◌∙◌, subst, arith, ◌⊎◌, inl, inr}
use Rattle.std.proofs.lemmas.Bool.{cases_lt, cases_eq, eq-eqb, leb-false, ne_eqb}
use Rattle.std.proofs.lemmas.List.{nil_from_length, take-append-drop, take_more}
use Rattle.std.specs.Bool.{then_some}
use Rattle.std.specs.List.{list_any, AllByRecursion}
use Rattle.std.specs.Option.{option_and_then, option_or}
use Rattle.wm_graph.specs.Parts.{Parts, as_piece}
use Rattle.wm_graph.specs.Rules.{keep_rules}
use Rattle.wm_version_rows.proofs.Falling.{FallsBelow, below_path, not_below}
use Rattle.wm_version_rows.proofs.Rising.{last_spanned, last_widest}
use Rattle.wm_records.proofs.Paths.{ruled}
use Rattle.wm_version_rows.proofs.Walking.{held-cons}
use Rattle.wm_image.specs.Shown.{first_held}
use Rattle.wm_version_rows.specs.Laying.{along, entry_held, held_here, up_to}
use Rattle.wm_ids.specs.Versioned.{AreSpanned, Encloses, IsSpanned, VersionsFrom, VersionsRise, Widens, ids_under}
use Rattle.wm_ids.specs.declared.versioned.Versioned.{Versioned}
use Rattle.wm_ids.proofs.Placing.{none_from}
use Rattle.wm_index.specs.Kinds.{kind_at}
use Rattle.wm_base.specs.Period.{covers}
use Rattle.wm_period.proofs.Cells.{held_at-append}
use Rattle.wm_period.specs.Pieces.{Held, held, held_at}
use Rattle.wm_period.specs.declared.piece.Piece.{Piece}
use Rattle.wm_spec.specs.Records.{record_at}
use Rattle.wm_spec.specs.declared.record.Record.{Record}
use Rattle.wm_spec.specs.declared.record.piece.PieceRecord.{PieceRecord}
use Rattle.wm_spec.specs.declared.record.stored.Stored.{Stored}
use Rattle.wm_state.specs.Standing.{held_by, newest_first}
use Rattle.wm_tree.proofs.Paths.{not_on_path}
use Rattle.wm_tree.specs.Versions.{path_in}

-- ---- what the greatest number has

-- what a function says at the greatest number where it says anything
abbrev Topmost : (ℕ → Option Held) → Option Held → Type 0
Topmost g None = (v : ℕ) → g v ≡ None
Topmost g (Some h) = (v : ℕ) × (g v ≡ Some h) × ((w : ℕ) → v < w → g w ≡ None)

none_some : (o : Option Held) (h : Held) → o ≡ None → o ≡ Some h → ⊥
none_some o h a b = cc

topmost_one : (g : ℕ → Option Held) (a b : Option Held) → Topmost g a → Topmost g b → a ≡ b
topmost_one g None None x y = refl
topmost_one g None (Some h) x y = absurd (none_some (g y.0) h (x y.0) y.1)
topmost_one g (Some h) None x y = absurd (none_some (g x.0) h (y x.0) x.1)
topmost_one g (Some h) (Some k) x y = by_order (cases_eq x.0 y.0) (cases_lt x.0 y.0)
  where
    by_order : (x.0 ≡ y.0) ⊎ (x.0 ≢ y.0) → (x.0 < y.0) ⊎ (y.0 ≤ x.0) → Some h ≡ Some k
    by_order (inl same) place = sym x.1 ∙ ap g same ∙ y.1
    by_order (inr other) (inl less) = absurd (none_some (g y.0) k (x.2 y.0 less) y.1)
    by_order (inr other) (inr more) = absurd (none_some (g x.0) h (y.2 x.0 (omega (arith, more, other))) x.1)

topmost_same : (f g : ℕ → Option Held) → ((v : ℕ) → f v ≡ g v) → (o : Option Held) → Topmost f o → Topmost g o
topmost_same f g same None top = λ v. sym (same v) ∙ top v
topmost_same f g same (Some h) top = (top.0, sym (same top.0) ∙ top.1, λ w more. sym (same w) ∙ top.2 w more)

-- ---- along a path

-- what a function says at the numbers of a path alone
abbrev said_on : (ℕ → Option Held) → List ℕ → ℕ → Option Held
said_on f path v = cond (list_any (nat_eq v) path) (f v) None

said_none : (b : Bool) (o : Option Held) → o ≡ None → cond b o None ≡ None
said_none true o none = none
said_none false o none = refl

along_below : (f : ℕ → Option Held) (b : ℕ) (vs : List ℕ) → FallsBelow b vs → Topmost (said_on f vs) (along f vs)
along_below f b [] below = λ v. refl
along_below f b (v ∷ vs) below = by_held (f v) refl (along_below f v vs below.1)
  where
    by_held : (o : Option Held) → f v ≡ o → Topmost (said_on f vs) (along f vs) → Topmost (said_on f (v ∷ vs)) (option_or o (along f vs))
    by_held None none rest = topmost_same (said_on f vs) (said_on f (v ∷ vs)) (λ w. by_number w (cases_eq w v)) (along f vs) rest
      where
        by_number : (w : ℕ) → (w ≡ v) ⊎ (w ≢ v) → said_on f vs w ≡ said_on f (v ∷ vs) w
        by_number w (inl same) = said_none (list_any (nat_eq w) vs) (f w) (ap f same ∙ none) ∙ sym (said_none (list_any (nat_eq w) (v ∷ vs)) (f w) (ap f same ∙ none))
        by_number w (inr other) = sym (ap (λ c. cond (c || list_any (nat_eq w) vs) (f w) None) (ne_eqb w v other))
    by_held (Some h) some rest = (
      v,
      ap (λ c. cond (c || list_any (nat_eq v) vs) (f v) None) (eq-eqb v v refl) ∙ some,
      λ w more. ap (λ c. cond c (f w) None) (not_below (v + 1) (v ∷ vs) w (omega arith, below.1) (omega (arith, more))),
    )

-- ---- under versions

or_assoc : (a b c : Option Held) → option_or (option_or a b) c ≡ option_or a (option_or b c)
or_assoc None b c = refl
or_assoc (Some h) b c = refl

pub or_none : (o : Option Held) → o ≡ option_or o None
or_none None = refl
or_none (Some h) = refl

-- what the front of some ids has, or the rest
held-append : (ss : List Stored) (front back : List ℕ) (v t : ℕ)
    → first_held (kind_at as_piece ss (front ++ back)) v t ≡ option_or (first_held (kind_at as_piece ss front) v t) (first_held (kind_at as_piece ss back) v t)
held-append ss [] back v t = refl
held-append ss (id ∷ ids) back v t =
    held-cons ss id (ids ++ back) v t
    ∙ ap (option_or (held_here (option_and_then as_piece (record_at ss id)) v t)) (held-append ss ids back v t)
    ∙ sym (or_assoc (held_here (option_and_then as_piece (record_at ss id)) v t) (first_held (kind_at as_piece ss ids) v t) (first_held (kind_at as_piece ss back) v t))
    ∙ ap (λ o. option_or o (first_held (kind_at as_piece ss back) v t)) (sym (held-cons ss id ids v t))

held-halves : (ss : List Stored) (n : ℕ) (ids : List ℕ) (v t : ℕ)
    → option_or (first_held (kind_at as_piece ss (take n ids)) v t) (first_held (kind_at as_piece ss (drop n ids)) v t) ≡ first_held (kind_at as_piece ss ids) v t
held-halves ss n ids v t = sym (held-append ss (take n ids) (drop n ids) v t) ∙ ap (λ (l : List ℕ). first_held (kind_at as_piece ss l) v t) (take-append-drop n ids)

-- where nothing is left, the front has all
pub held-whole : (ss : List Stored) (n : ℕ) (ids back : List ℕ) (v t : ℕ) (own : Option Held) → back ≡ drop n ids → length back ≡ 0 → own ≡ first_held (kind_at as_piece ss (take n ids)) v t
    → own ≡ first_held (kind_at as_piece ss ids) v t
held-whole ss n ids back v t own rest none laid =
    laid
    ∙ or_none (first_held (kind_at as_piece ss (take n ids)) v t)
    ∙ ap (λ (l : List ℕ). option_or (first_held (kind_at as_piece ss (take n ids)) v t) (first_held (kind_at as_piece ss l) v t)) (sym (nil_from_length back none) ∙ rest)
    ∙ held-halves ss n ids v t

-- a front with one id more
pub held-more : (ss : List Stored) (ids : List ℕ) (i v t : ℕ) (old new : Option Held) (found : Option Record) → i < length ids → found ≡ record_at ss (get_or ids i 0)
    → old ≡ first_held (kind_at as_piece ss (take i ids)) v t → new ≡ option_or old (held_here (option_and_then as_piece found) v t)
    → new ≡ first_held (kind_at as_piece ss (take (i + 1) ids)) v t
held-more ss ids i v t old new found within is before laid =
    laid
    ∙ ap (option_or old) (ap (λ o. held_here (option_and_then as_piece o) v t) is ∙ or_none (held_here (option_and_then as_piece (record_at ss (get_or ids i 0))) v t) ∙ sym (held-cons ss (get_or ids i 0) [] v t))
    ∙ ap (λ o. option_or o (first_held (kind_at as_piece ss (get_or ids i 0 ∷ [])) v t)) before
    ∙ sym (held-append ss (take i ids) (get_or ids i 0 ∷ []) v t)
    ∙ ap (λ (l : List ℕ). first_held (kind_at as_piece ss l) v t) (sym (take_more ids i 0 within))

pub held-both : (ss : List Stored) (n : ℕ) (ids front back : List ℕ) (v t : ℕ) (upper lower both : Option Held) → front ≡ take n ids → back ≡ drop n ids
    → upper ≡ first_held (kind_at as_piece ss front) v t → lower ≡ first_held (kind_at as_piece ss back) v t → both ≡ option_or upper lower → both ≡ first_held (kind_at as_piece ss ids) v t
held-both ss n ids front back v t upper lower both first rest over under laid =
    laid
    ∙ ap (λ o. option_or o lower) (over ∙ ap (λ (l : List ℕ). first_held (kind_at as_piece ss l) v t) first)
    ∙ ap (option_or (first_held (kind_at as_piece ss (take n ids)) v t)) (under ∙ ap (λ (l : List ℕ). first_held (kind_at as_piece ss l) v t) rest)
    ∙ held-halves ss n ids v t

-- a piece put behind others
pub held-behind : (ps qs : List Piece) (p : Piece) (t : ℕ) (own : Option Held) → qs ≡ ps ++ p ∷ [] → held_at (p ∷ []) t ≡ own → held_at qs t ≡ option_or (held_at ps t) own
held-behind ps qs p t own is here = ap (λ (l : List Piece). held_at l t) is ∙ held_at-append ps (p ∷ []) t ∙ ap (option_or (held_at ps t)) here

-- what the last of the entries has whose version stands on a path
abbrev pub newest_held : List Stored → List ℕ → List Versioned → ℕ → Option Held
newest_held ss path [] t = None
newest_held ss path (e ∷ es) t = option_or (newest_held ss path es t) (entry_held ss path e t)

-- what the pieces under a version have of it
abbrev held_under : List Stored → ℕ → List Versioned → ℕ → Option Held
held_under ss t es v = first_held (kind_at as_piece ss (ids_under es v)) v t

under_away : (e : Versioned) (es : List Versioned) (v : ℕ) → v ≢ e.version → ids_under (e ∷ es) v ≡ ids_under es v
under_away e es v other = ap (λ b. cond b e.ids (ids_under es v)) (ne_eqb e.version v (λ same. other (sym same)))

under_here : (e : Versioned) (es : List Versioned) → ids_under (e ∷ es) e.version ≡ e.ids
under_here e es = ap (λ b. cond b e.ids (ids_under es e.version)) (eq-eqb e.version e.version refl)

newest_topmost : (ss : List Stored) (path : List ℕ) (t b : ℕ) (es : List Versioned) → VersionsFrom b es → Topmost (said_on (held_under ss t es) path) (newest_held ss path es t)
newest_topmost ss path t b [] up = λ v. said_none (list_any (nat_eq v) path) None refl
newest_topmost ss path t b (e ∷ es) up = by_rest (newest_held ss path es t) (newest_topmost ss path t (e.version + 1) es up.1)
  where
    says : ℕ → Option Held
    says = said_on (held_under ss t (e ∷ es)) path

    rest_says : ℕ → Option Held
    rest_says = said_on (held_under ss t es) path

    away : (v : ℕ) → v ≢ e.version → says v ≡ rest_says v
    away v other = ap (λ ids. cond (list_any (nat_eq v) path) (first_held (kind_at as_piece ss ids) v t) None) (under_away e es v other)

    here : says e.version ≡ entry_held ss path e t
    here = ap (λ ids. cond (list_any (nat_eq e.version) path) (first_held (kind_at as_piece ss ids) e.version t) None) (under_here e es)

    older : (v : ℕ) → v ≤ e.version → rest_says v ≡ None
    older v most =
        ap (λ ids. cond (list_any (nat_eq v) path) (first_held (kind_at as_piece ss ids) v t) None) (none_from (e.version + 1) v es up.1 (omega (arith, most)))
        ∙ said_none (list_any (nat_eq v) path) None refl

    newer : (v : ℕ) (h : Held) → rest_says v ≡ Some h → e.version < v
    newer v h some = by_order (cases_lt e.version v)
      where
        by_order : (e.version < v) ⊎ (v ≤ e.version) → e.version < v
        by_order (inl more) = more
        by_order (inr most) = absurd (none_some (rest_says v) h (older v most) some)

    by_rest : (o : Option Held) → Topmost rest_says o → Topmost says (option_or o (entry_held ss path e t))
    by_rest (Some h) top =
        let more = newer top.0 h top.1 in
        (top.0, away top.0 (λ same. absurd (omega (arith, more, same))) ∙ top.1, λ w less. away w (λ same. absurd (omega (arith, more, less, same))) ∙ top.2 w less)
    by_rest None none = by_own (entry_held ss path e t) refl
      where
        by_own : (o : Option Held) → entry_held ss path e t ≡ o → Topmost says o
        by_own (Some h) some = (e.version, here ∙ some, λ w more. away w (λ same. absurd (omega (arith, more, same))) ∙ none w)
        by_own None own = λ v. by_number v (cases_eq v e.version)
          where
            by_number : (v : ℕ) → (v ≡ e.version) ⊎ (v ≢ e.version) → says v ≡ None
            by_number v (inl same) = ap says same ∙ here ∙ own
            by_number v (inr other) = away v other ∙ none v

-- what the last entry on a path has is what is held along it
pub held_along : (ss : List Stored) (p : Parts) → keep_rules p ≡ true → (top : ℕ) (es : List Versioned) (t : ℕ) → VersionsRise es
    → newest_held ss (path_in (newest_first p.versions) top) es t ≡ along (λ v. first_held (kind_at as_piece ss (ids_under es v)) v t) (path_in (newest_first p.versions) top)
held_along ss p kept top es t up =
    topmost_one (said_on f path) (newest_held ss path es t) (along f path) (newest_topmost ss path t 0 es up)
    (along_below f (top + 1) path (below_path (newest_first p.versions) top (top + 1) (ruled p kept).tree (omega arith)))
  where
    path : List ℕ
    path = path_in (newest_first p.versions) top

    f : ℕ → Option Held
    f v = first_held (kind_at as_piece ss (ids_under es v)) v t

-- those above the top of a path have no part in it
pub up_to_held : (ss : List Stored) (p : Parts) → keep_rules p ≡ true → (top : ℕ) (es : List Versioned) (t : ℕ)
    → newest_held ss (path_in (newest_first p.versions) top) (up_to top es) t ≡ newest_held ss (path_in (newest_first p.versions) top) es t
up_to_held ss p kept top [] t = refl
up_to_held ss p kept top (e ∷ es) t = by_test (nat_le e.version top) refl (up_to_held ss p kept top es t)
  where
    path : List ℕ
    path = path_in (newest_first p.versions) top

    by_test : (b : Bool) → nat_le e.version top ≡ b → newest_held ss path (up_to top es) t ≡ newest_held ss path es t
        → newest_held ss path (cond b (e ∷ up_to top es) (up_to top es)) t ≡ newest_held ss path (e ∷ es) t
    by_test true low rest = ap (λ o. option_or o (entry_held ss path e t)) rest
    by_test false high rest =
        rest
        ∙ or_none (newest_held ss path es t)
        ∙ ap (option_or (newest_held ss path es t))
        (sym (ap (λ b. cond b (first_held (kind_at as_piece ss e.ids) e.version t) None) (not_on_path (newest_first p.versions) top e.version (ruled p kept).tree (leb-false e.version top high))))

-- ---- entry by entry

-- where something stands, what lies under it does not show
pub hides : (o under : Option Held) → is_some o ≡ true → o ≡ option_or o under
hides None under some = absurd (cc)
hides (Some h) under some = refl

-- an entry is laid under those before
pub next_laid : (old new own rest all : Option Held) → new ≡ option_or old own → option_or old (option_or own rest) ≡ all → option_or new rest ≡ all
next_laid old new own rest all laid so = ap (λ o. option_or o rest) laid ∙ or_assoc old own rest ∙ so

-- ---- an entry that is covered

out_of : (from till low high t : ℕ) → (from ≤ low) × (high ≤ till) → (nat_le from t && nat_lt t till) ≡ false → (nat_le low t && nat_lt t high) ≡ false
out_of from till low high t within out = let first = within.0 in let last = within.1 in grind (arith, first, last, out)

-- pieces that lie within a span hold nothing beside it
beside : (ss : List Stored) (from till v t : ℕ) → (nat_le from t && nat_lt t till) ≡ false → (ids : List ℕ) → AllByRecursion (IsSpanned ss from till) ids → first_held (kind_at as_piece ss ids) v t ≡ None
beside ss from till v t out [] all = refl
beside ss from till v t out (id ∷ ids) all = held-cons ss id ids v t ∙ by_piece (option_and_then as_piece (record_at ss id)) all.0 ∙ beside ss from till v t out ids all.1
  where
    rest : Option Held
    rest = first_held (kind_at as_piece ss ids) v t

    by_piece : (o : Option PieceRecord) → ((r : PieceRecord) → o ≡ Some r → (from ≤ r.cells.from) × (r.cells.till ≤ till)) → option_or (held_here o v t) rest ≡ rest
    by_piece None spanned = refl
    by_piece (Some x) spanned =
        ap (λ b. option_or (then_some ((x.version == v) && b) (held_by x)) rest) (out_of from till x.cells.from x.cells.till t (spanned x refl) out)
        ∙ by_version (x.version == v)
      where
        by_version : (b : Bool) → option_or (then_some (b && false) (held_by x)) rest ≡ rest
        by_version true = refl
        by_version false = refl

within : (from till t : ℕ) → (nat_le from t && nat_lt t till) ≡ true → (from ≤ t) × (t < till)
within from till t in_it = (grind (arith, in_it), grind (arith, in_it))

-- nor do entries beside a period that holds theirs
beside_entry : (ss : List Stored) (path : List ℕ) (w : Versioned) (t : ℕ) (e : Versioned) → (nat_le w.from t && nat_lt t w.till) ≡ false → Encloses w e → AllByRecursion (IsSpanned ss e.from e.till) e.ids
    → entry_held ss path e t ≡ None
beside_entry ss path w t e out inside spanned =
    said_none (list_any (nat_eq e.version) path) (first_held (kind_at as_piece ss e.ids) e.version t) (beside ss e.from e.till e.version t (out_of w.from w.till e.from e.till t inside out) e.ids spanned)

beside_all : (ss : List Stored) (path : List ℕ) (w : Versioned) (t : ℕ) (es : List Versioned) → (nat_le w.from t && nat_lt t w.till) ≡ false → AllByRecursion (Encloses w) es → AreSpanned ss es → newest_held ss path es t ≡ None
beside_all ss path w t [] out inside spanned = refl
beside_all ss path w t (e ∷ es) out inside spanned = ap (λ o. option_or o (entry_held ss path e t)) (beside_all ss path w t es out inside.1 spanned.1) ∙ beside_entry ss path w t e out inside.0 spanned.0

-- the last is laid over those before
held_last : (ss : List Stored) (path : List ℕ) (t : ℕ) (xs : List Versioned) (e : Versioned) → newest_held ss path (xs ++ e ∷ []) t ≡ option_or (entry_held ss path e t) (newest_held ss path xs t)
held_last ss path t [] e = or_none (entry_held ss path e t)
held_last ss path t (x ∷ xs) e =
    ap (λ o. option_or o (entry_held ss path x t)) (held_last ss path t xs e) ∙ or_assoc (entry_held ss path e t) (newest_held ss path xs t) (entry_held ss path x t)

-- what is left holds what its last entry has, or those before
held_left : (ss : List Stored) (path : List ℕ) (t : ℕ) (es rest : List Versioned) (e : Versioned) → es ≡ rest ++ e ∷ [] → newest_held ss path es t ≡ option_or (entry_held ss path e t) (newest_held ss path rest t)
held_left ss path t es rest e is = ap (λ (l : List Versioned). newest_held ss path l t) is ∙ held_last ss path t rest e

-- what lies over the whole period of the last entry hides it and all before
pub passed_over : (ss : List Stored) (path : List ℕ) (es rest : List Versioned) (e : Versioned) (t : ℕ) (o all : Option Held) → es ≡ rest ++ e ∷ [] → Widens es → AreSpanned ss es
    → (e.from ≤ t → t < e.till → is_some o ≡ true) → option_or o (newest_held ss path es t) ≡ all → o ≡ all
passed_over ss path es rest e t o all is wide spanned covered so = by_place (nat_le e.from t && nat_lt t e.till) refl ∙ so
  where
    inside : AllByRecursion (Encloses e) rest
    inside = (last_widest rest e (subst Widens is wide)).0

    spans : AreSpanned ss rest × AllByRecursion (IsSpanned ss e.from e.till) e.ids
    spans = last_spanned ss rest e (subst (AreSpanned ss) is spanned)

    own : Encloses e e
    own = (omega arith, omega arith)

    by_place : (b : Bool) → (nat_le e.from t && nat_lt t e.till) ≡ b → o ≡ option_or o (newest_held ss path es t)
    by_place true at = hides o (newest_held ss path es t) (covered (within e.from e.till t at).0 (within e.from e.till t at).1)
    by_place false out =
        or_none o
        ∙ ap (option_or o)
        (sym
        (held_left ss path t es rest e is
        ∙ ap (λ own. option_or own (newest_held ss path rest t)) (beside_entry ss path e t e out own spans.1)
        ∙ beside_all ss path e t rest out inside spans.0))

-- what stands on no path is not laid
pub not_on : (ss : List Stored) (path : List ℕ) (e : Versioned) (t : ℕ) (o : Option Held) → list_any (nat_eq e.version) path ≡ false → o ≡ option_or o (entry_held ss path e t)
not_on ss path e t o out = or_none o ∙ ap (option_or o) (sym (ap (λ b. cond b (first_held (kind_at as_piece ss e.ids) e.version t) None) out))

-- what stands on it is
pub is_on : (ss : List Stored) (path : List ℕ) (e : Versioned) (t : ℕ) → list_any (nat_eq e.version) path ≡ true → first_held (kind_at as_piece ss e.ids) e.version t ≡ entry_held ss path e t
is_on ss path e t on = sym (ap (λ b. cond b (first_held (kind_at as_piece ss e.ids) e.version t) None) on)

-- ---- how far pieces reach

-- a moment of one of the pieces is held
reaches : (ps : List Piece) (i : ℕ) (p : Piece) (t : ℕ) → i < length ps → p ≡ get_or ps i p → (nat_le p.period.from t && nat_lt t p.period.till) ≡ true → is_some (held_at ps t) ≡ true
reaches [] i p t less is in_it = absurd (omega (arith, less))
reaches (q ∷ qs) zero p t less is in_it = ap (λ (x : Piece). is_some (held_at (x ∷ qs) t)) (sym is) ∙ ap (λ b. is_some (option_or (then_some b (held p)) (held_at qs t))) in_it
reaches (q ∷ qs) (suc i) p t less is in_it = by_first (covers q.period t) (reaches qs i p t (omega (arith, less)) is in_it)
  where
    by_first : (b : Bool) → is_some (held_at qs t) ≡ true → is_some (option_or (then_some b (held q)) (held_at qs t)) ≡ true
    by_first true rest = refl
    by_first false rest = rest

in_span : (from till t : ℕ) → from ≤ t → t < till → (nat_le from t && nat_lt t till) ≡ true
in_span from till t low high = grind (arith, low, high)

-- they reach as far as the next of them, where that begins before
pub reaches_on : (ps : List Piece) (i from reached next : ℕ) (p : Piece) → i < length ps → p ≡ get_or ps i p → p.period.from ≤ reached → next ≤ max reached p.period.till
    → ((t : ℕ) → from ≤ t → t < reached → is_some (held_at ps t) ≡ true) → (t : ℕ) → from ≤ t → t < next → is_some (held_at ps t) ≡ true
reaches_on ps i from reached next p less is begun most before t low high = by_place (cases_lt t reached)
  where
    by_place : (t < reached) ⊎ (reached ≤ t) → is_some (held_at ps t) ≡ true
    by_place (inl early) = before t low early
    by_place (inr late) = reaches ps i p t less is (in_span p.period.from p.period.till t (omega (arith, begun, late)) (below_max reached p.period.till next t most high late))
      where
        below_max : (a b n u : ℕ) → n ≤ max a b → u < n → a ≤ u → u < b
        below_max a b n u m h l = grind (arith, m, h, l)

-- ---- one entry more

-- what is left without its last
pub rest_widens : (es rest : List Versioned) (e : Versioned) → es ≡ rest ++ e ∷ [] → Widens es → Widens rest
rest_widens es rest e is wide = (last_widest rest e (subst Widens is wide)).1

pub rest_spanned : (ss : List Stored) (es rest : List Versioned) (e : Versioned) → es ≡ rest ++ e ∷ [] → AreSpanned ss es → AreSpanned ss rest
rest_spanned ss es rest e is spanned = (last_spanned ss rest e (subst (AreSpanned ss) is spanned)).0

pub next_entry : (ss : List Stored) (path : List ℕ) (es rest : List Versioned) (e : Versioned) (t : ℕ) (old new all : Option Held) → es ≡ rest ++ e ∷ []
    → new ≡ option_or old (entry_held ss path e t) → option_or old (newest_held ss path es t) ≡ all → option_or new (newest_held ss path rest t) ≡ all
next_entry ss path es rest e t old new all is laid so = next_laid old new (entry_held ss path e t) (newest_held ss path rest t) all laid (sym (ap (option_or old) (held_left ss path t es rest e is)) ∙ so)

-- where none is left, what is laid is all
pub none_left : (ss : List Stored) (path : List ℕ) (es : List Versioned) (t : ℕ) (o all : Option Held) → length es ≡ 0 → option_or o (newest_held ss path es t) ≡ all → o ≡ all
none_left ss path es t o all done so = or_none o ∙ sym (ap (λ (l : List Versioned). option_or o (newest_held ss path l t)) (nil_from_length es done)) ∙ so
