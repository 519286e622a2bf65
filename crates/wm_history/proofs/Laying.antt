-- What the entries of a log say on a date, put over pieces by key.
use Rattle.std.proofs.Common.{◌≡◌, ℕ, ◌<◌, ◌≤◌, ◌==◌, ◌&&◌, ◌||◌, ◌+◌, nat_lt, nat_le, Bool, true, false, if◌then◌else◌, All, List, [], ◌∷◌, ◌++◌, length, take, get_or, Option, Some, None, refl, sym, ap, subst, ◌∙◌, append_assoc}
use Rattle.std.proofs.lemmas.Bool.{and_parts, eq-eqb}
use Rattle.std.proofs.lemmas.List.{append-nil, take_more}
use Rattle.std.proofs.lemmas.List.Elements.{All-head, All-tail, filter_map-append}
use Rattle.std.proofs.lemmas.List.Folds.{list_all-append, list_any-append}
use Rattle.std.specs.Bool.{then_some}
use Rattle.std.specs.BTreeMap.{is_at}
use Rattle.std.specs.List.{cons_option, filter_map, list_all}
use Rattle.std.specs.Map.{lookup, keys_of as entry_keys}
use Rattle.std.specs.Option.{option_and_then, option_or}
use Rattle.std.specs.Ordering.{is_eq}
use Rattle.std.specs.declared.alloc.Global.{Global}
use Rattle.std.specs.declared.vec.Vec.{Vec}
use Rattle.wm_base.proofs.Plain.{option_or-none, option_or_assoc}
use Rattle.wm_base.specs.Key.{key_order}
use Rattle.wm_base.specs.Period.{Span, covers}
use Rattle.wm_base.specs.declared.instant.TheConstants.{END}
use Rattle.wm_base.specs.declared.value.Value.{Value}
use Rattle.wm_dated.specs.Dated.{born_with, dated, dated_in, hist_held}
use Rattle.wm_graph.specs.Parts.{Parts, as_hist, as_piece, parts_of}
use Rattle.wm_graph.specs.Rules.{keep_rules}
use Rattle.wm_history.proofs.Logged.{all_ended, all_on, are_logged}
use Rattle.wm_history.specs.Laid.{HasEnded, HaveStood, HoldBy, IsPutOver, Laid, laid_at}
use Rattle.wm_ids.specs.Versioned.{AreNested, AreSpanned, ids_under, versions_found, versions_in}
use Rattle.wm_ids.specs.declared.versioned.Versioned.{Versioned}
use Rattle.wm_image.specs.Shown.{AreKeysOf, first_held}
use Rattle.wm_index.specs.Hists.{AreByPosition, logged_on}
use Rattle.wm_index.specs.Kinds.{kind_at}
use Rattle.wm_period.specs.Pieces.{Held, held, held_at}
use Rattle.wm_period.specs.declared.piece.Piece.{Piece}
use Rattle.wm_spec.specs.Lists.{Cell}
use Rattle.wm_spec.specs.Records.{record_at}
use Rattle.wm_spec.specs.Stretches.{is_key_in}
use Rattle.wm_spec.specs.declared.record.Record.{Record}
use Rattle.wm_spec.specs.declared.record.hist.Hist.{Hist}
use Rattle.wm_spec.specs.declared.record.space.Space.{Space}
use Rattle.wm_spec.specs.declared.record.stored.Stored.{Stored}
use Rattle.wm_state.proofs.Laying.{key_same}
use Rattle.wm_state.specs.Standing.{in_cells, newest_first, seen}
use Rattle.wm_tree.specs.Versions.{path_in}
use Rattle.wm_version_rows.proofs.Gathering.{KeyVersions, unfound}
use Rattle.wm_version_rows.proofs.Late.{late_seen, uncovered}
use Rattle.wm_version_rows.proofs.Walking.{seen_along}
use Rattle.wm_version_rows.specs.Laying.{along}
use Rattle.wm_view_rows.specs.History.{AreLogged}

-- ---- entries one after another

-- what the last of two logs' entries say is said of both
dated_in-append : (xs ys : List Hist) (date : ℕ) (c : Cell) → dated_in (xs ++ ys) date c ≡ option_or (dated_in ys date c) (dated_in xs date c)
dated_in-append [] ys date c = sym (option_or-none (dated_in ys date c))
dated_in-append (x ∷ xs) ys date c =
    ap (λ o. option_or o (then_some (nat_le x.moment date && in_cells x.cells c) (hist_held x))) (dated_in-append xs ys date c)
    ∙ option_or_assoc (dated_in ys date c) (dated_in xs date c) (then_some (nat_le x.moment date && in_cells x.cells c) (hist_held x))

hists-append : (ss : List Stored) (xs ys : List ℕ) → kind_at as_hist ss (xs ++ ys) ≡ kind_at as_hist ss xs ++ kind_at as_hist ss ys
hists-append ss xs ys = ap (filter_map as_hist) (filter_map-append (record_at ss) xs ys) ∙ filter_map-append as_hist (filter_map (record_at ss) xs) (filter_map (record_at ss) ys)

pub put_none : (ss : List Stored) (date : ℕ) (laid : Laid) → IsPutOver ss [] date laid laid
put_none ss date laid = λ table each key t less. refl

put_more : (ss : List Stored) (xs ys : List ℕ) (date : ℕ) (old mid new : Laid) → IsPutOver ss xs date old mid → IsPutOver ss ys date mid new → IsPutOver ss (xs ++ ys) date old new
put_more ss xs ys date old mid new first second = λ table each key t less.
    let on = λ (x : Hist). x.cells.table == table in
    let c : Cell = record { table = table; key = key; time = t } in
    let before : List Hist = kind_at as_hist ss xs in
    let after : List Hist = kind_at as_hist ss ys in
    let both = and_parts (list_all on before) (list_all on after) (sym (list_all-append on before after) ∙ ap (list_all on) (sym (hists-append ss xs ys)) ∙ each) in
    second table both.1 key t less
    ∙ ap (option_or (dated_in after date c)) (first table both.0 key t less)
    ∙ sym (option_or_assoc (dated_in after date c) (dated_in before date c) (laid_at old key t))
    ∙ ap (λ o. option_or o (laid_at old key t)) (sym (dated_in-append before after date c) ∙ ap (λ zs. dated_in zs date c) (sym (hists-append ss xs ys)))

-- the entry of the next id was put over them
pub put_next : (ss : List Stored) (ids : List ℕ) (i id : ℕ) (date : ℕ) (old mid new : Laid) → i < length ids → id ≡ get_or ids i 0 → IsPutOver ss (take i ids) date old mid → IsPutOver ss (id ∷ []) date mid new
    → IsPutOver ss (take (i + 1) ids) date old new
put_next ss ids i id date old mid new within is first second =
    subst (λ (l : List ℕ). IsPutOver ss l date old new) (sym (take_more ids i 0 within))
    (put_more ss (take i ids) (get_or ids i 0 ∷ []) date old mid new first (subst (λ (k : ℕ). IsPutOver ss (k ∷ []) date mid new) is second))

-- ---- one entry

hists_none : (ss : List Stored) (id : ℕ) → option_and_then as_hist (record_at ss id) ≡ None → kind_at as_hist ss (id ∷ []) ≡ []
hists_none ss id none = by_record (record_at ss id) none
  where
    by_record : (o : Option Record) → option_and_then as_hist o ≡ None → filter_map as_hist (cons_option o []) ≡ []
    by_record None e = refl
    by_record (Some r) e = ap (λ h. cons_option h []) e

hists_one : (ss : List Stored) (id : ℕ) (x : Hist) → option_and_then as_hist (record_at ss id) ≡ Some x → kind_at as_hist ss (id ∷ []) ≡ x ∷ []
hists_one ss id x some = by_record (record_at ss id) some
  where
    by_record : (o : Option Record) → option_and_then as_hist o ≡ Some x → filter_map as_hist (cons_option o []) ≡ x ∷ []
    by_record None e = cc
    by_record (Some r) e = ap (λ h. cons_option h []) e

-- an id without an entry
pub put_without : (ss : List Stored) (id date : ℕ) (laid : Laid) → option_and_then as_hist (record_at ss id) ≡ None → IsPutOver ss (id ∷ []) date laid laid
put_without ss id date laid none = λ table each key t less.
    ap (λ xs. option_or (dated_in xs date (record { table = table; key = key; time = t })) (laid_at laid key t)) (sym (hists_none ss id none))

-- what an entry says of a moment of a key
says : ℕ → Hist → List Value → ℕ → Option Held
says date x key t = then_some (nat_le x.moment date && (is_eq (key_order x.cells.key key) && (nat_le x.cells.from t && nat_lt t x.cells.till))) (hist_held x)

put_one : (ss : List Stored) (id date : ℕ) (x : Hist) (old new : Laid) → option_and_then as_hist (record_at ss id) ≡ Some x
    → ((key : List Value) (t : ℕ) → t < END → laid_at new key t ≡ option_or (says date x key t) (laid_at old key t)) → IsPutOver ss (id ∷ []) date old new
unfolding says
put_one ss id date x old new some step = λ table each key t less.
    let on = λ (y : Hist). y.cells.table == table in
    let first = and_parts (x.cells.table == table) true (sym (ap (list_all on) (hists_one ss id x some)) ∙ each) in
    step key t less
    ∙ ap (λ o. option_or o (laid_at old key t))
    (ap (λ b. then_some (nat_le x.moment date && ((b && is_eq (key_order x.cells.key key)) && (nat_le x.cells.from t && nat_lt t x.cells.till))) (hist_held x)) (sym first.0)
    ∙ ap (λ ys. dated_in ys date (record { table = table; key = key; time = t })) (sym (hists_one ss id x some)))

-- one of a later moment
pub put_late : (ss : List Stored) (id date : ℕ) (x : Hist) (laid : Laid) → option_and_then as_hist (record_at ss id) ≡ Some x → nat_le x.moment date ≡ false → IsPutOver ss (id ∷ []) date laid laid
unfolding says
put_late ss id date x laid some late = put_one ss id date x laid laid some (λ key t less.
    ap (λ b. option_or (then_some (b && (is_eq (key_order x.cells.key key) && (nat_le x.cells.from t && nat_lt t x.cells.till))) (hist_held x)) (laid_at laid key t)) (sym late))

-- one that covers no moment
pub put_nowhere : (ss : List Stored) (id date : ℕ) (x : Hist) (laid : Laid) → option_and_then as_hist (record_at ss id) ≡ Some x → ((t : ℕ) → t < END → false ≡ (nat_le x.cells.from t && nat_lt t x.cells.till))
    → IsPutOver ss (id ∷ []) date laid laid
unfolding says
put_nowhere ss id date x laid some none = put_one ss id date x laid laid some (λ key t less.
    ap (λ b. option_or (then_some b (hist_held x)) (laid_at laid key t)) (by_test (nat_le x.moment date) (is_eq (key_order x.cells.key key)) (nat_le x.cells.from t && nat_lt t x.cells.till) (none t less)))
  where
    by_test : (a b d : Bool) → false ≡ d → false ≡ (a && (b && d))
    by_test true true d off = off
    by_test true false d off = refl
    by_test false b d off = refl

-- one whose piece was put over those of its key
pub put_piece : (ss : List Stored) (id date : ℕ) (x : Hist) (piece : Piece) (period : Span) (old new : Laid) → option_and_then as_hist (record_at ss id) ≡ Some x → nat_le x.moment date ≡ true
    → ((t : ℕ) → t < END → covers period t ≡ (nat_le x.cells.from t && nat_lt t x.cells.till)) → piece.period ≡ period → held piece ≡ hist_held x
    → ((key : List Value) (t : ℕ)
    → laid_at new key t
    ≡ (if is_eq (key_order x.cells.key key) then option_or (then_some (covers piece.period t) (held piece)) (laid_at old x.cells.key t) else laid_at old key t)) → IsPutOver ss (id ∷ []) date old new
unfolding says
put_piece ss id date x piece period old new some early covered over same put = put_one ss id date x old new some (λ key t less.
    put key t
    ∙ by_key key t (is_eq (key_order x.cells.key key)) refl (ap (λ (s : Span). covers s t) over ∙ covered t less)
    ∙ ap (λ b. option_or (then_some (b && (is_eq (key_order x.cells.key key) && (nat_le x.cells.from t && nat_lt t x.cells.till))) (hist_held x)) (laid_at old key t)) (sym early))
  where
    by_key : (key : List Value) (t : ℕ) (b : Bool) → is_eq (key_order x.cells.key key) ≡ b → covers piece.period t ≡ (nat_le x.cells.from t && nat_lt t x.cells.till)
        → (if b then option_or (then_some (covers piece.period t) (held piece)) (laid_at old x.cells.key t) else laid_at old key t)
        ≡ option_or (then_some (true && (b && (nat_le x.cells.from t && nat_lt t x.cells.till))) (hist_held x)) (laid_at old key t)
    by_key key t false away when = refl
    by_key key t true tie when =
        ap (λ d. option_or (then_some d (held piece)) (laid_at old x.cells.key t)) when
        ∙ ap (λ h. option_or (then_some (nat_le x.cells.from t && nat_lt t x.cells.till) h) (laid_at old x.cells.key t)) same
        ∙ ap (λ (k : List Value). option_or (then_some (nat_le x.cells.from t && nat_lt t x.cells.till) (hist_held x)) (laid_at old k t)) (key_same x.cells.key key tie)

-- ---- what a version holds, key by key

-- of the keys before the rest, pieces hold what a version holds, and of others nothing
pub record HeldTo (p : Parts) (version table : ℕ) (all rest : KeyVersions) (laid : Laid) : Type 0 where
  pub passed : List (List Value)
  pub parted : passed ++ entry_keys rest ≡ entry_keys all
  pub found : All (λ e. lookup (is_at (key_order e.0)) all ≡ Some e.1) rest
  pub holds : (key : List Value) (t : ℕ) → t < END → laid_at laid key t ≡ (if is_key_in key passed then seen p version (record { table = table; key = key; time = t }) else None)

pub held_first : (p : Parts) (version table : ℕ) (all rest : KeyVersions) (laid : Laid) → rest ≡ all → All (λ e. lookup (is_at (key_order e.0)) all ≡ Some e.1) all → laid ≡ [] → HeldTo p version table all rest laid
held_first p version table all rest laid whole found none = record {
  passed = [];
  parted = ap entry_keys whole;
  found = subst (All (λ e. lookup (is_at (key_order e.0)) all ≡ Some e.1)) (sym whole) found;
  holds = λ key t less. ap (λ (l : Laid). laid_at l key t) none;
}

-- the versions of the next key
next_held : (p : Parts) (version table : ℕ) (all left rest : KeyVersions) (e : List Value × Vec Versioned Global) (laid : Laid) → left ≡ e ∷ rest → HeldTo p version table all left laid → versions_in all e.0 ≡ e.1.items
next_held p version table all left rest e laid is so =
    ap versions_found (All-head (λ e. lookup (is_at (key_order e.0)) all ≡ Some e.1) e rest (subst (All (λ e. lookup (is_at (key_order e.0)) all ≡ Some e.1)) is so.found))

-- they are nested, and their pieces lie in their periods
pub nested_next : (ss : List Stored) (version table : ℕ) (all left rest : KeyVersions) (e : List Value × Vec Versioned Global) (es : List Versioned) (laid : Laid) → left ≡ e ∷ rest
    → HeldTo (parts_of ss) version table all left laid → AreKeysOf ss table all → es ≡ e.1.items → AreNested es × AreSpanned ss es
nested_next ss version table all left rest e es laid is so keys same =
    let held : versions_in all e.0 ≡ es = next_held (parts_of ss) version table all left rest e laid is so ∙ sym same in
    (subst AreNested held (keys.nested e.0), subst (AreSpanned ss) held (keys.spanned e.0))

-- what versions of a key have along the path of one is what that holds
seen_of : (ss : List Stored) (version table : ℕ) (all : KeyVersions) (key : List Value) (t : ℕ) → AreKeysOf ss table all
    → along (λ v. first_held (kind_at as_piece ss (ids_under (versions_in all key) v)) v t) (path_in (newest_first (parts_of ss).versions) version) ≡ seen (parts_of ss) version (record { table = table; key = key; time = t })
seen_of ss version table all key t keys =
    seen_along (parts_of ss) version (record { table = table; key = key; time = t }) (λ v. first_held (kind_at as_piece ss (ids_under (versions_in all key) v)) v t) (λ v. keys.held key v t)

pub held_next : (ss : List Stored) (version table : ℕ) (all left rest : KeyVersions) (e : List Value × Vec Versioned Global) (es : List Versioned) (pieces : List Piece) (old new : Laid) → left ≡ e ∷ rest
    → HeldTo (parts_of ss) version table all left old → AreKeysOf ss table all → es ≡ e.1.items
    → ((t : ℕ) → t < END → held_at pieces t ≡ along (λ v. first_held (kind_at as_piece ss (ids_under es v)) v t) (path_in (newest_first (parts_of ss).versions) version))
    → ((k : List Value) (t : ℕ) → laid_at new k t ≡ (if is_eq (key_order e.0 k) then held_at pieces t else laid_at old k t)) → HeldTo (parts_of ss) version table all rest new
held_next ss version table all left rest e es pieces old new is so keys same laid put = record {
  passed = so.passed ++ e.0 ∷ [];
  parted = append_assoc so.passed (e.0 ∷ []) (entry_keys rest) ∙ ap (λ (l : KeyVersions). so.passed ++ entry_keys l) (sym is) ∙ so.parted;
  found = All-tail (λ e. lookup (is_at (key_order e.0)) all ≡ Some e.1) e rest (subst (All (λ e. lookup (is_at (key_order e.0)) all ≡ Some e.1)) is so.found);
  holds = λ key t less.
      put key t
      ∙ by_key key t less (is_eq (key_order e.0 key)) refl
      ∙ ap (λ b. if b then seen (parts_of ss) version (record { table = table; key = key; time = t }) else None) (sym (list_any-append (λ k. is_eq (key_order k key)) so.passed (e.0 ∷ [])));
}
  where
    own : (t : ℕ) → t < END → held_at pieces t ≡ seen (parts_of ss) version (record { table = table; key = e.0; time = t })
    own t less =
        laid t less
        ∙ ap (λ (vs : List Versioned). along (λ v. first_held (kind_at as_piece ss (ids_under vs v)) v t) (path_in (newest_first (parts_of ss).versions) version))
        (same ∙ sym (next_held (parts_of ss) version table all left rest e old is so))
        ∙ seen_of ss version table all e.0 t keys

    or_true : (a : Bool) (o : Option Held) → (if a || (true || false) then o else None) ≡ o
    or_true true o = refl
    or_true false o = refl

    or_false : (a : Bool) (o : Option Held) → (if a || (false || false) then o else None) ≡ (if a then o else None)
    or_false true o = refl
    or_false false o = refl

    by_key : (key : List Value) (t : ℕ) → t < END → (b : Bool) → is_eq (key_order e.0 key) ≡ b
        → (if b then held_at pieces t else laid_at old key t) ≡ (if is_key_in key so.passed || (b || false) then seen (parts_of ss) version (record { table = table; key = key; time = t }) else None)
    by_key key t less true tie =
        own t less
        ∙ ap (λ (k : List Value). seen (parts_of ss) version (record { table = table; key = k; time = t })) (key_same e.0 key tie)
        ∙ sym (or_true (is_key_in key so.passed) (seen (parts_of ss) version (record { table = table; key = key; time = t })))
    by_key key t less false away = so.holds key t less ∙ sym (or_false (is_key_in key so.passed) (seen (parts_of ss) version (record { table = table; key = key; time = t })))

-- of a key without versions nothing is held
unseen_of : (ss : List Stored) (version table : ℕ) (all : KeyVersions) (key : List Value) (t : ℕ) → AreKeysOf ss table all → is_key_in key (entry_keys all) ≡ false
    → seen (parts_of ss) version (record { table = table; key = key; time = t }) ≡ None
unseen_of ss version table all key t keys out =
    sym (seen_of ss version table all key t keys)
    ∙ ap (λ (vs : List Versioned). along (λ v. first_held (kind_at as_piece ss (ids_under vs v)) v t) (path_in (newest_first (parts_of ss).versions) version)) (ap versions_found (unfound key all out))
    ∙ nothing (path_in (newest_first (parts_of ss).versions) version)
  where
    nothing : (vs : List ℕ) → along (λ v. first_held (kind_at as_piece ss (ids_under [] v)) v t) vs ≡ None
    nothing [] = refl
    nothing (v ∷ vs) = nothing vs

-- so for all keys
held_all : (ss : List Stored) (version table : ℕ) (all : KeyVersions) (laid : Laid) → AreKeysOf ss table all → HeldTo (parts_of ss) version table all [] laid → HoldBy laid table (seen (parts_of ss) version)
held_all ss version table all laid keys so = λ key t less.
    so.holds key t less
    ∙ ap (λ (ks : List (List Value)). if is_key_in key ks then seen (parts_of ss) version (record { table = table; key = key; time = t }) else None) (sym (append-nil so.passed) ∙ so.parted)
    ∙ by_key key t (is_key_in key (entry_keys all)) refl
  where
    by_key : (key : List Value) (t : ℕ) (b : Bool) → is_key_in key (entry_keys all) ≡ b
        → (if b then seen (parts_of ss) version (record { table = table; key = key; time = t }) else None) ≡ seen (parts_of ss) version (record { table = table; key = key; time = t })
    by_key key t true within = refl
    by_key key t false out = sym (unseen_of ss version table all key t keys out)

-- ---- what a workspace was born with

-- LIVE was born with nothing
pub born_nothing : (p : Parts) (a : Space) (table : ℕ) (laid : Laid) → a.number ≡ 0 → laid ≡ [] → HoldBy laid table (born_with p a)
born_nothing p a table laid live none = λ key t less.
    ap (λ (l : Laid). laid_at l key t) none
    ∙ ap (λ b. if b then None else seen p a.birth_version (record { table = table; key = key; time = t })) (sym (eq-eqb a.number 0 live))

-- each other workspace with what the version of its birth holds
pub born_all : (ss : List Stored) (a : Space) (table : ℕ) (all : KeyVersions) (laid : Laid) → (a.number == 0) ≡ false → AreKeysOf ss table all → HeldTo (parts_of ss) a.birth_version table all [] laid
    → HoldBy laid table (born_with (parts_of ss) a)
born_all ss a table all laid some keys so = λ key t less.
    held_all ss a.birth_version table all laid keys so key t less
    ∙ ap (λ b. if b then None else seen (parts_of ss) a.birth_version (record { table = table; key = key; time = t })) (sym some)

-- ---- what stood on a date

pub have_stood : (ss : List Stored) (a : Space) (date table : ℕ) (ids : List ℕ) (old new : Laid) → keep_rules (parts_of ss) ≡ true
    → AreByPosition (kind_at as_hist ss ids) (logged_on a.number table (parts_of ss).hists) → HoldBy old table (born_with (parts_of ss) a) → IsPutOver ss ids date old new → HaveStood (parts_of ss) a date table new
have_stood ss a date table ids old new rules are born put =
    let logged : List Hist = kind_at as_hist ss ids in
    let told = are_logged (parts_of ss) a.number table logged are in
    record {
      logged = logged;
      are_logged = told;
      hold = λ key t less.
          put table (all_on (parts_of ss) a.number table logged rules told) key t less
          ∙ ap (option_or (dated_in logged date (record { table = table; key = key; time = t }))) (born key t less);
    }

-- nothing stands from the end of time on
pub dated_ended : (p : Parts) (a : Space) (date table : ℕ) (xs : List Hist) → keep_rules p ≡ true → AreLogged p a.number table xs → HasEnded (dated p a xs date)
dated_ended p a date table xs rules are = λ c late. ap (option_or (dated_in xs date c)) (born c late (a.number == 0)) ∙ option_or-none (dated_in xs date c) ∙ told c late xs (all_ended p a.number table xs rules are)
  where
    born : (c : Cell) → END ≤ c.time → (b : Bool) → (if b then None else seen p a.birth_version c) ≡ None
    born c late true = refl
    born c late false = late_seen p a.birth_version c rules late

    told : (c : Cell) → END ≤ c.time → (ys : List Hist) → list_all (λ (x : Hist). nat_le x.cells.till END) ys ≡ true → dated_in ys date c ≡ None
    told c late [] each = refl
    told c late (y ∷ ys) each =
        let both = and_parts (nat_le y.cells.till END) (list_all (λ (x : Hist). nat_le x.cells.till END) ys) each in
        ap (λ b. option_or (dated_in ys date c) (then_some b (hist_held y)))
        (uncovered (nat_le y.moment date) ((y.cells.table == c.table) && is_eq (key_order y.cells.key c.key)) y.cells.from y.cells.till c.time both.0 late)
        ∙ option_or-none (dated_in ys date c)
        ∙ told c late ys both.1
