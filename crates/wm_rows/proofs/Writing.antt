-- Layers in which one is written or some are dropped.
use Rattle.std.proofs.Common.{◌≡◌, ℕ, Bool, true, false, cond, ◌&&◌, nat_eq, eqb, List, [], ◌∷◌, Option, Some, None, Result, Ok, Err, refl, sym, ap, ◌∙◌, ◌⊎◌, inl, inr}
use Rattle.std.proofs.lemmas.Bool.{cases_eq, eq-eqb, ne_eqb}
use Rattle.std.specs.BTreeMap.{BTreeMap, is_at}
use Rattle.std.specs.Bool.{then_some}
use Rattle.std.specs.List.{list_any}
use Rattle.std.specs.Map.{lookup}
use Rattle.std.specs.Option.{IsSome, option_or, unwrap_or}
use Rattle.std.specs.Ordering.{nat_cmp}
use Rattle.std.specs.Prelude.{OnOk, OnErr}
use Rattle.wm_base.proofs.Plain.{option_or_assoc}
use Rattle.wm_base.specs.Period.{covers}
use Rattle.wm_period.specs.Pieces.{Held, held, held_at, put_in}
use Rattle.wm_period.specs.declared.piece.Piece.{Piece}
use Rattle.wm_rows.proofs.Lookups.{cases_row, is_same-itself}
use Rattle.wm_rows.proofs.Maps.{is_at-number, entries_or_none, map_at-maps_of}
use Rattle.wm_rows.proofs.Paths.{nearest-kept}
use Rattle.wm_rows.specs.Maps.{maps_of}
use Rattle.wm_rows.specs.Rows.{Groups, Layers, is_same, group_of, pieces_in, groups_in, stored, nearest, seen_in}
use Rattle.wm_rows.specs.declared.row_key.RowKey.{RowKey}
use Rattle.wm_tree.proofs.Paths.{path_in-there, not_on_path, found}
use Rattle.wm_tree.specs.Versions.{IsTree, version_in, path_in}
use Rattle.wm_tree.specs.declared.version.Version.{Version}

-- ---- results

pub on_ok : {A E P Q : Type 0} (r : Result A E) → (P → Q) → OnOk r P → OnOk r Q
on_ok (Ok x) f p = f p
on_ok (Err e) f p = tt

pub on_ok2 : {A E P Q R : Type 0} (r : Result A E) → (P → Q → R) → OnOk r P → OnOk r Q → OnOk r R
on_ok2 (Ok x) f p q = f p q
on_ok2 (Err e) f p q = tt

pub on_ok4 : {A E P Q R S T : Type 0} (r : Result A E) → (P → Q → R → S → T) → OnOk r P → OnOk r Q → OnOk r R → OnOk r S → OnOk r T
on_ok4 (Ok x) f p q r s = f p q r s
on_ok4 (Err e) f p q r s = tt

pub on_err : {A E P Q : Type 0} (r : Result A E) → (P → Q) → OnErr r P → OnErr r Q
on_err (Ok x) f p = tt
on_err (Err e) f p = f p

-- ---- one layer written

-- what is stored at each moment, once a piece is put over the others that a version stores of a row
pub stored-written : (old new : Layers) (version : ℕ) (row : RowKey) (piece : Piece)
    → ((v : ℕ) (q : RowKey) → group_of new v q ≡ cond (eqb version v && is_same row q) (Some (put_in piece (pieces_in (groups_in old version) row))) (group_of old v q))
    → ((t : ℕ) → held_at (put_in piece (pieces_in (groups_in old version) row)) t ≡ option_or (then_some (covers piece.period t) (held piece)) (held_at (pieces_in (groups_in old version) row) t))
    → (v : ℕ) (q : RowKey) (t : ℕ) → stored new v q t ≡ option_or (then_some ((eqb version v && is_same row q) && covers piece.period t) (held piece)) (stored old v q t)
stored-written old new version row piece groups cells v q t = by_place (cases_eq version v) (cases_row row q)
  where
    elsewhere : (eqb version v && is_same row q) ≡ false → stored new v q t ≡ option_or (then_some ((eqb version v && is_same row q) && covers piece.period t) (held piece)) (stored old v q t)
    elsewhere off =
        ap (λ (o : Option (List Piece)). held_at (unwrap_or o []) t) (groups v q ∙ ap (λ b. cond b (Some (put_in piece (pieces_in (groups_in old version) row))) (group_of old v q)) off)
        ∙ ap (λ b. option_or (then_some (b && covers piece.period t) (held piece)) (stored old v q t)) (sym off)

    by_place : (version ≡ v) ⊎ (version ≡ v → ⊥) → (row ≡ q) ⊎ (is_same row q ≡ false) → stored new v q t ≡ option_or (then_some ((eqb version v && is_same row q) && covers piece.period t) (held piece)) (stored old v q t)
    by_place (inl here) (inl same) =
        let on : (eqb version v && is_same row q) ≡ true = rw (eq-eqb version v here) (ap (is_same row) (sym same) ∙ is_same-itself row) in
        ap (λ (o : Option (List Piece)). held_at (unwrap_or o []) t) (groups v q ∙ ap (λ b. cond b (Some (put_in piece (pieces_in (groups_in old version) row))) (group_of old v q)) on)
        ∙ cells t
        ∙ ap (λ (r : RowKey). option_or (then_some (covers piece.period t) (held piece)) (stored old version r t)) same
        ∙ ap (λ (w : ℕ). option_or (then_some (covers piece.period t) (held piece)) (stored old w q t)) here
        ∙ ap (λ b. option_or (then_some (b && covers piece.period t) (held piece)) (stored old v q t)) (sym on)
    by_place (inl here) (inr apart) = elsewhere (rw (eq-eqb version v here) apart)
    by_place (inr away) same = elsewhere (ap (λ b. b && is_same row q) (ne_eqb version v away))

-- a version that does not stand on the written one sees what it saw
pub seen-written : (old new : Layers) (version : ℕ) (row : RowKey) (pieces : List Piece)
    → ((v : ℕ) (q : RowKey) → group_of new v q ≡ cond (eqb version v && is_same row q) (Some pieces) (group_of old v q))
    → (tree : List Version) (v : ℕ) (q : RowKey) (t : ℕ) → list_any (nat_eq version) (path_in tree v) ≡ false → seen_in tree new v q t ≡ seen_in tree old v q t
seen-written old new version row pieces groups tree v q t off =
    nearest-kept new old (path_in tree v) (nat_eq version) q t off
    (λ w away. ap (λ (o : Option (List Piece)). held_at (unwrap_or o []) t) (groups w q ∙ ap (λ b. cond (b && is_same row q) (Some pieces) (group_of old w q)) away))

-- the written version sees the piece over what it saw
pub seen-here : (old new : Layers) (version : ℕ) (row : RowKey) (piece : Piece)
    → ((v : ℕ) (q : RowKey) → group_of new v q ≡ cond (eqb version v && is_same row q) (Some (put_in piece (pieces_in (groups_in old version) row))) (group_of old v q))
    → ((t : ℕ) → held_at (put_in piece (pieces_in (groups_in old version) row)) t ≡ option_or (then_some (covers piece.period t) (held piece)) (held_at (pieces_in (groups_in old version) row) t))
    → (tree : List Version) (q : RowKey) (t : ℕ) → IsTree tree → IsSome (version_in tree version)
    → seen_in tree new version q t ≡ option_or (then_some (is_same row q && covers piece.period t) (held piece)) (seen_in tree old version q t)
seen-here old new version row piece groups cells tree q t is there = by_version (version_in tree version) refl there
  where
    by_version : (o : Option Version) → version_in tree version ≡ o → IsSome o → seen_in tree new version q t ≡ option_or (then_some (is_same row q && covers piece.period t) (held piece)) (seen_in tree old version q t)
    by_version None e some = cc
    by_version (Some x) e some =
        let path : path_in tree version ≡ version ∷ path_in tree x.parent = path_in-there tree version x is e in
        let off : list_any (nat_eq version) (path_in tree x.parent) ≡ false = not_on_path tree x.parent version is (found tree version x is e).parent in
        ap (λ (l : List ℕ). nearest new l q t) path
        ∙ ap (λ (o : Option Held). option_or o (nearest new (path_in tree x.parent) q t)) (stored-written old new version row piece groups cells version q t)
        ∙ ap (λ b. option_or (option_or (then_some ((b && is_same row q) && covers piece.period t) (held piece)) (stored old version q t)) (nearest new (path_in tree x.parent) q t)) (eq-eqb version version refl)
        ∙ option_or_assoc (then_some (is_same row q && covers piece.period t) (held piece)) (stored old version q t) (nearest new (path_in tree x.parent) q t)
        ∙ ap (λ (o : Option Held). option_or (then_some (is_same row q && covers piece.period t) (held piece)) (option_or (stored old version q t) o))
        (seen-written old new version row (put_in piece (pieces_in (groups_in old version) row)) groups tree x.parent q t off)
        ∙ ap (λ (l : List ℕ). option_or (then_some (is_same row q && covers piece.period t) (held piece)) (nearest old l q t)) (sym path)

-- ---- layers dropped

-- the groups of each other version are as before
pub drop_one : (old next : List (ℕ × BTreeMap RowKey (List Piece))) (version v : ℕ) → lookup (is_at (nat_cmp v)) next ≡ cond (is_at (nat_cmp version) v) None (lookup (is_at (nat_cmp v)) old)
    → groups_in (maps_of next) v ≡ cond (eqb version v) [] (groups_in (maps_of old) v)
drop_one old next version v put =
    map_at-maps_of next v ∙ ap entries_or_none put ∙ drop_cond (is_at (nat_cmp version) v) (lookup (is_at (nat_cmp v)) old)
    ∙ ap (λ b. cond b [] (entries_or_none (lookup (is_at (nat_cmp v)) old))) (is_at-number version v)
    ∙ ap (cond (eqb version v) []) (sym (map_at-maps_of old v))
  where
    drop_cond : (b : Bool) (o : Option (BTreeMap RowKey (List Piece))) → entries_or_none (cond b None o) ≡ cond b [] (entries_or_none o)
    drop_cond true o = refl
    drop_cond false o = refl

-- a version that stands on no dropped one sees what it saw
pub seen-dropped : (old new : Layers) (versions : List ℕ) → ((v : ℕ) → groups_in new v ≡ cond (list_any (nat_eq v) versions) [] (groups_in old v))
    → (tree : List Version) (v : ℕ) (row : RowKey) (t : ℕ) → list_any (λ w. list_any (nat_eq w) versions) (path_in tree v) ≡ false → seen_in tree new v row t ≡ seen_in tree old v row t
seen-dropped old new versions groups tree v row t off =
    nearest-kept new old (path_in tree v) (λ w. list_any (nat_eq w) versions) row t off
    (λ w kept. ap (λ (g : Groups). held_at (pieces_in g row) t) (groups w ∙ ap (λ b. cond b [] (groups_in old w)) kept))
